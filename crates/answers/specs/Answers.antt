-- The numbers that hosts are given of each call's answer (rule 5.6). Definitions only.
use Rattle.codes.specs.Refusals.{number_of}
use Rattle.reader.specs.Reading.{Reading, polygon_in}
use Rattle.finder.specs.Finding.{Found, candidate_count_of, row_count_of}
use Rattle.finder.specs.Sizes.{Sizes, places_in}
use Rattle.triangulator.specs.Call.{triangles_of, total_of, Outcome}
use Rattle.judge.specs.Call.{Judgement, excess_of}
use Rattle.converter.specs.Call.{Conversion, edition_of, converted_length}
use Rattle.answers.specs.declared.PatchAnswer.{PatchAnswer}
use Rattle.answers.specs.declared.PriceAnswer.{PriceAnswer}
use Rattle.answers.specs.declared.JudgeAnswer.{JudgeAnswer}
use Rattle.answers.specs.declared.ReadAnswer.{ReadAnswer}
use Rattle.answers.specs.declared.FindAnswer.{FindAnswer}
use Rattle.answers.specs.declared.SizesAnswer.{SizesAnswer}
use Rattle.answers.specs.declared.ConvertAnswer.{ConvertAnswer}

-- the number, the triangle count and the total of an outcome (rule 5.2)
abbrev pub patch_answer_of : Outcome → PatchAnswer
patch_answer_of o = record { number = number_of o; triangles = triangles_of o; total = total_of o }

-- the number, the triangle count and the total of a quote (rule 5.11)
abbrev pub price_answer_of : Outcome → PriceAnswer
price_answer_of q = record { number = number_of q; triangles = triangles_of q; total = total_of q }

-- the number and the excess of a judgement (rule 5.10)
abbrev pub judge_answer_of : Judgement → JudgeAnswer
judge_answer_of j = record { number = number_of j; excess = excess_of j }

-- the reader's number, and how many vertices: 0 in a refusal, whose polygon is the empty one (rule 5.6)
abbrev pub read_answer_of : Reading → ReadAnswer
read_answer_of r = record { number = number_of r; vertices = (polygon_in r).n }

-- the finder's number and its two counts (rule 5.6)
abbrev pub find_answer_of : Found → FindAnswer
find_answer_of f = record { number = number_of f; candidates = candidate_count_of f; rows = row_count_of f }

-- the number and the places of each table: those for candidates in three of them (rule 5.5)
abbrev pub sizes_answer_of : Sizes → SizesAnswer
sizes_answer_of s =
    let p = places_in s in
    record { number = number_of s; triangles = p.triangles; candidates = p.candidates; weights = p.candidates; rows = p.rows; work = p.candidates }

-- the number, the edition and the length of a conversion (rule 5.2)
abbrev pub convert_answer_of : Conversion → ConvertAnswer
convert_answer_of c = record { number = number_of c; edition = edition_of c; length = converted_length c }
