-- What the exported calls answer (rule 5.6), and what they leave in every place of every lent table. Definitions only.
use Rattle.std.specs.Prelude.{ℕ, List}
use Rattle.finder.specs.Finding.{Finding}
use Rattle.triangulator.specs.Call.{Result}
use Rattle.pricing.specs.Quote as price
use Rattle.judge.specs.Call as judge
use Rattle.pipeline.specs.Patching.{Tables, Patching}
use Rattle.converter.specs.Call.{Converting}
use Rattle.answers.specs.declared.PatchAnswer.{PatchAnswer}
use Rattle.answers.specs.declared.PriceAnswer.{PriceAnswer}
use Rattle.answers.specs.declared.JudgeAnswer.{JudgeAnswer}
use Rattle.answers.specs.declared.FindAnswer.{FindAnswer}
use Rattle.answers.specs.declared.ConvertAnswer.{ConvertAnswer}
use Rattle.answers.specs.Answers.{patch_answer_of, price_answer_of, judge_answer_of, find_answer_of, convert_answer_of}

-- the one call's answer, with the five tables after it (rules 3.8, 3.9)
pub record RimPatch : Type 0 where
  pub answer : PatchAnswer
  pub left : Tables

abbrev pub rim_patch : PatchAnswer → Tables → RimPatch
rim_patch answer left = record { answer = answer; left = left }

abbrev pub rim_patch_of : Patching → RimPatch
rim_patch_of p = rim_patch (patch_answer_of p.outcome) p.left

-- a direct job's price, with the work table after it (rule 5.11)
pub record JobPrice : Type 0 where
  pub answer : PriceAnswer
  pub work : List ℕ

abbrev pub job_price : PriceAnswer → List ℕ → JobPrice
job_price answer work = record { answer = answer; work = work }

abbrev pub job_price_of : price.Result → JobPrice
job_price_of r = job_price (price_answer_of r.quote) r.work

-- a direct job's patch, with the triangle and work tables after it (rules 3.8, 3.9)
pub record JobPatch : Type 0 where
  pub answer : PatchAnswer
  pub triangles : List ℕ
  pub work : List ℕ

abbrev pub job_patch : PatchAnswer → List ℕ → List ℕ → JobPatch
job_patch answer triangles work = record { answer = answer; triangles = triangles; work = work }

abbrev pub job_patch_of : Result → JobPatch
job_patch_of r = job_patch (patch_answer_of r.outcome) r.triangles r.work

-- a judgement, with the work table after it (rule 5.10)
pub record JobJudgement : Type 0 where
  pub answer : JudgeAnswer
  pub work : List ℕ

abbrev pub job_judgement : JudgeAnswer → List ℕ → JobJudgement
job_judgement answer work = record { answer = answer; work = work }

abbrev pub job_judgement_of : judge.Result → JobJudgement
job_judgement_of r = job_judgement (judge_answer_of r.judgement) r.work

-- the finder's answer, with its three tables after it (rule 5.6)
pub record RimLists : Type 0 where
  pub answer : FindAnswer
  pub candidates : List (List ℕ)
  pub weights : List ℕ
  pub rows : List (List ℕ)

abbrev pub rim_lists : FindAnswer → List (List ℕ) → List ℕ → List (List ℕ) → RimLists
rim_lists answer candidates weights rows = record { answer = answer; candidates = candidates; weights = weights; rows = rows }

abbrev pub rim_lists_of : Finding → RimLists
rim_lists_of f = rim_lists (find_answer_of f.answer) f.candidates f.weights f.rows

-- a conversion, with the output table after it (rule 5.7)
pub record FileConversion : Type 0 where
  pub answer : ConvertAnswer
  pub left : List ℕ

abbrev pub file_conversion : ConvertAnswer → List ℕ → FileConversion
file_conversion answer left = record { answer = answer; left = left }

abbrev pub file_conversion_of : Converting → FileConversion
file_conversion_of c = file_conversion (convert_answer_of c.answer) c.left
