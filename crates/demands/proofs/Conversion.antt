-- Two files of one rim, in whichever editions, are answered alike by every call with any limit; so is a converted file and the
-- first. Assumes nothing.
use mathlib.Core.Path.{◌≡◌, ap}
use mathlib.Core.Bool.{false}
use mathlib.Core.List.{List}
use Prim.Native.Nat.{ℕ}
use Rattle.terms.specs.Numbers.{first_due}
use Rattle.rim_file.specs.Editions.{SameRim}
use Rattle.codes.specs.Refusals.{number_of}
use Rattle.reader.specs.Reading.{polygon_in}
use Rattle.reader.proofs.Editions.{number_same, polygon_same, reading_same}
use Rattle.delaunay.specs.Candidates.{candidates_of}
use Rattle.finder.specs.Finding.{number_due}
use Rattle.finder.specs.Sizes.{sizes_by}
use Rattle.pipeline.specs.Patching.{weights_in, rows_in, polygon_number, patch_by, patch_file}
use Rattle.pipeline.specs.Sizes.{sizes_file}
use Rattle.pipeline.proofs.Files.{lists_alike}
use Rattle.converter.specs.Call.{convert_call, handed_over}
use Rattle.converter.proofs.Demands.{same_rim}
use Rattle.demands.specs.Conversion.{SameAnswers}

pub same_answers : {s t : List ℕ} → SameRim s t → (limit : ℕ) → SameAnswers limit s t
unfolding patch_file sizes_file
same_answers {s} {t} r limit =
    let n = number_same r limit in
    let p = polygon_same r in
    let g = reading_same r limit in
    record {
      reading = g;
      candidates = λ i. candidates_of (polygon_in (g i));
      weights = λ i. weights_in (polygon_in (g i));
      rows = λ i. rows_in (polygon_in (g i));
      sizes = λ i. sizes_by (first_due (n i) (number_due false (p i))) (p i);
      lists = lists_alike limit limit s t g;
      patch = λ lent i. patch_by (first_due (n i) (polygon_number (p i) lent)) (p i) lent;
    }

-- what the converter hands over is answered as the file that it took, in both directions
pub converted_answers : (file out : List ℕ) → number_of (convert_call file out).answer ≡ 0 → (limit : ℕ) →
    SameAnswers limit (handed_over (convert_call file out)) file
converted_answers file out taken = same_answers (same_rim file out taken)
