-- What the lines of a patch have to do with each other and with the patch. Definitions only.
use Rattle.std.specs.Prelude.{◌≡◌, true, ℕ, ◌+◌, ◌<◌, length, get_or, Some, Ok}
use mathlib.Core.List.{List, [], ◌∷◌, Memᴰ}
use Rattle.terms.specs.Entries.{triple, entry_at, hangs}
use Rattle.triangulation.specs.Problems.{pair_weight}
use Rattle.reader.specs.Reading.{polygon_of}
use Rattle.weights.specs.Weights.{own_weight}
use Rattle.triangulator.specs.Call.{patch_with, total_of}
use Rattle.pipeline.specs.Patching.{Patching, handed_back}
use Rattle.patch_lines.specs.declared.Line.{Line}
use Rattle.patch_lines.specs.Lines.{no_line, vertices_of}
use Rattle.patch_program.specs.Printing.{lines_after}

-- the fourth and fifth numbers of all lines, added up
abbrev pub weights_on : List Line → ℕ
weights_on [] = 0
weights_on (l ∷ lines) = l.weight + l.row + weights_on lines

-- t is a triangle of the patch (rule 3.8)
abbrev pub Listed : Patching → ℕ → Type 0
Listed r t = Memᴰ t (handed_back r)

-- candidate t hangs on candidate o, by the candidates in the table (rule 2.9)
abbrev pub HangsIn : Patching → ℕ → ℕ → Type 0
HangsIn r t o = hangs (entry_at r.left.candidates t) (entry_at r.left.candidates o) ≡ true

-- triangle k of the patch as a candidate number and as a candidate, and its line
abbrev pub triangle_at : Patching → ℕ → ℕ
triangle_at r k = get_or (handed_back r) k 0

abbrev pub candidate_at : Patching → ℕ → List ℕ
candidate_at r k = entry_at r.left.candidates (triangle_at r k)

abbrev pub line_at : Patching → ℕ → Line
line_at r k = get_or (lines_after r) k no_line

-- of a call on a file (rules 3.3, 3.4, 5.4)
pub record LinesHold (file : List ℕ) (r : Patching) : Type 0 where
  -- there is a line for each triangle of the patch, with its vertices and its whole own weight
  pub line_count : length (lines_after r) ≡ length (handed_back r)
  pub corners : (k : ℕ) → k < length (handed_back r) → triple (line_at r k).a (line_at r k).b (line_at r k).c ≡ candidate_at r k
  pub own_weights : (k : ℕ) → k < length (handed_back r) → (line_at r k).weight ≡ own_weight (polygon_of file) (candidate_at r k)
  -- a triangle of the patch hangs on one other at most, and the row weight on its line is that of the two
  pub one_outer : (t o u : ℕ) → Listed r t → Listed r o → Listed r u → HangsIn r t o → HangsIn r t u → o ≡ u
  pub row_is : (k o : ℕ) → k < length (handed_back r) → Listed r o → HangsIn r (triangle_at r k) o →
      (line_at r k).row ≡ pair_weight r.left.rows o (triangle_at r k)
  -- the first triangle hangs on none: the fifth number of its line is 0
  pub first : 0 < length (handed_back r) → (line_at r 0).row ≡ 0
  -- the weights on the lines add up to the total
  pub adds_up : weights_on (lines_after r) ≡ total_of r.outcome
  -- the number of vertices on the first line is the rim's
  pub vertices : (count total : ℕ) → r.outcome ≡ Ok (Some (patch_with count total)) → vertices_of r.outcome ≡ (polygon_of file).n
