-- What is printed follows from what the one call answers and leaves. Assumes nothing.
use mathlib.Core.Path.{◌≡◌, refl, sym, ap, ◌∙◌, subst}
use mathlib.Core.List.{List, [], map}
use Prim.Native.Nat.{ℕ, zero, suc, ◌≤◌}
use native.Mathlib.Omega.{arith}
use borrow.Author.Tests.{leb-true}
use lib.Dec.{leb}
use lib.ListN.{length, take, replicate}
use lib.Seq.{length-take-le}
use Rattle.lists.specs.Lists.{first_places}
use Rattle.lists.proofs.Choice.{yes, no, Truth, truth, holds, fails}
use Rattle.reader.specs.Reading.{polygon_of}
use Rattle.terms.specs.Entries.{triple}
use Rattle.triangulation.specs.Problems.{pair_weight}
use Rattle.triangulation.specs.Triangulations.{Answer, none, patch, best}
use Rattle.rows.specs.Search.{RowsAscend}
use Rattle.triangulator.specs.Call.{Outcome, Values, triangles_of, due_values, part_of}
use Rattle.pipeline.specs.Patching.{Tables, tables, Patching, patching, problem_in, file_number, patch_file}
use Rattle.pipeline.proofs.Values.{file_values_lem}
use Rattle.patch_lines.specs.declared.Line.{Line}
use Rattle.patch_program.specs.Run.{empty_tables}
use Rattle.patch_lines.specs.Lines.{lines_of, line_places, in_places, vertices_of}
use Rattle.patch_program.specs.Printing.{printout_after, printout_of}
use Rattle.patch_lines.specs.Places.{row_count_of}
use Rattle.patch_lines.proofs.Hanging.{line_same}
use Rattle.patch_program.proofs.Rows.{Counted, file_valid, rows_left}

part_length : (n : ℕ) (t : List ℕ) → length (first_places n t) ≤ n
part_length n t = by (truth (leb n (length t)))
  where
    by : Truth (leb n (length t)) → length (first_places n t) ≤ n
    by (holds e) = omega (arith, ap length (yes (take n t) [] e), length-take-le n t (leb-true n (length t) e))
    by (fails e) = omega (arith, ap length (no (take n t) [] e))

-- of a call over any tables, rows of zeros among them
module _ (limit : ℕ) (file : List ℕ) (lent : Tables) {o : Outcome} {t w k : List ℕ} {c r : List (List ℕ)}
    (e : patching o (tables t c w r k) ≡ patch_file limit file lent) where
  -- a patch has no more triangles than there are places for lines
  pub few_triangles : triangles_of o ≤ line_places
  few_triangles =
      omega (
        arith,
        ap (λ (v : Values). v.triangles) (file_values_lem limit file lent e).1,
        by (file_number limit file lent) refl (best (problem_in (polygon_of file))),
      )
    where
      by : (k : ℕ) → file_number limit file lent ≡ k → (a : Answer) → (due_values k (polygon_of file).n a).triangles ≤ line_places
      by (suc k) d a = omega arith
      by zero d none = omega arith
      by zero d (patch total l) = omega (arith, (file_valid limit file lent d).most)

  few_lines : {part : List ℕ} → part ≡ part_of o t → length part ≤ line_places
  few_lines d = omega (arith, ap length d, part_length (triangles_of o) t, few_triangles)

  rows_counted : (n : ℕ) → lent.rows ≡ replicate n (triple 0 0 0) → Counted r
  rows_counted n d = subst Counted (sym (ap (λ (x : Patching). x.left.rows) e)) (rows_left limit file lent n d)

  pub lines_ready : (n : ℕ) → lent.rows ≡ replicate n (triple 0 0 0) → {m : ℕ} {part : List ℕ} → m ≡ row_count_of r → part ≡ part_of o t →
      RowsAscend (take m r) × (length part ≤ line_places)
  lines_ready n z d f = (subst (λ (m : ℕ). RowsAscend (take m r)) (sym d) (rows_counted n z).ascend, few_lines f)

module _ (limit : ℕ) (file : List ℕ) {o : Outcome} {t w k : List ℕ} {c r : List (List ℕ)}
    (e : patching o (tables t c w r k) ≡ patch_file limit file empty_tables) where
  same_rows : (o i : ℕ) → pair_weight (take (row_count_of r) r) o i ≡ pair_weight r o i
  same_rows = (rows_counted limit file empty_tables e 4096 refl).same

  pub printed : {v n : ℕ} {part : List ℕ} {lines : List Line} → v ≡ vertices_of o → n ≡ row_count_of r → part ≡ part_of o t →
      lines ≡ in_places (lines_of c w (take n r) part) → record { outcome = o; vertices = v; lines = lines } ≡ printout_of limit file
  unfolding printout_of
  printed dv dn dp dl =
      (λ i. record { outcome = o; vertices = dv i; lines = dl i })
      ∙ (λ i. record { outcome = o; vertices = vertices_of o; lines = in_places (lines_of c w (take (dn i) r) (dp i)) })
      ∙ (λ i. record {
        outcome = o;
        vertices = vertices_of o;
        lines = in_places (map (λ x. line_same c w (take (row_count_of r) r) r same_rows (part_of o t) x i) (part_of o t));
      })
      ∙ ap printout_after e
