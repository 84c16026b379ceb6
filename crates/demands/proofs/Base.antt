-- Where no surface adjoins the rim, the answer is that of areas and rows alone: for every file of edition 1, and for a file of edition 2 whose normals are
-- all zero. Assumes nothing.
use mathlib.Core.Path.{◌≡◌, refl, sym, ap, ◌∙◌, subst}
use mathlib.Core.Bool.{false}
use mathlib.Core.List.{List, map}
use Prim.Native.Nat.{ℕ, zero, suc}
use native.Mathlib.Omega.{arith}
use Rattle.std.specs.Prelude.{IsOk, is_ok}
use Rattle.codes.specs.Refusals.{or_refused}
use Rattle.polygon.specs.declared.Polygon.{Polygon}
use Rattle.polygon.specs.declared.normal.Normal.{Normal}
use Rattle.terms.proofs.Numbers.{due_neither}
use Rattle.polygon.specs.Normal.{no_normal, is_none}
use Rattle.rim_file.specs.File.{is_edition2, offset}
use Rattle.rim_file.specs.Editions.{SameRim}
use Rattle.rim_file.proofs.Normals.{normal_1, normal_2}
use Rattle.reader.specs.Due.{InFile, HasNormal, held, none}
use Rattle.reader.specs.Chain.{link}
use Rattle.reader.specs.Reading.{polygon_of, reading_of}
use Rattle.reader.specs.Reading as reader
use Rattle.reader.proofs.Accepted.{complete_polygon, read_normals, read_records}
use Rattle.delaunay.specs.Candidates.{candidates_of}
use Rattle.weights.specs.Weights.{area_weight, own_weight}
use Rattle.weights.proofs.RimEdges.{no_bends}
use Rattle.pipeline.specs.Patching.{Tables, weights_in, patched_with, patch_by, polygon_number, file_number, patch_file}
use Rattle.demands.proofs.Conversion.{same_answers}
use Rattle.demands.specs.Base.{NoSurface, ZeroNormals, area_weights, base_by, base_file}

-- ---- a polygon without a surface outside
module _ (p : Polygon) (bare : NoSurface p) where
  own_is_area : (t : List ℕ) → own_weight p t ≡ area_weight p t
  own_is_area t = omega (arith, no_bends p t (λ i h. ap is_none (bare.none i h)))

  pub areas_alone : weights_in p ≡ area_weights p
  areas_alone i = map (λ t. own_is_area t i) (candidates_of p)

-- ---- files
module _ (limit : ℕ) (file : List ℕ) where
  -- a file of which every normal that its chain could have is zero
  module _ (zeros : ZeroNormals file) where
    bare_read : reader.number_due limit file ≡ 0 → NoSurface (polygon_of file)
    bare_read e =
        let complete : IsOk (reading_of limit file) = ap (λ (k : ℕ). is_ok (or_refused k (polygon_of file))) e in
        subst (λ (p : Polygon). NoSurface p) (complete_polygon limit file complete)
        (record { none = λ i h. zero_normal_lem i ((read_records limit file complete).in_file i h) (read_normals limit file complete i h) })
      where
        zero_normal_lem : (i : ℕ) {q : Normal} → InFile file (link file i) → HasNormal file i q → q ≡ no_normal
        zero_normal_lem _ r (held i two ranged) = sym (normal_2 file (offset file (link file i)) two) ∙ zeros.zero (link file i) r.numbered r.counted
        zero_normal_lem _ r (none i one) = refl

    by_number : (t : Tables) (k : ℕ) → (k ≡ 0 → NoSurface (polygon_of file)) → patch_by k (polygon_of file) t ≡ base_by k (polygon_of file) t
    by_number t zero h = ap (λ (w : List ℕ). patched_with w (polygon_of file) t) (areas_alone (polygon_of file) (h refl))
    by_number t (suc k) h = refl

    -- it has the answer of areas and rows alone
    pub zero_normals_answer : (t : Tables) → patch_file limit file t ≡ base_file limit file t
    unfolding patch_file
    zero_normals_answer t =
        by_number t (file_number limit file t) (λ e. bare_read (due_neither (reader.number_due limit file) (polygon_number (polygon_of file) t) e).0)

  -- every file of edition 1 is such a file
  pub edition_1_answer : is_edition2 file ≡ false → (t : Tables) → patch_file limit file t ≡ base_file limit file t
  edition_1_answer one = zero_normals_answer (record { zero = λ k h l. normal_1 file (offset file k) one })

-- a file of edition 2 with the same header and records as one of edition 1, so that its normals are all zero, has the answer of that one
pub edition_2_answer : (limit : ℕ) {one two : List ℕ} → is_edition2 one ≡ false → SameRim two one → (t : Tables) → patch_file limit two t
    ≡ base_file limit one t
edition_2_answer limit {one} e r t = (same_answers r limit).patch t ∙ edition_1_answer limit one e t
