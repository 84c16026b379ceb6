-- The search over threes of a flat polygon: what one vertex's position, and the scans of all, say of what is marked and what is left. Assumes nothing.
use mathlib.Core.Path.{◌≡◌, sym, ◌∙◌, ap}
use mathlib.Core.Bool.{Bool, true, false, not}
use mathlib.Core.List.{List}
use Prim.Native.Nat.{ℕ, ◌+◌, ◌-◌, ◌≤◌, ◌<◌}
use native.Mathlib.Omega.{arith}
use lib.IntN.{pos}
use lib.ListN.{get_or}
use Rattle.polygon.specs.declared.Polygon.{Polygon}
use Rattle.polygon.specs.Polygon.{ValidPolygon, vertex}
use Rattle.geometry.specs.declared.sphere.Lifted.{Lifted}
use Rattle.geometry.specs.declared.sphere.Sphere.{Sphere}
use Rattle.geometry.specs.declared.sphere.Position.{Position}
use Rattle.geometry.specs.declared.sphere.Position.TheVariants.{Inside}
use Rattle.integers.specs.Order.{equal}
use Rattle.geometry.specs.Lifting.{position_by}
use Rattle.planar.specs.Circles.{collinear}
use Rattle.planar.specs.Planes.{InOnePlane}
use Rattle.planar.specs.Seen.{position_in_plane, circle_of}
use Rattle.planar.proofs.Seen.{computed_circle, circle_position_is, collinear_is}
use Rattle.planar.proofs.Planes.{plane_any}
use Rattle.std.proofs.Common.{Ok}
use Rattle.lists.specs.Lists.{both, either, some}
use Rattle.lists.proofs.Choice.{true_not_false}
use Rattle.lists.proofs.Bools.{both_no, both_yes}
use Rattle.lists.proofs.Ranges.{some_here}
use Rattle.faces.specs.Faces.{same_triple, is_one_of}
use Rattle.faces.specs.Masks.{has, empty_set, Joined}
use Rattle.faces.proofs.Threes.{left1, left3, next3, out1}
use Rattle.delaunay_triangles.specs.Triangles.{inside_three, on_three, counts_in_plane, is_counted_three, is_fourth, cocircular}
use Rattle.delaunay_search.specs.Search.{Lifts, Marked, twelve_if, is_on, unlifted, scanned_at}
use Rattle.delaunay_search.proofs.Marking as marking
use Rattle.delaunay_search.proofs.Marking.{put_all}
use Rattle.delaunay_search.proofs.Placing.{Placed, placed, other_is}
use Rattle.delaunay_search.proofs.Scanning as scanning
use Rattle.delaunay_search.proofs.Scanning.{none_inside, Scanned, Passed, scan_turn, scan_end, pass_on, pass_end}

-- a test of threes
abbrev pub Test : Type 0
Test = ℕ → ℕ → ℕ → Bool

-- the three counts and is this triple; it counts and has a fourth vertex on its circle
abbrev gives : Polygon → ℕ → ℕ → ℕ → Test
gives p x y z a b c = both (same_triple a b c x y z) (counts_in_plane p a b c)

abbrev pub has_fourth : Polygon → Test
has_fourth p a b c = both (counts_in_plane p a b c) (some 0 p.n (is_fourth p a b c))

abbrev pub Kept : Polygon → List ℕ → List ℕ → (Test → Bool) → (Test → Bool) → Type 0
Kept p = marking.Kept (gives p) (has_fourth p)

-- ---- which threes count
module _ (p : Polygon) (a b c : ℕ) where
  abbrev line : Bool
  line = collinear (vertex p a) (vertex p b) (vertex p c)

  not_counts_line : line ≡ true → counts_in_plane p a b c ≡ false
  unfolding counts_in_plane
  not_counts_line e = scanning.not_counts_bad p.n (inside_three p a b c) line e

  not_counts_inside : (v : ℕ) → v < p.n → inside_three p a b c v ≡ true → counts_in_plane p a b c ≡ false
  unfolding counts_in_plane
  not_counts_inside v h e = scanning.not_counts_inside p.n (inside_three p a b c) line v h e

  counts_all : line ≡ false → none_inside p.n (inside_three p a b c) ≡ true → counts_in_plane p a b c ≡ true
  unfolding counts_in_plane
  counts_all e f = scanning.counts_all p.n (inside_three p a b c) line e f

-- ---- three corners and their circle
pub record Triangle (p : Polygon) (a b c : ℕ) (lifted : List Lifted) (circle : Sphere) (marks₀ marks : List ℕ) (left₀ : Test → Bool) : Type 0 where
  pub valid : ValidPolygon p
  pub flat : InOnePlane (vertex p) p.n
  pub a<n : a < p.n
  pub b<n : b < p.n
  pub c<n : c < p.n
  pub lifts : Lifts p a lifted
  pub through : circle ≡ circle_of (get_or lifted b unlifted) (get_or lifted c unlifted)
  pub kept : Kept p marks₀ marks left₀ (λ P. left3 p.n P a b c)

module _ {p : Polygon} {a b c : ℕ} {lifted : List Lifted} {circle : Sphere} {marks₀ marks : List ℕ} {left₀ : Test → Bool}
    (t : Triangle p a b c lifted circle marks₀ marks left₀) where
  circle_of_lem : circle ≡ computed_circle (vertex p a) (vertex p b) (vertex p c)
  circle_of_lem = t.through ∙ (λ i. circle_of (t.lifts.at b t.b<n i) (t.lifts.at c t.c<n i))

  pub line_is : equal circle.orient (pos 0) ≡ collinear (vertex p a) (vertex p b) (vertex p c)
  line_is = ap (λ (s : Sphere). equal s.orient (pos 0)) circle_of_lem ∙ collinear_is (vertex p a) (vertex p b) (vertex p c)

  abbrev Next : Type 0
  Next = Kept p marks₀ marks left₀ (λ P. left3 p.n P a b (c + 1))

  -- a three that does not count: on to the next
  skipped : counts_in_plane p a b c ≡ false → Next
  skipped e =
      marking.kept_skip (λ P. left3 p.n P a b (c + 1)) (λ (P : Test). P a b c) (λ P. next3 p.n P a b c t.c<n) t.kept
      (λ x y z. both_no (same_triple a b c x y z) e) (ap (λ (t : Bool). both t (some 0 p.n (is_fourth p a b c))) e)

  pub on_line : collinear (vertex p a) (vertex p b) (vertex p c) ≡ true → Next
  on_line e = skipped (not_counts_line p a b c e)

  module _ (proper : collinear (vertex p a) (vertex p b) (vertex p c) ≡ false) where
    module _ (v : ℕ) (v<n : v < p.n) {place : Position} (e : place ≡ position_by circle (get_or lifted v unlifted)) where
      place_is : Placed place (inside_three p a b c v) (on_three p a b c v)
      unfolding position_in_plane
      place_is =
          placed place _ _
          (e ∙ (λ i. position_by (circle_of_lem i) (t.lifts.at v v<n i))
          ∙ circle_position_is (vertex p a) (vertex p b) (vertex p c) (vertex p v) proper
          (plane_any (vertex p) p.n t.flat a b c v t.a<n t.b<n t.c<n v<n))

      -- inside: on to the next three
      pub three_dropped : place ≡ Inside → Next
      three_dropped i = skipped (not_counts_inside p a b c v v<n (place_is.when_inside i))

      -- not inside: on to the next turn of the scan
      pub vertex_passed : (place ≡ Inside → ⊥) → (last i : ℕ) → v ≡ scanned_at last i → Scanned p.n (inside_three p a b c) (i - 1) →
          Scanned p.n (inside_three p a b c) (i + 1 - 1)
      vertex_passed n last i k = scan_turn p.n (inside_three p a b c) last i v k v<n (place_is.when_clear n)

    -- all vertices are scanned
    pub three_counts : (v : ℕ) → p.n ≤ v → Scanned p.n (inside_three p a b c) v → counts_in_plane p a b c ≡ true
    three_counts v h s = counts_all p a b c proper (scan_end p.n (inside_three p a b c) v h s)

    module _ (full : counts_in_plane p a b c ≡ true) where
      module _ (v : ℕ) (v<n : v < p.n) {place : Position} (e : place ≡ position_by circle (get_or lifted v unlifted))
          {found : Bool} (g : found ≡ both (not (is_one_of a b c v)) (is_on place)) where
        found_is : is_fourth p a b c v ≡ found
        found_is = other_is (is_one_of a b c v) (place_is v v<n e) (λ h. true_not_false full (not_counts_inside p a b c v v<n h)) g

        -- no fourth: on to the next vertex
        pub fourth_passed : found ≡ false → Passed p.n (is_fourth p a b c) v → Passed p.n (is_fourth p a b c) (v + 1)
        fourth_passed h s = pass_on p.n (is_fourth p a b c) v v<n (found_is ∙ h) s

        pub three_cocircular : found ≡ true → left₀ (has_fourth p) ≡ true
        three_cocircular h =
            marking.kept_due (λ P. left3 p.n P a b (c + 1)) (λ (P : Test). P a b c) (λ P. next3 p.n P a b c t.c<n) t.kept
            (λ i. both (full i) (some_here 0 p.n (is_fourth p a b c) v (omega arith) v<n (found_is ∙ h) i))

      -- all vertices are passed
      pub three_marked : {marks' : List ℕ} (v : ℕ) → p.n ≤ v → Passed p.n (is_fourth p a b c) v → Joined marks (same_triple a b c) marks' →
          Kept p marks₀ marks' left₀ (λ P. left3 p.n P a b (c + 1))
      three_marked v h s j =
          marking.kept_mark (λ P. left3 p.n P a b (c + 1)) (λ (P : Test). P a b c) (λ P. next3 p.n P a b c t.c<n) t.kept
          (record {
            at = λ x y z hx hy hz. j.at x y z hx hy hz
                ∙ ap (λ (t : Bool). either (has marks x y z) t) (sym (both_yes (same_triple a b c x y z) full));
          })
          (both_no (counts_in_plane p a b c) (pass_end p.n (is_fourth p a b c) v h s))

-- 12 is due, and the set was emptied
pub twelve_due : (p : Polygon) {marks₀ marks : List ℕ} → left1 p.n (has_fourth p) 0 ≡ true → marks ≡ empty_set →
    Marked (is_counted_three p) (cocircular p) marks₀ (twelve_if true) marks
unfolding cocircular
twelve_due p e f = marking.marked_none e f

-- all threes are done
pub all_marked : (p : Polygon) {marks₀ marks : List ℕ} (a : ℕ) → p.n ≤ a + 2 → Kept p marks₀ marks (λ P. left1 p.n P 0) (λ P. left1 p.n P a) →
    Marked (is_counted_three p) (cocircular p) marks₀ (Ok tt) marks
unfolding cocircular is_counted_three
all_marked p a h k = put_all (λ P. out1 p.n P a h) k
