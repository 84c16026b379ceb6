-- The search over fours: what one vertex's position, and the scans of all, say of what is marked and what is left. Assumes nothing.
use mathlib.Core.Path.{◌≡◌, sym, ◌∙◌, ap}
use mathlib.Core.Bool.{Bool, true, false, not}
use mathlib.Core.List.{List}
use Prim.Native.Nat.{ℕ, ◌+◌, ◌-◌, ◌≤◌, ◌<◌}
use native.Mathlib.Omega.{arith}
use lib.Dec.{eqb}
use lib.ListN.{get_or}
use Rattle.polygon.specs.declared.Polygon.{Polygon}
use Rattle.geometry.specs.declared.sphere.Lifted.{Lifted}
use Rattle.geometry.specs.declared.sphere.Pencil.{Pencil}
use Rattle.geometry.specs.declared.sphere.Sphere.{Sphere}
use Rattle.geometry.specs.declared.sphere.Position.{Position}
use Rattle.geometry.specs.declared.sphere.Position.TheVariants.{Inside}
use Rattle.geometry.specs.Spheres.{coplanar}
use Rattle.geometry.specs.Lifting.{sphere_of, position_by}
use Rattle.geometry.specs.Facets.{separates_by}
use Rattle.std.proofs.Common.{Ok}
use Rattle.lists.specs.Lists.{both, either, some}
use Rattle.lists.proofs.Choice.{true_not_false}
use Rattle.lists.proofs.Bools.{both_no, both_yes}
use Rattle.lists.proofs.Ranges.{some_here}
use Rattle.faces.specs.Faces.{is_face, is_one_of}
use Rattle.faces.specs.Masks.{has, empty_set, Joined}
use Rattle.faces.proofs.Fours.{left1, left3, left4, next4, leave4, out1}
use Rattle.polygon.specs.Polygon.{vertex}
use Rattle.delaunay_tetrahedra.specs.Tetrahedra.{inside_four, counts, is_face_of_four, is_fifth, cospherical}
use Rattle.delaunay_search.specs.Search.{Marked, twelve_if, is_on, unlifted, scanned_at}
use Rattle.delaunay_search.proofs.Marking as marking
use Rattle.delaunay_search.proofs.Marking.{put_all}
use Rattle.delaunay_search.proofs.Placing.{other_is}
use Rattle.delaunay_search.proofs.Scanning.{Scanned, Passed, scan_turn, scan_end, pass_on, pass_end}
use Rattle.delaunay_tetrahedra.proofs.Counting.{not_counts_inside, counts_all}
use Rattle.delaunay_tetrahedra.proofs.Corners.{Three, place_is, drops, leaves}

-- ---- what the loops carry: the vertices that are remembered
pub record Hints (n last apex : ℕ) : Type 0 where
  pub last<n : last < n
  pub apex<n : apex < n

-- in the scan: the four is the same
pub record Scan (p : Polygon) (a b c₀ d₀ last apex c d i : ℕ) : Type 0 where
  pub same_c : c ≡ c₀
  pub same_d : d ≡ d₀
  pub ahead : i ≤ p.n + 1
  pub known : Hints p.n last apex
  pub scanned : Scanned p.n (inside_four p a b c d) (i - 1)

-- a test of fours
abbrev pub Test : Type 0
Test = ℕ → ℕ → ℕ → ℕ → Bool

-- the four counts and has this face; it counts and has a fifth vertex on its sphere
abbrev gives : Polygon → ℕ → ℕ → ℕ → Test
gives p x y z a b c d = both (is_face a b c d x y z) (counts p a b c d)

abbrev pub has_fifth : Polygon → Test
has_fifth p a b c d = both (counts p a b c d) (some 0 p.n (is_fifth p a b c d))

abbrev pub Kept : Polygon → List ℕ → List ℕ → (Test → Bool) → (Test → Bool) → Type 0
Kept p = marking.Kept (gives p) (has_fifth p)

-- three corners of which no four counts
pub kept_leave : (p : Polygon) {marks₀ marks : List ℕ} {left₀ : Test → Bool} (a b c d : ℕ) → Kept p marks₀ marks left₀ (λ P. left4 p.n P a b c d) →
    ((d : ℕ) → counts p a b c d ≡ false) → Kept p marks₀ marks left₀ (λ P. left3 p.n P a b (c + 1))
kept_leave p a b c d k none =
    marking.kept_leave (λ x y z. leave4 p.n (gives p x y z) a b c d (λ d. both_no (is_face a b c d x y z) (none d)))
    (leave4 p.n (has_fifth p) a b c d (λ d. ap (λ (t : Bool). both t (some 0 p.n (is_fifth p a b c d))) (none d))) k

-- a four that does not count
pub kept_skip : (p : Polygon) {marks₀ marks : List ℕ} {left₀ : Test → Bool} (a b c d : ℕ) → Kept p marks₀ marks left₀ (λ P. left4 p.n P a b c d) →
    d < p.n → counts p a b c d ≡ false → Kept p marks₀ marks left₀ (λ P. left4 p.n P a b c (d + 1))
kept_skip p a b c d k h e =
    marking.kept_skip (λ P. left4 p.n P a b c (d + 1)) (λ (P : Test). P a b c d) (λ P. next4 p.n P a b c d h) k
    (λ x y z. both_no (is_face a b c d x y z) e) (ap (λ (t : Bool). both t (some 0 p.n (is_fifth p a b c d))) e)

pub record Four (p : Polygon) (a b c d : ℕ) (lifted : List Lifted) (pencil : Pencil) (ball : Sphere)
    (marks₀ marks : List ℕ) (left₀ : Test → Bool) : Type 0 where
  pub three : Three p a b c lifted pencil
  pub d<n : d < p.n
  pub through : ball ≡ sphere_of pencil (get_or lifted d unlifted)
  pub solid : coplanar (vertex p a) (vertex p b) (vertex p c) (vertex p d) ≡ false
  pub kept : Kept p marks₀ marks left₀ (λ P. left4 p.n P a b c d)

module _ {p : Polygon} {a b c d : ℕ} {lifted : List Lifted} {pencil : Pencil} {ball : Sphere} {marks₀ marks : List ℕ}
    {left₀ : Test → Bool} (f : Four p a b c d lifted pencil ball marks₀ marks left₀) where
  module _ (v : ℕ) (v<n : v < p.n) {place : Position} (e : place ≡ position_by ball (get_or lifted v unlifted)) where
    -- inside: on to the next four
    pub four_dropped : place ≡ Inside → Kept p marks₀ marks left₀ (λ P. left4 p.n P a b c (d + 1))
    four_dropped i = kept_skip p a b c d f.kept f.d<n (drops f.three d f.d<n f.through f.solid v v<n e i)

    -- inside and on the other side of the triangle: on to the next three
    pub three_left : place ≡ Inside → separates_by pencil (get_or lifted d unlifted) (get_or lifted v unlifted) ≡ true →
        Kept p marks₀ marks left₀ (λ P. left3 p.n P a b (c + 1))
    three_left i o = kept_leave p a b c d f.kept (leaves f.three d f.d<n f.through f.solid v v<n e i o)

    -- not inside: on to the next turn of the scan
    pub vertex_passed : (place ≡ Inside → ⊥) → (last i : ℕ) → v ≡ scanned_at last i → Scanned p.n (inside_four p a b c d) (i - 1) →
        Scanned p.n (inside_four p a b c d) (i + 1 - 1)
    vertex_passed n last i k =
        scan_turn p.n (inside_four p a b c d) last i v k v<n ((place_is f.three d f.d<n f.through f.solid v v<n e).when_clear n)

  -- all vertices are scanned
  pub four_counts : (v : ℕ) → p.n ≤ v → Scanned p.n (inside_four p a b c d) v → counts p a b c d ≡ true
  four_counts v h s = counts_all p a b c d f.solid (scan_end p.n (inside_four p a b c d) v h s)

  module _ (full : counts p a b c d ≡ true) where
    module _ (v : ℕ) (v<n : v < p.n) {place : Position} (e : place ≡ position_by ball (get_or lifted v unlifted)) {found : Bool}
        (g : found ≡ both (not (either (is_one_of a b c v) (eqb v d))) (is_on place)) where
      found_is : is_fifth p a b c d v ≡ found
      found_is =
          other_is (either (is_one_of a b c v) (eqb v d)) (place_is f.three d f.d<n f.through f.solid v v<n e)
          (λ h. true_not_false full (not_counts_inside p a b c d v v<n h)) g

      -- no fifth: on to the next vertex
      pub fifth_passed : found ≡ false → Passed p.n (is_fifth p a b c d) v → Passed p.n (is_fifth p a b c d) (v + 1)
      fifth_passed h s = pass_on p.n (is_fifth p a b c d) v v<n (found_is ∙ h) s

      pub four_cospherical : found ≡ true → left₀ (has_fifth p) ≡ true
      four_cospherical h =
          marking.kept_due (λ P. left4 p.n P a b c (d + 1)) (λ (P : Test). P a b c d) (λ P. next4 p.n P a b c d f.d<n) f.kept
          (λ i. both (full i) (some_here 0 p.n (is_fifth p a b c d) v (omega arith) v<n (found_is ∙ h) i))

    -- all vertices are passed
    pub four_marked : {marks' : List ℕ} (v : ℕ) → p.n ≤ v → Passed p.n (is_fifth p a b c d) v → Joined marks (is_face a b c d) marks' →
        Kept p marks₀ marks' left₀ (λ P. left4 p.n P a b c (d + 1))
    four_marked v h s j =
        marking.kept_mark (λ P. left4 p.n P a b c (d + 1)) (λ (P : Test). P a b c d) (λ P. next4 p.n P a b c d f.d<n) f.kept
        (record {
          at = λ x y z hx hy hz. j.at x y z hx hy hz
              ∙ ap (λ (t : Bool). either (has marks x y z) t) (sym (both_yes (is_face a b c d x y z) full));
        })
        (both_no (counts p a b c d) (pass_end p.n (is_fifth p a b c d) v h s))

-- 12 is due, and the set was emptied
pub twelve_due : (p : Polygon) {marks₀ marks : List ℕ} → left1 p.n (has_fifth p) 0 ≡ true → marks ≡ empty_set →
    Marked (is_face_of_four p) (cospherical p) marks₀ (twelve_if true) marks
unfolding cospherical
twelve_due p e f = marking.marked_none e f

-- all fours are done
pub all_marked : (p : Polygon) {marks₀ marks : List ℕ} (a : ℕ) → p.n ≤ a + 3 → Kept p marks₀ marks (λ P. left1 p.n P 0) (λ P. left1 p.n P a) →
    Marked (is_face_of_four p) (cospherical p) marks₀ (Ok tt) marks
unfolding cospherical is_face_of_four
all_marked p a h k = put_all (λ P. out1 p.n P a h) k
