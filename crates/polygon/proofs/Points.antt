-- Equal grid points, and the test of std for them. Assumes nothing.
use mathlib.Core.Path.{◌≡◌, refl, sym, ap, ◌∙◌}
use mathlib.Core.Bool.{Bool, true, false, ◌&&◌, ◌||◌}
use mathlib.Core.List.{List, [], ◌∷◌}
use Prim.Native.Nat.{ℕ, zero, suc, ◌+◌, ◌-◌, ◌≤◌, ◌<◌}
use native.Mathlib.Omega.{arith}
use lib.IntN.{ℤ}
use lib.ListN.{length, get_or, take}
use Rattle.std.specs.List.{list_any}
use Rattle.std.proofs.lemmas.List.{length-take, get_or-take}
use Rattle.std.specs.Ordering.{int_eq}
use Rattle.std.specs.Cmp.{signed_Decides}
use Rattle.grid.specs.declared.GridPoint.{GridPoint}
use Rattle.grid.specs.contracts.GridPointPartialEq.TheImpl.{ghosts}
use Rattle.lists.specs.Lists.{both, either, some, some_from}
use Rattle.lists.proofs.Choice.{both_left, both_right, both_true}
use Rattle.integers.specs.Order.{equal}
use Rattle.integers.proofs.Order.{equal_yes, equal_is, true≢false}
use Rattle.polygon.specs.Polygon.{origin, vertex_at, same_point}

-- the test holds exactly of equal points
pub point_equal : (p q : GridPoint) → same_point p q ≡ true → p ≡ q
point_equal p q h =
    let x = equal_yes p.x q.x (both_left (equal p.x q.x) (both (equal p.y q.y) (equal p.z q.z)) h) in
    let r = both_right (equal p.x q.x) (both (equal p.y q.y) (equal p.z q.z)) h in
    let y = equal_yes p.y q.y (both_left (equal p.y q.y) (equal p.z q.z) r) in
    let z = equal_yes p.z q.z (both_right (equal p.y q.y) (equal p.z q.z) r) in
    λ i. record { x = x i; y = y i; z = z i }

pub point_same : (p q : GridPoint) → p ≡ q → same_point p q ≡ true
point_same p q e =
    both_true (equal_is (ap (λ (g : GridPoint). g.x) e))
    (both_true (equal_is (ap (λ (g : GridPoint). g.y) e)) (equal_is (ap (λ (g : GridPoint). g.z) e)))

-- ---- as `==` of std tests it
same_truth : (a b : Bool) → (a ≡ true → b ≡ true) → (b ≡ true → a ≡ true) → a ≡ b
same_truth true b f g = sym (f refl)
same_truth false true f g = absurd (true≢false (sym (g refl)))
same_truth false false f g = refl

pub int_same : (x y : ℤ) → int_eq x y ≡ equal x y
int_same x y =
    let d = signed_Decides x y in
    same_truth (int_eq x y) (equal x y) (λ h. equal_is (d.0 h)) (λ h. d.1 (equal_yes x y h))

pub and_both : (a b : Bool) → (a && b) ≡ both a b
and_both true b = refl
and_both false b = refl

or_either : (a b : Bool) → (a || b) ≡ either a b
or_either true b = refl
or_either false b = refl

point_test : (p q : GridPoint) → ghosts.eq p q ≡ same_point p q
point_test p q =
    and_both (int_eq p.x q.x) (int_eq p.y q.y && int_eq p.z q.z)
    ∙ (λ i. both (int_same p.x q.x i) (and_both (int_eq p.y q.y) (int_eq p.z q.z) i))
    ∙ (λ i. both (equal p.x q.x) (both (int_same p.y q.y i) (int_same p.z q.z i)))

-- ---- one of the first places of a list
some_of_first : (P : ℕ → Bool) (test : GridPoint → Bool) (l : List GridPoint) (lo k : ℕ) → k ≤ length l →
    ((i : ℕ) → i < k → test (get_or l i origin) ≡ P (lo + i)) → list_any test (take k l) ≡ some_from P lo k
unfolding some_from
some_of_first P test l lo zero h e = refl
some_of_first P test [] lo (suc k) h e = absurd (omega arith)
some_of_first P test (x ∷ l) lo (suc k) h e =
    let rest = some_of_first P test l (suc lo) k (omega arith) (λ i m. e (suc i) (omega arith) ∙ ap P (omega arith)) in
    let here = e 0 (omega arith) ∙ ap P (omega arith) in
    or_either (test x) (list_any test (take k l)) ∙ (λ i. either (here i) (rest i))

pub contained : (vertices : List GridPoint) (q : GridPoint) (j : ℕ) → j ≤ length vertices →
    list_any (λ (p : GridPoint). ghosts.eq p q) (take j vertices) ≡ some 0 j (λ i. same_point (vertex_at vertices i) q)
contained vertices q j h =
    let all : j - 0 ≡ j = omega arith in
    some_of_first (λ i. same_point (vertex_at vertices i) q) (λ (p : GridPoint). ghosts.eq p q) vertices 0 j h
    (λ i m. point_test (vertex_at vertices i) q ∙ ap (λ (n : ℕ). same_point (vertex_at vertices n) q) (omega arith))
    ∙ sym (ap (some_from (λ i. same_point (vertex_at vertices i) q) 0) all)

-- ---- vertex j of the first n, among those before it
pub again_test : (vertices : List GridPoint) (n j : ℕ) → j < length (take n vertices) →
    list_any (λ (p : GridPoint). ghosts.eq p (get_or (take n vertices) j origin)) (take j vertices)
    ≡ some 0 j (λ i. same_point (vertex_at vertices i) (vertex_at vertices j))
again_test vertices n j h =
    let within : j ≤ length vertices = omega (arith, h, length-take n vertices) in
    let below : j < n = omega (arith, h, length-take n vertices) in
    contained vertices (get_or (take n vertices) j origin) j within
    ∙ ap (λ (q : GridPoint). some 0 j (λ i. same_point (vertex_at vertices i) q)) (get_or-take n vertices j origin below)
