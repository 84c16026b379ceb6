-- The turns of the loop that lists a patch (rule 3.12): the triangles that are not listed yet are those of the parts that wait. Assumes nothing.
use Prim.Native.Nat.{ℕ, zero, suc, ◌+◌, ◌-◌, ◌≤◌, ◌<◌}
use mathlib.Core.Path.{◌≡◌, refl, sym, ap, ap₂, ◌∙◌, subst}
use mathlib.Core.Logic.{⊎_elim, ◌≢◌}
use mathlib.Core.List.{List, [], ◌∷◌, ◌++◌, append_assoc, append-nil, cons≢nil, head-eq_of_cons-eq, tail-eq_of_cons-eq}
use native.Mathlib.Omega.{arith}
use lib.ListN.{length, get_or, drop, length-append, length-drop, drop_of_length-le}
use lib.Seq.{drop-cons}
use Rattle.triangulation.specs.Triangulations.{Problem, ValidProblem}
use Rattle.triangulation.specs.Problems.{Bounded}
use Rattle.triangulation.specs.Recursion.{add_row, join, best_under, best_from, cost_of, rest_of, no_total}
use Rattle.triangulation.proofs.Parts.{part_length}
use Rattle.triangulation.proofs.Recursion as R
use Rattle.triangulation.proofs.Recursion.{Best, edge_best, edge_step}
use Rattle.triangulation.proofs.Bounds.{edge_light}
use Rattle.minimum_weight.specs.declared.choice.Pick.{Pick}
use Rattle.preorder.specs.declared.Part.{Part}
use Rattle.minimum_weight.specs.Tables.{Found}
use Rattle.preorder.specs.Preorder.{part_under, beneath, halves, turn, parts_after}
use Rattle.minimum_weight.proofs.Edges.{found_below}
use Rattle.preorder.proofs.Beneath.{Beneath, one, none, either_beneath}

-- the parts of a joined key that is no 'none'
split_key : (w u r : ℕ) (k k' : List ℕ) → cost_of (add_row r (join w u k k')) < no_total →
    (k ≢ []) × (k' ≢ []) × (rest_of (add_row r (join w u k k')) ≡ u ∷ (rest_of k ++ rest_of k'))
split_key w u r [] k' h = absurd (omega arith)
split_key w u r (x ∷ l) [] h = absurd (omega arith)
split_key w u r (x ∷ l) (y ∷ m) h = (cons≢nil, cons≢nil, refl)

-- a list from place k on: the element there, and the rest
drop_next : (l : List ℕ) (k : ℕ) {u : ℕ} {m : List ℕ} → drop k l ≡ u ∷ m → (get_or l k 0 ≡ u) × (drop (suc k) l ≡ m)
drop_next l k e =
    let d = sym (drop-cons l k 0 (omega (arith, length-drop k l, ap length e))) ∙ e in
    (head-eq_of_cons-eq d, tail-eq_of_cons-eq d)

-- a job that can be triangulated
pub record HasTriangulation (job : Problem) : Type 0 where
  pub valid : ValidProblem job
  pub bounded : Bounded job
  pub some : cost_of (best_under job job.n job.size 0 (job.n - 1)) < no_total

module _ (job : Problem) where
  -- a part's triangles in preorder, and the first of them
  abbrev pub part_triangles : Part → List ℕ
  part_triangles p = rest_of (best_under job job.n p.outer p.first p.last)

  abbrev pub first_triangle : Part → ℕ
  first_triangle p = get_or (part_triangles p) 0 0

  -- a part that is more than a rim edge, and has a triangulation
  pub record Whole (p : Part) : Type 0 where
    pub order : p.first + 1 < p.last
    pub within : p.last < job.n
    pub some : cost_of (best_under job job.n p.outer p.first p.last) < no_total

  -- each of a list is one
  pub data AllWhole : List Part → Type 0 where
    no_part : AllWhole []
    part_and : {p : Part} {l : List Part} → Whole p → AllWhole l → AllWhole (p ∷ l)

  -- the triangles still to be listed, part by part
  abbrev pub pending : List Part → List ℕ
  pending [] = []
  pending (p ∷ l) = part_triangles p ++ pending l

  -- the triangle u comes first in a part: what is beneath it
  pub record Down (p : Part) (u : ℕ) : Type 0 where
    pub valid : u < job.size
    pub on_first : job.a u ≡ p.first
    pub on_last : job.c u ≡ p.last
    pub left : p.first < job.b u
    pub right : job.b u < p.last
    pub left_some : cost_of (best_under job job.n u p.first (job.b u)) < no_total
    pub right_some : cost_of (best_under job job.n u (job.b u) p.last) < no_total
    pub list : part_triangles p ≡ u ∷ (part_triangles (part_under u p.first (job.b u)) ++ part_triangles (part_under u (job.b u) p.last))

  pending_append : (k l : List Part) → pending (k ++ l) ≡ pending k ++ pending l
  pending_append [] l = refl
  pending_append (p ∷ k) l = ap (λ x. part_triangles p ++ x) (pending_append k l) ∙ sym (append_assoc (part_triangles p) (pending k) (pending l))

  whole_append : {k l : List Part} → AllWhole k → AllWhole l → AllWhole (k ++ l)
  whole_append no_part v = v
  whole_append (part_and w u) v = part_and w (whole_append u v)

module _ (job : Problem) (good : ValidProblem job) (bound : Bounded job) where
  edge_some : (t i j : ℕ) → i < j → j < job.n → best_under job job.n t i j ≢ [] → cost_of (best_under job job.n t i j) < no_total
  edge_some t i j h k z = ⊎_elim (λ e. absurd (z e)) (λ q. omega arith) (edge_light job good bound t i j h k)

  -- a part from i to j has a triangle for each vertex between
  list_length : (p : Part) → Whole job p → length (part_triangles job p) + p.first + 1 ≡ p.last
  list_length p w = go (edge_best job good job.n p.outer p.first p.last (omega (arith, w.order)) (omega (arith, w.within)))
    where
      go : Best job p.outer p.first p.last (best_under job job.n p.outer p.first p.last) →
          length (part_triangles job p) + p.first + 1 ≡ p.last
      go (R.none e h) = absurd (omega (arith, w.some, ap cost_of e))
      go (R.some l x e v h) = ap (λ k. length (rest_of k) + p.first + 1) e ∙ part_length job v

  down : (p : Part) (q : Pick) → Whole job p → Found job p.outer p.first p.last q → Down job p q.at
  unfolding best_from best_under
  down p q w f =
      let u = q.at in
      let g = f.at (λ (e : p.last ≡ p.first + 1). omega (arith, w.order)) (omega (arith, f.cost, w.some)) in
      let s = split_key (job.weight u) u (job.row p.outer u) (best_under job job.n u (job.a u) (job.b u))
      (best_under job job.n u (job.b u) (job.c u)) (rw g.3 at w.some) in
      let l : p.first < job.b u = omega (arith, good.ab u g.0, g.1) in
      let r : job.b u < p.last = omega (arith, good.bc u g.0, g.2) in
      record {
        valid = g.0;
        on_first = g.1;
        on_last = g.2;
        left = l;
        right = r;
        left_some = edge_some u p.first (job.b u) l (omega (arith, w.within)) (rw g.1 at s.0);
        right_some = edge_some u (job.b u) p.last r w.within (rw g.2 at s.1);
        list = ap rest_of g.3 ∙ s.2
            ∙ ap₂ (λ i j. u ∷ (rest_of (best_under job job.n u i (job.b u)) ++ rest_of (best_under job job.n u (job.b u) j))) g.1 g.2;
      }

  -- the triangle that is found is the first in preorder
  pub found_first : (p : Part) (q : Pick) → Whole job p → Found job p.outer p.first p.last q → q.at ≡ first_triangle job p
  found_first p q w f = ap (λ l. get_or l 0 0) (sym (down p q w f).list)

  pub down_first : (p : Part) → Whole job p → Down job p (first_triangle job p)
  down_first p w =
      let f = found_below job good bound p.outer p.first p.last (λ (e : p.last ≡ p.first + 1). omega (arith, w.order))
      (λ u. cost_of (best_from job job.n u)) (λ u l o. refl) in
      subst (Down job p) (found_first p _ w f) (down p _ w f)

  -- a rim edge has no triangle, and is no part
  module _ (u i j : ℕ) (h : i < j) where
    beneath_whole : j < job.n → cost_of (best_under job job.n u i j) < no_total → AllWhole job (beneath u i j)
    beneath_whole k s = go (either_beneath u i j)
      where
        go : Beneath u i j → AllWhole job (beneath u i j)
        go (one far e) = subst (AllWhole job) (sym e) (part_and (record { order = far; within = k; some = s }) no_part)
        go (none near e) = subst (AllWhole job) (sym e) no_part

    beneath_list : pending job (beneath u i j) ≡ part_triangles job (part_under u i j)
    beneath_list = go (either_beneath u i j)
      where
        go : Beneath u i j → pending job (beneath u i j) ≡ part_triangles job (part_under u i j)
        go (one far e) = ap (pending job) e ∙ append-nil (part_triangles job (part_under u i j))
        go (none near e) = ap (pending job) e ∙ sym (ap rest_of (edge_step job good u i j (omega arith)))

  module _ (p : Part) (u : ℕ) (w : Whole job p) (d : Down job p u) where
    halves_whole : AllWhole job (halves job p u)
    halves_whole = whole_append job (beneath_whole u p.first (job.b u) d.left (omega (arith, d.right, w.within)) d.left_some)
        (beneath_whole u (job.b u) p.last d.right w.within d.right_some)

    halves_list : part_triangles job p ≡ u ∷ pending job (halves job p u)
    halves_list = d.list ∙ ap (λ l. u ∷ l) (sym (pending_append job (beneath u p.first (job.b u)) (beneath u (job.b u) p.last)
        ∙ ap₂ (λ k l. k ++ l) (beneath_list u p.first (job.b u) d.left) (beneath_list u (job.b u) p.last d.right)))

  -- a part that waits has a triangle
  pub parts_few : (l : List Part) → AllWhole job l → length l ≤ length (pending job l)
  parts_few [] v = omega arith
  parts_few (p ∷ l) (part_and w v) = omega (arith, parts_few l v, list_length p w, w.order, length-append (part_triangles job p) (pending job l))

module _ {job : Problem} (t : HasTriangulation job) where
  abbrev polygon : Part
  polygon = part_under job.size 0 (job.n - 1)

  -- the triangles of the patch
  abbrev pub patch_of : List ℕ
  patch_of = part_triangles job polygon

  polygon_whole : Whole job polygon
  polygon_whole = record { order = omega (arith, t.valid.n3); within = omega (arith, t.valid.n3); some = t.some }

  pub patch_length : length patch_of ≡ job.n - 2
  patch_length = omega (arith, list_length job t.valid t.bounded polygon polygon_whole, t.valid.n3)

  -- after k turns: the triangles that are not listed yet are those of the parts that wait
  pub record Going (k : ℕ) (l : List Part) : Type 0 where
    pub whole : AllWhole job l
    pub left : drop k patch_of ≡ pending job l

  -- the next part's first triangle is the next of the patch
  pub next_part : (k : ℕ) (p : Part) (l : List Part) → Whole job p → drop k patch_of ≡ pending job (p ∷ l)
      → (get_or patch_of k 0 ≡ first_triangle job p) × (drop (suc k) patch_of ≡ pending job (halves job p (first_triangle job p) ++ l))
  next_part k p l w e =
      let u = first_triangle job p in
      let d = down_first job t.valid t.bounded p w in
      drop_next patch_of k (e ∙ ap (λ x. x ++ pending job l) (halves_list job t.valid t.bounded p u w d)
      ∙ ap (λ x. u ∷ x) (sym (pending_append job (halves job p u) l)))

  go_on : (k : ℕ) (l : List Part) → Going k l → Going (suc k) (turn job l (get_or patch_of k 0))
  go_on k [] g = record { whole = no_part; left = drop_of_length-le patch_of {i = suc k} (omega (arith, length-drop k patch_of, ap length g.left)) }
  go_on k (p ∷ l) g = by g.whole
    where
      by : AllWhole job (p ∷ l) → Going (suc k) (turn job (p ∷ l) (get_or patch_of k 0))
      by (part_and w v) =
          let u = first_triangle job p in
          let n = next_part k p l w g.left in
          subst (λ x. Going (suc k) (turn job (p ∷ l) x)) (sym n.0)
          (record { whole = whole_append job (halves_whole job t.valid t.bounded p u w (down_first job t.valid t.bounded p w)) v; left = n.1 })

  pub going : (k : ℕ) → Going k (parts_after job patch_of k)
  unfolding parts_after
  going zero = record { whole = part_and polygon_whole no_part; left = sym (append-nil patch_of) }
  going (suc k) = go_on k (parts_after job patch_of k) (going k)
