-- Filling the work table, block by block. Assumes nothing.
use Prim.Native.Nat.{ℕ, ◌+◌, ◌-◌, ◌≤◌, ◌<◌}
use mathlib.Core.Path.{◌≡◌, refl, sym, ap, ap₂, ◌∙◌}
use mathlib.Core.Bool.{Bool, true, false}
use mathlib.Core.Logic.{◌⊎◌, inl, inr, ⊎_elim, ◌≢◌}
use mathlib.Core.List.{List, ◌++◌}
use native.Mathlib.Omega.{arith}
use native.Mathlib.Nat.{eq-or-lt_of_le}
use lib.ListN.{length, get_or, set, take, drop, replicate, length-set, length-replicate, take-append-drop}
use lib.Seq.{get_or-set_same, get_or-set_other, drop-set-lt, ext_get_or, get_or-take, length-take-le}
use lib.Dec.{leb}
use borrow.Author.Tests.{leb-true, leb-false}
use Rattle.lists.specs.Lists.{filled}
use Rattle.lists.proofs.Ranges.{over_length, over_at}
use Rattle.lists.proofs.Writing.{filled_length, filled_at, filled_over}
use Rattle.triangulation.specs.Triangulations.{Problem}
use Rattle.triangulation.specs.Problems.{problem_from}
use Rattle.triangulation.specs.Recursion.{best_from, cost_of}
use Rattle.blocks.specs.Blocks.{Starts}
use Rattle.terms.specs.Limits.{max_vertices}
use Rattle.terms.specs.Entries.{entry_at, vertex_a, vertex_b, vertex_c}
use Rattle.minimum_weight.specs.Tables.{WellFormed, Ready, AllReady, ReadyAt, Filled, part_totals}

-- one of two orders
order : (x y : ℕ) → (x ≤ y) ⊎ (y < x)
order x y = go (leb x y) refl
  where
    go : (b : Bool) → leb x y ≡ b → (x ≤ y) ⊎ (y < x)
    go true e = inl (leb-true x y e)
    go false e = inr (leb-false x y e)

module _ (job : Problem) (before : List ℕ) where
  -- the candidates from `high` on are ready, and those of the block from `low` to t
  pub record Filling (low high t : ℕ) (work : List ℕ) : Type 0 where
    pub long : length work ≡ length before
    pub kept : drop job.size work ≡ drop job.size before
    pub start : low ≤ t
    pub end : t ≤ high
    pub ready : (u : ℕ) → u < job.size → (high ≤ u) ⊎ ((low ≤ u) × (u < t)) → Ready job work u

  pub filling_start : {low high : ℕ} {work : List ℕ} → low ≤ high → Filled job before high work → Filling low high low work
  filling_start h f = record {
    long = f.long;
    kept = f.kept;
    start = omega arith;
    end = h;
    ready = λ u l w. ⊎_elim (λ k. f.ready u l k) (λ k. absurd (omega arith)) w;
  }

  pub filling_end : {low high t : ℕ} {work : List ℕ} → high ≤ t → Filling low high t work → Filled job before low work
  filling_end {low} {high} {t} h f =
      record { long = f.long; kept = f.kept; ready = λ u l k. f.ready u l (⊎_elim inl (λ (m : u < high). inr (k, omega arith)) (order high u)) }

  pub filling_next : {low high t : ℕ} {work : List ℕ} (d : ℕ) → job.size ≤ length before → high ≤ job.size
      → t < high → d ≡ cost_of (best_from job job.n t) → Filling low high t work
      → Filling low high (t + 1) (set work t d)
  filling_next {low} {high} {t} {work} d r s h e f = record {
    long = length-set work t d ∙ f.long;
    kept = drop-set-lt job.size work t d (omega arith) ∙ f.kept;
    start = omega (arith, f.start);
    end = omega arith;
    ready = λ u l w. ⊎_elim
        (λ q. ap (λ x. get_or (set work t d) x 0) q ∙ get_or-set_same work t d 0 (omega (arith, f.long)) ∙ e
        ∙ ap (λ x. cost_of (best_from job job.n x)) (sym q))
        (λ (q : u ≢ t). get_or-set_other work t u d 0 q ∙ f.ready u l (⊎_elim inl (λ (m : (low ≤ u) × (u < t + 1)). inr (m.0, omega arith)) w))
        (same? u t);
  }
    where
      same? : (x y : ℕ) → (x ≡ y) ⊎ (x ≢ y)
      same? x y =
          ⊎_elim (λ (l : x ≤ y). ⊎_elim (λ q. inl q) (λ (q : x < y). inr (λ (z : x ≡ y). omega arith)) (eq-or-lt_of_le l))
          (λ (l : y < x). inr (λ (z : x ≡ y). omega arith)) (order x y)

module _ (n : ℕ) (candidates : List (List ℕ)) (weights : List ℕ) (rows : List (List ℕ)) (ok : WellFormed n candidates weights rows)
    (starts : List ℕ) (blocks : Starts candidates starts) where
  abbrev job_here : Problem
  job_here = problem_from n candidates weights rows

  module _ (before work : List ℕ) (v t : ℕ) (hv : v < max_vertices) (f : Filling job_here before (get_or starts v 0) (get_or starts (v + 1) 0) t work)
      (h : t < get_or starts (v + 1) 0) where
    t_there : t < length candidates
    t_there = omega (arith, (blocks.at (v + 1) (omega arith)).within)

    first : v ≤ vertex_a (entry_at candidates t)
    first = (blocks.at v (omega arith)).above t f.start t_there

    -- (a, x, b) stands before (a, b, c) in its block
    pub left_ready : ReadyAt job_here work (vertex_a (entry_at candidates t)) (vertex_b (entry_at candidates t))
    left_ready u l ea ec = f.ready u l (inr (low, high))
      where
        low : get_or starts v 0 ≤ u
        low = ⊎_elim (λ k. k) (λ (k : u < get_or starts v 0). absurd (omega (arith, first, (blocks.at v (omega arith)).below u k)))
            (order (get_or starts v 0) u)

        high : u < t
        high = ⊎_elim
            (λ (k : t ≤ u). absurd (⊎_elim
            (λ q. omega (arith, ok.valid.bc u l, ap (λ k. vertex_b (entry_at candidates k)) q))
            (λ q. omega (arith, ok.valid.bc u l, ok.ascending.b_up t u q l (sym ea)))
            (eq-or-lt_of_le k)))
            (λ k. k) (order t u)

    -- (b, x, c) stands in a later block
    pub right_ready : ReadyAt job_here work (vertex_b (entry_at candidates t)) (vertex_c (entry_at candidates t))
    right_ready u l ea ec = f.ready u l (inl (⊎_elim (λ k. k)
        (λ (k : u < get_or starts (v + 1) 0). absurd (omega (arith, first, ok.valid.ab t t_there, (blocks.at (v + 1) (omega arith)).below u k)))
        (order (get_or starts (v + 1) 0) u)))

  -- before the last block, and after the first
  pub fill_start : (work : List ℕ) → Filled job_here work (get_or starts n 0) work
  fill_start work = record {
    long = refl;
    kept = refl;
    ready = λ u l k.
        absurd (omega (arith, (blocks.at n (omega (arith, ok.bounded.few))).above u k l, ok.valid.ab u l, ok.valid.bc u l, ok.valid.cn u l));
  }

  pub fill_end : {before work : List ℕ} {v : ℕ} → v ≤ 0 → Filled job_here before (get_or starts v 0) work → Filled job_here before 0 work
  fill_end {v = v} h f = record {
    long = f.long;
    kept = f.kept;
    ready = λ u l k. f.ready u l
        (⊎_elim (λ m. m) (λ (m : u < get_or starts v 0). absurd (omega (arith, (blocks.at v (omega arith)).below u m))) (order (get_or starts v 0) u));
  }

module _ (job : Problem) where
  abbrev total_of : ℕ → ℕ
  total_of u = cost_of (best_from job job.n u)

  totals_long : length (part_totals job) ≡ job.size
  totals_long = omega (arith, over_length 0 job.size total_of)

  total_at : (u : ℕ) → u < job.size → get_or (part_totals job) u 0 ≡ total_of u
  total_at u h = over_at 0 job.size total_of 0 u (omega arith) ∙ ap total_of (omega arith)

module _ (job : Problem) (before : List ℕ) {work : List ℕ} (room : job.size ≤ length before) where
  -- all places are filled: the table holds the total of each candidate, and all else as it was
  pub filled_is : Filled job before 0 work → work ≡ filled (part_totals job) before
  filled_is f =
      let first : take job.size work ≡ part_totals job = ext_get_or 0 (take job.size work) (part_totals job) (long ∙ sym (totals_long job))
      (λ u h. get_or-take job.size work u 0 (omega (arith, long)) ∙ f.ready u (omega (arith, long)) (omega arith)
      ∙ sym (total_at job u (omega (arith, long)))) in
      sym (take-append-drop job.size work) ∙ ap₂ ◌++◌ first (f.kept ∙ ap (λ k. drop k before) (sym (totals_long job)))
    where
      long : length (take job.size work) ≡ job.size
      long = length-take-le job.size work (omega (arith, f.long))

  pub filled_long : work ≡ filled (part_totals job) before → length work ≡ length before
  filled_long e = ap length e ∙ filled_length (part_totals job) before (omega (arith, totals_long job))

  pub filled_ready : work ≡ filled (part_totals job) before → AllReady job work
  filled_ready e u h =
      ap (λ t. get_or t u 0) e ∙ filled_at (part_totals job) before u 0 (omega (arith, totals_long job)) ∙ total_at job u h

-- and is cleared: zeros there, and all else as it was
pub cleared : (job : Problem) (before : List ℕ) {work new : List ℕ} → work ≡ filled (part_totals job) before
    → new ≡ filled (replicate job.size 0) work → new ≡ filled (replicate job.size 0) before
cleared job before f e =
    e ∙ ap (filled (replicate job.size 0)) f
    ∙ filled_over (replicate job.size 0) (part_totals job) before (length-replicate job.size 0 ∙ sym (totals_long job))

module _ (job : Problem) where
  -- one block after another
  filled_again : {before work : List ℕ} {low : ℕ} → Filled job before low work → Filled job work low work
  filled_again f = record { long = refl; kept = refl; ready = f.ready }

  pub filled_then : {before work new : List ℕ} {low high : ℕ} → Filled job before high work → Filled job work low new → Filled job before low new
  filled_then f g = record { long = g.long ∙ f.long; kept = g.kept ∙ f.kept; ready = g.ready }

  pub filled_down : {before work : List ℕ} (starts : List ℕ) (v : ℕ) → 0 < v → Filled job before (get_or starts v 0) work →
      Filled job work (get_or starts (v - 1 + 1) 0) work
  filled_down starts v h f = let e : v - 1 + 1 ≡ v = omega arith in rw e (filled_again f)
