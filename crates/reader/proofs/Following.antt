-- The loop over the steps of the walk: what is left of the chain gives the same number and the same end. Assumes nothing.
use mathlib.Core.Path.{◌≡◌, refl, sym, ap, ◌∙◌}
use mathlib.Core.Bool.{Bool, true, false, cond}
use mathlib.Core.List.{List}
use Prim.Native.Nat.{ℕ, suc, ◌+◌, ◌-◌, ◌≤◌, ◌<◌}
use native.Mathlib.Numerals.{add-one}
use native.Mathlib.Omega.{arith}
use borrow.Author.Tests.{eq-eqb, ne_eqb, leb-true, leb-false}
use lib.ListN.{set, replicate}
use lib.Dec.{leb, eqb}
use Rattle.std.specs.Prelude.{Result, Ok, Err}
use Rattle.codes.specs.declared.Refusal.{Refusal}
use Rattle.codes.specs.Refusals.{or_refused}
use Rattle.codes.proofs.Refusals.{due_refused}
use Rattle.lists.specs.Lists.{up_from}
use Rattle.lists.proofs.Choice.{yes, no}
use Rattle.terms.specs.Limits.{max_vertices}
use Rattle.polygon.specs.Normal.{no_normal}
use Rattle.polygon.specs.Polygon.{origin}
use Rattle.polygon.specs.declared.normal.Normal.{Normal}
use Rattle.grid.specs.declared.GridPoint.{GridPoint}
use Rattle.rim_file.specs.Record.{point_of}
use Rattle.reader.specs.Chain.{link, vertex_at_position, normal_at_position, position_code, code_from}
use Rattle.reader.specs.Chain.{end_from, chain_code, vertex_count, vertices_of, normals_of}
use Rattle.reader.specs.Steps.{Walking, Stepped, Stopped, chain_of}
use Rattle.reader.specs.declared.Chain.{Chain}
use Rattle.reader.specs.declared.Progress.{Progress}
use Rattle.reader.proofs.Tables.{table_next}
use Rattle.reader.proofs.Answers.{code_step, end_step, past_limit}

-- the vertices before the walk and their normals are listed, and what is left of the chain has its number and its end
pub record Following (limit : ℕ) (s : List ℕ) (vertices : List GridPoint) (normals : List Normal) (w : Progress) : Type 0 where
  pub small : limit ≤ max_vertices
  pub walking : Walking limit s w
  pub listed : vertices ≡ vertices_of s w.n
  pub listed_normals : normals ≡ normals_of s w.n
  pub code_left : code_from limit s w.n (suc max_vertices - w.n) ≡ chain_code limit s
  pub end_left : end_from s w.n (suc max_vertices - w.n) ≡ vertex_count s

pub following_start : {limit : ℕ} {s : List ℕ} {w : Progress} {q : Normal} → limit ≤ max_vertices → Walking limit s w → w.n ≡ 0 → q ≡ no_normal →
    Following limit s (replicate max_vertices origin) (replicate max_vertices q) w
unfolding up_from
following_start {limit} {s} {w} h v e d = record {
  small = h;
  walking = v;
  listed = sym (ap (λ (n : ℕ). vertices_of s n) e);
  listed_normals = ap (λ (x : Normal). replicate max_vertices x) d ∙ sym (ap (λ (n : ℕ). normals_of s n) e);
  code_left = ap (λ (n : ℕ). code_from limit s n (suc max_vertices - n)) e;
  end_left = ap (λ (n : ℕ). end_from s n (suc max_vertices - n)) e;
}

module _ {limit : ℕ} {s : List ℕ} {vertices : List GridPoint} {normals : List Normal} {w : Progress} (f : Following limit s vertices normals w) where
  -- one position, taken from what is left
  code_here : code_from limit s w.n (suc max_vertices - w.n) ≡
      cond (eqb (link s w.n) 0) 0
      (cond (eqb (position_code limit s w.n) 0) (code_from limit s (suc w.n) (max_vertices - w.n)) (position_code limit s w.n))
  code_here =
      let e : suc max_vertices - w.n ≡ suc (max_vertices - w.n) = omega (arith, f.walking.within, f.small) in
      ap (λ (k : ℕ). code_from limit s w.n k) e ∙ code_step limit s w.n (max_vertices - w.n)

  end_here : end_from s w.n (suc max_vertices - w.n) ≡ cond (eqb (link s w.n) 0) w.n (end_from s (suc w.n) (max_vertices - w.n))
  end_here =
      let e : suc max_vertices - w.n ≡ suc (max_vertices - w.n) = omega (arith, f.walking.within, f.small) in
      ap (λ (k : ℕ). end_from s w.n k) e ∙ end_step s w.n (max_vertices - w.n)

  -- the chain ends here
  pub following_end : w.link ≡ 0 →
      ◌≡◌ {A = Result Chain Refusal} (Ok (record { n = w.n; vertices = vertices; normals = normals })) (or_refused (chain_code limit s) (chain_of s))
  following_end z =
      let e : eqb (link s w.n) 0 ≡ true = eq-eqb (link s w.n) 0 (sym f.walking.here ∙ z) in
      let c : chain_code limit s ≡ 0 = sym f.code_left ∙ code_here ∙ yes 0 _ e in
      let v : vertex_count s ≡ w.n = sym f.end_left ∙ end_here ∙ yes w.n _ e in
      (λ i. Ok (record { n = w.n; vertices = f.listed i; normals = f.listed_normals i }))
      ∙ (λ i. or_refused (sym c i) (record { n = sym v i; vertices = vertices_of s (sym v i); normals = normals_of s (sym v i) }))

  module _ (nonzero : w.link ≡ 0 → ⊥) where
    not_ended : eqb (link s w.n) 0 ≡ false
    not_ended = ne_eqb (link s w.n) 0 (λ e. nonzero (f.walking.here ∙ e))

    -- a number stops the walk
    pub following_stopped : {r : Refusal} → Stopped limit s w r → ◌≡◌ {A = Result Chain Refusal} (Err r) (or_refused (chain_code limit s) (chain_of s))
    following_stopped {r} h =
        let d : eqb (position_code limit s w.n) 0 ≡ false = ne_eqb (position_code limit s w.n) 0 (λ z. omega (arith, h.some, h.number)) in
        let c : chain_code limit s ≡ r.number = sym f.code_left ∙ code_here ∙ no 0 _ not_ended ∙ no _ _ d ∙ sym h.number in
        due_refused r.number (chain_of s) h.some ∙ ap (λ (k : ℕ). or_refused k (chain_of s)) (sym c)

    -- the walk goes on
    module _ {r : Progress} (step : Stepped limit s w r) where
      pub room : w.n < max_vertices
      room = by (leb limit w.n) refl
        where
          by : (b : Bool) → leb limit w.n ≡ b → w.n < max_vertices
          by true e = absurd (past_limit limit s w.n (leb-true limit w.n e) step.none)
          by false e = omega (arith, leb-false limit w.n e, f.small)

      listed_next : set vertices w.n r.vertex ≡ vertices_of s (w.n + 1)
      listed_next =
          ap (λ (l : List GridPoint). set l w.n r.vertex) f.listed
          ∙ table_next (λ i. point_of (vertex_at_position s i)) origin w.n r.vertex room (ap point_of (sym step.vertex_is))

      normals_next : set normals w.n r.normal ≡ normals_of s (w.n + 1)
      normals_next =
          ap (λ (l : List Normal). set l w.n r.normal) f.listed_normals
          ∙ table_next (λ i. normal_at_position s i) no_normal w.n r.normal room step.normal_is

      pub following_next : Following limit s (set vertices w.n r.vertex) (set normals w.n r.normal) r
      following_next =
          let n = step.next in
          let left : suc max_vertices - r.n ≡ max_vertices - w.n = omega arith in
          let at : r.n ≡ suc w.n = n ∙ add-one w.n in
          record {
            small = f.small;
            walking = step.walking;
            listed = listed_next ∙ ap (λ (m : ℕ). vertices_of s m) (sym n);
            listed_normals = normals_next ∙ ap (λ (m : ℕ). normals_of s m) (sym n);
            code_left =
                ap (λ (i : ℕ). code_from limit s i (suc max_vertices - r.n)) at ∙ ap (λ (k : ℕ). code_from limit s (suc w.n) k) left
                ∙ sym (code_here ∙ no 0 _ not_ended ∙ yes _ _ (eq-eqb (position_code limit s w.n) 0 step.none))
                ∙ f.code_left;
            end_left =
                ap (λ (i : ℕ). end_from s i (suc max_vertices - r.n)) at ∙ ap (λ (k : ℕ). end_from s (suc w.n) k) left
                ∙ sym (end_here ∙ no w.n _ not_ended)
                ∙ f.end_left;
          }
