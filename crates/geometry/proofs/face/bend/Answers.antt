-- `geometry::face::bend` meets its contract.
use mathlib.Core.Path.{◌≡◌, sym, ◌∙◌, ap, subst}
use Prim.Native.Nat.{ℕ, ◌*◌, ◌≤◌}
use native.Mathlib.Nat.{lt_of_le_of_lt}
use lib.Dec.{T, lit<, lt→ltb}
use lib.IntN.{ℤ, pos, negsuc, nat_abs, ◌-ℤ◌, ◌*ℤ◌}
use lib.Signed.{non_neg, ◌<ℤ◌}
use mir.Syntax.{w64}
use mir.ValLaws.{to_z-of_z}
use Rattle.integers.specs.Bounds.{AtMost}
use Rattle.integers.specs.Rounding.{floor_div, clamped}
use Rattle.geometry.specs.Bounds.{max_dot, max_length, max_bend}
use Rattle.geometry.specs.Faces.{dividend_scale, ratio_of, bend_of}
use Rattle.integers.proofs.Rounding.{product_above_0}
use Rattle.integers.proofs.Bounds.{Holds, bits, literal, given, returned, stored, fits, at_most_held, at_most_le, ◌*!◌}
use Rattle.geometry.proofs.Bends.{bend_is, bend_bound}
use Rattle.geometry.proofs.face.bend.Goals.{After-clamp-q}
use Rattle.geometry.proofs.face.bend.Goals as goal

natural : {n m : ℕ} → m ≤ n → AtMost n (pos m)
natural h = record { size = h }

dividend : {d : ℤ} → AtMost max_dot d → (k : ℕ) → Holds (k * max_dot) (pos k *ℤ d) (pos k *ℤ bits d)
dividend h k = literal k *! given tt h

divisor : {m k : ℕ} {x y : ℤ} → x ≡ pos m → y ≡ pos k → m ≤ max_length → k ≤ max_length →
    Holds (max_length * max_length) (pos (m * k)) (bits x *ℤ bits y)
divisor e f h l = returned tt e (natural h) *! returned tt f (natural l)

ratio! : (c : goal.After-clamp-q) → c.clamp-q.result ≡ ratio_of c.args.d c.args.m c.args.k
unfolding ratio_of
ratio! c =
    let q = c.floor_div in
    c.clamp-q.ensures
    ∙ ap (clamped (negsuc 999) (pos 1000)) (to_z-of_z w64 q.result (record { sfits = q.type_inv }) ∙ q.ensures
    ∙ (λ i. floor_div ((stored tt (dividend c.requires.0 dividend_scale)).value i) (nat_abs ((stored tt (divisor c.from.ensures c.from-2.ensures c.requires.2 c.requires.4)).value i))))

bend! : (c : goal.After-clamp-q) → Holds max_bend (pos (bend_of c.args.d c.args.m c.args.k))
    (pos 1000 -ℤ bits c.clamp-q.result)
bend! c =
    record {
      value = ap (λ (z : ℤ). pos 1000 -ℤ z) (to_z-of_z w64 c.clamp-q.result (record { sfits = c.clamp-q.type_inv }) ∙ ratio! c)
          ∙ sym (bend_is c.args.d c.args.m c.args.k);
      bound = natural (bend_bound c.args.d c.args.m c.args.k);
    }

pub overflow_mul-n : goal.overflow_mul-n
overflow_mul-n c = fits tt (dividend c.requires.0 _)

pub overflow_mul-w : goal.overflow_mul-w
overflow_mul-w c = fits tt (divisor c.from.ensures c.from-2.ensures c.requires.2 c.requires.4)

pub floor_div-requires : goal.floor_div-requires
floor_div-requires c = (
  at_most_le tt (at_most_held (stored tt (dividend c.requires.0 _))),
  subst (λ (z : ℤ). pos 0 <ℤ z) (sym (stored tt (divisor c.from.ensures c.from-2.ensures c.requires.2 c.requires.4)).value)
      (record { lt = lt→ltb 0 _ (product_above_0 c.args.m c.args.k c.requires.1 c.requires.3) }),
)

pub overflow_cast-result : goal.overflow_cast-result
overflow_cast-result c =
    let h = stored tt (bend! (goal.at.overflow_cast-result c).After-clamp-q) in
    (subst (λ (z : ℤ). T (non_neg z)) (sym h.value) tt, record { fits = lt_of_le_of_lt (at_most_held h).size (lit< tt) })

pub returns : goal.returns
returns c = ap nat_abs (stored tt (bend! (goal.at.returns c).After-clamp-q)).value
