-- `geometry::face::normal_length` meets its contract: the squared length, in the scale of squares, is a natural number below 2 ^ 52.
use mathlib.Core.Path.{◌≡◌, sym, ◌∙◌, ap, subst}
use Prim.Native.Nat.{ℕ, ◌*◌, ◌^◌, ◌<◌}
use native.Mathlib.Nat.{lt_of_le_of_lt}
use lib.Dec.{T, lit<}
use lib.IntN.{ℤ, pos, nat_abs, ◌*ℤ◌}
use lib.Signed.{non_neg}
use Rattle.integers.specs.Rounding.{floor_root}
use Rattle.geometry.specs.Vectors.{square_of}
use Rattle.geometry.specs.declared.Vector.{Vector}
use Rattle.geometry.specs.Bounds.{max_dot, max_normal, Within}
use Rattle.geometry.specs.Faces.{square_scale, length_of}
use Rattle.integers.proofs.Bounds.{Holds, literal, returned, stored, fits, bits, nat_abs_mul, at_most_held, ◌*!◌}
use Rattle.geometry.proofs.Vectors.{at_most_dot, products_fit}
use Rattle.geometry.proofs.Squares.{scaled_nonneg}
use Rattle.geometry.proofs.Lengths.{length_bound}
use Rattle.geometry.proofs.face.normal_length.Goals.{After-floor_root}
use Rattle.geometry.proofs.face.normal_length.Goals as goal

scaled : {n : Vector} {z : ℤ} → z ≡ square_of n → Within max_normal n → (k : ℕ) → Holds (k * max_dot) (pos k *ℤ square_of n) (pos k *ℤ bits z)
scaled e h k = literal k *! returned tt e (at_most_dot h h)

length! : (c : goal.After-floor_root) → c.floor_root.result ≡ length_of c.args.n
unfolding length_of
length! c =
    c.floor_root.ensures
    ∙ ap floor_root (ap nat_abs (stored tt (scaled c.dot-square.ensures c.requires square_scale)).value ∙ nat_abs_mul (pos square_scale) (square_of c.args.n))

pub dot-square-requires : goal.dot-square-requires
dot-square-requires c = products_fit tt tt tt c.requires c.requires

pub overflow_mul-square : goal.overflow_mul-square
overflow_mul-square c = fits tt (scaled c.dot-square.ensures c.requires _)

pub overflow_cast-square : goal.overflow_cast-square
overflow_cast-square c = (
  subst (λ (z : ℤ). T (non_neg z)) (sym (stored tt (scaled c.dot-square.ensures c.requires _)).value) (scaled_nonneg _ c.args.n),
  record { fits = lt_of_le_of_lt (at_most_held (stored tt (scaled c.dot-square.ensures c.requires _))).size (lit< tt) },
)

pub floor_root-requires : goal.floor_root-requires
floor_root-requires c = lt_of_le_of_lt (at_most_held (stored tt (scaled c.dot-square.ensures c.requires _))).size (lit< tt)

pub overflow_cast-result : goal.overflow_cast-result
overflow_cast-result c = record {
  fits =
      subst (λ (x : ℕ). x < 2 ^ 32) (sym (length! (goal.at.overflow_cast-result c).After-floor_root)) (lt_of_le_of_lt (length_bound c.requires) (lit< tt));
}

pub returns : goal.returns
returns c = length! (goal.at.returns c).After-floor_root
