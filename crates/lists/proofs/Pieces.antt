-- Lists made of pieces of one length, one for each number of a range. Assumes nothing.
use mathlib.Core.Path.{◌≡◌, sym, ap, ◌∙◌}
use mathlib.Core.List.{List, ◌++◌}
use Prim.Native.Nat.{ℕ, zero, suc, ◌+◌, ◌*◌, ◌-◌, ◌≤◌, ◌<◌}
use native.Mathlib.Nat.{mul-zero, mul-suc}
use native.Mathlib.Omega.{arith}
use lib.ListN.{length, take, drop, get_or, length-append, get_or-append}
use lib.Seq.{get_or-append-add, take-add}
use Rattle.lists.specs.Lists.{up_from, over}
use Rattle.lists.proofs.Ranges.{over_step, over_last}
use Rattle.lists.proofs.Parts.{over_split}

module _ {A : Type 0} (f : ℕ → List A) (size : ℕ) where
  up_pieces : (lo k : ℕ) → ((i : ℕ) → lo ≤ i → i < lo + k → length (f i) ≡ size) → length (up_from f lo k) ≡ size * k
  unfolding up_from
  up_pieces lo zero h = sym (mul-zero size)
  up_pieces lo (suc k) h =
      omega (
        arith,
        length-append (f lo) (up_from f (suc lo) k),
        h lo (omega arith) (omega arith),
        up_pieces (suc lo) k (λ i l m. h i (omega arith) (omega arith)),
        mul-suc size k,
      )

  pub pieces_length : (lo hi : ℕ) → ((i : ℕ) → lo ≤ i → i < hi → length (f i) ≡ size) → length (over lo hi f) ≡ size * (hi - lo)
  pieces_length lo hi h = up_pieces lo (hi - lo) (λ i l m. h i l (omega arith))

  -- place j of piece i
  pub piece_at : (lo hi : ℕ) → ((i : ℕ) → lo ≤ i → i < hi → length (f i) ≡ size) → (i j : ℕ) (d : A) → lo ≤ i → i < hi → j < size →
      get_or (over lo hi f) (size * (i - lo) + j) d ≡ get_or (f i) j d
  piece_at lo hi h i j d l m k =
      let before = pieces_length lo i (λ n a b. h n a (omega arith)) in
      ap (λ (x : List A). get_or x (size * (i - lo) + j) d) (over_split f lo i hi l (omega arith))
      ∙ ap (λ (n : ℕ). get_or (over lo i f ++ over i hi f) (n + j) d) (sym before)
      ∙ get_or-append-add (over lo i f) (over i hi f) j d
      ∙ ap (λ (x : List A). get_or x j d) (over_step i hi f m)
      ∙ get_or-append (f i) (over (i + 1) hi f) d j (omega (arith, h i l m))

-- a list cut in pieces of one length
pub cut_pieces : {A : Type 0} (size n : ℕ) (l : List A) → take (size * n) l ≡ over 1 (suc n) (λ k. take size (drop (size * (k - 1)) l))
unfolding up_from
cut_pieces size zero l = ap (λ (k : ℕ). take k l) (mul-zero size)
cut_pieces {A} size (suc n) l =
    let f : ℕ → List A = λ k. take size (drop (size * (k - 1)) l) in
    let e : suc n - 1 ≡ n = omega arith in
    let d : suc n + 1 ≡ suc (suc n) = omega arith in
    ap (λ (k : ℕ). take k l) (mul-suc size n)
    ∙ take-add (size * n) size l
    ∙ (λ i. cut_pieces size n l i ++ take size (drop (size * sym e i) l))
    ∙ sym (over_last 1 (suc n) f (omega arith))
    ∙ ap (λ (k : ℕ). over 1 k f) d
