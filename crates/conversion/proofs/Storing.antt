-- Runs of stores, one after the other, and the bytes of a file that are stored. Assumes nothing.
use mathlib.Core.Path.{◌≡◌, sym, ap, ◌∙◌}
use mathlib.Core.List.{List, [], ◌∷◌, ◌++◌}
use Prim.Native.Nat.{ℕ, suc, ◌+◌, ◌≤◌, ◌<◌}
use native.Mathlib.Omega.{arith}
use lib.ListN.{length, take, drop, set, get_or, length-drop}
use borrow.Rule.Slice.PartMut.{put_mid}
use Rattle.std.proofs.Common.{append_assoc}
use lib.Seq.{drop-drop, sets, sets-eq, length-take-le, get_or-take, get_or-drop, ext_get_or}
use Rattle.lists.specs.Lists.{filled}
use Rattle.conversion.specs.Converted.{bytes_at}

-- ---- the bytes
pub bytes_length : (s : List ℕ) (i k : ℕ) → i + k ≤ length s → length (bytes_at s i k) ≡ k
bytes_length s i k h = length-take-le k (drop i s) (omega (arith, length-drop i s))

pub bytes_at_lem : (s : List ℕ) (i k j : ℕ) → j < k → get_or (bytes_at s i k) j 0 ≡ get_or s (i + j) 0
bytes_at_lem s i k j h = get_or-take k (drop i s) j 0 h ∙ get_or-drop i s j 0

-- bytes that are the same one by one
pub bytes_same : (s t : List ℕ) (i j k : ℕ) → i + k ≤ length s → j + k ≤ length t → ((n : ℕ) → n < k → get_or s (i + n) 0 ≡ get_or t (j + n) 0) →
    bytes_at s i k ≡ bytes_at t j k
bytes_same s t i j k a b h =
    ext_get_or 0 (bytes_at s i k) (bytes_at t j k) (bytes_length s i k a ∙ sym (bytes_length t j k b))
    (λ n l. let m : n < k = omega (arith, bytes_length s i k a) in bytes_at_lem s i k n m ∙ h n m ∙ sym (bytes_at_lem t j k n m))

-- ---- stores
-- a run of two parts is a run after a run
stores_append : (l m d : List ℕ) (at : ℕ) → sets d at (l ++ m) ≡ sets (sets d at l) (at + length l) m
stores_append [] m d at = let e : at ≡ at + 0 = omega arith in ap (λ (n : ℕ). sets d n m) e
stores_append (a ∷ l) m d at =
    let e : suc at + length l ≡ at + suc (length l) = omega arith in
    stores_append l m (set d at a) (suc at) ∙ ap (λ (n : ℕ). sets (sets (set d at a) (suc at) l) n m) e

pub stores_then : (l m d : List ℕ) (at n : ℕ) → n ≡ at + length l → sets (sets d at l) n m ≡ sets d at (l ++ m)
stores_then l m d at n e = ap (λ (k : ℕ). sets (sets d at l) k m) e ∙ sym (stores_append l m d at)

-- a part of a slice that is written anew
pub part_stored : (ys xs : List ℕ) (at : ℕ) {k : ℕ} → k ≡ length ys → at + k ≤ length xs → put_mid at k xs ys ≡ sets xs at ys
part_stored ys xs at {k} e h =
    ap (λ (l : List ℕ). take at xs ++ (ys ++ l)) (drop-drop k at xs ∙ ap (λ (n : ℕ). drop (at + n) xs) e) ∙ sym (append_assoc (take at xs) ys (drop (at + length ys) xs)) ∙ sym (sets-eq ys xs at (omega arith))

-- a run from the first place on
pub stores_fill : (l d : List ℕ) → length l ≤ length d → sets d 0 l ≡ filled l d
stores_fill l d h =
    let e : 0 + length l ≡ length l = omega arith in
    sets-eq l d 0 (omega arith) ∙ ap (λ (n : ℕ). l ++ drop n d) e
