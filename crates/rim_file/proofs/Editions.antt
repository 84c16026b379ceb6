-- Two files of one rim, in whichever editions: each record is the same in both. Assumes nothing.
use mathlib.Core.Path.{◌≡◌, refl, sym, ap, ◌∙◌}
use mathlib.Core.Bool.{Bool, true, false, cond}
use mathlib.Core.List.{List}
use Prim.Native.Nat.{ℕ, zero, suc, ◌+◌, ◌-◌, ◌≤◌, ◌<◌}
use native.Mathlib.Omega.{arith}
use native.Mathlib.Nat.{mul-le-mul_left}
use borrow.Author.Tests.{ltb-true, ltb-false}
use lib.ListN.{get_or, get_or-eq_default}
use lib.Dec.{ltb, eqb}
use lib.Ieee.{binary32, of_bits}
use Rattle.polygon.specs.Normal.{normal, no_normal}
use Rattle.rim_file.specs.File.{u16_at, u32_at, signed16, i16_at, is_edition2, record_size1, record_size_of, record_count, offset, next_record, kind}
use Rattle.rim_file.specs.Record.{record_at, normal_in}
use Rattle.rim_file.specs.Editions.{SameRim}
use Rattle.rim_file.specs.declared.Record.TheVariants.{Point, Level}
use Rattle.std.proofs.Common.{Ok, Err}
use Rattle.codes.specs.Refusals.{refusal}
use Rattle.rim_file.proofs.Lengths.{Whole, whole}
use Rattle.rim_file.proofs.Normals.{normal_1, normal_2}

-- ---- past the last record
module _ (s : List ℕ) (w : Whole s) (k : ℕ) (past : record_count s < k) where
  -- its bytes are past the end, where 0 is read
  byte_past : (i : ℕ) → offset s k ≤ i → get_or s i 0 ≡ 0
  byte_past i h = get_or-eq_default s 0 {n = i} (omega (arith, w.records, mul-le-mul_left {m = record_count s} {n = k - 1} (record_size_of s) (omega arith)))

  number_past : (i : ℕ) → offset s k ≤ i → i16_at s i ≡ signed16 0
  number_past i h = let z : u16_at s i ≡ 0 = omega (arith, byte_past i h, byte_past (i + 1) (omega arith)) in ap signed16 z

  normal_past : normal_in s (offset s k) ≡ no_normal
  normal_past = by (is_edition2 s) refl
    where
      by : (b : Bool) → is_edition2 s ≡ b → normal_in s (offset s k) ≡ no_normal
      by false e = normal_1 s (offset s k) e
      by true e =
          let x = number_past (offset s k + 16) (omega arith) in
          let y = number_past (offset s k + 18) (omega arith) in
          let z = number_past (offset s k + 20) (omega arith) in
          normal_2 s (offset s k) e ∙ (λ i. normal (x i) (y i) (z i))

module _ {s t : List ℕ} (same : SameRim s t) where
  -- ---- each record, whatever its number: the bytes and the normal agree
  -- number 0 stands for no record, and what is read there is record 1
  numbered : (C : ℕ → Type 0) → (C 1 → C 0) → ((k : ℕ) → 0 < k → C k) → (k : ℕ) → C k
  numbered C back on zero = back (on 1 (omega arith))
  numbered C back on (suc k) = on (suc k) (omega arith)

  byte : (k j : ℕ) → j < record_size1 → get_or s (offset s k + j) 0 ≡ get_or t (offset t k + j) 0
  byte k j h = numbered (λ k. get_or s (offset s k + j) 0 ≡ get_or t (offset t k + j) 0) (λ e. e) there k
    where
      there : (k : ℕ) → 0 < k → get_or s (offset s k + j) 0 ≡ get_or t (offset t k + j) 0
      there k p = by (ltb (record_count s) k) refl
        where
          by : (b : Bool) → ltb (record_count s) k ≡ b → get_or s (offset s k + j) 0 ≡ get_or t (offset t k + j) 0
          by false e = same.bytes k j p (ltb-false (record_count s) k e) h
          by true e =
              let over = ltb-true (record_count s) k e in
              byte_past s (whole s same.right) k over (offset s k + j) (omega arith)
              ∙ sym (byte_past t (whole t same.right') k (omega (arith, same.count)) (offset t k + j) (omega arith))

  pub normal_agree : (k : ℕ) → normal_in s (offset s k) ≡ normal_in t (offset t k)
  normal_agree = numbered (λ k. normal_in s (offset s k) ≡ normal_in t (offset t k)) (λ e. e) there
    where
      there : (k : ℕ) → 0 < k → normal_in s (offset s k) ≡ normal_in t (offset t k)
      there k p = by (ltb (record_count s) k) refl
        where
          by : (b : Bool) → ltb (record_count s) k ≡ b → normal_in s (offset s k) ≡ normal_in t (offset t k)
          by false e = same.normals k p (ltb-false (record_count s) k e)
          by true e =
              let over = ltb-true (record_count s) k e in
              normal_past s (whole s same.right) k over ∙ sym (normal_past t (whole t same.right') k (omega (arith, same.count)))

  -- ---- its numbers
  next_byte : (k j i : ℕ) → j + i < record_size1 → get_or s (offset s k + j + i) 0 ≡ get_or t (offset t k + j + i) 0
  next_byte k j i h =
      let a : offset s k + j + i ≡ offset s k + (j + i) = omega arith in
      let b : offset t k + (j + i) ≡ offset t k + j + i = omega arith in
      ap (λ (n : ℕ). get_or s n 0) a ∙ byte k (j + i) h ∙ ap (λ (n : ℕ). get_or t n 0) b

  pub next_agree : (k : ℕ) → next_record s (offset s k) ≡ next_record t (offset t k)
  next_agree k =
      let a : offset s k ≡ offset s k + 0 = omega arith in
      let b : offset t k + 0 ≡ offset t k = omega arith in
      omega (arith, ap (λ (n : ℕ). get_or s n 0) a ∙ byte k 0 (omega arith) ∙ ap (λ (n : ℕ). get_or t n 0) b, byte k 1 (omega arith))

  pub kind_agree : (k : ℕ) → kind s (offset s k) ≡ kind t (offset t k)
  kind_agree k = omega (arith, byte k 2 (omega arith), next_byte k 2 1 (omega arith))

  u32_agree : (k j : ℕ) → j + 3 < record_size1 → u32_at s (offset s k + j) ≡ u32_at t (offset t k + j)
  u32_agree k j h = omega (arith, byte k j (omega arith), next_byte k j 1 (omega arith), next_byte k j 2 (omega arith), next_byte k j 3 (omega arith))

  pub float_agree : (k j : ℕ) → j + 3 < record_size1 → of_bits binary32 (u32_at s (offset s k + j)) ≡ of_bits binary32 (u32_at t (offset t k + j))
  float_agree k j h = ap (of_bits binary32) (u32_agree k j h)

  pub record_agree : (k : ℕ) (kn : Bool) → record_at s (offset s k) kn ≡ record_at t (offset t k) kn
  unfolding record_at
  record_agree k kn =
      let m = kind_agree k in
      let x = float_agree k 4 (omega arith) in
      let y = float_agree k 8 (omega arith) in
      let z = float_agree k 12 (omega arith) in
      let u = u32_agree k 12 (omega arith) in
      λ i.
      cond (eqb (m i) 1)
      (Ok (Point (record { x = x i; y = y i; z = z i })))
      (cond (eqb (m i) 2)
      (cond kn
      (cond (eqb (u i) 0) (Ok (Level (x i) (y i))) (Err (refusal 8)))
      (Err (refusal 7)))
      (Err (refusal 6)))
