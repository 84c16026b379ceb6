-- A loop that writes a list into a table in order, by what is left to write. Assumes nothing.
use mathlib.Core.Path.{◌≡◌, refl, sym, ◌∙◌, ap, subst}
use mathlib.Core.List.{List, [], ◌∷◌, ◌++◌, append_assoc, append-nil, map}
use Prim.Native.Nat.{ℕ, suc, ◌+◌, ◌-◌, ◌≤◌, ◌<◌}
use native.Mathlib.Nat.{le_trans, le_refl}
use native.Mathlib.Numerals.{add-one}
use native.Mathlib.Omega.{arith}
use borrow.Author.Tests.{le-leb, lt-leb}
use lib.ListN.{get_or-append, length, take, drop, set, get_or, drop_of_length-le, length-append, length-set, take-append-drop, length-drop}
use lib.Seq.{length-take-le, drop-cons, take-suc-set, drop-set-lt, drop-drop, drop_at, take_at, set-append_seam}
use Rattle.lists.specs.Lists.{filled, first_places}
use Rattle.lists.proofs.Choice.{yes, no}

module _ {A : Type 0} where
  -- the first `count` places of `out` and then `rest` make up `total`; from `count` on `out` is as `out₀`
  pub record Writing (total rest out₀ : List A) (count₀ : ℕ) (out : List A) (count : ℕ) : Type 0 where
    pub done : take count out ++ rest ≡ total
    pub room : length total ≤ length out
    pub kept : drop count out ≡ drop count out₀
    pub more : count₀ ≤ count
    pub long : length out ≡ length out₀
    pub within : count ≤ length out

  pub start : (total o : List A) → length total ≤ length o → Writing total total o 0 o 0
  start total o h = record { done = refl; room = h; kept = refl; more = le_refl 0; long = refl; within = omega arith }

  pub turn : {total rest rest' out₀ out : List A} {count₀ count : ℕ} → rest ≡ rest' → Writing total rest out₀ count₀ out count →
      Writing total rest' out₀ count₀ out count
  turn {total} {out₀ = o} {out = p} {count₀ = a} {count = b} e s = subst (λ (r : List A). Writing total r o a p b) e s

  -- into a loop inside
  pub enter : {total rest rest' out₀ out : List A} {count₀ count : ℕ} → rest ≡ rest' → Writing total rest out₀ count₀ out count →
      Writing total rest' out count out count
  enter {out = o} {count = n} e s = turn e (record { done = s.done; room = s.room; kept = refl; more = le_refl n; long = refl; within = s.within })

  drop_more : (a b : ℕ) (x y : List A) → a ≤ b → drop a x ≡ drop a y → drop b x ≡ drop b y
  drop_more a b x y h e =
      let w : a + (b - a) ≡ b = omega arith in
      sym (drop-drop (b - a) a x ∙ ap (λ (n : ℕ). drop n x) w) ∙ ap (λ (l : List A). drop (b - a) l) e ∙ drop-drop (b - a) a y ∙ ap (λ (n : ℕ). drop n y) w

  -- out of it again
  pub leave : {total rest rest' rest'' o₀ o o' : List A} {n₀ n n' : ℕ} → rest' ≡ rest'' → Writing total rest o₀ n₀ o n → Writing total rest' o n o' n' →
      Writing total rest'' o₀ n₀ o' n'
  leave {o₀ = x} {o = y} {n = n} {n' = m} e s t = turn e (record {
    done = t.done;
    room = t.room;
    kept = t.kept ∙ drop_more n m y x t.more s.kept;
    more = le_trans s.more t.more;
    long = t.long ∙ s.long;
    within = t.within;
  })

  -- one more is written
  pub place : {total rest o₀ o : List A} {n₀ n : ℕ} {x : A} → Writing total (x ∷ rest) o₀ n₀ o n → n < length o
  place {total} {rest} {o = o} {n = n} {x = x} s =
      let a = length-append (take n o) (x ∷ rest) in
      let b = length-take-le n o s.within in
      let e = ap length s.done in
      let r = s.room in
      omega arith

  pub push : {total rest o₀ o : List A} {n₀ n : ℕ} {x : A} → Writing total (x ∷ rest) o₀ n₀ o n → Writing total rest o₀ n₀ (set o n x) (n + 1)
  push {total} {rest} {o₀} {o} {n₀} {n} {x} s =
      let h : n < length o = place s in
      record {
        done = ap (λ (m : ℕ). take m (set o n x) ++ rest) (add-one n) ∙ ap (λ (l : List A). l ++ rest) (take-suc-set o n x h)
            ∙ append_assoc (take n o) (x ∷ []) rest ∙ s.done;
        room = le_trans s.room (omega (arith, length-set o n x));
        kept = ap (λ (m : ℕ). drop m (set o n x)) (add-one n) ∙ drop-set-lt (suc n) o n x (omega arith)
            ∙ drop_more n (suc n) o o₀ (omega arith) s.kept ∙ ap (λ (m : ℕ). drop m o₀) (sym (add-one n));
        more = le_trans s.more (omega arith);
        long = length-set o n x ∙ s.long;
        within = omega (arith, length-set o n x);
      }

  -- where ways meet: the table and the count are said to be those of the way taken
  pub moved : {total rest o₀ o o' : List A} {n₀ n n' : ℕ} → o ≡ o' → n ≡ n' → Writing total rest o₀ n₀ o' n' → Writing total rest o₀ n₀ o n
  moved {total} {rest} {o₀} {o} {o'} {n₀} {n} {n'} e d s =
      subst (λ (x : List A). Writing total rest o₀ n₀ x n) (sym e) (subst (λ (k : ℕ). Writing total rest o₀ n₀ o' k) (sym d) s)

  -- all is written
  pub all : {total o₀ o : List A} {n₀ n : ℕ} → Writing total [] o₀ n₀ o n → (n ≡ length total) × (o ≡ filled total o₀)
  all {total} {o₀} {o} {n₀} {n} s =
      let t : take n o ≡ total = sym (append-nil (take n o)) ∙ s.done in
      let e : n ≡ length total = sym (length-take-le n o s.within) ∙ ap length t in
      (e, sym (take-append-drop n o) ∙ (λ i. t i ++ s.kept i) ∙ ap (λ (m : ℕ). total ++ drop m o₀) e)

  -- a filled table's length, and its first places
  pub filled_length : (l t : List A) → length l ≤ length t → length (filled l t) ≡ length t
  filled_length l t h = length-append l (drop (length l) t) ∙ omega (arith, length-drop (length l) t)

  pub filled_at : (l t : List A) (i : ℕ) (d : A) → i < length l → get_or (filled l t) i d ≡ get_or l i d
  filled_at l t i d h = get_or-append l (drop (length l) t) d i h

  -- one place more is filled
  pub filled_next : (l t : List A) (x : A) (n : ℕ) → n ≡ length l → n < length t → set (filled l t) n x ≡ filled (l ++ (x ∷ [])) t
  filled_next l t x n e h =
      let longer : suc (length l) ≡ length (l ++ (x ∷ [])) = omega (arith, length-append l (x ∷ [])) in
      ap (λ (m : ℕ). set (filled l t) m x) e
      ∙ ap (λ (r : List A). set (l ++ r) (length l) x) (drop-cons t (length l) x (omega arith))
      ∙ set-append_seam l (get_or t (length l) x) (drop (suc (length l)) t) x
      ∙ sym (append_assoc l (x ∷ []) (drop (suc (length l)) t))
      ∙ ap (λ (m : ℕ). (l ++ (x ∷ [])) ++ drop m t) longer

  pub filled_take : (l t : List A) (n : ℕ) → n ≡ length l → take n (filled l t) ≡ l
  filled_take l t n e = take_at l (drop (length l) t) n (sym e)

-- a list that is passed from the front
pub rest_step : {A B : Type 0} (f : A → B) (l : List A) (i : ℕ) (d : A) → i < length l → map f (drop i l) ≡ f (get_or l i d) ∷ map f (drop (i + 1) l)
rest_step f l i d h = ap (λ x. map f x) (drop-cons l i d h ∙ ap (λ (k : ℕ). get_or l i d ∷ drop k l) (sym (add-one i)))

pub rest_end : {A B : Type 0} (f : A → B) (l : List A) (i : ℕ) → length l ≤ i → map f (drop i l) ≡ []
rest_end f l i h = ap (λ x. map f x) (drop_of_length-le l h)

pub map_same : {A : Type 0} (l : List A) → map (λ x. x) l ≡ l
map_same [] = refl
map_same (x ∷ l) = ap (λ t. x ∷ t) (map_same l)

-- a list over another of its length
pub filled_over : {A : Type 0} (l k t : List A) → length l ≡ length k → filled l (filled k t) ≡ filled l t
filled_over l k t e = ap (λ x. l ++ x) (drop_at k (drop (length k) t) (length l) (sym e) ∙ ap (λ (n : ℕ). drop n t) (sym e))

-- the first places of a table that was filled
pub taken : {A : Type 0} (l t : List A) {b : List A} {m : ℕ} → m ≡ length l → b ≡ filled l t → take m b ≡ l
taken l t {m = m} e d = ap (λ x. take m x) d ∙ filled_take l t m e

pub filled_room : {A : Type 0} (l t : List A) {b : List A} {m : ℕ} → m ≡ length l → b ≡ filled l t → m ≤ length b
filled_room l t e d = omega (arith, e, ap length d ∙ length-append l (drop (length l) t))

-- the first places handed back as a part
pub first_places_lem : {A : Type 0} {m n : ℕ} (t : List A) → m ≡ n → m ≤ length t → take m t ≡ first_places n t
first_places_lem {m = m} t e h = sym (yes (take m t) [] (le-leb m (length t) h)) ∙ ap (λ (k : ℕ). first_places k t) e

pub no_places_lem : {A : Type 0} {m n : ℕ} (t : List A) → m ≡ n → length t < m → [] ≡ first_places n t
no_places_lem {m = m} t e h = sym (no (take m t) [] (lt-leb m (length t) h)) ∙ ap (λ (k : ℕ). first_places k t) e

-- and those of a table that was filled
pub filled_first : {A : Type 0} (l t : List A) → first_places (length l) (filled l t) ≡ l
filled_first l t = sym (first_places_lem (filled l t) refl (filled_room l t {m = length l} refl refl)) ∙ filled_take l t (length l) refl
