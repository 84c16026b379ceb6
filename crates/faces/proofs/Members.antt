-- What stands in a list of triples. Assumes nothing.
use mathlib.Core.Path.{◌≡◌}
use mathlib.Core.Bool.{Bool, true}
use mathlib.Core.List.{List, Memᴰ}
use Prim.Native.Nat.{ℕ, ◌+◌, ◌<◌}
use native.Mathlib.Omega.{arith}
use Rattle.lists.proofs.Members.{over_member, over_put, when_member, when_put}
use Rattle.terms.specs.Entries.{triple}
use Rattle.faces.specs.Faces.{triples_of}

-- a triple of n vertices, in ascending order, for which P holds
pub record Triple (n : ℕ) (P : ℕ → ℕ → ℕ → Bool) (t : List ℕ) : Type 0 where
  pub a : ℕ
  pub b : ℕ
  pub c : ℕ
  pub is : t ≡ triple a b c
  pub a<b : a < b
  pub b<c : b < c
  pub c<n : c < n
  pub holds_of : P a b c ≡ true

module _ (n : ℕ) (P : ℕ → ℕ → ℕ → Bool) where
  -- exactly the triples for which P holds stand in the list
  pub triples_member : (t : List ℕ) → Memᴰ t (triples_of n P) → Triple n P t
  triples_member t m =
      let wa = over_member 0 n _ t m in
      let wb = over_member (wa.at + 1) n _ t wa.member in
      let wc = over_member (wb.at + 1) n _ t wb.member in
      let e = when_member (P wa.at wb.at wc.at) (triple wa.at wb.at wc.at) t wc.member in
      record {
        a = wa.at;
        b = wb.at;
        c = wc.at;
        is = e.1;
        a<b = omega (arith, wb.low);
        b<c = omega (arith, wc.low);
        c<n = wc.high;
        holds_of = e.0;
      }

  pub triples_put : (a b c : ℕ) → a < b → b < c → c < n → P a b c ≡ true → Memᴰ (triple a b c) (triples_of n P)
  triples_put a b c h k l e =
      over_put 0 n a _ (triple a b c) (omega arith) (omega arith)
      (over_put (a + 1) n b _ (triple a b c) (omega arith) (omega arith)
      (over_put (b + 1) n c _ (triple a b c) (omega arith) l (when_put (triple a b c) e)))
