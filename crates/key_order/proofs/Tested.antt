-- An order of keys that was tested: it has every number and rises. Assumes nothing.
use Rattle.std.specs.Prelude.{◌≡◌, refl, Bool, true, false, List, ℕ, suc, ◌+◌, ◌<◌, length, get_or, ltb, eqb}
use Rattle.std.proofs.Common.{sym, inl, inr, arith, ltb-true, Ordering, Equal, Greater}
use Rattle.std.specs.Ordering.{nat_cmp, ordering_then, is_lt}
use Rattle.std.proofs.Common as std
use Rattle.std.specs.List.{IsAllAdjacentAnswer}
use Rattle.laws.specs.Small.{differ}
use Rattle.table.specs.declared.Grid.{Grid}
use Rattle.text_order.specs.Ordered.{order_of, same_means}
use Rattle.key_order.specs.Texts.{rank_of, key_text, KeyBefore, Rises, Covers, KeyCertificate}

number_below : (a b : ℕ) → is_lt (nat_cmp a b) ≡ true → a < b
number_below a b e = go (ltb a b) refl (eqb a b) refl where
  go : (t : Bool) → ltb a b ≡ t → (u : Bool) → eqb a b ≡ u → a < b
  go true p u q = ltb-true a b p
  go false p true q = differ cc
  go false p false q = differ cc

module _ (file : List ℕ) (g : Grid) (table keys : List ℕ) where
  pub before_by_rank : (a b : ℕ) → is_lt (rank_of (key_text file g table keys) a b) ≡ true → KeyBefore file g table keys a b
  before_by_rank a b e = go (order_of (key_text file g table keys a) (key_text file g table keys b)) refl e where
    go : (o : Ordering) → order_of (key_text file g table keys a) (key_text file g table keys b) ≡ o → is_lt (ordering_then o (nat_cmp a b)) ≡ true → KeyBefore file g table keys a b
    go std.Less p e = inl p
    go Equal p e = inr (same_means (key_text file g table keys a) (key_text file g table keys b) p, number_below a b e)
    go Greater p e = differ cc

  pub certificate : (n : ℕ) (order of : List ℕ) → Covers n order of → Rises file g table keys order n → KeyCertificate file g table keys n order
  certificate n order of c r = record {
    of = λ i. get_or of i 0;
    inside = λ i h. (c i h).0;
    covers = λ i h. (c i h).1;
    rises = r;
  }

  pub rises_by_rank : (order : List ℕ) (r : Bool) → IsAllAdjacentAnswer (λ x y b. b ≡ is_lt (rank_of (key_text file g table keys) x y)) order r → r ≡ true → Rises file g table keys order (length order)
  rises_by_rank order true w e j h =
      let z : j + 1 ≡ suc j = omega arith in
      before_by_rank (get_or order j 0) (get_or order (suc j) 0) (rw z at (sym (w j 0 (omega arith))))
  rises_by_rank order false w e j h = differ cc
