-- The String keys of a dictionary, and the places of those that repeat an earlier one. Assumes nothing.
use Rattle.std.specs.Prelude.{◌≡◌, Bool, ◌&&◌, ◌||◌, cond, ◌⊎◌, Option}
use Rattle.std.proofs.Math.Path.{refl, sym, ap}
use Rattle.std.proofs.Common.{◌∙◌}
use Rattle.std.proofs.Math.Bool.{true, false}
use mathlib.Core.List.{List, [], ◌∷◌}
use Rattle.std.proofs.Math.Logic.{inl, inr}
use Prim.Native.Nat.{ℕ, suc, ◌+◌, ◌/◌, ◌<◌, ◌≤◌}
use native.Mathlib.Omega.{arith}
use Rattle.std.proofs.Math.Dec.{eqb}
use Rattle.std.proofs.Math.ListN.{length}
use borrow.Author.Tests.{eqb-true, eqb-false, eq-eqb}
use Rattle.laws.specs.Small.{differ}
use Rattle.layout.specs.Rows.{Row}
use Rattle.reading.specs.Same.{same, same_sound, same_complete}
use Rattle.profile.specs.Stand.{text_of}
use Rattle.profile.specs.Offences.{wrong_at, key_rows, twin, repeats, twins}
use Rattle.fault_places.specs.Places.{lowest_place, Lowest, lowest-alike, Among, among-append, append-among, wrong-among, among-wrong, lowest_is}
use Rattle.key_repeats.specs.Hits.{Repeats, Pair}

-- those of kind 13
abbrev pub if_string : Bool → Row → List Row → List Row
if_string true r rows = r ∷ rows
if_string false r rows = rows

unfoldable pub strings : List Row → List Row
strings [] = []
strings (r ∷ rows) = if_string (eqb r.kind 13) r (strings rows)

module _ (file : List ℕ) where
  -- one of some rows has a text
  unfoldable pub Has : (t : List ℕ) → List Row → Type 0
  Has t [] = ⊥
  Has t (q ∷ seen) = (text_of file q ≡ t) ⊎ Has t seen

  -- the place of one of some rows that has the text of an earlier one, or of one of those seen
  unfoldable pub Later : (seen rows : List Row) (p : ℕ) → Type 0
  Later seen [] p = ⊥
  Later seen (r ∷ rows) p = (Has (text_of file r) seen × (r.first ≡ p)) ⊎ Later (r ∷ seen) rows p

  -- ---- Twins are such rows among the String keys

  seen_has : (seen : List Row) (r : Row) → repeats file seen r ≡ true → (r.kind ≡ 13) × Has (text_of file r) (strings seen)
  unfolding repeats strings Has twin
  seen_has [] r e = differ cc
  seen_has (q ∷ seen) r e = go (eqb q.kind 13) (eqb r.kind 13) (same (text_of file q) (text_of file r)) refl refl refl e (λ f. seen_has seen r f) where
    go : (u v w : Bool) → eqb q.kind 13 ≡ u → eqb r.kind 13 ≡ v → same (text_of file q) (text_of file r) ≡ w → ((u && (v && w)) || repeats file seen r) ≡ true
        → (repeats file seen r ≡ true → (r.kind ≡ 13) × Has (text_of file r) (strings seen)) → (r.kind ≡ 13) × Has (text_of file r) (if_string u q (strings seen))
    go true true true a b c e f = (eqb-true r.kind 13 b, inl (same_sound (text_of file q) (text_of file r) c))
    go true true false a b c e f = let x = f e in (x.0, inr x.1)
    go true false w a b c e f = let x = f e in (x.0, inr x.1)
    go false v w a b c e f = f e

  has_seen : (seen : List Row) (r : Row) → r.kind ≡ 13 → Has (text_of file r) (strings seen) → repeats file seen r ≡ true
  unfolding repeats strings Has twin
  has_seen [] r k h = absurd h
  has_seen (q ∷ seen) r k h = go (eqb q.kind 13) refl h (λ f. has_seen seen r k f) where
    or_right : (a : Bool) → (a || true) ≡ true
    or_right true = refl
    or_right false = refl

    go : (u : Bool) → eqb q.kind 13 ≡ u → Has (text_of file r) (if_string u q (strings seen)) → (Has (text_of file r) (strings seen) → repeats file seen r ≡ true)
        → ((u && (eqb r.kind 13 && same (text_of file q) (text_of file r))) || repeats file seen r) ≡ true
    go true a (inl e) f = rw (eq-eqb r.kind 13 k, e, same_complete (text_of file r))
    go true a (inr h) f = rw (f h) (or_right (eqb r.kind 13 && same (text_of file q) (text_of file r)))
    go false a h f = f h

  pub twins-later : (seen keys : List Row) (p : ℕ) → Among p (twins file seen keys) → Later (strings seen) (strings keys) p
  unfolding twins strings Later Among
  twins-later seen [] p m = absurd m
  twins-later seen (r ∷ keys) p m = go (among-append p (wrong_at (repeats file seen r) r.first) (twins file (r ∷ seen) keys) m) (λ w. twins-later (r ∷ seen) keys p w) where
    go : Among p (wrong_at (repeats file seen r) r.first) ⊎ Among p (twins file (r ∷ seen) keys)
        → (Among p (twins file (r ∷ seen) keys) → Later (if_string (eqb r.kind 13) r (strings seen)) (strings keys) p) → Later (strings seen) (if_string (eqb r.kind 13) r (strings keys)) p
    go (inl w) f =
        let a = wrong-among (repeats file seen r) r.first p w in
        let b = seen_has seen r a.0 in
        rw (eq-eqb r.kind 13 b.0) (inl (b.1, a.1))
    go (inr w) f = rest (eqb r.kind 13) refl (f w) where
      rest : (b : Bool) → eqb r.kind 13 ≡ b → Later (if_string (eqb r.kind 13) r (strings seen)) (strings keys) p → Later (strings seen) (if_string b r (strings keys)) p
      rest true e l = inr (rw e at l)
      rest false e l = rw e at l

  pub later-twins : (seen keys : List Row) (p : ℕ) → Later (strings seen) (strings keys) p → Among p (twins file seen keys)
  unfolding twins strings Later
  later-twins seen [] p l = absurd l
  later-twins seen (r ∷ keys) p l = append-among p (wrong_at (repeats file seen r) r.first) (twins file (r ∷ seen) keys) (go (eqb r.kind 13) refl l (λ m. later-twins (r ∷ seen) keys p m)) where
    go : (b : Bool) → eqb r.kind 13 ≡ b → Later (strings seen) (if_string b r (strings keys)) p → (Later (if_string (eqb r.kind 13) r (strings seen)) (strings keys) p → Among p (twins file (r ∷ seen) keys))
        → Among p (wrong_at (repeats file seen r) r.first) ⊎ Among p (twins file (r ∷ seen) keys)
    go true e (inl h) f = inl (among-wrong (repeats file seen r) r.first p (has_seen seen r (eqb-true r.kind 13 e) h.0) h.1)
    go true e (inr h) f = inr (f (rw e h))
    go false e h f = inr (f (rw e h))

  -- ---- By numbers

  module _ (text : ℕ → List ℕ) (place : ℕ → ℕ) where
    -- texts and places from number n on are those of some rows
    unfoldable pub Ahead : (n : ℕ) → List Row → Type 0
    Ahead n [] = Unit {0}
    Ahead n (r ∷ rows) = (text n ≡ text_of file r) × (place n ≡ r.first) × Ahead (suc n) rows

    -- those below n are those seen
    pub record Behind (n : ℕ) (seen : List Row) : Type 0 where
      pub there : (t : List ℕ) → Has t seen → (h : ℕ) × (h < n) × (text h ≡ t)
      pub back : (h : ℕ) → h < n → Has (text h) seen

    behind_none : Behind 0 []
    unfolding Has
    behind_none = record { there = λ t x. absurd x; back = λ h l. absurd (omega arith) }

    behind_more : (n : ℕ) (seen : List Row) (r : Row) → text n ≡ text_of file r → Behind n seen → Behind (suc n) (r ∷ seen)
    unfolding Has
    behind_more n seen r e b = record { there = λ t x. go t x; back = λ h l. at h l (eqb h n) refl } where
      go : (t : List ℕ) → (text_of file r ≡ t) ⊎ Has t seen → (h : ℕ) × (h < suc n) × (text h ≡ t)
      go t (inl f) = (n, omega arith, e ∙ f)
      go t (inr x) = let y = b.there t x in (y.0, (let l = y.1 in omega arith), y.2)

      at : (h : ℕ) → h < suc n → (d : Bool) → eqb h n ≡ d → (text_of file r ≡ text h) ⊎ Has (text h) seen
      at h l true q = let z = eqb-true h n q in inl (sym e ∙ ap text (sym z))
      at h l false q = inr (b.back h (omega (arith, eqb-false h n q)))

    abbrev From : (n m p : ℕ) → Type 0
    From n m p = (i : ℕ) × (n ≤ i) × (i < m) × Repeats text place i × (place i ≡ p)

    later_from : (n : ℕ) (seen rows : List Row) (p : ℕ) → Behind n seen → Ahead n rows → Later seen rows p → From n (n + length rows) p
    unfolding Later Ahead
    later_from n seen [] p b a l = absurd l
    later_from n seen (r ∷ rows) p b a (inl l) = let x = b.there (text_of file r) l.0 in (n, omega arith, omega arith, (x.0, x.1, x.2 ∙ sym a.0), a.1 ∙ l.1)
    later_from n seen (r ∷ rows) p b a (inr l) =
        let x = later_from (suc n) (r ∷ seen) rows p (behind_more n seen r a.0 b) a.2 l in
        (x.0, (let h = x.1 in omega arith), (let h = x.2 in omega arith), x.3, x.4)

    from_later : (n : ℕ) (seen rows : List Row) (p : ℕ) → Behind n seen → Ahead n rows → From n (n + length rows) p → Later seen rows p
    unfolding Later Ahead
    from_later n seen [] p b a x = let h = x.1 in let l = x.2 in absurd (omega arith)
    from_later n seen (r ∷ rows) p b a (i, h, l, (k, m, t), e) = go (eqb i n) refl (λ f. from_later (suc n) (r ∷ seen) rows p (behind_more n seen r a.0 b) a.2 f) where
      go : (d : Bool) → eqb i n ≡ d → (From (suc n) (suc n + length rows) p → Later (r ∷ seen) rows p) → (Has (text_of file r) seen × (r.first ≡ p)) ⊎ Later (r ∷ seen) rows p
      go true q f =
          let z = eqb-true i n q in
          let u : text k ≡ text_of file r = t ∙ ap text z ∙ a.0 in
          inl (rw u at (b.back k (omega arith)), sym a.1 ∙ ap place (sym z) ∙ e)
      go false q f = inr (f (i, omega (arith, eqb-false i n q), omega arith, (k, m, t), e))

    -- the lowest place of n texts is that of the String keys whose texts they are
    pub keys-lowest : (keys : List Row) (n : ℕ) (r : Option ℕ) → length (strings keys) ≡ n → Ahead 0 (strings keys) → Lowest (Pair text place n) r → r ≡ lowest_place (twins file [] keys)
    unfolding strings
    keys-lowest keys n r e a l = lowest_is (twins file [] keys) r (lowest-alike (Pair text place n) (λ p. Among p (twins file [] keys)) r (λ p x. to p x) (λ p x. from p x) l) where
      to : (p : ℕ) → Pair text place n p → Among p (twins file [] keys)
      to p (i, h, x, q) = later-twins [] keys p (from_later 0 [] (strings keys) p behind_none a (i, omega arith, omega arith, x, q))

      from : (p : ℕ) → Among p (twins file [] keys) → Pair text place n p
      from p m = let x = later_from 0 [] (strings keys) p behind_none a (twins-later [] keys p m) in (x.0, (let h = x.2 in omega arith), x.3, x.4)

-- ---- Dictionaries one after the other

module _ (file : List ℕ) where
  -- the places of the keys of the first of some rows, if it is a dictionary
  unfoldable pub keys_fault : List Row → List ℕ
  keys_fault [] = []
  keys_fault (r ∷ rows) = cond (eqb r.kind 19) (twins file [] (key_rows ((r.children + 1) / 2) rows)) []
