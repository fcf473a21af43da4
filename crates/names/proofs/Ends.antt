-- Two texts compared from their ends on. Assumes nothing.
use mathlib.Core.Path.{◌≡◌, refl, sym, ap, ◌∙◌}
use mathlib.Core.Bool.{true, false, true≢false}
use mathlib.Core.List.{List, [], ◌∷◌}
use Prim.Native.Nat.{ℕ, zero, suc, ◌+◌, ◌-◌, ◌<◌}
use native.Mathlib.Omega.{arith}
use lib.Dec.{eqb}
use lib.ListN.{length, take, drop, get_or}
use borrow.Author.Tests.{eq-eqb, eqb-true, eqb-false}
use Rattle.std.proofs.Common.{w64}
use Rattle.std.proofs.lemmas.Nat.{le_bytes_8}
use Rattle.std.specs.Int.{from_le_bytes, to_le_bytes}
use Rattle.layout.specs.Kind.{alike}
use Rattle.names.specs.Codes.{alike_then}
use Rattle.names.proofs.Lookup.{alike_apart}

-- a text is like itself
alike_self : (s : List ℕ) → true ≡ alike s s
unfolding alike
alike_self [] = refl
alike_self (b ∷ s) = rw (eq-eqb b b refl, sym (alike_self s))

-- a block of eight bytes
abbrev pub Block : List ℕ → Type 0
Block s = (length s ≡ 8) × ((i : ℕ) → get_or s i 0 < 256)

-- blocks are alike if their numbers are the same
pub numbers_tell : (a b : List ℕ) (m n : ℕ) → Block a → Block b → m ≡ from_le_bytes w64 a → n ≡ from_le_bytes w64 b → eqb m n ≡ alike a b
numbers_tell a b m n ab bb ma nb =
    elim (eqb m n) as (λ r. eqb m n ≡ r → r ≡ alike a b) [
      | true ↦ (λ e.
          let same : a ≡ b = sym (le_bytes_8 a m ab.0 ab.1 ma) ∙ ap (to_le_bytes w64) (eqb-true m n e) ∙ le_bytes_8 b n bb.0 bb.1 nb in
          alike_self a ∙ ap (alike a) same)
      | false ↦ (λ e. sym (alike_apart a b (λ q. eqb-false m n e (ma ∙ ap (from_le_bytes w64) (sym q) ∙ sym nb))))
    ] refl

-- texts that end alike are alike if what stands before is
fronts : (k : ℕ) (x y : List ℕ) → drop k x ≡ drop k y → alike (take k x) (take k y) ≡ alike x y
unfolding alike
fronts zero x y e = alike_self x ∙ ap (alike x) e
fronts (suc k) [] [] e = refl
fronts (suc k) [] (b ∷ y) e = refl
fronts (suc k) (a ∷ x) [] e = refl
fronts (suc k) (a ∷ x) (b ∷ y) e = rw (fronts k x y e)

-- what is left to compare is as good as the whole
pub record Left (a b x y : List ℕ) : Type 0 where
  pub size : length x ≡ length y
  pub same : alike x y ≡ alike a b

-- a text without its last eight bytes, and these
pub record Cut (s front end : List ℕ) : Type 0 where
  pub front_is : front ≡ take (length s - 8) s
  pub end_is : end ≡ drop (length s - 8) s
  pub size : length front + 8 ≡ length s

module _ {a b x y p q e f : List ℕ} (l : Left a b x y) (c : Cut x p e) (d : Cut y q f) where
  -- texts whose ends differ differ
  pub ends_differ : false ≡ alike e f → false ≡ alike a b
  ends_differ n =
      let whole : y ≡ x → e ≡ f = λ r. c.end_is ∙ ap (λ (s : List ℕ). drop (length s - 8) s) (sym r) ∙ sym d.end_is in
      sym (alike_apart x y (λ r. true≢false (alike_self e ∙ ap (alike e) (whole r) ∙ sym n))) ∙ l.same

  -- where they are the same, what stands before is left
  pub ends_same : true ≡ alike e f → Left a b p q
  ends_same n =
      let k = length x - 8 in
      let z : length y - 8 ≡ k = ap (λ (m : ℕ). m - 8) (sym l.size) in
      let ends : drop k x ≡ drop k y = sym c.end_is ∙ alike_then e f (sym n) ∙ d.end_is ∙ ap (λ (m : ℕ). drop m y) z in
      let front : q ≡ take k y = d.front_is ∙ ap (λ (m : ℕ). take m y) z in
      record {
        size = omega (arith, l.size, c.size, d.size);
        same = ap (λ (s : List ℕ). alike s q) c.front_is ∙ ap (alike (take k x)) front ∙ fronts k x y ends ∙ l.same;
      }
