-- Where no mark can start: parts of a pack without its first byte. Assumes nothing.
use mathlib.Core.Path.{◌≡◌}
use mathlib.Core.List.{List}
use Prim.Native.Nat.{ℕ, ◌+◌, ◌-◌, ◌≤◌, ◌<◌}
use native.Mathlib.Omega.{arith}
use native.Mathlib.Decide.{dec_lt}
use lib.ListN.{length, get_or}
use Rattle.salvage.specs.Salvaging.{NoLead}

module _ (pack : List ℕ) where
  pub none_yet : (from : ℕ) → from ≤ length pack → NoLead pack from from
  none_yet from h = record { forward = omega arith; inside = h; none = λ i p q e. absurd (omega (arith, p, q)) }

  pub one_more : {from i : ℕ} → NoLead pack from i → i < length pack → (get_or pack i 0 ≡ 0xFD → ⊥) → NoLead pack from (i + 1)
  one_more {from} {i} w h other = record { forward = omega (arith, w.forward); inside = omega arith; none = λ j p q e. here j p q e (dec_lt j i) } where
    here : (j : ℕ) → from ≤ j → j < i + 1 → get_or pack j 0 ≡ 0xFD → Dec (j < i) → ⊥
    here j p q e (yes k) = w.none j p k e
    here j p q e (no k) = let s : j ≡ i = omega arith in other (rw s at e)

  pub onward : {from i to : ℕ} → NoLead pack from i → NoLead pack i to → NoLead pack from to
  onward {from} {i} {to} v w = record { forward = omega (arith, v.forward, w.forward); inside = w.inside; none = λ j p q e. here j p q e (dec_lt j i) } where
    here : (j : ℕ) → from ≤ j → j < to → get_or pack j 0 ≡ 0xFD → Dec (j < i) → ⊥
    here j p q e (yes k) = v.none j p k e
    here j p q e (no k) = w.none j (omega arith) q e

  -- 32 bytes none of which is FD
  pub block : (from : ℕ) → from + 32 ≤ length pack → ((k : ℕ) → k < 32 → get_or pack (from + k) 0 ≡ 0xFD → ⊥) → NoLead pack from (from + 32)
  block from h f = record {
    forward = omega arith;
    inside = h;
    none = λ i p q e. let z : i ≡ from + (i - from) = omega arith in f (i - from) (omega arith) (rw z at e);
  }
