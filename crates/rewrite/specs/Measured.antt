-- A seven-bit number in a file, measured: its value, its bytes beyond the shortest form, and where it ends. Assumes nothing.
use Rattle.std.specs.Prelude.{◌≡◌, refl, List, ◌∷◌, ℕ, ◌+◌, ◌*◌, ◌-◌, ◌<◌, ◌≤◌, ◌^◌, max, length}
use Rattle.std.proofs.Common.{sym, ◌∙◌, arith}
use Rattle.std.proofs.Math.Path.{ap}
use Rattle.reading.specs.Answer.{Answer, refused, read}
use Rattle.reading.specs.Reads.{Small}
use Rattle.reading.specs.Seven.{seven_at, seven_next}
use Rattle.numbers.specs.Padded.{number_of, past, pad_of}
use Rattle.places.specs.Places.{entries_places, entries_end}
use Rattle.numbers.specs.declared.seven.Padded.{Padded}
use Rattle.rewrite.specs.Steps.{next_entry, no_entry}

unfoldable pub measure_of : Answer ℕ → (at : ℕ) → Padded
measure_of x at = record { value = number_of x; padding = pad_of x at; next = past x at }

-- what the code answers for a number that is not there, and for one that is
pub measured-none : (x : Answer ℕ) (at : ℕ) {n p : ℕ} → x ≡ refused n p → ◌≡◌ {A = Padded} (record { value = 0; padding = 0; next = at }) (measure_of x at)
unfolding measure_of number_of past pad_of
measured-none x at e = rw e

pub measured-read : (x : Answer ℕ) (at : ℕ) {n e padding : ℕ} → (x ≡ read n e) × (padding ≡ pad_of x at) → ◌≡◌ {A = Padded} (record { value = n; padding = padding; next = e }) (measure_of x at)
unfolding measure_of number_of past
measured-read x at {n} {e} {padding} w = ap (λ (p : ℕ). record { value = n; padding = p; next = e }) w.1 ∙ ap (λ (y : Answer ℕ). record { value = number_of y; padding = pad_of x at; next = past y at }) (sym w.0)

-- how large what was measured can be
measured-small : (file : List ℕ) → Small file → (at : ℕ) → (number_of (seven_at file at) < 2 ^ 32) × (past (seven_at file at) at + number_of (seven_at file at) ≤ max at (length file + 2 ^ 32))
unfolding number_of past
measured-small file small at = go (seven_at file at) refl where
  go : (x : Answer ℕ) → seven_at file at ≡ x → (number_of x < 2 ^ 32) × (past x at + number_of x ≤ max at (length file + 2 ^ 32))
  go (refused n p) e = (omega arith, omega arith)
  go (read n e) q = let b = seven_next file small at q in (b.2, omega (arith, b.1, b.2))

module _ (file : List ℕ) (small : Small file) where
  -- what was measured at a place
  pub record Found (at : ℕ) (m : Padded) : Type 0 where
    pub value_is : m.value ≡ number_of (seven_at file at)
    pub next_is : m.next ≡ past (seven_at file at) at
    pub padding_is : m.padding ≡ pad_of (seven_at file at) at
    pub end_small : m.next + m.value ≤ max at (length file + 2 ^ 32)

  pub found : (at : ℕ) (m : Padded) → m ≡ measure_of (seven_at file at) at → Found at m
  unfolding measure_of
  found at m e =
      let b = measured-small file small at in
      let v : m.value ≡ number_of (seven_at file at) = ap (λ (x : Padded). x.value) e in
      let n : m.next ≡ past (seven_at file at) at = ap (λ (x : Padded). x.next) e in
      let p : m.padding ≡ pad_of (seven_at file at) at = ap (λ (x : Padded). x.padding) e in
      record { value_is = v; next_is = n; padding_is = p; end_small = rw (v, n) b.1 }

  -- how far the readers are passed: so many are left, the first of them at `place`
  pub record Passed (readers at left place : ℕ) : Type 0 where
    pub few : left ≤ readers
    pub readers_fit : readers < 2 ^ 32
    pub ends : entries_end file left place ≡ entries_end file readers at
    pub place_small : place ≤ 2 ^ 33 + 4 * (readers - left)

  pub none_passed : (readers at : ℕ) → readers < 2 ^ 32 → at ≤ 2 ^ 33 → Passed readers at readers at
  none_passed readers at f h = record { few = omega arith; readers_fit = f; ends = refl; place_small = omega arith }

  pub all_passed : (readers at left place : ℕ) → left ≤ 0 → Passed readers at left place → place ≡ entries_end file readers at
  all_passed readers at left place h a = sym (no_entry file left place h).1 ∙ a.ends

  module _ (readers at left place : ℕ) (m : Padded) (short : length file ≤ 16777216) (e : m ≡ measure_of (seven_at file place) place) (a : Passed readers at left place) where
    -- what the code adds up does not overflow
    pub end_fits : m.next + m.value + 4 < 2 ^ 64
    end_fits = let f = found place m e in omega (arith, a.place_small, a.readers_fit, f.end_small)

    entry-end : m.next + m.value + 4 ≡ past (seven_at file place) place + number_of (seven_at file place) + 4
    entry-end = let f = found place m e in omega (arith, f.value_is, f.next_is)

    module _ (h : 0 < left) where
      pub one_passed : Passed readers at (left - 1) (m.next + m.value + 4)
      one_passed =
          let f = found place m e in
          record {
            few = omega (arith, a.few);
            readers_fit = a.readers_fit;
            ends = rw entry-end (sym (next_entry file left place h).1 ∙ a.ends);
            place_small = omega (arith, a.place_small, a.few, f.end_small);
          }

      pub rest_places : entries_places file left place ≡ place ∷ entries_places file (left - 1) (m.next + m.value + 4)
      rest_places = rw entry-end (next_entry file left place h).0
