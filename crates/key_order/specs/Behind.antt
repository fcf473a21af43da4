-- Bytes of the file behind a place, and behind a count. Assumes nothing.
use Rattle.std.specs.Prelude.{◌≡◌, refl, List, [], ◌∷◌, length, take, drop}
use Rattle.std.proofs.Common.{sym, ap, ◌∙◌, arith, length-drop, take_all}
use Prim.Native.Nat.{ℕ, zero, suc, ◌-◌, ◌≤◌}
use Rattle.std.proofs.Math.Seq.{drop-nil}
use Rattle.reading.specs.Answer.{refused, read}
use Rattle.reading.specs.Seven.{seven_at}
use Rattle.numbers.specs.Padded.{number_of, past}
use Rattle.profile.specs.Stand.{counted_text}
use Rattle.key_order.specs.RowText.{text_from}

nothing_behind : (l : List ℕ) (i : ℕ) → length l ≤ i → drop i l ≡ []
nothing_behind [] i h = drop-nil i
nothing_behind (x ∷ l) zero h = absurd (omega arith)
nothing_behind (x ∷ l) (suc i) h = nothing_behind l i (omega arith)

module _ (file : List ℕ) (start n : ℕ) where
  pub no_bytes : length file ≤ start → [] ≡ take n (drop start file)
  no_bytes h = sym (ap (take n) (nothing_behind file start h) ∙ take_all n [] (omega arith))

  pub bytes-rest : length file - start ≤ n → take (length file - start) (drop start file) ≡ take n (drop start file)
  bytes-rest l = take_all (length file - start) (drop start file) (omega (arith, length-drop start file)) ∙ sym (take_all n (drop start file) (omega (arith, length-drop start file)))

module _ (file : List ℕ) (at : ℕ) {r : List ℕ} where
  pub counted-refused : {k p : ℕ} → seven_at file at ≡ refused k p → r ≡ take 0 (drop at file) → r ≡ counted_text file (seven_at file at) at
  unfolding counted_text number_of past
  counted-refused e s = rw e s

  pub counted-read : {n next : ℕ} → seven_at file at ≡ read n next → r ≡ take n (drop next file) → r ≡ counted_text file (seven_at file at) at
  unfolding counted_text number_of past
  counted-read e s = rw e s

module _ (file : List ℕ) (first detail : ℕ) {r : List ℕ} where
  pub text-raw : detail ≡ 0 → r ≡ counted_text file (seven_at file first) first → r ≡ text_from file first detail
  unfolding text_from
  text-raw e s = rw e s

  pub text-object : {at : ℕ} → (detail ≡ 0 → ⊥) → at ≡ past (seven_at file first) first → r ≡ counted_text file (seven_at file at) at → r ≡ text_from file first detail
  unfolding text_from
  text-object n e s = go detail n (rw e at s) where
    go : (d : ℕ) → (d ≡ 0 → ⊥) → r ≡ counted_text file (seven_at file (past (seven_at file first) first)) (past (seven_at file first) first) → r ≡ text_from file first d
    go zero n s = absurd (n refl)
    go (suc i) n s = s
