-- A seven-bit number with its padding (02, Req 06: "The 7-bit reader is to say, besides value and bytes read, how many bytes were more than the shortest form has"). Assumes nothing.
use Rattle.std.specs.Prelude.{◌≡◌, Result, Ok, Err, ℕ, ◌-◌, length}
use Rattle.std.proofs.Common.{ap}
use Rattle.laws.specs.Small.{differ}
use Rattle.layout.specs.Shortest.{shortest}
use Rattle.reading.specs.Answer.{Answer, read, refused}
use Rattle.numbers.specs.declared.seven.Padded.{Padded}
use Rattle.answers.specs.declared.Refusal.{Refusal}

-- the value of a number that was read, where it ends if it starts at `at`, and its bytes beyond the shortest form
unfoldable pub number_of : Answer ℕ → ℕ
number_of (refused number place) = 0
number_of (read n next) = n

unfoldable pub past : Answer ℕ → (at : ℕ) → ℕ
past (refused number place) at = at
past (read n next) at = next

unfoldable pub pad_of : Answer ℕ → (at : ℕ) → ℕ
pad_of (refused number place) at = 0
pad_of (read n next) at = next - at - length (shortest n)

-- a number with a padding beside it
abbrev pub beside : (padding : ℕ) → Answer ℕ → Answer (ℕ × ℕ)
beside padding (refused number place) = refused number place
beside padding (read n next) = read (n, padding) next

-- the number that starts at `at`, with its padding
abbrev pub padded : (at : ℕ) → Answer ℕ → Answer (ℕ × ℕ)
padded at x = beside (pad_of x at) x

-- what an answer of the code tells: the value and the padding, or 01's number and place
abbrev pub told_padded : Result Padded Refusal → Answer (ℕ × ℕ)
told_padded (Ok r) = read (r.value, r.padding) r.next
told_padded (Err e) = refused e.number e.place

-- a number that was read with its padding was read, and one that was refused was refused
pub number_read : (at : ℕ) (x : Answer ℕ) {n e p : ℕ} → read (n, p) e ≡ padded at x → (x ≡ read n e) × (p ≡ pad_of x at)
number_read at (refused m q) w = differ cc
number_read at (read m f) {n} {e} {p} w =
    let z : e ≡ f = cc in
    let v : ◌≡◌ {A = ℕ × ℕ} (n, p) (m, pad_of (read m f) at) = cc in
    (rw (z, ap (λ (y : ℕ × ℕ). y.0) v), ap (λ (y : ℕ × ℕ). y.1) v)

pub number-refused : (at : ℕ) (x : Answer ℕ) {n p : ℕ} → refused n p ≡ padded at x → x ≡ refused n p
number-refused at (refused m q) {n} {p} w =
    let e₁ : m ≡ n = cc in
    let e₂ : q ≡ p = cc in
    rw (e₁, e₂)
number-refused at (read m f) w = differ cc
