-- What the header's tests say, in file order. Assumes nothing.
use mathlib.Core.Path.{◌≡◌, refl, sym, ap, ◌∙◌}
use mathlib.Core.Bool.{Bool, true, false}
use mathlib.Core.List.{List, ◌∷◌}
use lib.Seq.{drop-cons}
use Prim.Native.Nat.{ℕ, ◌≤◌, ◌<◌}
use native.Mathlib.Omega.{arith}
use lib.Dec.{ltb, leb, eqb}
use lib.ListN.{length, take, drop, get_or, length-drop}
use borrow.Author.Tests.{le-leb, lt-leb, le-ltb, lt-ltb, eq-eqb, ne_eqb, eqb-true, leb-true}
use Rattle.layout.specs.Number.{value_of}
use Rattle.std.specs.Prelude.{Ok, Err}
use Rattle.answers.specs.Refusals.{refusal}
use Rattle.reading.specs.Answer.{read, check}
use Rattle.reading.specs.Little.{little_at, little_there}
use Rattle.reading.specs.File.{is_platform, header_at}
use Rattle.header.specs.Header.{header_of}

-- bytes 6 to 9 are in a file of ten bytes
pub length-read : (file : List ℕ) → 10 ≤ length file → little_at file 4 6 6 ≡ read (value_of (take 4 (drop 6 file))) 10
length-read file h = little_there file 4 6 6 (omega (arith, length-drop 6 file, h))

-- the header of this file is refused
abbrev pub Refuses : List ℕ → (number place : ℕ) → Type 0
Refuses file number place = Err (refusal number place) ≡ header_of file

-- the tests passed: the size, then the letters, the platform, the version and the flags
abbrev pub Sized : List ℕ → Type 0
Sized file = (leb (length file) 16777216 ≡ true) × (leb 10 (length file) ≡ true)

abbrev pub Lettered : List ℕ → Type 0
Lettered file = Sized file × (eqb (get_or file 0 0) 0x58 ≡ true) × (eqb (get_or file 1 0) 0x4E ≡ true) × (eqb (get_or file 2 0) 0x42 ≡ true)

abbrev pub Placed : List ℕ → Type 0
Placed file = Lettered file × (is_platform (get_or file 3 0) ≡ true)

abbrev pub Versioned : List ℕ → Type 0
Versioned file = Placed file × (eqb (get_or file 4 0) 5 ≡ true)

abbrev pub Flagged : List ℕ → Type 0
Flagged file = Versioned file × (ltb (get_or file 5 0) 0x80 ≡ true) × (leb (get_or file 5 0) 1 ≡ true)

pub long : (file : List ℕ) → 16777216 < length file → Refuses file 9 0
unfolding header_at check
long file h = rw (lt-leb (length file) 16777216 h)

pub short : (file : List ℕ) → length file ≤ 16777216 → length file < 10 → Refuses file 1 0
unfolding header_at check
short file s h = rw (le-leb (length file) 16777216 s, lt-leb 10 (length file) h)

pub first_letters : (file : List ℕ) → Sized file → ((get_or file 0 0 ≡ 0x58) → (get_or file 1 0 ≡ 0x4E) → (get_or file 2 0 ≡ 0x42) → ⊥) → Refuses file 2 0
unfolding header_at check
first_letters file s h = go (eqb (get_or file 0 0) 0x58) (eqb (get_or file 1 0) 0x4E) (eqb (get_or file 2 0) 0x42) refl refl refl where
  go : (a b d : Bool) → eqb (get_or file 0 0) 0x58 ≡ a → eqb (get_or file 1 0) 0x4E ≡ b → eqb (get_or file 2 0) 0x42 ≡ d → Refuses file 2 0
  go false b d p q r = rw (s.0, s.1, p)
  go true false d p q r = rw (s.0, s.1, p, q)
  go true true false p q r = rw (s.0, s.1, p, q, r)
  go true true true p q r = absurd (h (eqb-true _ _ p) (eqb-true _ _ q) (eqb-true _ _ r))

-- a file starts with three letters where its first three bytes are these
spelled : (file : List ℕ) → 3 ≤ length file → file ≡ get_or file 0 0 ∷ get_or file 1 0 ∷ get_or file 2 0 ∷ drop 3 file
spelled file h =
    drop-cons file 0 0 (omega arith)
    ∙ ap (λ (l : List ℕ). get_or file 0 0 ∷ l) (drop-cons file 1 0 (omega arith) ∙ ap (λ (l : List ℕ). get_or file 1 0 ∷ l) (drop-cons file 2 0 (omega arith)))

pub not_spelled : (file : List ℕ) → Sized file → (0x58 ∷ 0x4E ∷ 0x42 ∷ drop 3 file ≡ file → ⊥) → Refuses file 2 0
not_spelled file s h =
    let l = leb-true 10 (length file) s.1 in
    first_letters file s (λ a b d. h (rw (← a, ← b, ← d) (sym (spelled file (omega arith)))))

pub is_spelled : (file : List ℕ) → Sized file → file ≡ 0x58 ∷ 0x4E ∷ 0x42 ∷ drop 3 file → Lettered file
is_spelled file s e =
    let a : get_or file 0 0 ≡ 0x58 = ap (λ (l : List ℕ). get_or l 0 0) e in
    let b : get_or file 1 0 ≡ 0x4E = ap (λ (l : List ℕ). get_or l 1 0) e in
    let d : get_or file 2 0 ≡ 0x42 = ap (λ (l : List ℕ). get_or l 2 0) e in
    (s, eq-eqb _ _ a, eq-eqb _ _ b, eq-eqb _ _ d)

pub platform : (file : List ℕ) → Lettered file → is_platform (get_or file 3 0) ≡ false → Refuses file 3 3
unfolding header_at check
platform file l h = rw (l.0.0, l.0.1, l.1, l.2, l.3, h)

pub version : (file : List ℕ) → Placed file → (get_or file 4 0 ≡ 5 → ⊥) → Refuses file 4 4
unfolding header_at check
version file p h =
    let l = p.0 in
    rw (l.0.0, l.0.1, l.1, l.2, l.3, p.1, ne_eqb (get_or file 4 0) 5 h)

pub packed : (file : List ℕ) → Versioned file → 0x80 ≤ get_or file 5 0 → Refuses file 5 5
unfolding header_at check
packed file v h =
    let l = v.0.0 in
    rw (l.0.0, l.0.1, l.1, l.2, l.3, v.0.1, v.1, le-ltb (get_or file 5 0) 0x80 h)

pub flagged : (file : List ℕ) → Versioned file → get_or file 5 0 < 0x80 → 1 < get_or file 5 0 → Refuses file 6 5
unfolding header_at check
flagged file v s h =
    let l = v.0.0 in
    rw (l.0.0, l.0.1, l.1, l.2, l.3, v.0.1, v.1, lt-ltb (get_or file 5 0) 0x80 s, lt-leb (get_or file 5 0) 1 h)

pub other_length : (file : List ℕ) → Flagged file → (value_of (take 4 (drop 6 file)) ≡ length file → ⊥) → Refuses file 7 6
unfolding header_at check
other_length file f h =
    let v = f.0 in
    let l = v.0.0 in
    rw (l.0.0, l.0.1, l.1, l.2, l.3, v.0.1, v.1, f.1, f.2, ne_eqb (value_of (take 4 (drop 6 file))) (length file) h)

pub whole : (file : List ℕ) → Flagged file → value_of (take 4 (drop 6 file)) ≡ length file → Ok (record { value = 0; next = 10 }) ≡ header_of file
unfolding header_at check
whole file f h =
    let v = f.0 in
    let l = v.0.0 in
    rw (l.0.0, l.0.1, l.1, l.2, l.3, v.0.1, v.1, f.1, f.2, eq-eqb (value_of (take 4 (drop 6 file))) (length file) h)
