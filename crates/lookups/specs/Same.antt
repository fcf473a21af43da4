-- Lookups in two tables that hold the same row at each number answer the same (02, Req 08). Assumes nothing.
use Rattle.std.specs.Prelude.{◌≡◌, Bool, List, ℕ, ◌+◌, ◌<◌, leb, eqb, length, take, drop, ℤ, Result, Ok, Err}
use Rattle.std.proofs.Math.Path.{refl, ap}
use Rattle.std.proofs.Common.{sym, ◌∙◌, arith}
use Rattle.std.proofs.Math.Bool.{true, false}
use Rattle.std.proofs.Math.Dec.{ltb}
use borrow.Author.Tests.{ltb-true}
use Rattle.table.specs.declared.Grid.{Grid}
use Rattle.table.specs.Same.{SameRows}
use Rattle.lookups.specs.declared.Span.{Span}
use Rattle.answers.specs.declared.Refusal.{Refusal}
use Rattle.answers.specs.Refusals.{refusal}
use Rattle.lookups.specs.Parts.{span, refuses, or_refused, kind_of, first_of, length_of, part_of, in_part, lookup}
use Rattle.lookups.specs.Texts.{text_in, text_of}
use Rattle.lookups.specs.Signs.{signed_in, signed_of}
use Rattle.lookups.specs.Times.{as_time, time_of}

-- a part, by the room and two words of the row
abbrev part_by : (file : List ℕ) (row room first size : ℕ) → Result Span Refusal
part_by file row room first size = or_refused (ltb row room) 23 row (or_refused (ltb 0 size) 23 row (or_refused (leb (first + size) (length file)) 23 row (Ok (span first size))))

no_part : (file : List ℕ) (row room first size : ℕ) → ltb row room ≡ false → part_by file row room first size ≡ Err (refusal 23 row)
unfolding or_refused
no_part file row room first size e = rw e

module _ {g h : Grid} {v w : List ℕ} (s : SameRows g h v w) (file : List ℕ) (row : ℕ) where
  -- a row in the room has the same words; there is no part of another
  data Row : Type 0 where
    there : kind_of g v row ≡ kind_of h w row → part_of g file v row ≡ part_of h file w row → Row
    none : part_of g file v row ≡ Err (refusal 23 row) → part_of h file w row ≡ Err (refusal 23 row) → Row

  row_of : Row
  unfolding part_of first_of length_of kind_of
  row_of = go (ltb row g.room) refl where
    go : (b : Bool) → ltb row g.room ≡ b → Row
    go true e =
        let l : row < g.room = ltb-true row g.room e in
        let f = s.rows row 1 l (omega arith) in
        let z = s.rows row 2 l (omega arith) in
        there (s.rows row 0 l (omega arith))
        (ap (λ (r : ℕ). part_by file row r (first_of g v row) (length_of g v row)) s.room
        ∙ ap (λ (x : ℕ). part_by file row h.room x (length_of g v row)) f ∙ ap (λ (x : ℕ). part_by file row h.room (first_of h w row) x) z)
    go false e =
        none (no_part file row g.room (first_of g v row) (length_of g v row) e)
        (no_part file row h.room (first_of h w row) (length_of h w row) (sym (ap (λ (r : ℕ). ltb row r) s.room) ∙ e))

  pub same_part : part_of g file v row ≡ part_of h file w row
  same_part = go row_of where
    go : Row → part_of g file v row ≡ part_of h file w row
    go (there k p) = p
    go (none p q) = p ∙ sym q

  same_lookup : {A : Type 0} (refuse : ℕ → ℕ → A) (found : List ℕ → ℕ → ℕ → A) → lookup refuse found g file v row ≡ lookup refuse found h file w row
  unfolding lookup in_part
  same_lookup refuse found = go row_of where
    go : Row → lookup refuse found g file v row ≡ lookup refuse found h file w row
    go (there k p) =
        ap (λ (x : Result Span Refusal). in_part refuse x (λ first size. found (take size (drop first file)) first (kind_of g v row))) p
        ∙ ap (λ (x : ℕ). in_part refuse (part_of h file w row) (λ first size. found (take size (drop first file)) first x)) k
    go (none p q) = rw (p, q)

  pub same_text : text_of g file v row ≡ text_of h file w row
  unfolding text_of
  same_text = same_lookup refuses (λ bytes first kind. text_in bytes first kind row)

  pub same_signed : signed_of g file v row ≡ signed_of h file w row
  unfolding signed_of
  same_signed = same_lookup refuses (λ bytes first kind. signed_in bytes kind row)

  pub same_time : time_of g file v row ≡ time_of h file w row
  unfolding time_of as_time signed_of lookup in_part
  same_time = go row_of where
    go : Row → time_of g file v row ≡ time_of h file w row
    go (there k p) = ap (λ (x : ℕ). as_time row (signed_of g file v row) (eqb x 20)) k ∙ ap (λ (x : Result ℤ Refusal). as_time row x (eqb (kind_of h w row) 20)) same_signed
    go (none p q) = rw (p, q)
