-- What the functions of a walk promise of their answer and of the words. Assumes nothing.
use Rattle.std.specs.Prelude.{◌≡◌, ℕ, ◌+◌, ◌*◌, ◌^◌, ◌<◌, ◌≤◌, List, [], ◌∷◌, length, Result, Ok, Err}
use Rattle.std.proofs.Common.{arith, lt-ltb}
use Rattle.layout.specs.Rows.{width}
use Rattle.layout.specs.Table.{shape_of}
use Rattle.answers.specs.declared.Refusal.{Refusal}
use Rattle.answers.specs.Refusals.{refusal}
use Rattle.reading.specs.Answer.{Answer, refused, read}
use Rattle.reading.specs.Drafts.{Draft, bare}
use Rattle.reading.specs.Walk.{Outcome}
use Rattle.places.specs.Padding.{rows_padding}
use Rattle.table.specs.declared.Grid.{Grid}
use Rattle.table.specs.Word.{in_word}
use Rattle.table.specs.Grids.{cell_of}
use Rattle.table.specs.Stores.{cell-inside}
use Rattle.table.specs.Put.{put_row}
use Rattle.walked.specs.declared.Reached.{Reached}
use Rattle.walked.specs.Written.{written, marked, put_written}

-- what a walk over values answers
abbrev pub Walk : Type 0
Walk = Result Reached Refusal

-- what a program has of an outcome: the rows used and the new rows, without the trees
abbrev pub Seen : Type 0
Seen = ℕ × List Draft

unfoldable pub seen : Outcome → Answer Seen
seen (refused n p) = refused n p
seen (read a e) = read (a.0, a.1) e

-- values that were read: the rows used, the padding of the new ones and the next byte
abbrev pub reaching : (used padding next : ℕ) → Walk
reaching used padding next = Ok (record { used = used; padding = padding; next = next })

-- what was reached below a value whose own numbers have this padding
abbrev pub atop : (padding : ℕ) → Reached → Reached
atop padding r = record { used = r.used; padding = in_word (padding + r.padding); next = r.next }

-- how many bytes the numbers of the new rows have beyond their shortest forms, as a word holds it
abbrev pub padded : (file : List ℕ) → List Draft → ℕ
padded file rows = in_word (rows_padding file (bare rows))

-- 01's number and place for a refusal, and for a value its end, the rows used and the padding of its rows
abbrev pub answer_of : (file : List ℕ) → Answer Seen → Walk
answer_of file (refused n p) = Err (refusal n p)
answer_of file (read a e) = reaching a.0 (padded file a.1) e

-- the new rows stand in the words from row `used` on; after a refusal the words may be anything
abbrev pub content_of : Grid → (exit entry : List ℕ) (used : ℕ) → Answer Seen → List ℕ
content_of g exit entry used (refused n p) = exit
content_of g exit entry used (read a e) = written g entry used a.1

pub record Walked (g : Grid) (file entry exit : List ℕ) (used : ℕ) (o : Answer Seen) (r : Walk) : Type 0 where
  pub answers : r ≡ answer_of file o
  pub writes : exit ≡ content_of g exit entry used o

-- the words have the room, the row is in it, and its number and the one after it fit
pub record Free (g : Grid) (w : List ℕ) (row : ℕ) : Type 0 where
  pub long : width * g.room ≤ length w
  pub there : row < g.room
  pub few : row + 1 < 2 ^ 32

-- what was read ends at or behind a place, which fits a word
abbrev pub Ahead : {A : Type 0} → (first : ℕ) → Answer A → Type 0
Ahead first (refused n p) = Unit {0}
Ahead first (read a e) = (first ≤ e) × (e < 2 ^ 32)

-- a row was put
pub put-leaf : (g : Grid) (w : List ℕ) (u : ℕ) (d : Draft) → Free g w u → put_row g w u (marked d) ≡ written g w u (d ∷ [])
unfolding put_row
put-leaf g w u d f =
    rw (lt-ltb (cell_of g u 6) (length w) (cell-inside (shape_of g.columns) g.room u 6 (length w) f.there (omega arith) f.long)) (put_written g w u d)
