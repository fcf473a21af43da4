-- What reading the reader list answers, and what the lent arrays hold when it ends, for every input: what is not written stays as it was. Assumes nothing.
use Rattle.std.specs.Prelude.{Result, Ok, Err, ◌≡◌, Bool, true, cond, List, ℕ, zero, suc, ◌+◌, ◌*◌, ◌≤◌, leb, eqb, length, take, drop, set}
use Rattle.layout.specs.EnumList.{EnumEntry}
use Rattle.names.specs.Parse.{name_of}
use Rattle.names.specs.Contract as N
use Rattle.names.specs.Contract.{coded, no_room, placed}
use Rattle.targets.specs.Code.{prelude_size}
use Rattle.targets.specs.Contract.{resolution, content}
use Rattle.reading.specs.Answer.{Answer, refused, read}
use Rattle.reading.specs.Seven.{seven_at}
use Rattle.numbers.specs.Padded.{pad_of}
use Rattle.answers.specs.declared.Refusal.{Refusal}
use Rattle.answers.specs.Refusals.{refusal}
use Rattle.readers.specs.declared.Reader.{Reader}
use Rattle.readers.specs.declared.Ended.{Ended}
use Rattle.readers.specs.declared.Lists.{Lists}
use Rattle.readers.specs.declared.Unlisted.{Unlisted}
use Rattle.readers.specs.declared.Unlisted.TheVariants.{Refused, NoRoom}
use Rattle.readers.specs.Parts.{version_at, end_of, up_to}

-- a reader's answer, and the codes
abbrev pub Step : Type 0
Step = Result Reader Refusal × List ℕ

-- the answer of a reader, by what its name of n bytes comes to
abbrev pub after_name : (file : List ℕ) (at first n : ℕ) → N.Answer → Result Reader Refusal
after_name file at first n no_room = Err (refusal 1 at)
after_name file at first n (N.refused k p) = Err (refusal k p)
after_name file at first n (coded end) = end_of first end (version_at file (first + n))

-- a reader whose name has n bytes from `first` on
unfoldable pub named_left : List EnumEntry → (file codes : List ℕ) (used at first n : ℕ) → Step
named_left es file codes used at first n =
    cond (leb n (length (drop first file))) (
      after_name file at first n (resolution es (placed (take n (drop first file)) first used) (length codes) first used (name_of first (take n (drop first file)))),
      content es (placed (take n (drop first file)) first used) codes first used (name_of first (take n (drop first file))),
    )
    (Err (refusal 1 at), codes)

-- a reader, by the count of its name's bytes
abbrev pub counted_left : List EnumEntry → (file codes : List ℕ) (used at : ℕ) → Answer ℕ → Step
counted_left es file codes used at (refused n p) = (Err (refusal n p), codes)
counted_left es file codes used at (read n first) = cond (eqb n 0) (Err (refusal 9 at), codes) (cond (leb n 1024) (named_left es file codes used at first n) (Err (refusal 9 at), codes))

unfoldable pub reader_left : List EnumEntry → (file codes : List ℕ) (used at : ℕ) → Step
reader_left es file codes used at = counted_left es file codes used at (seven_at file at)

-- the three lent arrays
pub record Arrays : Type 0 where
  pub codes : List ℕ
  pub targets : List ℕ
  pub starts : List ℕ

abbrev pub arrays : (codes targets starts : List ℕ) → Arrays
arrays c t s = record { codes = c; targets = t; starts = s }

-- the answer of readers, and the arrays
abbrev pub Steps : Type 0
Steps = Result Ended Refusal × Arrays

-- reader i, whose codes stand at `used`
abbrev pub onward : Result Reader Refusal → (codes targets starts : List ℕ) → (i used : ℕ) → (ℕ → ℕ → List ℕ → List ℕ → List ℕ → Steps) → Steps
onward (Err e) c t s i used rest = (Err e, arrays c t s)
onward (Ok r) c t s i used rest = rest r.end r.next c (set t i used) (set s i r.name)

-- the readers ended at a place, and the lengths of their names have this padding
abbrev pub ended : (padding next : ℕ) → Ended
ended padding next = record { padding = padding; next = next }

-- so many readers from reader i on, where the lengths of the names before have the padding `sum`
unfoldable pub readers_from : List EnumEntry → (file : List ℕ) (left i used next sum : ℕ) (codes targets starts : List ℕ) → Steps
readers_from es file zero i used next sum c t s = (Ok (ended sum next), arrays c t s)
readers_from es file (suc left) i used next sum c t s =
    onward (reader_left es file c used next).0 (reader_left es file c used next).1 t s i used (λ end after c' t' s'. readers_from es file left (i + 1) end after (sum + pad_of (seven_at file next) next) c' t' s')

-- n readers
abbrev pub readers_left : List EnumEntry → (file : List ℕ) (n next : ℕ) (codes targets starts : List ℕ) → Steps
readers_left es file n next c t s = readers_from es file n 0 prelude_size next 0 c t s

-- the answer of the lists, and the arrays
abbrev pub AllSteps : Type 0
AllSteps = Result Lists Unlisted × Arrays

-- n readers and a shared count, where the numbers have this padding, and the next place
abbrev pub lists : (n shared padding next : ℕ) → Lists
lists n shared padding next = record { readers = n; shared = shared; padding = padding; next = next }

-- by the shared count: n readers, and this padding of all numbers
abbrev pub behind_shared : (n total : ℕ) → Answer ℕ → Result Lists Unlisted
behind_shared n total (refused k p) = Err (Refused (refusal k p))
behind_shared n total (read shared next) = Ok (lists n shared total next)

-- by the n readers, where the reader count has the padding `own`
abbrev pub behind_readers : (file : List ℕ) (n own : ℕ) → Result Ended Refusal → Result Lists Unlisted
behind_readers file n own (Err e) = Err (Refused e)
behind_readers file n own (Ok names) = behind_shared n (own + names.padding + pad_of (seven_at file names.next) names.next) (up_to 256 file names.next)

-- n readers and the shared count
unfoldable pub shared_left : List EnumEntry → (file : List ℕ) (n at own : ℕ) (codes targets starts : List ℕ) → AllSteps
shared_left es file n at own c t s = (behind_readers file n own (readers_left es file n at c t s).0, (readers_left es file n at c t s).1)

-- how many codes so many readers may need: the prelude, 93 for each reader before the last, and 187 while the last one's name is judged
unfoldable pub codes_for : (readers : ℕ) → ℕ
codes_for zero = prelude_size
codes_for (suc n) = prelude_size + 93 * n + 187

-- whether there is room for so many codes
abbrev pub room_for : Answer ℕ → (room : ℕ) → Bool
room_for (refused n p) room = true
room_for (read n next) room = leb (codes_for n) room

-- whether a file's reader count lets so many codes do
unfoldable pub enough : (file : List ℕ) (at room : ℕ) → Bool
enough file at room = cond (leb (length file) 16777216) (room_for (up_to 64 file at) room) true

-- the lists, by the reader count, which has the padding `own`
abbrev pub behind_count : List EnumEntry → (file : List ℕ) (own : ℕ) → Answer ℕ → (codes targets starts : List ℕ) → AllSteps
behind_count es file own (refused k p) c t s = (Err (Refused (refusal k p)), arrays c t s)
behind_count es file own (read n next) c t s = cond (leb (codes_for n) (length c)) (shared_left es file n next own c t s) (Err NoRoom, arrays c t s)

-- the reader list and the shared count at a place; 01: "longer than 16,777,216 bytes is 9 at 0"
unfoldable pub lists_left : List EnumEntry → (file : List ℕ) (at : ℕ) (codes targets starts : List ℕ) → AllSteps
lists_left es file at c t s = cond (leb (length file) 16777216) (behind_count es file (pad_of (seven_at file at) at) (up_to 64 file at) c t s) (Err (Refused (refusal 9 0)), arrays c t s)

-- at most 64 readers are read, from a file of 01's size; there is room for the codes, and the arrays have their sizes
abbrev pub Sized : (file : List ℕ) (n : ℕ) (codes targets starts : List ℕ) → Type 0
Sized file n codes targets starts = (length file ≤ 16777216) × (n ≤ 64) × (codes_for n ≤ length codes) × (length targets ≡ 64) × (length starts ≡ 64)
