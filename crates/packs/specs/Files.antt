-- What reading a pack answers in code, and what it leaves in the table. Assumes nothing.
use Rattle.std.specs.Prelude.{◌≡◌, Bool, List, ℕ, ◌*◌, eqb, length, take, Result, Ok, Err}
use Rattle.reading.specs.Answer.{Answer, refused, read, bind, check}
use Rattle.pack_layout.specs.Pack.{Stored, mark_of}
use Rattle.pack_layout.specs.Table.{flat, entries, files_room}
use Rattle.pack_reading.specs.Pack.{records_at, pack_at, Pack, refusal, accepted}
use Rattle.answers.specs.declared.Refusal.{Refusal}
use Rattle.answers.specs.Refusals as answers

-- so many files behind the file count, and the end of the pack
abbrev pub files_from : (mark file : List ℕ) (n room : ℕ) → Answer (List Stored)
files_from mark file n room = bind (records_at mark file n room 4) (λ fs e. check (eqb e (length file)) 20 e (read fs e))

-- a refusal, or the number of files
abbrev pub Reading : Type 0
Reading = Result ℕ Refusal

-- after success the entries stand at the table's start; after a refusal it may hold anything
abbrev pub Fills : (mark : List ℕ) → Answer (List Stored) → (table : List ℕ) → Reading → Type 0
Fills mark (refused number place) table r = r ≡ Err (answers.refusal number place)
Fills mark (read fs e) table r = (r ≡ Ok (length fs)) × (take (4 * length fs) table ≡ flat (entries mark 4 fs))

-- so many files were read into a table of so many words
abbrev pub FilesRead : (marked : Bool) (file : List ℕ) (n words : ℕ) (table : List ℕ) → Reading → Type 0
FilesRead marked file n words table r = Fills (mark_of marked) (files_from (mark_of marked) file n (files_room words)) table r

-- the whole pack was read into a table of so many words
abbrev pub PackRead : (marked : Bool) (file : List ℕ) (words : ℕ) (table : List ℕ) → Reading → Type 0
PackRead marked file words table r = Fills (mark_of marked) (pack_at (mark_of marked) file (files_room words)) table r

-- a refusal, or the number of files
abbrev pub answer_of : Pack → Reading
answer_of (refusal number place) = Err (answers.refusal number place)
answer_of (accepted fs) = Ok (length fs)
