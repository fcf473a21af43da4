-- What reading a pack answers: the first fault with its number and place, or its files (Req 01 and Req 10). Assumes nothing.
use Rattle.std.specs.Prelude.{List, [], ◌∷◌, ◌++◌, ℕ, ◌*◌, ◌-◌, min, leb, eqb, length, replicate}
use Rattle.reading.specs.Answer.{Answer, refused, read, bind, check, several, within}
use Rattle.reading.specs.Reads.{some}
use Rattle.reading.specs.Seven.{seven_at}
use Rattle.reading.specs.Little.{little_at}
use Rattle.reading.specs.Utf8.{utf8s}
use Rattle.pack_layout.specs.Pack.{Stored}
use Rattle.pack_layout.specs.Table.{flat, entries, files_room}
use Rattle.reading.specs.Same.{same, with_bytes}

module _ (file : List ℕ) where
  -- a path's length and bytes. Req 01: "Refusals: 1, 8, 9, 15 and 20 as in 01": all at its length.
  unfoldable pub path_at : ℕ → Answer (List ℕ × List ℕ)
  path_at at =
      bind (with_bytes file (seven_at file) at) (λ n e. check (within 260 n.0) 9 at
      (bind (some file n.0 at e) (λ path next. check (utf8s path) 15 at (read (n.1, path) next))))

  -- a file's data behind its size. Req 01: "missing data at its size".
  unfoldable pub content_at : ℕ → Answer (List ℕ)
  content_at at = bind (little_at file 4 at at) (λ n e. some file n at e)

module _ (mark file : List ℕ) where
  -- Req 10: "51 for a missing mark at a record's start, judged after 31 and 1"
  unfoldable pub mark_at : ℕ → Answer (List ℕ)
  mark_at at = bind (some file (length mark) at at) (λ m e. check (same m mark) 51 at (read m e))

  -- Req 01: "per file a text path, a 4-byte size and the data"
  unfoldable pub record_at : ℕ → Answer Stored
  record_at at =
      bind (mark_at at) (λ m start. bind (path_at file start) (λ p size. bind (content_at file size) (λ content next.
      read (record { number = p.0; path = p.1; content = content }) next)))

  -- so many files: those that the table has room for. Req 01: "31 when the table has no room, at each file's start before its path".
  unfoldable pub records_at : (n room at : ℕ) → Answer (List Stored)
  records_at n room at = bind (several [] ◌∷◌ record_at (min n room) at) (λ fs e. check (leb n room) 31 e (read fs e))

  -- the file count and the files
  unfoldable pub files_at : (room at : ℕ) → Answer (List Stored)
  files_at room at = bind (little_at file 4 at at) (λ n e. check (leb n 4096) 9 at (records_at n room e))

  -- the whole pack, where the table has room for so many files
  unfoldable pub pack_at : (room : ℕ) → Answer (List Stored)
  pack_at room = bind (files_at room 0) (λ fs e. check (eqb e (length file)) 20 e (read fs e))

-- what a program is told: a refusal's number and place, or the files
pub data Pack : Type 0 where
  refusal : (number place : ℕ) → Pack
  accepted : List Stored → Pack

unfoldable pub to_pack : Answer (List Stored) → Pack
to_pack (refused number place) = refusal number place
to_pack (read fs e) = accepted fs

-- what reading a pack answers, where so many words are lent
unfoldable pub pack_of : (mark file : List ℕ) (words : ℕ) → Pack
pack_of mark file words = to_pack (pack_at mark file (files_room words))

-- what it leaves in the words lent. Req 01: "Unused words, and all on refusal, are zero".
unfoldable pub table_of : (mark : List ℕ) → Pack → (words : ℕ) → List ℕ
table_of mark (refusal number place) words = replicate words 0
table_of mark (accepted fs) words = flat (entries mark 4 fs) ++ replicate (words - 4 * length fs) 0

-- the same, by the pack's bytes
abbrev pub table_for : (mark file : List ℕ) (words : ℕ) → List ℕ
table_for mark file words = table_of mark (pack_of mark file words) words
