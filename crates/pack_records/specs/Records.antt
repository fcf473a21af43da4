-- What reading a file record answers in code, by the definitions of Req 01 and Req 10. Assumes nothing.
use Rattle.std.specs.Prelude.{List, ℕ, ◌+◌, length, Result, Ok, Err}
use Rattle.answers.specs.declared.Refusal.{Refusal}
use Rattle.answers.specs.Refusals.{refusal}
use Rattle.reading.specs.Answer.{Answer, refused, read}
use Rattle.pack_layout.specs.Pack.{Stored}
use Rattle.pack_layout.specs.Table.{Entry, entry_of}
use Rattle.pack_records.specs.declared.Path.{Path}
use Rattle.pack_records.specs.declared.Record.{Record}

-- where a record's path starts
abbrev pub started : Answer (List ℕ) → Result ℕ Refusal
started (refused number place) = Err (refusal number place)
started (read mark start) = Ok start

-- a path of so many bytes from a place on
abbrev pub path_part : (start size : ℕ) → Path
path_part start size = record { start = start; size = size }

-- a path whose length stands at a place: where its bytes start, and how many they are
abbrev pub pathed : (at : ℕ) → Answer (List ℕ × List ℕ) → Result Path Refusal
pathed at (refused number place) = Err (refusal number place)
pathed at (read p next) = Ok (path_part (at + length p.0) (length p.1))

-- a record whose path and data stand so
abbrev pub stands : (start size first count : ℕ) → Record
stands start size first count = record { start = start; size = size; first = first; count = count }

-- the data behind a path of `size` bytes from `start` on
abbrev pub contented : (start size : ℕ) → Answer (List ℕ) → Result Record Refusal
contented start size (refused number place) = Err (refusal number place)
contented start size (read content next) = Ok (stands start size (start + size + 4) (length content))

abbrev pub entered : Entry → Record
entered e = stands e.path_start e.path_length e.data_start e.data_length

-- a record at a place: a refusal's number and place, or the file's entry in the table
abbrev pub recorded : (mark : List ℕ) (at : ℕ) → Answer Stored → Result Record Refusal
recorded mark at (refused number place) = Err (refusal number place)
recorded mark at (read f next) = Ok (entered (entry_of mark at f))
