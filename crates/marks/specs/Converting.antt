-- What a conversion answers in code, by the definitions of Req 10. Assumes nothing.
use Rattle.std.specs.Prelude.{◌≡◌, Bool, true, false, not, List, ℕ, ◌+◌, ◌*◌, ◌-◌, ◌≤◌, ◌<◌, ◌^◌, length, Result, Ok, Err}
use Rattle.fill.specs.Fill.{copied}
use Rattle.reading.specs.Output.{Rewritten, refusal, written}
use Rattle.pack_layout.specs.Pack as layout
use Rattle.pack_layout.specs.Pack.{Stored, PackLays, pack_bytes, mark_of}
use Rattle.pack_reading.specs.Pack.{pack_at, to_pack}
use Rattle.answers.specs.declared.Refusal.{Refusal}
use Rattle.answers.specs.Refusals as answers
use Rattle.packs.specs.Files as packs
use Rattle.packs.specs.Files.{Reading}
use Rattle.pack_writing.specs.Convert.{convert_of}

-- so many files behind the file count, where there is room for every pack
abbrev pub walk_of : (marked : Bool) (pack : List ℕ) (n : ℕ) → Reading
walk_of marked pack n = packs.answer_of (to_pack (packs.files_from (mark_of marked) pack n 4096))

-- Req 10: "A conversion lends no table": the whole pack, where there is room for every pack
abbrev pub count_of : (marked : Bool) (pack : List ℕ) → Reading
count_of marked pack = packs.answer_of (to_pack (pack_at (mark_of marked) pack 4096))

-- the size of the new pack by that of the pack given
abbrev pub size_of : (marked : Bool) (size files : ℕ) → ℕ
size_of true size files = size + 2 * files
size_of false size files = size - 2 * files

-- both sizes are sizes of slices
abbrev pub Measured : (size files : ℕ) (marked : Bool) → Type 0
Measured size files marked = (size < 2 ^ 63) × (files ≤ 4096) × (marked ≡ false → 2 * files ≤ size)

-- a record that stands from `at` to `end` has room in the output from `to` on
abbrev pub Placed : (marked : Bool) (pack out : List ℕ) (at end to : ℕ) → Type 0
Placed marked pack out at end to =
    (at + length (mark_of (not marked)) ≤ end) × (end ≤ length pack) × (to + length (mark_of marked) + (end - (at + length (mark_of (not marked)))) ≤ length out)

-- where a record put from `to` on ends, and what the output is then: a mark, and the record without the mark it had
abbrev pub placed : (marked : Bool) (pack out : List ℕ) (at end to : ℕ) → ℕ × List ℕ
placed marked pack out at end to =
    let first = at + length (mark_of (not marked)) in
    let start = to + length (mark_of marked) in
    (start + (end - first), copied (copied out to layout.marked 0 (length (mark_of marked))) start pack first (end - first))

-- these bytes are a pack of so many files, and the output has room for it in the other form
pub record Fits (marked : Bool) (pack : List ℕ) (n out : ℕ) : Type 0 where
  pub files : List Stored
  pub lays : PackLays (mark_of (not marked)) files pack
  pub count : length files ≡ n
  pub room : length (pack_bytes (mark_of marked) files) ≤ out

-- Req 10: "Convert old to marked and marked to old"
abbrev pub converted : (marked : Bool) (pack : List ℕ) (out : ℕ) → Rewritten
converted marked pack out = convert_of (mark_of (not marked)) (mark_of marked) pack out

-- a refusal, or the length of the new pack
abbrev pub answer_of : Rewritten → Result ℕ Refusal
answer_of (refusal number place) = Err (answers.refusal number place)
answer_of (written bytes) = Ok (length bytes)
