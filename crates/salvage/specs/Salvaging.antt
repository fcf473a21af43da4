-- What salvaging a marked pack answers in code, by the definitions of Req 11. Assumes nothing.
use Rattle.std.specs.Prelude.{◌≡◌, List, [], ◌∷◌, ◌++◌, ◌⊎◌, ℕ, zero, suc, ◌+◌, ◌*◌, ◌-◌, ◌≤◌, ◌<◌, length, take, drop, get_or, Result, Ok, Err, Option, Some, None}
use Rattle.layout.specs.Number.{little}
use Rattle.pack_layout.specs.Pack.{Stored, marked, record_bytes}
use Rattle.pack_salvage.specs.Scan.{RecordStands, NoRecordStands, kept_of}
use Rattle.pack_salvage.specs.Stretches.{Stretch, words}
use Rattle.pack_salvage.specs.Salvage as salvage
use Rattle.pack_salvage.specs.Salvage.{pieces_of, new_pack, skipped_of, salvaged}
use Rattle.salvage.specs.declared.Size.{Size}
use Rattle.salvage.specs.declared.Span.{Span}
use Rattle.salvage.specs.declared.Salvaged.{Salvaged}
pub use Rattle.salvage.specs.Written.{salvaged_so}
use Rattle.answers.specs.declared.Refusal.{Refusal}
use Rattle.answers.specs.Refusals as answers

-- from one place to another no byte is FD hex, the first of a mark
pub record NoLead (pack : List ℕ) (from to : ℕ) : Type 0 where
  pub forward : from ≤ to
  pub inside : to ≤ length pack
  pub none : (i : ℕ) → from ≤ i → i < to → get_or pack i 0 ≡ 0xFD → ⊥

-- a record stands from one place to another
pub record StandsFrom (pack : List ℕ) (start end : ℕ) : Type 0 where
  pub file : Stored
  pub stands : RecordStands file (drop end pack) (drop start pack)
  pub behind : end ≡ start + length (record_bytes marked file)

-- from a place on, the first record stands from `start` to `end`; where there is none, both are the pack's end
pub record NextRecord (pack : List ℕ) (from start end : ℕ) : Type 0 where
  pub forward : from ≤ start
  pub onward : start ≤ end
  pub inside : end ≤ length pack
  pub none : (i : ℕ) → from ≤ i → i < start → NoRecordStands (drop i pack)
  pub found : ((start ≡ end) × (end ≡ length pack)) ⊎ StandsFrom pack start end

-- what is found from a place on: the first record, or none up to the end
abbrev pub Next : (pack : List ℕ) (from : ℕ) → Option Span → Type 0
Next pack from None = NextRecord pack from (length pack) (length pack)
Next pack from (Some s) = NextRecord pack from s.start s.end × StandsFrom pack s.start s.end

-- so many bytes from a place on as a stretch; no stretch where they are none
abbrev pub gap : (at n : ℕ) → List Stretch
gap at zero = []
gap at (suc n) = (at, suc n) ∷ []

abbrev pub gap_of : (from to : ℕ) → List Stretch
gap_of from to = gap from (to - from)

-- what salvaging a pack gives
abbrev pub size_of : (pack : List ℕ) → Size
size_of pack = record { records = length (kept_of (pieces_of pack)); bytes = length (new_pack pack); stretches = length (skipped_of pack) }

-- a list of so many words has room for the stretch from one place to another, behind n others
abbrev pub GapFits : (list n from to : ℕ) → Type 0
GapFits list n from to = from < to → 2 * n + 2 ≤ list

-- how many stretches there are then, and what the list is
abbrev pub gap_put : (list : List ℕ) (n from to : ℕ) → ℕ × List ℕ
gap_put list n from to =
    (n + length (gap_of from to), take (2 * n) list ++ words (gap_of from to) ++ drop (2 * n + 2 * length (gap_of from to)) list)

-- the file count before what stands behind it
abbrev pub count_put : (out : List ℕ) (records : ℕ) → List ℕ
count_put out records = little 4 records ++ drop 4 out

-- so many records are kept, and the output of so many bytes and the list of so many words have room
pub record Fits (pack : List ℕ) (out list records : ℕ) : Type 0 where
  pub long : 4 ≤ length pack
  pub count : records ≡ length (kept_of (pieces_of pack))
  pub room : length (new_pack pack) ≤ out
  pub listed : 2 * length (skipped_of pack) ≤ list

-- a refusal, or the length of the new pack and the number of stretches
abbrev pub answer_of : salvage.Salvaged → Result Salvaged Refusal
answer_of (salvage.refusal number place) = Err (answers.refusal number place)
answer_of (salvaged bytes l) = Ok (salvaged_so (length bytes) (length l))
