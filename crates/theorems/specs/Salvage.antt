-- Req 11 of the code: what is demanded of salvaging a damaged marked pack. Each record is the contract of a function that calls the code. Assumes nothing.
use Rattle.std.specs.Prelude.{◌≡◌, List, ◌++◌, ◌↔◌, ℕ, ◌*◌, ◌-◌, ◌/◌, ◌<◌, ◌≤◌, length, take, drop, replicate, Err, Ok, Result}
use Rattle.pack_layout.specs.Pack.{marked, pack_bytes, PackLays}
use Rattle.pack_layout.specs.Table.{flat, entries, files_room, Fitting}
use Rattle.pack_salvage.specs.Scan.{Piece, Scanned, pieces_bytes, kept_of}
use Rattle.pack_salvage.specs.Stretches.{Stretch, stretches, words, Apart, Covered, SkippedAt}
use Rattle.answers.specs.Refusals.{refusal as refusal_at}
use Rattle.answers.specs.declared.Refusal.{Refusal}
use Rattle.salvage.specs.declared.Salvaged.{Salvaged}
use Rattle.salvage.specs.Written.{salvaged_so}

-- "From byte 4, if a mark and a whole record that keeps Req 01's limits stand here, keep it and go on after it; otherwise go on one byte. Stop at the end or after 4,096 records"
pub record Scan (pack : List ℕ) (ps : List Piece) : Type 0 where
  pub long : 4 ≤ length pack
  pub scanned : Scanned 4096 (drop 4 pack) ps

-- "a marked pack of the kept records with the right count"
abbrev pub new_of : List Piece → List ℕ
new_of ps = pack_bytes marked (kept_of ps)

-- "a list of skipped stretches in file order .. joined where they touch"
abbrev pub skips_of : List Piece → List Stretch
skips_of ps = stretches 4 ps

-- so many bytes of output and so many words of list have room
abbrev pub Room : List Piece → (out list : ℕ) → Type 0
Room ps out list = (length (new_of ps) ≤ out) × (length (skips_of ps) ≤ list / 2)

-- For the pack, the output and the list as they were lent and as they are left, and the answer. No reading is in it.
pub record Salvages (pack out list end left : List ℕ) (r : Result Salvaged Refusal) : Type 0 where
  -- "Refusals, in this order: 1 at 0 for under four bytes"
  pub short : length pack < 4 → r ≡ Err (refusal_at 1 0)
  -- else there is one way to scan the pack
  pub scans : 4 ≤ length pack → (ps : List Piece) × Scan pack ps × ((qs : List Piece) → Scan pack qs → qs ≡ ps)
  -- "Kept records with marks, skipped bytes and the four count bytes make up the input"
  pub makes_up : (ps : List Piece) → Scan pack ps → take 4 pack ++ pieces_bytes ps ≡ pack
  -- the stretches are in file order, none is empty and no two touch; a place lies in one of them exactly if its byte is skipped
  pub stretched : (ps : List Piece) → Scan pack ps → Apart 4 (skips_of ps) × ((place : ℕ) → Covered place (skips_of ps) ↔ SkippedAt place 4 ps)
  -- so much room is always enough: the new pack never has more bytes than the pack, and there are never more than 4,097 stretches
  pub bounded : (ps : List Piece) → Scan pack ps → (length (new_of ps) ≤ length pack) × (length (skips_of ps) ≤ 4097)
  -- "21 for output", with the bytes needed
  pub too_small : (ps : List Piece) → Scan pack ps → length out < length (new_of ps) → r ≡ Err (refusal_at 21 (length (new_of ps)))
  -- "52 with the stretches needed for a list too short"
  pub list_short : (ps : List Piece) → Scan pack ps → length (new_of ps) ≤ length out → length list / 2 < length (skips_of ps) → r ≡ Err (refusal_at 52 (length (skips_of ps)))
  -- else both are written, "each length answered, the list's in stretches", and what stands behind them stays
  pub salvages : (ps : List Piece) → Scan pack ps → Room ps (length out) (length list)
      → (r ≡ Ok (salvaged_so (length (new_of ps)) (length (skips_of ps))))
      × (end ≡ new_of ps ++ drop (length (new_of ps)) out)
      × (left ≡ words (skips_of ps) ++ drop (2 * length (skips_of ps)) list)
  -- a refusal leaves the output and the list unchanged
  pub unchanged : (number place : ℕ) → r ≡ Err (refusal_at number place) → (end ≡ out) × (left ≡ list)
  -- what was written is a marked pack of the kept records, and lies in the output
  pub written : (n m : ℕ) → r ≡ Ok (salvaged_so n m) → (ps : List Piece) × Scan pack ps × Room ps (length out) (length list) × (n ≤ length end) × PackLays marked (kept_of ps) (take n end)
  -- "An accepted pack comes out byte for byte with nothing skipped"
  pub stays : {room : ℕ} → Fitting marked pack room → length pack ≤ length out
      → (r ≡ Ok (salvaged_so (length pack) 0)) × (end ≡ pack ++ drop (length pack) out) × (left ≡ list)

-- For a pack that is salvaged and then read: the output and the list as they were lent, the number of words of the table, the table as it is left, and the reader's answer.
pub record ReadsSalvaged (pack out list : List ℕ) (room : ℕ) (left : List ℕ) (r : Result ℕ Refusal) : Type 0 where
  -- the reader of marked packs accepts what is written, "with the right count", where the table has room
  pub accepted : (ps : List Piece) → Scan pack ps → Room ps (length out) (length list) → length (kept_of ps) ≤ files_room room
      → (r ≡ Ok (length (kept_of ps))) × (left ≡ flat (entries marked 4 (kept_of ps)) ++ replicate (room - 4 * length (kept_of ps)) 0)

-- For a pack that is salvaged and then salvaged again, with one list and into a second output: the first output as it was lent, the list and the second output as they were lent and as they are left, and the second answer.
pub record SalvagesTwice (pack out list left second end : List ℕ) (r : Result Salvaged Refusal) : Type 0 where
  -- the second time gives the same bytes and skips nothing, so the list is as the first time left it
  pub same : (ps : List Piece) → Scan pack ps → Room ps (length out) (length list) → length (new_of ps) ≤ length second
      → (r ≡ Ok (salvaged_so (length (new_of ps)) 0))
      × (end ≡ new_of ps ++ drop (length (new_of ps)) second)
      × (left ≡ words (skips_of ps) ++ drop (2 * length (skips_of ps)) list)
