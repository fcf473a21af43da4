-- What salvaging a marked pack answers, and what it leaves in the output and in the list of skipped stretches (Req 11). Assumes nothing.
use Rattle.std.specs.Prelude.{◌≡◌, refl, Bool, cond, List, [], ◌∷◌, ◌++◌, ℕ, zero, suc, ◌+◌, ◌*◌, ◌/◌, ◌≤◌, leb, length, drop}
use Rattle.std.proofs.Common.{ap, subst, arith, length-append, length-drop, le-leb}
use Rattle.std.proofs.Math.Seq.{drop-append_seam}
use Rattle.layout.specs.Number.{little}
use Rattle.reading.specs.Little.{length-little}
use Rattle.reading.specs.Reads.{Small, small-drop, small_left}
use Rattle.pack_layout.specs.Pack.{Stored, marked, record_bytes, records_bytes, pack_bytes, PackLays}
use Rattle.pack_reading.specs.Pack.{accepted}
use Rattle.pack_salvage.specs.Scan.{Piece, kept, skipped, Scanned, pieces_bytes, makes_up, kept_of, all_kept, kept-lawful, kept-no_longer, keeps_all, kept_all}
use Rattle.pack_salvage.specs.Scanning.{scan, scan_is, is_scanned}
use Rattle.pack_salvage.specs.Stretches.{Stretch, stretches, words}

-- Req 11: "From byte 4"; "after 4,096 records"
abbrev pub pieces_of : (file : List ℕ) → List Piece
pieces_of file = scan 4096 zero (drop 4 file)

-- "Write a marked pack of the kept records with the right count"
abbrev pub new_pack : (file : List ℕ) → List ℕ
new_pack file = pack_bytes marked (kept_of (pieces_of file))

-- "and a list of skipped stretches"
abbrev pub skipped_of : (file : List ℕ) → List Stretch
skipped_of file = stretches 4 (pieces_of file)

-- refused with a number and a place, or the bytes and the stretches that are written
pub data Salvaged : Type 0 where
  refusal : (number place : ℕ) → Salvaged
  salvaged : (bytes : List ℕ) → List Stretch → Salvaged

unfoldable pub unless : Bool → (number place : ℕ) → Salvaged → Salvaged
unless ok number place x = cond ok x (refusal number place)

-- "Refusals, in this order: 1 at 0 for under four bytes, 21 for output, 52 with the stretches needed for a list too short", where so many bytes and so many words are lent
unfoldable pub salvage_of : (file : List ℕ) (out list : ℕ) → Salvaged
salvage_of file out list =
    unless (leb 4 (length file)) 1 0
    (unless (leb (length (new_pack file)) out) 21 (length (new_pack file))
    (unless (leb (length (skipped_of file)) (list / 2)) 52 (length (skipped_of file))
    (salvaged (new_pack file) (skipped_of file))))

-- "output and list are treated as a rewrite's output": what stands behind what is written stays, and after a refusal all stays
unfoldable pub output_of : Salvaged → (out : List ℕ) → List ℕ
output_of (refusal number place) out = out
output_of (salvaged bytes l) out = bytes ++ drop (length bytes) out

-- the list, two words a stretch
unfoldable pub list_of : Salvaged → (list : List ℕ) → List ℕ
list_of (refusal number place) list = list
list_of (salvaged bytes l) list = words l ++ drop (2 * length l) list

-- the same by the lent output and list
abbrev pub salvage_for : (file out list : List ℕ) → Salvaged
salvage_for file out list = salvage_of file (length out) (length list)

abbrev pub output_for : (file out list : List ℕ) → List ℕ
output_for file out list = output_of (salvage_for file out list) out

abbrev pub list_for : (file out list : List ℕ) → List ℕ
list_for file out list = list_of (salvage_for file out list) list

-- ---- What is promised

-- the pieces are those of the scan that the request describes
pub pieces_scanned : (file : List ℕ) → Small file → Scanned 4096 (drop 4 file) (pieces_of file)
pieces_scanned file small = is_scanned 4096 (drop 4 file) (small-drop 4 file small)

-- the new pack has no more bytes than the pack, so that as many are always room enough
pub no_longer : (file : List ℕ) (ps : List Piece) → 4 ≤ length file → Scanned 4096 (drop 4 file) ps → length (pack_bytes marked (kept_of ps)) ≤ length file
unfolding pack_bytes
no_longer file ps h s =
    let fs = kept_of ps in
    omega (
      arith,
      h,
      kept-no_longer ps,
      ap length (makes_up s),
      length-drop 4 file,
      length-little 4 (length fs),
      length-append (little 4 (length fs)) (records_bytes marked fs),
    )

no_stretch : (at : ℕ) (fs : List Stored) → stretches at (all_kept fs) ≡ []
unfolding stretches all_kept
no_stretch at [] = refl
no_stretch at (f ∷ fs) = no_stretch (at + length (record_bytes marked f)) fs

four : (fs : List Stored) (file : List ℕ) → PackLays marked fs file → (drop 4 file ≡ records_bytes marked fs) × (4 ≤ length file)
unfolding pack_bytes little
four fs file w = (ap (drop 4) w.parts, omega (arith, ap length w.parts))

-- Req 11: "An accepted pack comes out byte for byte with nothing skipped"
pub accepted-stays : (fs : List Stored) (file : List ℕ) (out list : ℕ) → Small file → PackLays marked fs file → length file ≤ out
    → salvage_of file out list ≡ salvaged file []
unfolding salvage_of unless
accepted-stays fs file out list small w room =
    let f = four fs file w in
    let s : scan 4096 zero (drop 4 file) ≡ all_kept fs = scan_is (small-drop 4 file small) (rw f.0 (keeps_all 4096 fs w.lawful w.not_many)) in
    rw (s, kept_all fs, no_stretch 4 fs, ← w.parts, le-leb 4 (length file) f.1, le-leb (length file) out room, le-leb 0 (list / 2) (omega arith))
