-- What salvaging a marked pack answers, and what it leaves in the output and in the list of skipped stretches (Req 11). Assumes nothing.
use Rattle.std.specs.Prelude.{◌≡◌, refl, Bool, cond, List, [], ◌∷◌, ◌++◌, ℕ, zero, suc, ◌+◌, ◌*◌, ◌/◌, ◌≤◌, leb, length, drop}
use Rattle.std.proofs.Common.{ap, subst, arith, length-append, length-drop, le-leb}
use Rattle.std.proofs.Math.Seq.{drop-append_seam}
use Rattle.layout.specs.Number.{little}
use Rattle.reading.specs.Little.{length-little}
use Rattle.reading.specs.Reads.{Small, small-drop, small_left}
use Rattle.pack_layout.specs.Pack.{Stored, marked, record_bytes, records_bytes, pack_bytes, PackLays}
use Rattle.pack_reading.specs.Pack.{accepted}
use Rattle.pack_salvage.specs.Scan.{Piece, kept, skipped, Scanned, pieces_bytes, makes_up, kept_of, all_kept, kept-lawful, kept-no_longer, keeps_all, kept_all}
use Rattle.pack_salvage.specs.Scanning.{scan, scan_is, is_scanned}
use Rattle.pack_salvage.specs.Stretches.{Stretch, stretches, words}
use Rattle.pack_salvage.proofs.Stretches.{stretches-at_most}
use Rattle.pack_salvage.specs.Salvage.{new_pack, pieces_of, pieces_scanned}

-- what is written is a marked pack
pub pack_written : (file : List ℕ) → Small file → PackLays marked (kept_of (pieces_of file)) (new_pack file)
pack_written file small =
    let k = kept-lawful (pieces_scanned file small) in
    record { lawful = k.0; not_many = k.1; parts = refl }

-- there are at most 4,097 stretches: one before each of 4,096 records, and one behind them
pub few_stretches : {bs : List ℕ} (ps : List Piece) → Scanned 4096 bs ps → length (stretches 4 ps) ≤ 4097
few_stretches ps s = omega (arith, stretches-at_most 4 ps, (kept-lawful s).1)

small-append : (a b : List ℕ) → Small a → Small b → Small (a ++ b)
unfolding Small
small-append [] b h k = k
small-append (x ∷ a) b h k = (h.0, small-append a b h.1 k)

small-little : (k n : ℕ) → Small (little k n)
unfolding little Small
small-little zero n = tt
small-little (suc k) n = (omega arith, small-little k (n / 256))

kept_small : (ps : List Piece) → Small (pieces_bytes ps) → Small (records_bytes marked (kept_of ps))
unfolding pieces_bytes kept_of records_bytes Small
kept_small [] h = tt
kept_small (kept f ∷ ps) h =
    let a = record_bytes marked f in
    let b = pieces_bytes ps in
    let k : Small b = subst Small (drop-append_seam a b) (small-drop (length a) (a ++ b) h) in
    small-append a (records_bytes marked (kept_of ps)) (small_left a b h) (kept_small ps k)
kept_small (skipped b ∷ ps) h = kept_small ps h.1

-- the new pack is a file of bytes
new_small : (file : List ℕ) → Small file → Small (new_pack file)
unfolding pack_bytes
new_small file small =
    let fs = kept_of (pieces_of file) in
    let e = makes_up (pieces_scanned file small) in
    small-append (little 4 (length fs)) (records_bytes marked fs) (small-little 4 (length fs)) (kept_small (pieces_of file) (rw e (small-drop 4 file small)))
