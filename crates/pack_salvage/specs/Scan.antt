-- The scan of a damaged marked pack, as Req 11 says it: records kept and bytes skipped. No reading program is in it. Assumes nothing.
use Rattle.std.specs.Prelude.{◌≡◌, refl, List, [], ◌∷◌, ◌++◌, ℕ, zero, suc, ◌≤◌, length}
use Rattle.std.proofs.Common.{sym, ap, ◌∙◌, arith, length-append}
use Rattle.pack_layout.specs.Pack.{Stored, Lawful, marked, record_bytes, records_bytes, Each}

-- a record that is kept, or a byte that is skipped
pub data Piece : Type 0 where
  kept : Stored → Piece
  skipped : ℕ → Piece

unfoldable pub all_skipped : List ℕ → List Piece
all_skipped [] = []
all_skipped (b ∷ bs) = skipped b ∷ all_skipped bs

-- Req 11: "a mark and a whole record that keeps Req 01's limits stand here", before the rest
pub record RecordStands (f : Stored) (rest bs : List ℕ) : Type 0 where
  pub lawful : Lawful f
  pub parts : bs ≡ record_bytes marked f ++ rest

-- no such record stands here
abbrev pub NoRecordStands : List ℕ → Type 0
NoRecordStands bs = (f : Stored) (rest : List ℕ) → RecordStands f rest bs → ⊥

-- these bytes are scanned as these pieces, where so many more records may be kept
pub data Scanned : ℕ → List ℕ → List Piece → Type 0 where
  -- Req 11: "Stop at the end"
  at_end : {k : ℕ} → Scanned k [] []
  -- "or after 4,096 records; the rest is skipped"
  no_more : {bs : List ℕ} → Scanned zero bs (all_skipped bs)
  -- "keep it and go on after it"
  keeps : {k : ℕ} {f : Stored} {rest bs : List ℕ} {ps : List Piece} → RecordStands f rest bs → Scanned k rest ps → Scanned (suc k) bs (kept f ∷ ps)
  -- "otherwise go on one byte"
  goes_on : {k b : ℕ} {bs : List ℕ} {ps : List Piece} → NoRecordStands (b ∷ bs) → Scanned (suc k) bs ps → Scanned (suc k) (b ∷ bs) (skipped b ∷ ps)

-- ---- The pieces make up the input

-- the bytes of pieces: kept records with marks, and skipped bytes
unfoldable pub pieces_bytes : List Piece → List ℕ
pieces_bytes [] = []
pieces_bytes (kept f ∷ ps) = record_bytes marked f ++ pieces_bytes ps
pieces_bytes (skipped b ∷ ps) = b ∷ pieces_bytes ps

skipped-bytes : (bs : List ℕ) → pieces_bytes (all_skipped bs) ≡ bs
unfolding pieces_bytes all_skipped
skipped-bytes [] = refl
skipped-bytes (b ∷ bs) = ap (λ (l : List ℕ). b ∷ l) (skipped-bytes bs)

-- Req 11: "Kept records with marks, skipped bytes and the four count bytes make up the input"; these are behind the count bytes
pub makes_up : {left : ℕ} {bs : List ℕ} {ps : List Piece} → Scanned left bs ps → pieces_bytes ps ≡ bs
unfolding pieces_bytes
makes_up at_end = refl
makes_up {bs = bs} no_more = skipped-bytes bs
makes_up (keeps {f = f} w s) = ap (λ (l : List ℕ). record_bytes marked f ++ l) (makes_up s) ∙ sym w.parts
makes_up (goes_on {b = b} none s) = ap (λ (l : List ℕ). b ∷ l) (makes_up s)

-- ---- The kept files

unfoldable pub kept_of : List Piece → List Stored
kept_of [] = []
kept_of (kept f ∷ ps) = f ∷ kept_of ps
kept_of (skipped b ∷ ps) = kept_of ps

unfoldable pub all_kept : List Stored → List Piece
all_kept [] = []
all_kept (f ∷ fs) = kept f ∷ all_kept fs

none_kept : (bs : List ℕ) → kept_of (all_skipped bs) ≡ []
unfolding kept_of all_skipped
none_kept [] = refl
none_kept (b ∷ bs) = none_kept bs

-- what is kept is lawful, and no more than may be
pub kept-lawful : {left : ℕ} {bs : List ℕ} {ps : List Piece} → Scanned left bs ps → Each Lawful (kept_of ps) × (length (kept_of ps) ≤ left)
unfolding kept_of Each
kept-lawful at_end = (tt, omega arith)
kept-lawful {bs = bs} no_more = rw (none_kept bs) (tt, omega arith)
kept-lawful (keeps w s) = let r = kept-lawful s in ((w.lawful, r.0), omega (arith, r.1))
kept-lawful (goes_on none s) = kept-lawful s

-- and has no more bytes than all pieces have
pub kept-no_longer : (ps : List Piece) → length (records_bytes marked (kept_of ps)) ≤ length (pieces_bytes ps)
unfolding kept_of records_bytes pieces_bytes
kept-no_longer [] = omega arith
kept-no_longer (kept f ∷ ps) =
    omega (arith, kept-no_longer ps, length-append (record_bytes marked f) (records_bytes marked (kept_of ps)), length-append (record_bytes marked f) (pieces_bytes ps))
kept-no_longer (skipped b ∷ ps) = omega (arith, kept-no_longer ps)

-- files one after the other are all kept
pub keeps_all : (left : ℕ) (fs : List Stored) → Each Lawful fs → length fs ≤ left → Scanned left (records_bytes marked fs) (all_kept fs)
unfolding Each records_bytes all_kept
keeps_all left [] l h = at_end
keeps_all zero (f ∷ fs) l h = absurd (omega arith)
keeps_all (suc left) (f ∷ fs) l h = keeps (record { lawful = l.0; parts = refl }) (keeps_all left fs l.1 (omega arith))

pub kept_all : (fs : List Stored) → kept_of (all_kept fs) ≡ fs
unfolding kept_of all_kept
kept_all [] = refl
kept_all (f ∷ fs) = ap (λ (gs : List Stored). f ∷ gs) (kept_all fs)
