-- Converting a pack from one form to the other (Req 10). Assumes nothing.
use Rattle.std.specs.Prelude.{◌≡◌, refl, List, [], ◌∷◌, ℕ, ◌+◌, ◌*◌, length}
use Rattle.std.proofs.Common.{arith, length-append}
use Rattle.layout.specs.Number.{little}
use Rattle.reading.specs.Answer.{Answer, refused, read}
use Rattle.reading.specs.Output.{Rewritten, refusal, fitted}
use Rattle.pack_layout.specs.Pack.{Stored, plain, marked, record_bytes, records_bytes, pack_bytes, PackLays}
use Rattle.pack_reading.specs.Pack.{pack_at}
use Rattle.pack_reading.proofs.Theorems.{pack_complete}

-- Req 10: "Refusals: those of Req 01, 51 .., then 21 with the bytes needed"; "copying path lengths as found": the same files in the other form
unfoldable pub by_pack : (to : List ℕ) → Answer (List Stored) → (out : ℕ) → Rewritten
by_pack to (refused number place) out = refusal number place
by_pack to (read fs e) out = fitted (pack_bytes to fs) out

-- from one form to the other, where so many bytes are lent. Req 10: "A conversion lends no table": there is room for every pack.
unfoldable pub convert_of : (from to file : List ℕ) (out : ℕ) → Rewritten
convert_of from to file out = by_pack to (pack_at from file 4096) out

-- the same files in the other form are a pack of that form
pub other_form : (from to : List ℕ) (fs : List Stored) {file : List ℕ} → PackLays from fs file → PackLays to fs (pack_bytes to fs)
other_form from to fs w = record { lawful = w.lawful; not_many = w.not_many; parts = refl }

-- every pack of the one form is converted to the same files in the other
pub converts : (from to : List ℕ) (fs : List Stored) (file : List ℕ) (out : ℕ) → PackLays from fs file → convert_of from to file out ≡ fitted (pack_bytes to fs) out
unfolding convert_of by_pack
converts from to fs file out w = rw (pack_complete from file 4096 fs w w.not_many)

-- a mark of two bytes for each file
marks-length : (fs : List Stored) → length (records_bytes marked fs) ≡ length (records_bytes plain fs) + 2 * length fs
unfolding records_bytes record_bytes
marks-length [] = refl
marks-length (f ∷ fs) =
    omega (arith, length-append (record_bytes marked f) (records_bytes marked fs), length-append (record_bytes plain f) (records_bytes plain fs), marks-length fs)

pub marked-length : (fs : List Stored) → length (pack_bytes marked fs) ≡ length (pack_bytes plain fs) + 2 * length fs
unfolding pack_bytes
marked-length fs =
    omega (arith, length-append (little 4 (length fs)) (records_bytes marked fs), length-append (little 4 (length fs)) (records_bytes plain fs), marks-length fs)
