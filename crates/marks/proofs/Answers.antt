-- What a walk and a conversion tell, by the answer that they stand for. Assumes nothing.
use mathlib.Core.Path.{◌≡◌, refl, sym, ap, ◌∙◌}
use mathlib.Core.Bool.{Bool, true, false, not}
use mathlib.Core.List.{List}
use Prim.Native.Nat.{ℕ, ◌*◌, ◌≤◌, ◌<◌}
use native.Mathlib.Omega.{arith}
use lib.ListN.{length}
use borrow.Author.Tests.{le-leb, lt-leb}
use Rattle.laws.specs.Small.{differ}
use Rattle.reading.specs.Answer as answer
use Rattle.reading.specs.Answer.{Answer, refused, read}
use Rattle.reading.specs.Reads.{Small}
use Rattle.reading.specs.Output.{Rewritten, refusal, fitted, output_of}
use Rattle.pack_layout.specs.Pack.{Stored, PackLays, pack_bytes, mark_of}
use Rattle.pack_reading.specs.Pack.{pack_at, to_pack}
use Rattle.pack_reading.proofs.Theorems.{pack_sound}
use Rattle.std.specs.Prelude.{Ok, Err}
use Rattle.answers.specs.declared.Refusal.{Refusal}
use Rattle.answers.specs.Refusals as code
use Rattle.packs.specs.Files as packs
use Rattle.pack_writing.specs.Convert.{by_pack, convert_of, converts, marked-length}
use Rattle.marks.specs.Converting.{count_of, size_of, Measured, Fits, converted, answer_of}

-- ---- The walk

pub walk_refused : (x : Answer (List Stored)) {number place : ℕ} → x ≡ refused number place → Err (code.refusal number place) ≡ packs.answer_of (to_pack x)
unfolding to_pack
walk_refused x e = rw e

pub walk-read : (x : Answer (List Stored)) {n e : ℕ} {fs : List Stored} → (n ≡ length fs) × (x ≡ read fs e) → Ok n ≡ packs.answer_of (to_pack x)
unfolding to_pack
walk-read x h = rw (h.1, h.0)

-- ---- The conversion

module _ (marked : Bool) (pack : List ℕ) (out : ℕ) where
  no_pack : {e : Refusal} (x : Answer (List Stored)) → Err e ≡ packs.answer_of (to_pack x) → by_pack (mark_of marked) x out ≡ refusal e.number e.place
  unfolding to_pack by_pack
  no_pack {e} (refused n p) q = let z : e ≡ code.refusal n p = cc in rw z
  no_pack (read fs e) q = differ cc

  pub not_converted : {e : Refusal} → Err e ≡ count_of (not marked) pack → converted marked pack out ≡ refusal e.number e.place
  unfolding convert_of
  not_converted q = no_pack (pack_at (mark_of (not marked)) pack 4096) q

-- a pack of so many files in the other form
pub record Counted (marked : Bool) (pack : List ℕ) (n : ℕ) : Type 0 where
  pub files : List Stored
  pub lays : PackLays (mark_of (not marked)) files pack
  pub count : length files ≡ n

module _ (marked : Bool) (pack : List ℕ) where
  counted_of : {n : ℕ} (x : Answer (List Stored)) → answer.Ok (λ fs e. PackLays (mark_of (not marked)) fs pack × (length fs ≤ 4096)) x → Ok n ≡ packs.answer_of (to_pack x) → Counted marked pack n
  unfolding to_pack
  counted_of (refused number place) k q = differ cc
  counted_of {n} (read fs e) k q = let l : n ≡ length fs = cc in record { files = fs; lays = (k.got refl).0; count = sym l }

  pub counted : {n : ℕ} → Small pack → Ok n ≡ count_of (not marked) pack → Counted marked pack n
  counted small q = counted_of (pack_at (mark_of (not marked)) pack 4096) (pack_sound (mark_of (not marked)) pack 4096 small) q

sizes : (marked : Bool) (fs : List Stored) → length (pack_bytes (mark_of marked) fs) ≡ size_of marked (length (pack_bytes (mark_of (not marked)) fs)) (length fs)
sizes true fs = marked-length fs
sizes false fs = omega (arith, marked-length fs)

marks_fit : (marked : Bool) (fs : List Stored) → marked ≡ false → 2 * length fs ≤ length (pack_bytes (mark_of (not marked)) fs)
marks_fit true fs e = differ cc
marks_fit false fs e = omega (arith, marked-length fs)

module _ {marked : Bool} {pack : List ℕ} {n : ℕ} (w : Counted marked pack n) where
  long : length pack ≡ length (pack_bytes (mark_of (not marked)) w.files)
  long = ap length w.lays.parts

  pub size_is : length (pack_bytes (mark_of marked) w.files) ≡ size_of marked (length pack) n
  size_is = rw (long, ← w.count) (sizes marked w.files)

  pub measured : length pack < 9223372036854775808 → Measured (length pack) n marked
  measured h = (h, omega (arith, w.count, w.lays.not_many), λ e. omega (arith, marks_fit marked w.files e, long, w.count))

  pub fits : {out : ℕ} → size_of marked (length pack) n ≤ out → Fits marked pack n out
  fits h = record { files = w.files; lays = w.lays; count = w.count; room = omega (arith, size_is) }

  answers : (out : ℕ) → converted marked pack out ≡ fitted (pack_bytes (mark_of marked) w.files) out
  answers out = converts (mark_of (not marked)) (mark_of marked) w.files pack out w.lays

  pub no_room : {out : ℕ} → out < size_of marked (length pack) n → converted marked pack out ≡ refusal 21 (size_of marked (length pack) n)
  unfolding fitted
  no_room {out} h = answers out ∙ rw (size_is, lt-leb (size_of marked (length pack) n) out h)

  pub has_room : {out : ℕ} → size_of marked (length pack) n ≤ out → Ok (size_of marked (length pack) n) ≡ answer_of (converted marked pack out)
  unfolding fitted
  has_room {out} h = rw (answers out, size_is, le-leb (size_of marked (length pack) n) out h, size_is)

-- a refused conversion
pub refused-answer : {x : Rewritten} {number place : ℕ} (out : List ℕ) → x ≡ refusal number place → (Err (code.refusal number place) ≡ answer_of x) × (out ≡ output_of x out)
unfolding output_of
refused-answer out e = rw e (refl, refl)
