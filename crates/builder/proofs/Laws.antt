-- What the C entries tell, by what their calls answered. Assumes nothing.
use Rattle.std.specs.Prelude.{Err, Ok, Result}
use mathlib.Core.Path.{◌≡◌, refl}
use mathlib.Core.List.{List}
use Prim.Native.Nat.{ℕ}
use lib.IntN.{ℤ, pos}
use lib.ListN.{length}
use mir.Val.{SFits, to_z, of_z}
use mir.Syntax.{w64}
use mir.Facts.{to_z-of_z}
use Rattle.laws.specs.Small.{differ}
use Rattle.places.specs.Padding.{file_padding}
use Rattle.reading.specs.File.{Load, refusal, accepted}
use Rattle.reading.specs.Output as rewritten
use Rattle.reading.specs.Output.{Rewritten}
use Rattle.rewrite.specs.Contract as rewrite
use Rattle.load.specs.Loads.{answer_of}
use Rattle.ticks.specs.declared.Time.{Time}
use Rattle.builder.specs.Packed.{code, packed, rewrite_packed}
use Rattle.builder.specs.Told.{load_told, span_told, signed_told, time_told}
use Rattle.load.specs.Loads.{loaded}
use Rattle.answers.specs.Refusals.{refusal as refusal_at}
use Rattle.answers.specs.declared.Refusal.{Refusal}
use Rattle.lookups.specs.declared.Span.{Span}
use Rattle.load.specs.declared.Loaded.{Loaded}

pub load_refused : (file : List ℕ) (x : Load) {r : Refusal} {c : ℕ} → Err r ≡ answer_of file x → c ≡ code r.number r.place → ◌≡◌ {A = ℕ × ℕ × ℕ × ℕ} (c, 0, 0, 0) (load_told file x)
unfolding load_told packed
load_refused file (refusal m q) {r} {c} e p =
    let h : r ≡ refusal_at m q = cc in
    let d : c ≡ code m q = rw h at p in
    rw d
load_refused file (accepted rows readers shared) e p = differ cc

pub load_accepted : (file : List ℕ) (x : Load) {r : Loaded} → Ok r ≡ answer_of file x → ◌≡◌ {A = ℕ × ℕ × ℕ × ℕ} (r.rows, r.readers, r.shared, r.padding) (load_told file x)
unfolding load_told packed
load_accepted file (refusal m q) e = differ cc
load_accepted file (accepted rows readers shared) {r} e =
    let h : r ≡ loaded (length rows) readers shared (file_padding file readers rows) = cc in
    rw h

-- the same of a rewrite
pub rewrite_refused : (x : Rewritten) {r : Refusal} {c : ℕ} → Err r ≡ rewrite.answer_of x → c ≡ code r.number r.place → c ≡ rewrite_packed x
unfolding rewrite_packed
rewrite_refused (rewritten.refusal m q) {r} {c} e p =
    let h : r ≡ refusal_at m q = cc in
    rw h at p
rewrite_refused (rewritten.written bytes) e p = differ cc

pub rewrite_length : (x : Rewritten) {n : ℕ} → Ok n ≡ rewrite.answer_of x → n ≡ rewrite_packed x
unfolding rewrite_packed
rewrite_length (rewritten.refusal m q) e = differ cc
rewrite_length (rewritten.written bytes) {n} e = let q : n ≡ length bytes = cc in q

-- the answer of both entries that load is the packed one
pub load_packed : (file : List ℕ) (x : Load) → (load_told file x).0 ≡ packed x
unfolding load_told
load_packed file (refusal number place) = refl
load_packed file (accepted rows readers shared) = refl

pub span-refused : {x : Result Span Refusal} {r : Refusal} → x ≡ Err r → ◌≡◌ {A = ℕ × ℕ × ℕ} (r.number, 0, 0) (span_told x)
unfolding span_told
span-refused e = rw e

pub span_found : {x : Result Span Refusal} {r : Span} → x ≡ Ok r → ◌≡◌ {A = ℕ × ℕ × ℕ} (0, r.first, r.length) (span_told x)
unfolding span_told
span_found e = rw e

pub signed_refused : {x : Result ℤ Refusal} {r : Refusal} → x ≡ Err r → ◌≡◌ {A = ℕ × ℤ} (r.number, pos 0) (signed_told x)
unfolding signed_told
signed_refused e = rw e

pub signed_number : {x : Result ℤ Refusal} {z : ℤ} → x ≡ Ok z → SFits w64 z → ◌≡◌ {A = ℕ × ℤ} (0, to_z w64 (of_z w64 z)) (signed_told x)
unfolding signed_told
signed_number e f = rw (to_z-of_z {w = w64} f, e)

pub time-refused : {x : Result Time Refusal} {r : Refusal} → x ≡ Err r → ◌≡◌ {A = ℕ × ℤ × ℕ} (r.number, pos 0, 0) (time_told x)
unfolding time_told
time-refused e = rw e

pub time_at : {x : Result Time Refusal} {t : Time} → x ≡ Ok t → SFits w64 t.seconds → ◌≡◌ {A = ℕ × ℤ × ℕ} (0, to_z w64 (of_z w64 t.seconds), t.ticks) (time_told x)
unfolding time_told
time_at e f = rw (to_z-of_z {w = w64} f, e)
