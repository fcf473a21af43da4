-- The answers of the entries over XML, by their cases. Assumes nothing.
use Rattle.std.specs.Prelude.{Err, Ok}
use mathlib.Core.Path.{◌≡◌}
use Prim.Native.Nat.{ℕ}
use lib.ListN.{length}
use Rattle.laws.specs.Small.{differ}
use Rattle.reading.specs.Output.{Rewritten, refusal, written}
use Rattle.xml_export.specs.Contract as export
use Rattle.xml_import.specs.Puts as import
use Rattle.builder.specs.Packed.{code, rewrite_packed}
use Rattle.pack_told.specs.Told.{written_told}
use Rattle.answers.specs.declared.Refusal.{Refusal}
use Rattle.answers.specs.Refusals.{refusal as refusal_at}

pub not_exported : (x : Rewritten) {r : Refusal} {c : ℕ} → Err r ≡ export.answer_of x → c ≡ code r.number r.place → c ≡ rewrite_packed x
unfolding rewrite_packed
not_exported (refusal n p) {r} {c} e q =
    let h : r ≡ refusal_at n p = cc in
    rw h at q
not_exported (written bytes) e q = differ cc

pub all_exported : (x : Rewritten) {size : ℕ} → Ok size ≡ export.answer_of x → size ≡ rewrite_packed x
unfolding rewrite_packed
all_exported (refusal n p) e = differ cc
all_exported (written bytes) {size} e = let a : size ≡ length bytes = cc in a

pub not_imported : (x : Rewritten) {r : Refusal} → Err r ≡ import.answer_of x → ◌≡◌ {A = ℕ × ℕ} (r.number, r.place) (written_told x)
unfolding written_told
not_imported (refusal n p) {r} e = let h : r ≡ refusal_at n p = cc in rw h
not_imported (written bytes) e = differ cc

pub all_imported : (x : Rewritten) {size : ℕ} → Ok size ≡ import.answer_of x → ◌≡◌ {A = ℕ × ℕ} (0, size) (written_told x)
unfolding written_told
all_imported (refusal n p) e = differ cc
all_imported (written bytes) {size} e = let a : size ≡ length bytes = cc in rw a
