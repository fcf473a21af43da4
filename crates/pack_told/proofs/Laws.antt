-- The answers of the entries over packs, by their cases. Assumes nothing.
use Rattle.std.specs.Prelude.{◌≡◌, refl, ℕ, length, Ok, Err, Some, None}
use Rattle.laws.specs.Small.{differ}
use Rattle.answers.specs.declared.Refusal.{Refusal}
use Rattle.answers.specs.Refusals as code
use Rattle.pack_reading.specs.Pack.{Pack, refusal, accepted}
use Rattle.pack_reading.specs.Lookup.{Found, absent, found}
use Rattle.packs.specs.Files.{answer_of}
use Rattle.pack_lookup.specs.declared.Part.{Part}
use Rattle.pack_lookup.specs.Lookup.{part, found_as}
use Rattle.reading.specs.Output.{Rewritten, written}
use Rattle.reading.specs.Output as output
use Rattle.marks.specs.Converting as marks
use Rattle.pack_salvage.specs.Salvage.{Salvaged, salvaged}
use Rattle.pack_salvage.specs.Salvage as salvage
use Rattle.salvage.specs.declared.Salvaged as code_salvage
use Rattle.salvage.specs.Salvaging as salvages
use Rattle.pack_told.specs.Told.{number_told, pack_told, written_told, salvage_told, found_told}

pub read_is : (x : Pack) → number_told (answer_of x) ≡ pack_told x
unfolding pack_told
read_is (refusal n p) = refl
read_is (accepted fs) = refl

pub written_is : (x : Rewritten) → number_told (marks.answer_of x) ≡ written_told x
unfolding written_told
written_is (output.refusal n p) = refl
written_is (written bytes) = refl

pub not_salvaged : (x : Salvaged) {e : Refusal} → Err e ≡ salvages.answer_of x → ◌≡◌ {A = ℕ × ℕ × ℕ} (e.number, e.place, 0) (salvage_told x)
unfolding salvage_told
not_salvaged (salvage.refusal n p) {e} q = let z : e ≡ code.refusal n p = cc in rw z
not_salvaged (salvaged bytes l) q = differ cc

pub all_salvaged : (x : Salvaged) {s : code_salvage.Salvaged} → Ok s ≡ salvages.answer_of x → ◌≡◌ {A = ℕ × ℕ × ℕ} (0, s.length, s.stretches) (salvage_told x)
unfolding salvage_told
all_salvaged (salvage.refusal n p) q = differ cc
all_salvaged (salvaged bytes l) {s} q = let z : s ≡ record { length = length bytes; stretches = length l } = cc in rw z

pub none_found : (x : Found) → None ≡ found_as x → ◌≡◌ {A = ℕ × ℕ × ℕ} (0, 0, 0) (found_told x)
unfolding found_told
none_found absent q = refl
none_found (found a b) q = differ cc

pub one_found : (x : Found) {p : Part} → Some p ≡ found_as x → ◌≡◌ {A = ℕ × ℕ × ℕ} (1, p.first, p.count) (found_told x)
unfolding found_told
one_found absent q = differ cc
one_found (found a b) {p} q = let z : p ≡ part a b = cc in rw z
