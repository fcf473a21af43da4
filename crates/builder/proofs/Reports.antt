-- The answers of the entries over reports, by their cases. Assumes nothing.
use Rattle.std.specs.Prelude.{Err, Ok}
use mathlib.Core.Path.{◌≡◌, refl}
use Prim.Native.Nat.{ℕ}
use Rattle.laws.specs.Small.{differ}
use Rattle.answers.specs.declared.Refusal.{Refusal}
use Rattle.pack_figures.specs.Report.{Added, unchanged, added}
use Rattle.pack_sums.specs.Sum.{answer_of}
use Rattle.pack_report.specs.Add.{added_as}
use Rattle.builder.specs.Reports.{add_told, sum_told}
use Rattle.answers.specs.Refusals.{refusal as refusal_at}

pub add-refused : (x : Added) {r : Refusal} → Err r ≡ added_as x → ◌≡◌ {A = ℕ × ℕ} (r.number, r.place) (add_told x)
unfolding add_told
add-refused (unchanged n p) {r} q = let h : r ≡ refusal_at n p = cc in rw h
add-refused (added s) q = differ cc

pub add-added : (x : Added) → Ok (tt {0}) ≡ added_as x → ◌≡◌ {A = ℕ × ℕ} (0, 0) (add_told x)
unfolding add_told
add-added (unchanged n p) q = differ cc
add-added (added s) q = refl

pub sum-refused : (x : Added) {r : Refusal} → Err r ≡ answer_of x → r.number ≡ sum_told x
unfolding sum_told
sum-refused (unchanged n p) {r} q = let h : r ≡ refusal_at n p = cc in rw h
sum-refused (added s) q = differ cc

pub sum-added : (x : Added) → Ok (tt {0}) ≡ answer_of x → 0 ≡ sum_told x
unfolding sum_told
sum-added (unchanged n p) q = differ cc
sum-added (added s) q = refl
