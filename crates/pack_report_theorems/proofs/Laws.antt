-- What the contracts of adding say of the list of packs seen. Assumes nothing.
use mathlib.Core.Path.{◌≡◌, refl, sym, ap, ◌∙◌}
use mathlib.Core.Bool.{Bool, true, false}
use mathlib.Core.List.{List, ◌++◌}
use Prim.Native.Nat.{ℕ}
use Rattle.laws.specs.Small.{differ}
use Rattle.load_part.specs.Part.{opened}
use Rattle.pack_figures.specs.Report as Report
use Rattle.pack_figures.specs.Report.{unchanged, added, sums, fits, sum_of, left, runs_added, adds}
use Rattle.std.specs.Prelude.{Ok, Err}
use Rattle.answers.specs.Refusals.{refusal}
use Rattle.pack_sums.specs.Sum.{answer_of}
use Rattle.pack_report.specs.Add.{Adding, added_as, add_under}
use Rattle.pack_report_theorems.specs.Runs.{season_report, Carries, Joins}

stays : (x : Report.Added) (entry : List ℕ) {r : Adding} {number place : ℕ} → r ≡ added_as x → r ≡ Err (refusal number place) → left x entry ≡ entry
unfolding left
stays (unchanged n p) entry e q = refl
stays (added s) entry {number = number} {place = place} e q = let z : Err (refusal number place) ≡ added_as (added s) = sym q ∙ e in differ cc

module _ (enums : List ℕ) (row_words pack_words : ℕ) (pack entry : List ℕ) {exit : List ℕ} {r : Adding}
    (answers : r ≡ added_as (add_under enums row_words pack_words entry pack)) (leaves : exit ≡ left (add_under enums row_words pack_words entry pack) entry) where
  pub carry : Carries enums pack_words pack entry exit r
  carry = record {
    carries = λ seen e u.
        let x = add_under enums row_words pack_words (season_report enums pack_words seen) pack in
        let a : r ≡ added_as x = rw e at answers in
        let l : exit ≡ left x (season_report enums pack_words seen) = rw e at leaves in
        l ∙ adds (opened enums) pack_words row_words seen pack (λ n p q.
        let told : r ≡ Err (refusal n p) = a ∙ ap added_as q in
        (λ z. (u p).0 (rw z at told), λ z. (u p).1 (rw z at told)));
    refuses = λ number place q. leaves ∙ stays (add_under enums row_words pack_words entry pack) entry answers q;
  }

module _ (entry other : List ℕ) {exit : List ℕ} {r : Adding} (answers : r ≡ answer_of (sum_of entry other)) (leaves : exit ≡ left (sum_of entry other) entry) where
  pub join : Joins entry other exit r
  unfolding sum_of left
  join = record {
    joins = λ enums pack_words packs more e o t. go (fits entry other) refl enums pack_words packs more e o t;
    refuses = λ number place t. leaves ∙ stays (sum_of entry other) entry answers t;
  } where
    go : (b : Bool) → fits entry other ≡ b → (enums : List ℕ) (pack_words : ℕ) (packs more : List (List ℕ)) → entry ≡ season_report enums pack_words packs → other ≡ season_report enums pack_words more
        → r ≡ Ok tt → exit ≡ season_report enums pack_words (packs ++ more)
    go true f enums pack_words packs more e o t =
        let l : exit ≡ sums entry other = rw f at leaves in
        l ∙ rw (e, o) (runs_added (opened enums) pack_words packs more)
    go false f enums pack_words packs more e o t =
        let z : r ≡ Err (refusal 71 0) = rw f at answers in
        let y : Ok tt ≡ Err (refusal 71 0) = sym t ∙ z in
        differ cc
