-- What is demanded of adding packs to a report and of adding reports (02, Req 14). Assumes nothing.
use Rattle.std.specs.Prelude.{◌≡◌, refl, List, [], ◌∷◌, ◌++◌, ℕ, replicate, Ok, Err}
use Rattle.load_part.specs.Part.{opened}
use Rattle.pack_figures.specs.Figures.{season}
use Rattle.pack_figures.specs.Report.{words_from, report_of}
use Rattle.answers.specs.Refusals.{refusal}
use Rattle.pack_report.specs.Add.{Adding}

-- the report of a list of packs, "with one enum list and one size of pack table throughout"
abbrev pub season_report : (enums : List ℕ) (pack_words : ℕ) → List (List ℕ) → List ℕ
season_report enums pack_words packs = report_of (opened enums) pack_words packs

-- "zero at first"
pub none_seen : (enums : List ℕ) (pack_words : ℕ) → season_report enums pack_words [] ≡ replicate 132 0
unfolding words_from season
none_seen enums pack_words = refl

-- "no 71 or 72 met"
abbrev pub Unmet : Adding → Type 0
Unmet r = (place : ℕ) → (r ≡ Err (refusal 71 place) → ⊥) × (r ≡ Err (refusal 72 place) → ⊥)

-- a pack was added to a report, which held `entry` and holds `exit`
pub record Carries (enums : List ℕ) (pack_words : ℕ) (pack entry exit : List ℕ) (r : Adding) : Type 0 where
  -- "The report is a value carried from pack to pack": a report of the packs seen becomes that of these and the new one
  pub carries : (seen : List (List ℕ)) → entry ≡ season_report enums pack_words seen → Unmet r → exit ≡ season_report enums pack_words (seen ++ (pack ∷ []))
  -- "A refused pack changes no figure"
  pub refuses : (number place : ℕ) → r ≡ Err (refusal number place) → exit ≡ entry

-- another report was added
pub record Joins (entry other exit : List ℕ) (r : Adding) : Type 0 where
  -- "it is the same however the list is split between two runs whose reports are added"
  pub joins : (enums : List ℕ) (pack_words : ℕ) (packs more : List (List ℕ)) → entry ≡ season_report enums pack_words packs → other ≡ season_report enums pack_words more
      → r ≡ Ok tt → exit ≡ season_report enums pack_words (packs ++ more)
  pub refuses : (number place : ℕ) → r ≡ Err (refusal number place) → exit ≡ entry
