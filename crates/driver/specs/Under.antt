-- What the driver's loader answers under a lent list of enum types (02, Req 07). Assumes nothing.
use Rattle.std.specs.Prelude.{◌≡◌, List, ◌↔◌, ℕ}
use Rattle.std.proofs.Common.{sym, ◌∙◌}
use Rattle.layout.specs.EnumList.{EnumEntry}
use Rattle.reading.specs.Reads.{Small}
use Rattle.reading.specs.File.{Load, refusal}
use Rattle.layout.specs.Fits.{FittingTree}
use Rattle.reading.specs.Theorems.{Accepts}
use Rattle.enums.specs.Judge.{Judgement, lawful, enums_at}
use Rattle.enums.specs.Judge.{refused as list-refused}
use Rattle.readers.specs.Judged.{judged_name, judges}
use Rattle.load.specs.Under.{load_under, load_lawful, load_refused-list}
use Rattle.profile.specs.Profile.{Profile}
use Rattle.profile.specs.Offences.{driver_of}
use Rattle.profile.proofs.Passes.{passes, same_answer}

-- 02, Req 02: 32 "before all else"
unfoldable pub by_list : Judgement → (file : List ℕ) (words : ℕ) → Load
by_list (list-refused number entry) file words = refusal number entry
by_list (lawful es) file words = driver_of (judged_name es) file words

-- what `load_driver` answers, where so many words are lent; it leaves `table_of` of it in them: 02: "after any refusal the table is zero"
unfoldable pub driver_under : (enums file : List ℕ) (words : ℕ) → Load
driver_under enums file words = by_list (enums_at enums) file words

-- under a list that 32 does not refuse: "A file passes exactly if the plain loader accepts it and these hold"
pub passes_under : (enums file : List ℕ) (words : ℕ) (es : List EnumEntry) → Small file → enums_at enums ≡ lawful es
    → Accepts (driver_under enums file words) ↔ ((f : FittingTree es file words) × Profile f.tree f.lays.readers file)
unfolding driver_under by_list
passes_under enums file words es small e = rw e (passes es (judged_name es) (judges es) file words small)

-- "Its rows are then the plain loader's"
pub same_under : (enums file : List ℕ) (words : ℕ) (es : List EnumEntry) → enums_at enums ≡ lawful es
    → (f : FittingTree es file words) → Profile f.tree f.lays.readers file → driver_under enums file words ≡ load_under enums file words
unfolding driver_under by_list
same_under enums file words es e f p = rw e (same_answer es (judged_name es) (judges es) file words f p) ∙ sym (load_lawful enums file words es e)

-- under a list that 32 refuses no file passes
pub none_under : (enums file : List ℕ) (words : ℕ) {n i : ℕ} → enums_at enums ≡ list-refused n i → driver_under enums file words ≡ load_under enums file words
unfolding driver_under by_list
none_under enums file words e = rw (e, load_refused-list enums file words e)
