-- What loading answers under a lent list of enum types (02, Req 02). Assumes nothing.
use Rattle.std.specs.Prelude.{◌≡◌, List, ℕ, Ok, Err}
use Rattle.answers.specs.declared.Refusal.{Refusal}
use Rattle.answers.specs.Refusals.{refusal as broken}
use Rattle.std.proofs.Math.Path.{refl, ap}
use Rattle.std.proofs.Common.{◌∙◌}
use Rattle.laws.specs.Small.{differ}
use Rattle.layout.specs.EnumList.{EnumEntry}
use Rattle.reading.specs.Answer.{Answer, refused}
use Rattle.layout.specs.Rows.{Row}
use Rattle.layout.specs.Table.{room_of}
use Rattle.reading.specs.File.{Loaded, file_at, Load, refusal, accepted, to_load, load_of}
use Rattle.names.specs.Entries.{enums_of}
use Rattle.names.specs.EntryLaws.{enums-written}
use Rattle.enums.specs.Judge.{Judgement, lawful, enums_at}
use Rattle.enums.specs.Judge.{refused as list-refused}
use Rattle.enums.specs.Contract.{answer_of}
use Rattle.enums.specs.Lists.{Bytes, enums-sound}
use Rattle.readers.specs.Judged.{judged_name}

-- 02: 32, placed at an entry's number, "before all else"
unfoldable pub under_list : {A : Type 0} → Judgement → (List EnumEntry → Answer A) → Answer A
under_list (list-refused number entry) f = refused number entry
under_list (lawful es) f = f es

-- a file, where the table has room for so many rows
unfoldable pub file_under : (enums file : List ℕ) (room : ℕ) → Answer Loaded
file_under enums file room = under_list (enums_at enums) (λ es. file_at (judged_name es) file room)

-- what loading answers for a file, where so many words are lent
unfoldable pub load_under : (enums file : List ℕ) (words : ℕ) → Load
load_under enums file words = to_load (file_under enums file (room_of words))

-- ---- Laws

-- by what the judge of the list answers
module _ (enums file : List ℕ) (room : ℕ) where
  pub refused-list : {n i : ℕ} → Err (broken n i) ≡ answer_of (enums_at enums) → file_under enums file room ≡ refused n i
  unfolding file_under under_list
  refused-list {n} {i} e = go (enums_at enums) e where
    go : (j : Judgement) → Err (broken n i) ≡ answer_of j → under_list j (λ es. file_at (judged_name es) file room) ≡ refused n i
    go (list-refused m k) q =
        let z : broken n i ≡ broken m k = cc in
        let e₁ : n ≡ m = ap (λ (y : Refusal). y.number) z in
        let e₂ : i ≡ k = ap (λ (y : Refusal). y.place) z in
        rw (e₁, e₂)
    go (lawful es) q = differ cc

  pub lawful-list : Bytes enums → Ok tt ≡ answer_of (enums_at enums) → file_under enums file room ≡ file_at (judged_name (enums_of enums)) file room
  unfolding file_under under_list
  lawful-list b e = go (enums_at enums) refl e where
    go : (j : Judgement) → enums_at enums ≡ j → Ok tt ≡ answer_of j → under_list j (λ es. file_at (judged_name es) file room) ≡ file_at (judged_name (enums_of enums)) file room
    go (list-refused m k) q e = differ cc
    go (lawful es) q e =
        let w = rw q at (enums-sound enums b) in
        let z : enums_of enums ≡ es = ap enums_of w.1 ∙ enums-written es w.0 in
        rw z

-- under a list that is not refused, loading is loading under its entries
pub load_lawful : (enums file : List ℕ) (words : ℕ) (es : List EnumEntry) → enums_at enums ≡ lawful es → load_under enums file words ≡ load_of (judged_name es) file words
unfolding load_under file_under under_list load_of
load_lawful enums file words es e = rw e

-- a file is accepted only under such a list
pub accepted-list : (enums file : List ℕ) (words : ℕ) (rows : List Row) (readers shared : ℕ) → load_under enums file words ≡ accepted rows readers shared → (es : List EnumEntry) × (enums_at enums ≡ lawful es)
unfolding load_under file_under under_list to_load
accepted-list enums file words rows readers shared e = go (enums_at enums) e where
  go : (j : Judgement) → to_load (under_list j (λ es. file_at (judged_name es) file (room_of words))) ≡ accepted rows readers shared → (es : List EnumEntry) × (j ≡ lawful es)
  go (list-refused n i) q = differ cc
  go (lawful es) q = (es, refl)

-- under a list that is refused, so is every file
pub load_refused-list : (enums file : List ℕ) (words : ℕ) {n i : ℕ} → enums_at enums ≡ list-refused n i → load_under enums file words ≡ refusal n i
unfolding load_under file_under under_list to_load
load_refused-list enums file words e = rw e
