-- The judge's loop: the entries that were passed, and what is left to say of the bytes behind them. Assumes nothing.
use mathlib.Core.Path.{◌≡◌, refl, sym, ap, ◌∙◌}
use mathlib.Core.Bool.{Bool, true, false, cond}
use mathlib.Core.List.{List, [], ◌∷◌, ◌++◌, append_assoc}
use Prim.Native.Nat.{ℕ, zero, suc, ◌+◌, ◌-◌, ◌≤◌, ◌<◌}
use native.Mathlib.Omega.{arith}
use lib.ListN.{length, take, drop, get_or, length-drop, length-append, drop_of_length-le}
use lib.Seq.{take-append_seam}
use borrow.Author.Tests.{lt-ltb, le-ltb, eq-eqb, ne_eqb}
use Rattle.laws.specs.Small.{differ}
use Rattle.layout.specs.Kind.{alike}
use Rattle.names.specs.Codes.{alike_then}
use Rattle.seen_names.specs.Seen.{is_noted, noted}
use Rattle.seen_names.specs.Laws.{noted_now, noted_still}
use Rattle.layout.specs.EnumList.{EnumEntry, entry, write_enums, size_in}
use Rattle.names.specs.Entries.{entries_of}
use Rattle.names.specs.EntryLaws.{entries-written}
use Rattle.std.specs.Prelude.{Ok, Err}
use Rattle.answers.specs.Refusals.{refusal}
use Rattle.enums.specs.Judge.{Judgement, refused, lawful, is_enum_type, check, enums_from, enums_at}
use Rattle.enums.specs.Laws.{write-append}
use Rattle.enums.specs.Lists.{first_written}
use Rattle.enums.specs.Contract.{answer_of}
use Rattle.enums.specs.Noted.{AllNoted}

-- more room for entries than there are bytes makes no difference
from_same : (j k : ℕ) (earlier : List EnumEntry) (s : List ℕ) → length s ≤ j → length s ≤ k → enums_from j earlier s ≡ enums_from k earlier s
unfolding enums_from
from_same zero zero earlier s h g = refl
from_same zero (suc k) earlier [] h g = refl
from_same zero (suc k) earlier (n ∷ s) h g = absurd (omega arith)
from_same (suc j) zero earlier [] h g = refl
from_same (suc j) zero earlier (n ∷ s) h g = absurd (omega arith)
from_same (suc j) (suc k) earlier [] h g = refl
from_same (suc j) (suc k) earlier (n ∷ s) h g =
    let l = length-drop (suc n) s in
    rw (from_same j k (earlier ++ (entry (take n s) (get_or s n 0) ∷ [])) (drop (suc n) s) (omega arith) (omega arith))

-- what the judge says of bytes behind earlier entries
abbrev pub behind : List EnumEntry → List ℕ → Judgement
behind earlier s = enums_from (length s) earlier s

module _ (earlier : List EnumEntry) (n : ℕ) (s : List ℕ) where
  behind_cut : length s ≤ n → behind earlier (n ∷ s) ≡ refused 32 (length earlier)
  unfolding enums_from check
  behind_cut h = rw (le-ltb n (length s) h)

  module _ (h : n < length s) where
    behind_bad : is_enum_type (take n s) (get_or s n 0) ≡ false → behind earlier (n ∷ s) ≡ refused 32 (length earlier)
    unfolding enums_from check
    behind_bad b = rw (lt-ltb n (length s) h, b)

    module _ (b : is_enum_type (take n s) (get_or s n 0) ≡ true) where
      behind_again : (size_in earlier (take n s) ≡ 0 → ⊥) → behind earlier (n ∷ s) ≡ refused 32 (length earlier)
      unfolding enums_from check
      behind_again e = rw (lt-ltb n (length s) h, b, ne_eqb _ _ e)

      behind_next : size_in earlier (take n s) ≡ 0 → behind earlier (n ∷ s) ≡ behind (earlier ++ (entry (take n s) (get_or s n 0) ∷ [])) (drop (suc n) s)
      unfolding enums_from check
      behind_next e =
          let l = length-drop (suc n) s in
          rw (lt-ltb n (length s) h, b, eq-eqb _ _ e)
          (from_same (length s) (length (drop (suc n) s)) (earlier ++ (entry (take n s) (get_or s n 0) ∷ [])) (drop (suc n) s) (omega arith) (omega arith))

-- one entry more, whose name was noted just now
all_still : (seen name : List ℕ) (es : List EnumEntry) → AllNoted seen es → AllNoted (noted seen name) es
unfolding AllNoted
all_still seen name [] w = tt
all_still seen name (entry n z ∷ es) w = (noted_still seen name n w.0, all_still seen name es w.1)

all_append : (seen name : List ℕ) (size : ℕ) (es : List EnumEntry) → AllNoted seen es → is_noted seen name ≡ true → AllNoted seen (es ++ (entry name size ∷ []))
unfolding AllNoted
all_append seen name size [] w n = (n, tt)
all_append seen name size (entry m z ∷ es) w n = (w.0, all_append seen name size es w.1 n)

all_more : (seen name : List ℕ) (size : ℕ) (es : List EnumEntry) → AllNoted seen es → AllNoted (noted seen name) (es ++ (entry name size ∷ []))
all_more seen name size es w = all_append (noted seen name) name size es (all_still seen name es w) (noted_now seen name)

-- a name that is not noted is none of theirs
pub new_unlisted : (seen name : List ℕ) (es : List EnumEntry) → is_noted seen name ≡ false → AllNoted seen es → size_in es name ≡ 0
unfolding AllNoted size_in
new_unlisted seen name [] e w = refl
new_unlisted seen name (entry n z ∷ es) e w = go (new_unlisted seen name es e w.1) (alike name n) refl where
  go : size_in es name ≡ 0 → (b : Bool) → alike name n ≡ b → cond b z (size_in es name) ≡ 0
  go r true q =
      let y : is_noted seen name ≡ true = rw (alike_then name n q) w.0 in
      differ cc
  go r false q = r

-- the entries that were passed, as many as the code counts, each with its name noted in a table of marks
pub record Judging (s seen rest : List ℕ) (count : ℕ) : Type 0 where
  pub earlier : List EnumEntry
  pub passed : s ≡ write_enums earlier ++ rest
  pub counted : count ≡ length earlier
  pub few : count + length rest ≤ length s
  pub left : enums_at s ≡ behind earlier rest
  pub all_noted : AllNoted seen earlier

pub judging_start : (s seen : List ℕ) → Judging s seen s 0
unfolding enums_at write_enums AllNoted
judging_start s seen = record { earlier = []; passed = refl; counted = refl; few = omega arith; left = refl; all_noted = tt }

module _ {s seen rest : List ℕ} {count : ℕ} (j : Judging s seen rest count) where
  says : {number : ℕ} → behind j.earlier rest ≡ refused number (length j.earlier) → Err (refusal number count) ≡ answer_of (enums_at s)
  says {number} e = rw j.counted (ap answer_of (sym (j.left ∙ e)))

  pub judged-end : length rest ≡ 0 → Ok tt ≡ answer_of (enums_at s)
  unfolding enums_from
  judged-end h =
      let e : behind j.earlier rest ≡ lawful j.earlier = rw (drop_of_length-le rest {i = 0} (omega arith)) in
      ap answer_of (sym (j.left ∙ e))

  -- the entries that the code sees in the bytes before the rest
  before : take (length s - length rest) s ≡ write_enums j.earlier
  before =
      let z : length s - length rest ≡ length (write_enums j.earlier) = omega (arith, ap length j.passed, length-append (write_enums j.earlier) rest) in
      rw z (ap (take (length (write_enums j.earlier))) j.passed ∙ take-append_seam (write_enums j.earlier) rest)

  -- they have the sizes of the earlier entries
  sizes_before : (name : List ℕ) → size_in (entries_of (take (length s - length rest) s)) name ≡ size_in j.earlier name
  sizes_before name = ap (λ (l : List ℕ). size_in (entries_of l) name) before ∙ ap (λ (l : List EnumEntry). size_in l name) (entries-written j.earlier)

  -- and are all noted
  pub noted_before : AllNoted seen (entries_of (take (length s - length rest) s))
  noted_before = rw (before, entries-written j.earlier) j.all_noted

-- the entry that stands first in the rest
module _ {s seen r : List ℕ} {n count : ℕ} (j : Judging s seen (n ∷ r) count) where
  pub judged_cut : length r ≤ n → Err (refusal 32 count) ≡ answer_of (enums_at s)
  judged_cut c = says j (behind_cut j.earlier n r c)

  module _ (c : n < length r) where
    pub judged-bad : is_enum_type (take n r) (get_or r n 0) ≡ false → Err (refusal 32 count) ≡ answer_of (enums_at s)
    judged-bad b = says j (behind_bad j.earlier n r c b)

    module _ (b : is_enum_type (take n r) (get_or r n 0) ≡ true) where
      pub judged_again : (size_in (entries_of (take (length s - length (n ∷ r)) s)) (take n r) ≡ 0 → ⊥) → Err (refusal 32 count) ≡ answer_of (enums_at s)
      judged_again e = says j (behind_again j.earlier n r c b (λ q. e (sizes_before j (take n r) ∙ q)))

      pub judged_next : size_in (entries_of (take (length s - length (n ∷ r)) s)) (take n r) ≡ 0 → Judging s (noted seen (take n r)) (drop (n + 1) r) (count + 1)
      unfolding write_enums
      judged_next e =
          let this = entry (take n r) (get_or r n 0) in
          let f : size_in j.earlier (take n r) ≡ 0 = sym (sizes_before j (take n r)) ∙ e in
          let z : suc n ≡ n + 1 = omega arith in
          record {
            earlier = j.earlier ++ (this ∷ []);
            passed = j.passed ∙ ap (λ (x : List ℕ). write_enums j.earlier ++ x) (first_written n r c) ∙ sym (append_assoc (write_enums j.earlier) (write_enums (this ∷ [])) (drop (suc n) r))
                ∙ ap (λ (x : List ℕ). x ++ drop (suc n) r) (sym (write-append j.earlier (this ∷ []))) ∙ ap (λ (k : ℕ). write_enums (j.earlier ++ (this ∷ [])) ++ drop k r) z;
            counted = omega (arith, j.counted, length-append j.earlier (this ∷ []));
            few = omega (arith, j.few, length-drop (n + 1) r);
            left = j.left ∙ behind_next j.earlier n r c b f ∙ ap (λ (k : ℕ). behind (j.earlier ++ (this ∷ [])) (drop k r)) z;
            all_noted = all_more seen (take n r) (get_or r n 0) j.earlier j.all_noted;
          }
