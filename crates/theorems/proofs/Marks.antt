-- From what is demanded of converting to what is demanded of converting back, and of lookups in both packs. Assumes nothing.
use Rattle.std.specs.Prelude.{Err, Ok, Result, Option}
use mathlib.Core.Path.{◌≡◌, refl, sym, ap, subst, ◌∙◌}
use mathlib.Core.Bool.{Bool, true, false, not}
use mathlib.Core.List.{List}
use Prim.Native.Nat.{ℕ, ◌≤◌}
use lib.ListN.{length, take}
use Rattle.laws.specs.Small.{differ}
use Rattle.pack_layout.specs.Pack.{PackLays, mark_of}
use Rattle.pack_layout.specs.Table.{Fitting}
use Rattle.pack_reading.specs.Pack.{table_for}
use Rattle.pack_reading.specs.Lookup as lookup
use Rattle.pack_reading.specs.Lookup.{find_of, wanted}
use Rattle.pack_lookup.specs.Lookup.{found_as}
use Rattle.pack_writing.specs.Convert.{other_form}
use Rattle.theorems.specs.Marks.{Given, in_form, Converts, ConvertsBack, data_at, FindsSame}
use Rattle.theorems.specs.declared.converted.FoundBoth.{FoundBoth}
use Rattle.theorems.specs.Packs.{Gives}
use Rattle.theorems.proofs.Files.{looked, gives}
use Rattle.theorems.specs.MarkLaws.{at_start}
use Rattle.answers.specs.Refusals.{refusal as refusal_at}
use Rattle.answers.specs.declared.Refusal.{Refusal}
use Rattle.pack_lookup.specs.declared.Part.{Part}

-- ---- There and back

twice : (marked : Bool) → not (not marked) ≡ marked
twice true = refl
twice false = refl

module _ {marked : Bool} {pack out end : List ℕ} {r : Result ℕ Refusal} (c : Converts marked pack out end r) where
  -- the new pack, where the answer is its length
  new_pack : {words : ℕ} (f : Given marked pack words) → length (in_form marked f.files) ≤ length out → {n : ℕ} → r ≡ Ok n
      → (n ≡ length (in_form marked f.files)) × (take n end ≡ in_form marked f.files)
  new_pack f h {n} q =
      let new = in_form marked f.files in
      let e : Ok (length new) ≡ Ok n = sym (c.converts f h).0 ∙ q in
      let a : n ≡ length new = cc in
      (a, rw (a, (c.converts f h).1) (at_start new out h).1)

  pub not_back : {number place : ℕ} {second end₂ : List ℕ} {r₂ : Result ℕ Refusal} → r ≡ Err (refusal_at number place) → ConvertsBack marked pack (length out) second end₂ r₂
  not_back {number} {place} q = record {
    original = λ f h k. let e : Err (refusal_at number place) ≡ Ok (length (in_form marked f.files)) = sym q ∙ (c.converts f h).0 in differ cc;
  }

  pub back : {n : ℕ} {second end₂ : List ℕ} {r₂ : Result ℕ Refusal} → r ≡ Ok n → Converts (not marked) (take n end) second end₂ r₂ → ConvertsBack marked pack (length out) second end₂ r₂
  back {n} {second} {end₂} {r₂} q d = record {
    original = λ {words} f h k.
        let from = mark_of (not marked) in
        let new : PackLays (mark_of marked) f.files (take n end) = rw (new_pack f h q).1 (other_form from (mark_of marked) f.files f.lays) in
        let g : Given (not marked) (take n end) words = record { files = f.files; lays = rw (twice marked) new; room = f.room } in
        let p : in_form (not marked) f.files ≡ pack = sym f.lays.parts in
        let room : length (in_form (not marked) f.files) ≤ length second = rw p k in
        rw (← p) (d.converts g room);
  }

-- ---- Lookups in both

data_as : (file : List ℕ) (x : lookup.Found) → data_at file (found_as x) ≡ lookup.bytes_of file x
unfolding lookup.bytes_of
data_as file lookup.absent = refl
data_as file (lookup.found a n) = refl

-- what a lookup finds in the table that reading left
data_looked : (marked : Bool) (file : List ℕ) (words : ℕ) (f : Fitting (mark_of marked) file words) (path : List ℕ) {table : List ℕ} {x : Option Part} → table ≡ table_for (mark_of marked) file words
    → x ≡ found_as (find_of file table path) → data_at file x ≡ wanted path f.files
data_looked marked file words f path {table} leaves answers = ap (data_at file) answers ∙ data_as file (find_of file table path) ∙ looked marked file words path leaves f

module _ {marked : Bool} {pack out end : List ℕ} {r : Result ℕ Refusal} (c : Converts marked pack out end r) {words : ℕ} (path : List ℕ) {first : List ℕ} {both : FoundBoth}
    (t : first ≡ table_for (mark_of (not marked)) pack words) (x : both.given ≡ found_as (find_of pack first path)) where
  pub not_same : {number place : ℕ} → r ≡ Err (refusal_at number place) → FindsSame marked pack (length out) words path end both
  not_same {number} {place} q =
      let none : (f : Given marked pack words) → length (in_form marked f.files) ≤ length out → ⊥
      = λ f h. let e : Err (refusal_at number place) ≡ Ok (length (in_form marked f.files)) = sym q ∙ (c.converts f h).0 in differ cc in
      record { in_given = gives (not marked) pack words path t x; in_new = λ f h. absurd (none f h); same = λ f h. absurd (none f h) }

  pub same_data : {n : ℕ} {second : List ℕ} → r ≡ Ok n → second ≡ table_for (mark_of marked) (take n end) words → both.new ≡ found_as (find_of (take n end) second path)
      → FindsSame marked pack (length out) words path end both
  same_data {n} q u y = record {
    in_given = gives (not marked) pack words path t x;
    in_new = λ f h. subst (λ (k : ℕ). Gives marked (take k end) words path both.new) (new_pack c f h q).0 (gives marked (take n end) words path u y);
    same = λ f h.
        let w = new_pack c f h q in
        let lays : PackLays (mark_of marked) f.files (take n end) = rw w.1 (other_form (mark_of (not marked)) (mark_of marked) f.files f.lays) in
        let g : Fitting (mark_of marked) (take n end) words = record { files = f.files; lays = lays; room = f.room } in
        let e : data_at pack both.given ≡ data_at (take n end) both.new
        = data_looked (not marked) pack words f path t x ∙ sym (data_looked marked (take n end) words g path u y) in
        subst (λ (k : ℕ). data_at pack both.given ≡ data_at (take k end) both.new) w.0 e;
  }
