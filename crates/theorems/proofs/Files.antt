-- From the contracts over packs to what is demanded of loading a file of one, and of finding it in the table that reading left. Assumes nothing.
use Rattle.std.specs.Prelude.{None, Option}
use mathlib.Core.Path.{◌≡◌, refl, sym, ap, ◌∙◌}
use mathlib.Core.Bool.{Bool, true, false, cond}
use mathlib.Core.List.{List, [], ◌∷◌, ◌++◌}
use Prim.Native.Nat.{ℕ, ◌*◌, ◌-◌}
use lib.ListN.{length, take, drop, replicate, take-append-drop}
use Rattle.laws.specs.Small.{differ}
use Rattle.reading.specs.Same.{same, same_sound, same_complete}
use Rattle.reading.specs.Reads.{Small, small-drop, small_left}
use Rattle.reading.specs.File as reading
use Rattle.load.specs.Under.{load_under}
use Rattle.enums.specs.Lists.{Bytes}
use Rattle.load.specs.Loads as load
use Rattle.pack_layout.specs.Pack.{Stored, Each, mark_of}
use Rattle.pack_layout.specs.Table.{flat, wholes, entries, Fitting}
use Rattle.pack_layout.specs.Lookup.{lowered, missing, content}
use Rattle.pack_reading.specs.Pack.{table_for}
use Rattle.pack_reading.proofs.Theorems as T
use Rattle.pack_reading.specs.Lookup as lookup
use Rattle.pack_reading.specs.Lookup.{wanted, Found, absent, found, find_in, find_of, first_exactly}
use Rattle.pack_reading.proofs.Lookup.{absent_exactly, looks_up}
use Rattle.pack_lookup.specs.declared.Part.{Part}
use Rattle.pack_lookup.specs.Lookup.{found_as, data_inside}
use Rattle.pack_load.specs.Opened.{loaded_as, opening, opened_of, leaving, rows_of}
use Rattle.theorems.specs.Packs.{opened_as, Opens, NotNamed, FirstNamed, Gives}
use Rattle.theorems.specs.PackLaws.{as_absent, as_found}
use Rattle.theorems.specs.Laws.{load_exact}
use Rattle.load.specs.Loads.{Loading}

-- ---- Loading a file

small-part : (a n : ℕ) (l : List ℕ) → Small l → Small (take n (drop a l))
small-part a n l s = small_left (take n (drop a l)) (drop n (drop a l)) (rw (take-append-drop n (drop a l)) (small-drop a l s))

loaded_as_lem : (bytes : List ℕ) (x : reading.Load) → loaded_as bytes x ≡ opened_as (load.answer_of bytes x)
loaded_as_lem bytes (reading.refusal number place) = refl
loaded_as_lem bytes (reading.accepted rows readers shared) = refl

not_absent : (bytes : List ℕ) (x : reading.Load) → loaded_as bytes x ≡ None → ⊥
not_absent bytes (reading.refusal number place) q = differ cc
not_absent bytes (reading.accepted rows readers shared) q = differ cc

is_absent : (enums pack : List ℕ) (words : ℕ) (x : Found) → opening enums pack words x ≡ None → x ≡ absent
is_absent enums pack words absent q = refl
is_absent enums pack words (found a n) q = absurd (not_absent (take n (drop a pack)) (load_under enums (take n (drop a pack)) words) q)

pub open_exact : (enums pack table path : List ℕ) (words : ℕ) {left : List ℕ} {r : Option Loading} → Bytes enums → Small pack → r ≡ opened_of enums pack table path words
    → left ≡ rows_of enums pack table path words → Opens enums pack table path words left r
unfolding find_of
open_exact enums pack table path words bytes small answers leaves =
    let x = find_in pack path (wholes table) in
    let both = absent_exactly pack path (wholes table) in
    record {
      absent = (λ q. both.0 (is_absent enums pack words x (sym answers ∙ q)), λ none. answers ∙ ap (opening enums pack words) (both.1 none));
      zeros = λ q. leaves ∙ ap (leaving enums pack words) (is_absent enums pack words x (sym answers ∙ q));
      part = λ a n m.
          let e = first_exactly pack path (wholes table) a n m in
          let y = load_under enums (take n (drop a pack)) words in
          let left_is = leaves ∙ ap (leaving enums pack words) e in
          (load.answer_of (take n (drop a pack)) y, answers ∙ ap (opening enums pack words) e ∙ loaded_as_lem (take n (drop a pack)) y, load_exact enums (take n (drop a pack)) words false bytes (small-part a n pack small) refl left_is);
    }

-- ---- Finding in the table that reading left

-- no file has the path where none is wanted, and so the other way
none-wanted : (path : List ℕ) (fs : List Stored) → wanted path fs ≡ missing → Each (NotNamed path) fs
unfolding wanted Each
none-wanted path [] q = tt
none-wanted path (f ∷ fs) q = go (same (lowered f.path) (lowered path)) refl q (none-wanted path fs) where
  go : (t : Bool) → same (lowered f.path) (lowered path) ≡ t → cond t (content f.content) (wanted path fs) ≡ missing → (wanted path fs ≡ missing → Each (NotNamed path) fs)
      → NotNamed path f × Each (NotNamed path) fs
  go true e q later = differ cc
  go false e q later = (λ m. let z : true ≡ false = sym (rw m (same_complete (lowered path))) ∙ e in differ cc, later q)

wants_none : (path : List ℕ) (fs : List Stored) → Each (NotNamed path) fs → wanted path fs ≡ missing
unfolding wanted Each
wants_none path [] w = refl
wants_none path (f ∷ fs) w = go (same (lowered f.path) (lowered path)) refl (wants_none path fs w.1) where
  go : (t : Bool) → same (lowered f.path) (lowered path) ≡ t → wanted path fs ≡ missing → cond t (content f.content) (wanted path fs) ≡ missing
  go true e q = absurd (w.0 (same_sound (lowered f.path) (lowered path) e))
  go false e q = q

-- what is wanted is the data of the first file of the path
abbrev Wants : (path bytes : List ℕ) → List Stored → Type 0
Wants path bytes fs = (g : Stored) × FirstNamed path fs g × (g.content ≡ bytes)

first_wanted : (path bytes : List ℕ) (fs : List Stored) → wanted path fs ≡ content bytes → Wants path bytes fs
unfolding wanted Each
first_wanted path bytes [] q = differ cc
first_wanted path bytes (f ∷ fs) q = go (same (lowered f.path) (lowered path)) refl q (first_wanted path bytes fs) where
  go : (t : Bool) → same (lowered f.path) (lowered path) ≡ t → cond t (content f.content) (wanted path fs) ≡ content bytes → (wanted path fs ≡ content bytes → Wants path bytes fs)
      → Wants path bytes (f ∷ fs)
  go true e q later =
      let c : f.content ≡ bytes = cc in
      (f, record { before = []; after = fs; split = refl; named = same_sound (lowered f.path) (lowered path) e; earlier = tt }, c)
  go false e q later =
      let w = later q in
      let other : NotNamed path f = λ m. let z : true ≡ false = sym (rw m (same_complete (lowered path))) ∙ e in differ cc in
      (w.0, record { before = f ∷ w.1.before; after = w.1.after; split = ap (λ (l : List Stored). f ∷ l) w.1.split; named = w.1.named; earlier = (other, w.1.earlier) }, w.2)

no_bytes : (file : List ℕ) (x : Found) → lookup.bytes_of file x ≡ missing → x ≡ absent
unfolding lookup.bytes_of
no_bytes file absent q = refl
no_bytes file (found a n) q = differ cc

-- what a lookup names in the table that reading left
pub looked : (marked : Bool) (pack : List ℕ) (words : ℕ) (path : List ℕ) {table : List ℕ} → table ≡ table_for (mark_of marked) pack words → (f : Fitting (mark_of marked) pack words)
    → lookup.bytes_of pack (find_of pack table path) ≡ wanted path f.files
looked marked pack words path {table} leaves f =
    let mark = mark_of marked in
    let fs = f.files in
    let t : table ≡ flat (entries mark 4 fs) ++ replicate (words - 4 * length fs) 0 = leaves ∙ T.table_is mark pack words f in
    ap (λ (l : List ℕ). lookup.bytes_of pack (find_of pack l path)) t ∙ looks_up mark pack path fs (words - 4 * length fs) f.lays

pub gives : (marked : Bool) (pack : List ℕ) (words : ℕ) (path : List ℕ) {table : List ℕ} {r : Option Part} → table ≡ table_for (mark_of marked) pack words → r ≡ found_as (find_of pack table path)
    → Gives marked pack words path r
unfolding lookup.bytes_of
gives marked pack words path {table} leaves answers =
    let x = find_of pack table path in
    record {
      absent = λ f.
          let w = looked marked pack words path leaves f in (
            λ q. none-wanted path f.files (sym w ∙ ap (lookup.bytes_of pack) (as_absent x (sym answers ∙ q))),
            λ n. answers ∙ ap found_as (no_bytes pack x (w ∙ wants_none path f.files n)),
          );
      first = λ f a n q.
          let e : x ≡ found a n = as_found x a n (sym answers ∙ q) in
          let w = first_wanted path (take n (drop a pack)) f.files (sym (looked marked pack words path leaves f) ∙ ap (lookup.bytes_of pack) e) in
          (w.0, w.1, record { inside = data_inside pack table path (sym q ∙ answers); bytes_are = sym w.2 });
    }
