-- From the contract of `load_driver` to what is demanded of it. Assumes nothing.
use mathlib.Core.Path.{◌≡◌, refl, sym, ap, ◌∙◌}
use mathlib.Core.List.{List}
use Prim.Native.Nat.{ℕ, ◌*◌, ◌-◌}
use native.Mathlib.Omega.{arith}
use lib.ListN.{length, replicate}
use Rattle.laws.specs.Small.{differ}
use Rattle.layout.specs.Tree.{count}
use Rattle.layout.specs.Rows.{width}
use Rattle.layout.specs.File.{shared_of}
use Rattle.layout.specs.EnumList.{FirstBad, Unlawful}
use Rattle.layout.specs.Table.{room_of, by_rows, table}
use Rattle.layout.specs.Branches.{TableSkips}
use Rattle.layout.specs.Shortest.{short_file}
use Rattle.enums.specs.Judge.{Judgement, enums_at}
use Rattle.enums.specs.Judge.{refused as list-refused, lawful as List-Lawful}
use Rattle.enums.specs.Lists.{Bytes, Says, enums-sound, enums-complete}
use Rattle.places.specs.Padding.{file_padding}
use Rattle.reading.specs.Reads.{Small}
use Rattle.reading.specs.File.{Load, refusal, accepted, load_of, table_of, table_in}
use Rattle.reading.specs.Theorems as T
use Rattle.reading.proofs.Theorems as T-laws
use Rattle.branches.specs.Table.{rows_stand, file_skips}
use Rattle.shortest.specs.Theorems as S
use Rattle.readers.specs.Judged.{judged_name, judges}
use Rattle.std.specs.Prelude.{Ok, Err}
use Rattle.answers.specs.declared.Refusal.{Refusal}
use Rattle.answers.specs.Refusals.{refusal as broken}
use Rattle.load.specs.declared.Loaded.{Loaded}
use Rattle.load.specs.Under.{load_under, load_lawful, load_refused-list}
use Rattle.load.specs.Loads.{Loading, loaded as counts, answer_of}
use Rattle.profile.specs.Profile.{Profile}
use Rattle.profile.specs.Offences.{fine, fault, fault_of, by_fault, profiled, driver_of, Offence}
use Rattle.profile.specs.Passes.{driver_is}
use Rattle.profile_places.specs.Broken.{FirstBroken}
use Rattle.profile_places.proofs.First.{first_broken}
use Rattle.driver.specs.Facts.{hand_on}
use Rattle.driver.specs.Under.{by_list, driver_under, passes_under, same_under, none_under}
use Rattle.layout.specs.Fits.{Fitting, rows_in}
use Rattle.theorems.specs.Loading.{IsLoaded}
use Rattle.driver_theorems.specs.Driver.{Passes, LoadsForDriver, Beside}

-- ---- A file tree that fits, and the list under which it does

module _ {enums file : List ℕ} {words : ℕ} (f : Fitting enums file words) where
  list_is : enums_at enums ≡ List-Lawful f.es
  list_is = ap enums_at f.listed ∙ enums-complete f.es f.lawful

  load_is : load_under enums file words ≡ accepted (rows_in f.fits) (length f.fits.tree.names) (count (shared_of f.fits.tree.objects))
  load_is = load_lawful enums file words f.es list_is ∙ T-laws.rows_are f.es (judged_name f.es) (judges f.es) file words f.fits

  driver_of_lem : driver_under enums file words
      ≡ by_fault (fault_of file f.fits.lays.readers (rows_in f.fits)) (accepted (rows_in f.fits) (length f.fits.tree.names) (count (shared_of f.fits.tree.objects)))
  unfolding driver_under by_list
  driver_of_lem = rw list_is (driver_is f.es (judged_name f.es) (judges f.es) file words f.fits)

  -- a file that is shortest has no padding
  unpadded : file ≡ short_file f.fits.tree → file_padding file (length f.fits.tree.names) (rows_in f.fits) ≡ 0
  unpadded e = omega (arith, ap length e, S.padding_is f.es (judged_name f.es) (judges f.es) file words f.fits)

-- the rule of the seventh word holds of its table
table-skips : {enums file : List ℕ} {words : ℕ} (f : Fitting enums file words) {left : List ℕ} → left ≡ table by_rows (rows_in f.fits) words → TableSkips by_rows (room_of words) left (length (rows_in f.fits))
table-skips {enums} {file} {words} f e =
    rw e (file_skips f.es by_rows (room_of words) f.fits.tree file f.fits.lays (table by_rows (rows_in f.fits) words) (rows_stand (room_of words) (rows_in f.fits) (replicate (words - width * length (rows_in f.fits)) 0)))

module _ (enums file : List ℕ) (words : ℕ) {left : List ℕ} {r : Loading} (bytes : Bytes enums) (small : Small file)
    (answers : r ≡ answer_of file (driver_under enums file words)) (leaves : left ≡ table_of (driver_under enums file words) words) where
  passed : (f : Fitting enums file words) → Profile f.fits.tree f.fits.lays.readers file
      → driver_under enums file words ≡ accepted (rows_in f.fits) (length f.fits.tree.names) (count (shared_of f.fits.tree.objects))
  passed f p = same_under enums file words f.es (list_is f) f.fits p ∙ load_is f

  loaded : (p : Passes enums file words)
      → (r ≡ Ok (counts (length (rows_in p.0.fits)) (length p.0.fits.tree.names) (count (shared_of p.0.fits.tree.objects)) 0)) × (left ≡ table by_rows (rows_in p.0.fits) words)
  unfolding table_in
  loaded (f, p) =
      let d = passed f p in
      (answers ∙ rw (d, unpadded f p.shortest), leaves ∙ rw d)

  list_first : Unlawful enums → (place : ℕ) × (r ≡ Err (broken 32 place)) × FirstBad enums place
  list_first none = go (enums_at enums) refl (enums-sound enums bytes) where
    go : (j : Judgement) → enums_at enums ≡ j → Says enums j → (place : ℕ) × (r ≡ Err (broken 32 place)) × FirstBad enums place
    go (list-refused n i) e w =
        let z : n ≡ 32 = w.0 in
        let d : driver_under enums file words ≡ refusal n i = none_under enums file words e ∙ load_refused-list enums file words e in
        (i, answers ∙ rw (d, z), w.1)
    go (List-Lawful es) e w = absurd (none es w.0 w.1)

  -- what passes
  fits : (x : Load) → driver_under enums file words ≡ x → IsLoaded (answer_of file x) → Passes enums file words
  unfolding T.Accepts
  fits x e a = go (enums_at enums) refl (enums-sound enums bytes) where
    accepts : (x : Load) → IsLoaded (answer_of file x) → T.Accepts x
    accepts (refusal n p) a = absurd a
    accepts (accepted rows readers shared) a = a

    go : (j : Judgement) → enums_at enums ≡ j → Says enums j → Passes enums file words
    go (list-refused n i) q w =
        let d : x ≡ refusal n i = sym e ∙ none_under enums file words q ∙ load_refused-list enums file words q in
        absurd (rw d at a)
    go (List-Lawful es) q w =
        let y = (passes_under enums file words es small q).0 (rw e (accepts x a)) in
        (record { es = es; lawful = w.0; listed = w.1; fits = y.0 }, y.1)

  cleared : (number place : ℕ) → r ≡ Err (broken number place) → left ≡ replicate words 0
  unfolding table_in
  cleared number place e = leaves ∙ go (driver_under enums file words) (sym answers ∙ e) where
    go : (x : Load) → answer_of file x ≡ Err (broken number place) → table_of x words ≡ replicate words 0
    go (refusal n p) q = refl
    go (accepted rows readers shared) q = differ cc

  placed : (f : Fitting enums file words) (number place : ℕ) → r ≡ Err (broken number place) → FirstBroken f.fits.tree f.fits.lays.readers file (rows_in f.fits) number place
  unfolding by_fault
  placed f number place e =
      first_broken f.es f.fits.tree file small f.fits.lays number place
      (go (fault_of file f.fits.lays.readers (rows_in f.fits)) (ap (answer_of file) (sym (driver_of_lem f)) ∙ sym answers ∙ e)) where
        go : (x : Offence) → answer_of file (by_fault x (accepted (rows_in f.fits) (length f.fits.tree.names) (count (shared_of f.fits.tree.objects)))) ≡ Err (broken number place) → x ≡ fault number place
        go fine q = differ cc
        go (fault n p) q =
            let v : broken n p ≡ broken number place = cc in
            rw (ap (λ (x : Refusal). x.number) v, ap (λ (x : Refusal). x.place) v)

  skipped : (used readers shared padding : ℕ) → r ≡ Ok (counts used readers shared padding) → TableSkips by_rows (room_of words) left used
  skipped used readers shared padding e = go (fits (driver_under enums file words) refl (rw (sym answers ∙ e) tt)) where
    go : Passes enums file words → TableSkips by_rows (room_of words) left used
    go (f, p) =
        let l = loaded (f, p) in
        let q = sym e ∙ l.0 in
        let v : counts used readers shared padding ≡ counts (length (rows_in f.fits)) (length f.fits.tree.names) (count (shared_of f.fits.tree.objects)) 0 = cc in
        let u : used ≡ length (rows_in f.fits) = ap (λ (x : Loaded). x.rows) v in
        rw u (table-skips f l.1)

  pub load_driver_exact : LoadsForDriver enums file words left r
  load_driver_exact = record {
    passes = (λ a. fits (driver_under enums file words) refl (rw answers at a), λ p. rw (loaded p).0 tt);
    rows = loaded;
    zero = cleared;
    refuses = placed;
    list = list_first;
    skips = skipped;
  }

-- ---- Beside the plain loader

-- what passes is as it was loaded
module _ (enums file : List ℕ) where
  unchanged : (words : ℕ) → IsLoaded (answer_of file (driver_under enums file words)) → driver_under enums file words ≡ load_under enums file words
  unfolding driver_under by_list driver_of profiled by_fault
  unchanged words a = go (enums_at enums) refl a where
    by_fault_lem : (x : Offence) (l : Load) → IsLoaded (answer_of file (by_fault x l)) → by_fault x l ≡ l
    by_fault_lem fine l a = refl
    by_fault_lem (fault n p) l a = absurd a

    by_load : (readers : _) (l : Load) → IsLoaded (answer_of file (profiled file readers l)) → profiled file readers l ≡ l
    by_load readers (refusal n p) a = refl
    by_load readers (accepted rows m s) a = by_fault_lem (fault_of file readers rows) (accepted rows m s) a

    go : (j : Judgement) → enums_at enums ≡ j → IsLoaded (answer_of file (by_list j file words)) → by_list j file words ≡ load_under enums file words
    go (list-refused n i) e a = absurd a
    go (List-Lawful es) e a = by_load _ (load_of (judged_name es) file words) a ∙ sym (load_lawful enums file words es e)

  module _ (n m : ℕ) {plain_left left : List ℕ} {r : Loading × Loading} (answers : r.0 ≡ answer_of file (load_under enums file n)) (leaves : plain_left ≡ table_of (load_under enums file n) n)
      (driver_answers : r.1 ≡ answer_of file (driver_under enums file m)) (driver_leaves : left ≡ table_of (driver_under enums file m) m) where
    pub beside : Beside n m plain_left left r
    beside = record {
      refusals = λ e number place q. driver_answers ∙ ap (λ (k : ℕ). answer_of file (driver_under enums file k)) (sym e) ∙ sym (hand_on enums file n (sym q ∙ answers)).0;
      rows = λ e a.
          let same : driver_under enums file m ≡ load_under enums file n = unchanged m (rw driver_answers at a) ∙ ap (load_under enums file) (sym e) in
          (driver_answers ∙ ap (answer_of file) same ∙ sym answers, driver_leaves ∙ ap (λ (x : Load). table_of x m) same ∙ ap (table_of (load_under enums file n)) (sym e) ∙ sym leaves);
    }
