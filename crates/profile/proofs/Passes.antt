-- A file passes exactly if the plain loader accepts it and the profile holds (02, Req 07). `named` is the layout's relation for reader names, and `name_of` reads them. Assumes nothing.
use Rattle.std.specs.Prelude.{◌≡◌, true, ◌↔◌, ℕ, suc, ◌+◌, ◌⊎◌}
use Rattle.std.proofs.Math.Path.{refl, sym, ap}
use Rattle.std.proofs.Common.{◌∙◌, arith, inl, inr}
use mathlib.Core.List.{List, [], ◌∷◌, ◌++◌, append-nil}
use Rattle.std.proofs.Math.ListN.{length, drop}
use Rattle.laws.specs.Small.{differ}
use Rattle.layout.specs.EnumList.{EnumEntry}
use Rattle.layout.specs.Number.{little}
use Rattle.layout.specs.Text.{ascii}
use Rattle.layout.specs.Target.{Target}
use Rattle.layout.specs.Tree.{Trees, count}
use Rattle.layout.specs.Rows.{Row}
use Rattle.layout.specs.File.{shared_of, header}
use Rattle.layout.specs.Shortest.{short_file}
use Rattle.reading.specs.Reads.{Small}
use Rattle.reading.specs.Front.{lists_reads}
use Rattle.reading.specs.Accepts.{entries-length}
use Rattle.reading.specs.File.{Named, Judges, lists_at, Load, refusal, accepted, load_of}
use Rattle.layout.specs.Fits.{FittingTree, rows_in}
use Rattle.reading.specs.Theorems.{Accepts}
use Rattle.reading.proofs.Theorems.{rows_are, accepted_is}
use Rattle.places.specs.Places.{file_places}
use Rattle.places.specs.Padding.{padding}
use Rattle.shortest.specs.Theorems.{padding_is, stays}
use Rattle.profile.specs.Profile.{Profile}
use Rattle.profile.specs.Stand.{Stand, file_stand}
use Rattle.profile.specs.Offences.{other_platform, padded, uses, unused, doubled, repeated, no_page, nextless, fine, fault, first, first_lowest, from47, from46, from45, from44, from43, from42, fault_of, by_fault, targets_of, profiled, driver_of, Offence}
use Rattle.profile.specs.Keys.{repeated-none, none-repeated}
use Rattle.profile.specs.Rules.{SeenOther, platform-none, none-platform, padded-none, none-padded, uses-some, some-uses, unused-none, none-unused, doubled-none, none-doubled, all_distinct, distinct_all, page-none, none-page, nextless-none, none-nextless}
use Rattle.profile.specs.Passes.{Clean, driver_is, one_used}

first_fine : (n : ℕ) (l : List ℕ) (x : Offence) → first n l x ≡ fine → (l ≡ []) × (x ≡ fine)
unfolding first
first_fine n [] x e = (refl, e)
first_fine n (p ∷ l) x e = differ cc

lowest-fine : (n : ℕ) (l : List ℕ) (x : Offence) → first_lowest n l x ≡ fine → (l ≡ []) × (x ≡ fine)
unfolding first_lowest
lowest-fine n [] x e = (refl, e)
lowest-fine n (p ∷ l) x e = differ cc

module _ (file : List ℕ) (readers : List Target) (rows : List Row) where
  fine_clean : fault_of file readers rows ≡ fine → Clean file readers rows
  unfolding fault_of from42 from43 from44 from45 from46 from47
  fine_clean e =
      let a = first_fine 41 (other_platform file) _ e in
      let b = first_fine 42 (padded file (file_places file (length readers) rows)) _ a.1 in
      let c = first_fine 43 (unused file rows (length readers) 0) _ b.1 in
      let d = first_fine 44 (doubled file [] readers 0) _ c.1 in
      let f = lowest-fine 45 (repeated file rows) _ d.1 in
      let g = first_fine 46 (no_page rows) _ f.1 in
      let h = first_fine 47 (nextless rows) _ g.1 in
      record { c41 = a.0; c42 = b.0; c43 = c.0; c44 = d.0; c45 = f.0; c46 = g.0; c47 = h.0 }

  clean_fine : Clean file readers rows → fault_of file readers rows ≡ fine
  unfolding fault_of from42 from43 from44 from45 from46 from47 first first_lowest
  clean_fine c = rw (c.c41, c.c42, c.c43, c.c44, c.c45, c.c46, c.c47)

by_fault_lem : (f : Offence) (x : Load) → Accepts (by_fault f x) → (f ≡ fine) × Accepts x
unfolding by_fault Accepts
by_fault_lem fine x a = (refl, a)
by_fault_lem (fault n p) x a = absurd a

module _ (es : List EnumEntry) (name_of : ℕ → List ℕ → Named) (judges : Judges es name_of) (file : List ℕ) (words : ℕ) where
  module _ (f : FittingTree es file words) where
    abbrev rows : List Row
    rows = rows_in f

    readers : List Target
    readers = f.lays.readers

    stands : Stand file f.tree.objects (rows_in f)
    stands = file_stand file es f.tree f.lays

    no_post : rows_in f ++ [] ≡ rows_in f
    no_post = append-nil (rows_in f)

    count_is : length f.lays.readers ≡ length f.tree.names
    count_is = entries-length es f.tree.names f.lays.readers f.lays.lists.entries f.lays.lists.listed

    -- no padding is the shortest bytes
    pad_is : length file ≡ length (short_file f.tree) + padding file (file_places file (length f.lays.readers) (rows_in f))
    pad_is = rw count_is (padding_is es name_of judges file words f)

    clean_profile : Clean file f.lays.readers (rows_in f) → Profile f.tree f.lays.readers file
    unfolding nextless repeated
    clean_profile c = record {
      platform = platform-none es f.tree file f.lays c.c41;
      shortest =
          let z = padded-none file (file_places file (length f.lays.readers) (rows_in f)) c.c42 in
          sym (stays es name_of judges file words f (omega (arith, pad_is)));
      used = λ i h. one_used (suc i) (uses-some file i f.tree.objects (rows_in f) [] stands
          (rw no_post (unused-none file (rows_in f) (length f.lays.readers) 0 c.c43 i (omega arith) (omega arith))));
      distinct = all_distinct f.lays.readers (doubled-none file [] f.lays.readers 0 c.c44).1;
      keys = (repeated-none file f.tree.objects (rows_in f) [] stands (rw no_post c.c45)).0;
      first = page-none file f.tree.objects (rows_in f) stands c.c46;
      nexts = (nextless-none file f.tree.objects (rows_in f) [] stands (rw no_post c.c47)).0;
    }

    profile_clean : Profile f.tree f.lays.readers file → Clean file f.lays.readers (rows_in f)
    unfolding nextless repeated SeenOther
    profile_clean p = record {
      c41 = none-platform es f.tree file f.lays p.platform;
      c42 = none-padded file (file_places file (length f.lays.readers) (rows_in f)) (omega (arith, pad_is, ap length p.shortest));
      c43 = none-unused file (rows_in f) (length f.lays.readers) 0 (λ i g h. rw no_post at (some-uses file i f.tree.objects (rows_in f) [] stands (p.used i (omega arith))));
      c44 = none-doubled file [] f.lays.readers 0 tt (distinct_all f.lays.readers p.distinct);
      c45 = rw no_post at (none-repeated file f.tree.objects (rows_in f) [] stands p.keys refl);
      c46 = none-page file f.tree.objects (rows_in f) stands p.first;
      c47 = rw no_post at (none-nextless file f.tree.objects (rows_in f) [] stands p.nexts refl);
    }

  passed : Small file → (x : Load) → load_of name_of file words ≡ x → Accepts (driver_of name_of file words) → (f : FittingTree es file words) × Profile f.tree f.lays.readers file
  unfolding driver_of profiled Accepts
  passed small (refusal n p) e a = absurd (rw e at a)
  passed small (accepted rows readers shared) e a =
      let g = accepted_is es name_of judges file words small rows readers shared e in
      let f = g.0 in
      let b = by_fault_lem (fault_of file f.lays.readers (rows_in f)) (accepted (rows_in f) (length f.tree.names) (count (shared_of f.tree.objects))) (rw (driver_is es name_of judges file words f) at a) in
      (f, clean_profile f (fine_clean file f.lays.readers (rows_in f) b.0))

  -- "Its rows are then the plain loader's"
  pub same_answer : (f : FittingTree es file words) → Profile f.tree f.lays.readers file → driver_of name_of file words ≡ load_of name_of file words
  unfolding by_fault
  same_answer f p = driver_is es name_of judges file words f ∙ rw (clean_fine file f.lays.readers (rows_in f) (profile_clean f p)) (sym (rows_are es name_of judges file words f))

  -- "A file passes exactly if the plain loader accepts it and these hold."
  pub passes : Small file → Accepts (driver_of name_of file words) ↔ ((f : FittingTree es file words) × Profile f.tree f.lays.readers file)
  unfolding Accepts
  passes small = (λ a. passed small (load_of name_of file words) refl a, λ p. rw (same_answer p.0 p.1, rows_are es name_of judges file words p.0) tt)
