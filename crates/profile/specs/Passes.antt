-- A file passes exactly if the plain loader accepts it and the profile holds (02, Req 07). `named` is the layout's relation for reader names, and `name_of` reads them. Assumes nothing.
use Rattle.std.specs.Prelude.{◌≡◌, true, ◌↔◌, ℕ, suc, ◌+◌, ◌⊎◌}
use Rattle.std.proofs.Math.Path.{refl, sym, ap}
use Rattle.std.proofs.Common.{◌∙◌, arith, inl, inr}
use mathlib.Core.List.{List, [], ◌∷◌, ◌++◌, append-nil}
use Rattle.std.proofs.Math.ListN.{length, drop}
use Rattle.laws.specs.Small.{differ}
use Rattle.layout.specs.EnumList.{EnumEntry}
use Rattle.layout.specs.Number.{little}
use Rattle.layout.specs.Text.{ascii}
use Rattle.layout.specs.Target.{Target}
use Rattle.layout.specs.Tree.{Trees, count}
use Rattle.layout.specs.Rows.{Row}
use Rattle.layout.specs.File.{shared_of, header}
use Rattle.layout.specs.Shortest.{short_file}
use Rattle.reading.specs.Reads.{Small}
use Rattle.reading.specs.Front.{lists_reads}
use Rattle.reading.specs.Accepts.{entries-length}
use Rattle.reading.specs.File.{Named, Judges, lists_at, Load, refusal, accepted, load_of}
use Rattle.layout.specs.Fits.{FittingTree, rows_in}
use Rattle.reading.specs.Theorems.{Accepts}
use Rattle.reading.proofs.Theorems.{rows_are, accepted_is}
use Rattle.places.specs.Places.{file_places}
use Rattle.places.specs.Padding.{padding}
use Rattle.shortest.specs.Theorems.{padding_is, stays}
use Rattle.profile.specs.Profile.{Profile}
use Rattle.profile.specs.Stand.{Stand, file_stand}
use Rattle.profile.specs.Offences.{other_platform, padded, uses, unused, doubled, repeated, no_page, nextless, fine, fault, first, first_lowest, from47, from46, from45, from44, from43, from42, fault_of, by_fault, targets_of, profiled, driver_of, Offence}
use Rattle.profile.specs.Keys.{repeated-none, none-repeated}
use Rattle.profile.specs.Rules.{SeenOther, platform-none, none-platform, padded-none, none-padded, uses-some, some-uses, unused-none, none-unused, doubled-none, none-doubled, all_distinct, distinct_all, page-none, none-page, nextless-none, none-nextless}

-- nothing is wrong
pub record Clean (file : List ℕ) (readers : List Target) (rows : List Row) : Type 0 where
  pub c41 : other_platform file ≡ []
  pub c42 : padded file (file_places file (length readers) rows) ≡ []
  pub c43 : unused file rows (length readers) 0 ≡ []
  pub c44 : doubled file [] readers 0 ≡ []
  pub c45 : repeated file rows ≡ []
  pub c46 : no_page rows ≡ []
  pub c47 : nextless rows ≡ []

pub one_used : {A : Type 0} (id : ℕ) → A ⊎ (uses id [] ≡ true) → A
unfolding uses
one_used id (inl a) = a
one_used id (inr e) = differ cc

module _ (es : List EnumEntry) (name_of : ℕ → List ℕ → Named) (judges : Judges es name_of) (file : List ℕ) (words : ℕ) where
  module _ (f : FittingTree es file words) where
    abbrev objects : Trees
    objects = f.tree.objects

    -- the targets of the readers, as reading has them
    targets_are : targets_of (lists_at name_of file 10) ≡ f.lays.readers
    unfolding targets_of header ascii little
    targets_are =
        let w = f.lays in
        let s = count (shared_of f.tree.objects) in
        let b : drop 10 file ≡ w.before ++ w.values = ap (drop 10) w.parts in
        rw ((lists_reads es name_of judges file).complete (f.tree.names, w.readers, s) w.before w.values 10 w.lists b)

  -- what the driver's loader answers for a file that the plain one accepts
  pub driver_is : (f : FittingTree es file words)
      → driver_of name_of file words ≡ by_fault (fault_of file f.lays.readers (rows_in f)) (accepted (rows_in f) (length f.tree.names) (count (shared_of f.tree.objects)))
  unfolding driver_of profiled
  driver_is f = rw (rows_are es name_of judges file words f, targets_are f)
