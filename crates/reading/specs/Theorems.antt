-- What is promised of reading and loading, over the layout alone. Document 01 and the demands are quoted; `es` is the list of enum types, and `name_of` reads the names of readers under it. Assumes nothing.
use Rattle.std.specs.Prelude.{◌≡◌, ◌↔◌, ℕ, ◌+◌, ◌*◌, ◌-◌, ◌≤◌, take, drop}
use Rattle.std.proofs.Math.Path.{refl, sym, ap}
use Rattle.std.proofs.Common.{◌∙◌, arith, length-append}
use mathlib.Core.List.{List, [], ◌∷◌, ◌++◌, append-nil}
use Rattle.std.proofs.Math.ListN.{length, replicate, length-replicate}
use Rattle.std.proofs.Math.Seq.{take-append_seam, take-length}
use Rattle.layout.specs.EnumList.{EnumEntry}
use Rattle.layout.specs.Number.{little, value_of}
use Rattle.layout.specs.Text.{ascii}
use Rattle.layout.specs.Target.{Target}
use Rattle.layout.specs.Tree.{Trees, count, size}
use Rattle.layout.specs.Slot.{Slot, each}
use Rattle.layout.specs.Layout.{Lays}
use Rattle.layout.specs.Resource.{Within}
use Rattle.layout.specs.File.{FileTree, shared_of, header, FileLays, file_rows}
use Rattle.layout.specs.Rows.{Row, flat, width}
use Rattle.layout.specs.Table.{room_of}
use Rattle.layout.specs.Fits.{FittingTree, rows_in}
use Rattle.reading.specs.Answer.{Answer, refused, read, Ok}
use Rattle.reading.specs.Reads.{Small}
use Rattle.reading.specs.Little.{value-little}
use Rattle.reading.specs.File.{Named, Judges, Loaded, file_at, Load, refusal, accepted, to_load, load_of, table_of, table_in}
use Rattle.reading.specs.References.{length-flat}
use Rattle.reading.specs.Accepts.{loaded_of, rows-count, IsFile, file_bare}
use Rattle.reading.specs.Drafts.{bare}

-- ---- What the statements speak of

-- an answer that is no refusal
unfoldable pub Accepts : Load → Type 0
Accepts (refusal number place) = ⊥
Accepts (accepted rows readers shared) = Unit {0}

module _ (es : List EnumEntry) (name_of : ℕ → List ℕ → Named) (judges : Judges es name_of) where
  -- ---- The table: for every file and every number of words lent

  module _ (file : List ℕ) (words : ℕ) where
    -- where a file tree fits, there is a row for each value in it, and the rows fit the words
    pub rows_fit : (f : FittingTree es file words) → (length (rows_in f) ≡ size f.tree.objects) × (width * length (rows_in f) ≤ words)
    unfolding room_of
    rows_fit f =
        let n = rows-count es f.tree file f.lays in
        (n, omega (arith, f.room))

    -- a refusal leaves the table all zero
    pub refusal_clears : (number place : ℕ) → load_of name_of file words ≡ refusal number place → table_of (load_of name_of file words) words ≡ replicate words 0
    unfolding table_in
    refusal_clears number place e = rw e
