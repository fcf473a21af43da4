-- Drafts in the given words (01, "The row table"). Assumes nothing.
use Rattle.std.specs.Prelude.{◌≡◌, ℕ, suc, ◌+◌, ◌≤◌, List, [], ◌∷◌, ◌++◌, length, refl}
use Rattle.std.proofs.Common.{ap, arith}
use Rattle.layout.specs.Rows.{Row, row, words}
use Rattle.layout.specs.Table.{shape_of}
use Rattle.reading.specs.Drafts.{Wants, nothing, resource, Draft}
use Rattle.table.specs.declared.Grid.{Grid}
use Rattle.table.specs.Stores as stores
use Rattle.table.specs.Stores.{puts, written_rows, Wide}

-- a row while values are read: a reference has the kind that it wants of its resource in the place of its number of children, which is 0, until the last pass has judged and cleared it
abbrev pub marks : Wants → (children : ℕ) → ℕ
marks nothing children = children
marks (resource wanted) children = wanted

abbrev pub marked : Draft → Row
marked d = row d.row.kind d.row.first d.row.bytes (marks d.wants d.row.children) d.row.parent d.row.detail d.row.branch

-- the words of rows one after the other
unfoldable pub drafts : List Draft → List (List ℕ)
drafts [] = []
drafts (d ∷ ds) = words (marked d) ∷ drafts ds

-- the words with rows stored from row number u on
unfoldable pub written : Grid → List ℕ → (u : ℕ) → List Draft → List ℕ
written g w u ds = written_rows (shape_of g.columns) g.room w u (drafts ds)

-- a row that was put is a row that is written
pub put_written : (g : Grid) (w : List ℕ) (u : ℕ) (d : Draft) → puts (shape_of g.columns) g.room w u 0 (words (marked d)) ≡ written g w u (d ∷ [])
unfolding written drafts written_rows
put_written g w u d = refl

pub length-drafts : (ds : List Draft) → length (drafts ds) ≡ length ds
unfolding drafts
length-drafts [] = refl
length-drafts (d ∷ ds) = ap suc (length-drafts ds)

pub wide_drafts : (ds : List Draft) → Wide (drafts ds)
unfolding drafts Wide words
wide_drafts [] = tt
wide_drafts (d ∷ ds) = (refl, wide_drafts ds)

pub drafts-append : (rs qs : List Draft) → drafts (rs ++ qs) ≡ drafts rs ++ drafts qs
unfolding drafts
drafts-append [] qs = refl
drafts-append (r ∷ rs) qs = ap (λ (l : List (List ℕ)). words (marked r) ∷ l) (drafts-append rs qs)

pub length-written : (g : Grid) (w : List ℕ) (u : ℕ) (ds : List Draft) → length (written g w u ds) ≡ length w
unfolding written
length-written g w u ds = stores.length-rows (shape_of g.columns) g.room w u (drafts ds)

pub written_none : (g : Grid) (w : List ℕ) (u : ℕ) → written g w u [] ≡ w
unfolding written drafts written_rows
written_none g w u = refl

-- rows, and then the rows after them
pub written-append : (g : Grid) (w : List ℕ) (u : ℕ) (rs qs : List Draft) → written g (written g w u rs) (u + length rs) qs ≡ written g w u (rs ++ qs)
unfolding written
written-append g w u rs qs =
    rw (← length-drafts rs, drafts-append rs qs) (stores.written-append (shape_of g.columns) g.room w u (drafts rs) (drafts qs))

-- the rows of the children, and then their parent's row before them
pub written_under : (g : Grid) (w : List ℕ) (u : ℕ) (d : Draft) (ds : List Draft) → suc u + length ds ≤ g.room
    → written g (written g w (suc u) ds) u (d ∷ []) ≡ written g w u (d ∷ ds)
unfolding written drafts words
written_under g w u d ds h =
    stores.written_under (shape_of g.columns) g.room w u (words (marked d)) (drafts ds) refl (wide_drafts ds) (omega (arith, length-drafts ds))
