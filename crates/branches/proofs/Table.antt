-- The rule of the seventh word over the words of a table (02, Req 09: "It must hold of every table we leave"). Assumes nothing.
use Rattle.std.specs.Prelude.{◌≡◌, refl, List, ℕ, suc, ◌+◌, length, get_or}
use Rattle.std.proofs.Common.{sym, ◌∙◌, arith}
use Rattle.layout.specs.EnumList.{EnumEntry}
use Rattle.layout.specs.Target.{Target}
use Rattle.layout.specs.Tree.{Trees, none, tree, count}
use Rattle.layout.specs.Slot.{each}
use Rattle.layout.specs.Layout.{Lays}
use Rattle.layout.specs.Resource.{Resource}
use Rattle.layout.specs.Rows.{Row}
use Rattle.layout.specs.File.{FileTree, shared_of, objects_plan, FileLays, file_rows}
use Rattle.layout.specs.Table.{Shape, cell}
use Rattle.layout.specs.Branches.{Roots, TableRoots}
use Rattle.branches.specs.Rule.{roots_same}
use Rattle.branches.specs.Frames.{frames, parent_of, branch_of, roots, root_count}
use Rattle.branches.specs.Framed.{framed, rows-framed}
use Rattle.branches.specs.Table.{Stand, frame-words, length-framed}

stand_roots : (s : Shape) (room : ℕ) (table : List ℕ) (rows : List Row) (ts : Trees) → framed rows ≡ frames ts 0 0 → Stand s room table rows → TableRoots s room table (length rows) (count ts)
stand_roots s room table rows ts e stand =
    let k : Roots (parent_of (framed rows)) (branch_of (framed rows)) (length rows) (count ts)
    = record { many = rw (← e, length-framed rows) at (root_count ts); chain = rw (← e, length-framed rows) at (roots ts) } in
    let w = frame-words rows in
    roots_same (parent_of (framed rows)) (λ i. get_or table (cell s room i 4) 0) (branch_of (framed rows)) (λ i. get_or table (cell s room i 6) 0) (length rows) (count ts)
    (λ i h. sym (stand i 4 h (omega arith) ∙ (w i h).1)) (λ i h. sym (stand i 6 h (omega arith) ∙ (w i h).2)) k

-- there is a primary object before the shared ones
some-object : (readers : List Target) (refers : ℕ → ℕ → Type 0) (shared : ℕ) (ts : Trees) (bs : List ℕ) → Lays readers refers (objects_plan shared) ts bs → count ts ≡ suc (count (shared_of ts))
unfolding Lays objects_plan each shared_of count
some-object readers refers shared none bs w = absurd w
some-object readers refers shared (tree k i own cs rest) bs w = refl

-- the rows of its objects, the primary and the shared ones, follow each other in every such table
pub file_roots : (es : List EnumEntry) (s : Shape) (room : ℕ) (ft : FileTree) (bs : List ℕ) (w : FileLays es ft bs) (table : List ℕ)
    → Stand s room table (file_rows es ft bs w) → TableRoots s room table (length (file_rows es ft bs w)) (suc (count (shared_of ft.objects)))
unfolding file_rows
file_roots es s room ft bs w table stand =
    let plan = objects_plan (count (shared_of ft.objects)) in
    let refers = Resource (shared_of ft.objects) in
    rw (some-object w.readers refers (count (shared_of ft.objects)) ft.objects w.values w.laid) at
    (stand_roots s room table (file_rows es ft bs w) ft.objects
    (rows-framed w.readers refers plan ft.objects w.values w.laid (10 + length w.before) 0 0) stand)
