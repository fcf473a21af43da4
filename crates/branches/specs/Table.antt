-- The rule of the seventh word over the words of a table (02, Req 09: "It must hold of every table we leave"). Assumes nothing.
use Rattle.std.specs.Prelude.{◌≡◌, refl, List, [], ◌∷◌, ◌++◌, map, ℕ, zero, suc, ◌+◌, ◌*◌, ◌<◌, length, get_or}
use Rattle.std.proofs.Common.{sym, ap, ◌∙◌, arith}
use Rattle.std.proofs.Math.ListN.{get_or-append}
use Rattle.layout.specs.EnumList.{EnumEntry}
use Rattle.layout.specs.Tree.{Trees, count}
use Rattle.layout.specs.Resource.{Resource}
use Rattle.layout.specs.Rows.{Row, words, flat, width}
use Rattle.layout.specs.File.{FileTree, shared_of, objects_plan, FileLays, file_rows}
use Rattle.layout.specs.Table.{Shape, by_rows, cell}
use Rattle.layout.specs.Branches.{TableSkips}
use Rattle.branches.specs.Rule.{skips_same}
use Rattle.branches.specs.Frames.{frames, children_of, parent_of, branch_of, skips}
use Rattle.branches.specs.Framed.{framed, rows-framed}

-- the words of row i of some rows stand in the table
abbrev pub Stand : Shape → (room : ℕ) (table : List ℕ) → List Row → Type 0
Stand s room table rows = (i j : ℕ) → i < length rows → j < width → get_or table (cell s room i j) 0 ≡ get_or (get_or (map words rows) i []) j 0

-- words 3, 4 and 6 of row i are what the rule says of
pub frame-words : (rows : List Row) (i : ℕ) → i < length rows
    → (get_or (get_or (map words rows) i []) 3 0 ≡ children_of (framed rows) i)
    × (get_or (get_or (map words rows) i []) 4 0 ≡ parent_of (framed rows) i)
    × (get_or (get_or (map words rows) i []) 6 0 ≡ branch_of (framed rows) i)
unfolding words
frame-words [] i h = absurd (omega arith)
frame-words (r ∷ rows) zero h = (refl, refl, refl)
frame-words (r ∷ rows) (suc i) h = frame-words rows i (omega arith)

pub length-framed : (rows : List Row) → length (framed rows) ≡ length rows
length-framed [] = refl
length-framed (r ∷ rows) = ap suc (length-framed rows)

-- the rule holds of every table in which the rows of trees stand
stand_skips : (s : Shape) (room : ℕ) (table : List ℕ) (rows : List Row) (ts : Trees) → framed rows ≡ frames ts 0 0 → Stand s room table rows → TableSkips s room table (length rows)
stand_skips s room table rows ts e stand =
    let l : length (frames ts 0 0) ≡ length rows = sym (ap length e) ∙ length-framed rows in
    let k = rw (← e, length-framed rows) at (skips ts) in
    let w = frame-words rows in
    skips_same (children_of (framed rows)) (λ i. get_or table (cell s room i 3) 0) (parent_of (framed rows)) (λ i. get_or table (cell s room i 4) 0)
    (branch_of (framed rows)) (λ i. get_or table (cell s room i 6) 0) (length rows)
    (λ i h. sym (stand i 3 h (omega arith) ∙ (w i h).0)) (λ i h. sym (stand i 4 h (omega arith) ∙ (w i h).1)) (λ i h. sym (stand i 6 h (omega arith) ∙ (w i h).2)) k

-- rows one after the other, and words behind them, are a table by rows
pub rows_stand : (room : ℕ) (rows : List Row) (rest : List ℕ) → Stand by_rows room (flat rows ++ rest) rows
unfolding cell flat words
rows_stand room [] rest i j h k = absurd (omega arith)
rows_stand room (r ∷ rows) rest zero j h k =
    let z : width * 0 + j ≡ j = omega arith in
    rw z (get_or-append (words r) (flat rows ++ rest) 0 j k)
rows_stand room (r ∷ rows) rest (suc i) j h k =
    let z : width * suc i + j ≡ suc (suc (suc (suc (suc (suc (suc (width * i + j))))))) = omega arith in
    rw z (rows_stand room rows rest i j (omega arith) k)

-- the rule holds of every table in which the rows of a file tree stand
pub file_skips : (es : List EnumEntry) (s : Shape) (room : ℕ) (ft : FileTree) (bs : List ℕ) (w : FileLays es ft bs) (table : List ℕ)
    → Stand s room table (file_rows es ft bs w) → TableSkips s room table (length (file_rows es ft bs w))
unfolding file_rows
file_skips es s room ft bs w table stand =
    let plan = objects_plan (count (shared_of ft.objects)) in
    let refers = Resource (shared_of ft.objects) in
    stand_skips s room table (file_rows es ft bs w) ft.objects
    (rows-framed w.readers refers plan ft.objects w.values w.laid (10 + length w.before) 0 0) stand
