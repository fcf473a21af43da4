use Rattle.std.proofs.Common.{◌≡◌, ℕ, ◌≤◌, true, ltb, length, arith, length-set, lt-ltb}
use Rattle.layout.specs.Table.{shape_of}
use Rattle.table.specs.declared.Grid.{Grid}
use Rattle.table.specs.Grids.{cell_of}
use Rattle.table.specs.Stores.{cell-grows}
use Rattle.table.specs.Put.{put_row, seven}
use Rattle.table.proofs.store_cells.Goals as goal

-- an earlier word of a row stands before its last one
before_last : (g : Grid) (u j : ℕ) → j ≤ 6 → cell_of g u j ≤ cell_of g u 6
before_last g u j h = cell-grows (shape_of g.columns) g.room u j 6 h

pub offset_bounds-words-cell : goal.offset_bounds-words-cell
offset_bounds-words-cell c =
    let a = c.args in
    record { fits = omega (arith, before_last a.grid a.row.0 0 (omega arith), c.cell.ensures, c.requires) }

pub bounds-words-cell : goal.bounds-words-cell
bounds-words-cell c =
    let a = c.args in
    omega (arith, before_last a.grid a.row.0 0 (omega arith), c.cell.ensures, c.requires)

pub offset_bounds-words-cell-2 : goal.offset_bounds-words-cell-2
offset_bounds-words-cell-2 c =
    let a = c.args in
    record { fits = omega (arith, before_last a.grid a.row.0 1 (omega arith), c.cell-2.ensures, c.requires) }

pub bounds-words-cell-2 : goal.bounds-words-cell-2
bounds-words-cell-2 c =
    let a = c.args in
    simp length-set (omega (arith, before_last a.grid a.row.0 1 (omega arith), c.cell-2.ensures, c.requires))

pub offset_bounds-words-cell-3 : goal.offset_bounds-words-cell-3
offset_bounds-words-cell-3 c =
    let a = c.args in
    record { fits = omega (arith, before_last a.grid a.row.0 2 (omega arith), c.cell-3.ensures, c.requires) }

pub bounds-words-cell-3 : goal.bounds-words-cell-3
bounds-words-cell-3 c =
    let a = c.args in
    simp length-set (omega (arith, before_last a.grid a.row.0 2 (omega arith), c.cell-3.ensures, c.requires))

pub offset_bounds-words-cell-4 : goal.offset_bounds-words-cell-4
offset_bounds-words-cell-4 c =
    let a = c.args in
    record { fits = omega (arith, before_last a.grid a.row.0 3 (omega arith), c.cell-4.ensures, c.requires) }

pub bounds-words-cell-4 : goal.bounds-words-cell-4
bounds-words-cell-4 c =
    let a = c.args in
    simp length-set (omega (arith, before_last a.grid a.row.0 3 (omega arith), c.cell-4.ensures, c.requires))

pub offset_bounds-words-cell-5 : goal.offset_bounds-words-cell-5
offset_bounds-words-cell-5 c =
    let a = c.args in
    record { fits = omega (arith, before_last a.grid a.row.0 4 (omega arith), c.cell-5.ensures, c.requires) }

pub bounds-words-cell-5 : goal.bounds-words-cell-5
bounds-words-cell-5 c =
    let a = c.args in
    simp length-set (omega (arith, before_last a.grid a.row.0 4 (omega arith), c.cell-5.ensures, c.requires))

pub offset_bounds-words-cell-6 : goal.offset_bounds-words-cell-6
offset_bounds-words-cell-6 c =
    let a = c.args in
    record { fits = omega (arith, before_last a.grid a.row.0 5 (omega arith), c.cell-6.ensures, c.requires) }

pub bounds-words-cell-6 : goal.bounds-words-cell-6
bounds-words-cell-6 c =
    let a = c.args in
    simp length-set (omega (arith, before_last a.grid a.row.0 5 (omega arith), c.cell-6.ensures, c.requires))

pub shape_of-words : goal.shape_of-words
shape_of-words c = simp length-set

pub returns : goal.returns
unfolding put_row
returns c =
    let a = c.args in
    let t : ltb (cell_of a.grid a.row.0 6) (length a.words.now) ≡ true = lt-ltb (cell_of a.grid a.row.0 6) (length a.words.now) c.requires in
    rw (t, c.cell.ensures, c.cell-2.ensures, c.cell-3.ensures, c.cell-4.ensures, c.cell-5.ensures, c.cell-6.ensures, c.cell-7.ensures)
    (seven a.grid a.words.now a.row.0 a.r.kind a.r.first a.r.bytes a.r.children a.r.parent a.r.detail a.r.branch)
