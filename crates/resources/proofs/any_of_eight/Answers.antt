-- `resources::any_of_eight` meets its contract: before each turn no row so far is a reference unless `found` says that one is. Assumes nothing.
use Prim.Native.Nat.{◌+◌}
use native.Mathlib.Omega.{arith}
use lib.ListN.{length}
use Rattle.layout.specs.Table.{shape_of}
use Rattle.table.specs.Stores.{cell-inside}
use Rattle.resources.proofs.any_of_eight.Goals as goal

pub offset_bounds-table-at : goal.offset_bounds-table-at
offset_bounds-table-at c =
    let args = c.args in
    record { fits = omega (arith, c.cell-at.ensures, cell-inside (shape_of args.table.grid.columns) args.table.grid.room (args.from + c.loop-j.j) 0 (length args.table.words.now) (omega (arith, c.requires.0, c.loop-j-test.true)) (omega arith) c.requires.1) }

pub bounds-table-at : goal.bounds-table-at
bounds-table-at c =
    let args = c.args in
    omega (arith, c.cell-at.ensures, cell-inside (shape_of args.table.grid.columns) args.table.grid.room (args.from + c.loop-j.j) 0 (length args.table.words.now) (omega (arith, c.requires.0, c.loop-j-test.true)) (omega arith) c.requires.1)
