use Rattle.std.proofs.Common.{sym, ap, ◌∙◌}
use Rattle.fill.specs.Fill.{cleared}
use Rattle.table.specs.Cleared.{behind_columns, behind_rows}
use Rattle.table.proofs.clear_behind.Goals as goal

pub returns-then-grid : goal.returns-then-grid
returns-then-grid c =
    let a = c.args in
    c.clear_columns.ensures ∙ sym (behind_columns a.grid a.words.now a.used.0 c.if-grid.true)

pub returns : goal.returns
returns c =
    let a = c.args in
    c.clear.ensures ∙ ap (cleared a.words.now) c.cell.ensures ∙ sym (behind_rows a.grid a.words.now a.used.0 c.if-grid.false)
