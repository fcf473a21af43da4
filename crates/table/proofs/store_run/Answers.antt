-- `table::store_run` meets its contract: before each turn the first i rows stand in the words. Assumes nothing.
use Rattle.std.proofs.Common.{◌≡◌, ℕ, ◌+◌, ◌*◌, length, sym, refl, ap, ◌∙◌, arith, rules}
use Rattle.layout.specs.Table.{shape_of}
use Rattle.table.specs.Word.{in_word}
use Rattle.table.specs.Stores.{cell-inside}
use Rattle.table.specs.Runs.{put_run, run_first, run_more}
use Rattle.table.proofs.store_run.Goals as goal

pub loop-i-init : goal.loop-i-init
unfolding put_run
loop-i-init c =
    let a = c.args in
    let z : a.s.first + 0 * a.s.size ≡ a.s.first = omega arith in
    (refl, c.word-at.ensures ∙ ap in_word (sym z), c.word-bytes.ensures, refl)

pub store_cells-requires : goal.store_cells-requires
store_cells-requires c =
    let a = c.args in
    cell-inside (shape_of a.grid.columns) a.grid.room (a.used + c.loop-i.i) 6 (length c.loop-i.words) (omega (arith, c.requires.0, c.loop-i-test.true)) (omega arith)
    (omega (arith, c.loop-i.invariant.0, c.requires.1))

pub loop-i-preserved : goal.loop-i-preserved
loop-i-preserved c =
    let a = c.args in (
      search rules,
      c.sum-at.ensures ∙ rw (c.loop-i.invariant.1, c.loop-i.invariant.2) (run_first a.s.first a.s.size c.loop-i.i),
      c.loop-i.invariant.2,
      run_more a.grid a.used a.s.kind a.s.first a.s.size a.s.parent c.loop-i.i a.words.now _ _ _ _ c.loop-i.invariant.1 c.loop-i.invariant.2 c.loop-i.invariant.3 c.store_cells.ensures,
    )

pub returns : goal.returns
returns c =
    let a = c.args in
    let z : c.loop-i.i ≡ a.s.count = omega (arith, c.loop-i-test.false) in
    c.loop-i.invariant.3 ∙ ap (λ (k : ℕ). put_run a.grid a.used a.s.kind a.s.first a.s.size a.s.parent a.words.now k) z
