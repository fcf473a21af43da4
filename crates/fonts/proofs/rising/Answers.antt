use Rattle.std.proofs.Common.{◌≡◌, ◌-◌, ◌+◌, ◌<◌, ◌≤◌, sym, ◌∙◌, arith}
use Rattle.fonts.specs.FontWords.{beyond, code_at}
use Rattle.fonts.proofs.Laws.{few_rise, step_up, no_step}
use Rattle.fonts.proofs.rising.Goals as goal

pub returns-then-next-before : goal.returns-then-next-before
returns-then-next-before c =
    let t = c.args.table in
    let f = c.args.file.now in
    let n = rw c.row_beyond-row.ensures at c.code-next.ensures in
    let h : code_at t.grid f t.words.now (beyond c.loop.row.0 1) ≤ code_at t.grid f t.words.now c.loop.row.0 = omega (arith, c.if-next-before.true, n, c.loop.invariant.1) in
    let l : 1 < c.args.n - (c.loop.counter - 1) = omega (arith, c.loop-test.true, c.loop.auto.counter) in
    sym (sym c.loop.invariant.0 ∙ no_step t.grid f t.words.now (c.args.n - (c.loop.counter - 1)) c.loop.row.0 l h)

pub loop-preserved : goal.loop-preserved
loop-preserved c =
    let t = c.args.table in
    let f = c.args.file.now in
    let n = rw c.row_beyond-row.ensures at c.code-next.ensures in
    let h : code_at t.grid f t.words.now c.loop.row.0 < code_at t.grid f t.words.now (beyond c.loop.row.0 1) = omega (arith, c.if-next-before.false, n, c.loop.invariant.1) in
    let l : 1 < c.args.n - (c.loop.counter - 1) = omega (arith, c.loop-test.true, c.loop.auto.counter) in
    let z : c.args.n - (c.loop.counter + 1 - 1) ≡ c.args.n - (c.loop.counter - 1) - 1 = omega (arith, c.loop.auto.counter) in
    rw (c.row_beyond-row.ensures, z) (sym (step_up t.grid f t.words.now (c.args.n - (c.loop.counter - 1)) c.loop.row.0 l h) ∙ c.loop.invariant.0, n)

pub returns : goal.returns
returns c =
    let t = c.args.table in
    let f = c.args.file.now in
    let l : c.args.n - (c.loop.counter - 1) ≤ 1 = omega (arith, c.loop-test.false) in
    sym (sym c.loop.invariant.0 ∙ few_rise t.grid f t.words.now (c.args.n - (c.loop.counter - 1)) c.loop.row.0 l)
