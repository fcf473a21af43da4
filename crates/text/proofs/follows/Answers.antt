-- `text::follows` meets its contract. Assumes nothing.
use Rattle.std.proofs.Common.{◌≡◌, sym, ◌∙◌, ◌+◌, ◌-◌, suc, arith, add-one}
use Rattle.reading.specs.Utf8.{least, most}
use Rattle.text.proofs.Laws.{follow-inside, stays_broken, one_more}
use Rattle.text.proofs.follows.Goals as goal

pub returns-then-not-in_range : goal.returns-then-not-in_range
returns-then-not-in_range g c =
    let a = c.args in
    let z : suc 0 + (g.row.K - 1) ≡ g.row.K = omega arith in
    sym (rw z at (stays_broken a.s.now a.i 0 (g.row.K - 1) (least a.b) (most a.b) (rw (c.low.ensures, c.high.ensures) at (sym c.in_range.ensures ∙ c.if-not-in_range.true))))

pub overflow_add-i : goal.overflow_add-i
overflow_add-i g c =
    let a = c.args in
    omega (arith, follow-inside a.s.now a.i c.loop-j.j (least a.b) (most a.b) (omega arith) c.loop-j.invariant)

pub returns-then-not-in_range-2 : goal.returns-then-not-in_range-2
returns-then-not-in_range-2 g c =
    let a = c.args in
    let j = c.loop-j.j in
    let z : suc j + (g.row.K - suc j) ≡ g.row.K = omega arith in
    let e = one_more a.s.now a.i j (least a.b) (most a.b) (omega arith) c.loop-j.invariant ∙ sym c.in_range-in-loop-j.ensures ∙ c.if-not-in_range-2.true in
    sym (rw z at (stays_broken a.s.now a.i j (g.row.K - suc j) (least a.b) (most a.b) (rw add-one at e)))

pub loop-j-preserved : goal.loop-j-preserved
loop-j-preserved g c =
    let a = c.args in
    one_more a.s.now a.i c.loop-j.j (least a.b) (most a.b) (omega arith) c.loop-j.invariant ∙ sym c.in_range-in-loop-j.ensures ∙ c.if-not-in_range-2.false
