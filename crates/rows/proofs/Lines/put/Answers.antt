use Rattle.std.proofs.Common.{sym, ◌∙◌, ◌+◌, arith, leb, length, leb-true}
use mathlib.Core.Bool.{and-eq-true_iff}
use Rattle.fill.specs.Fill.{inside}
use Rattle.rows.proofs.Lines.put.Goals as goal

pub overflow_add-self : goal.overflow_add-self
unfolding inside
overflow_add-self c =
    let l = c.args.self.now in
    let s = c.args.s.now in
    let p = (and-eq-true_iff (leb (l.next + length s) (length l.out.now)) (leb (0 + length s) (length s))).0 (sym c.copy.ensures.value ∙ c.if-copy.true) in
    omega (arith, leb-true (l.next + length s) (length l.out.now) p.0)
