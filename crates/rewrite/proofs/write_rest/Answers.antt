use native.Mathlib.Omega.{arith}
use mathlib.Core.Path.{◌∙◌}
use Rattle.rewrite.specs.Pending.{rest-copied}
use Rattle.rewrite.proofs.write_rest.Goals as goal

pub returns-then-c-file : goal.returns-then-c-file
returns-then-c-file c =
    let a = c.args in
    λ base whole p.
    c.copy.ensures.out_after ∙ (rest-copied a.file.now base a.out.now a.c.from a.c.to whole p).1

pub returns-else-c-file : goal.returns-else-c-file
returns-else-c-file c =
    λ base whole p.
    absurd (omega (arith, (rest-copied c.args.file.now base c.args.out.now c.args.c.from c.args.c.to whole p).0, c.if-c-file.false))
