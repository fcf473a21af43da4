use native.Mathlib.Omega.{arith}
use Rattle.rewrite.specs.Contract.{too_small, fits_in}
use Rattle.rewrite.proofs.fit.Goals as goal

pub overflow_sub-needed : goal.overflow_sub-needed
overflow_sub-needed c = omega (arith, c.requires.pads)

pub returns-then-out-needed : goal.returns-then-out-needed
returns-then-out-needed c =
    let a = c.args in
    record { holds = λ w. rw c.at.ensures (too_small a.file.now a.words.now a.readers a.rows a.padding w a.out.now c.if-out-needed.true c.clear.ensures) }

pub write-requires : goal.write-requires
write-requires c = (c.requires.small, omega (arith, c.requires.pads))

pub returns : goal.returns
returns c =
    let a = c.args in
    record { holds = λ w. fits_in a.file.now a.words.now a.readers a.rows a.padding w a.out.now c.if-out-needed.false c.write.ensures }
