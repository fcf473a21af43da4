use Rattle.std.proofs.Common.{refl, arith}
use Rattle.target_rules.specs.Doubled.{one_equal, one_other, none_equal}
use Rattle.target_rules.proofs.among_earlier.Goals as goal

pub loop-i-init : goal.loop-i-init
loop-i-init c = λ readers s h. refl

pub returns-then-equal : goal.returns-then-equal
returns-then-equal c =
    let a = c.args in
    one_equal a.file.now a.codes.now a.targets.now a.j c.loop-i.i (omega arith) (omega arith) c.target_at-other.ensures c.target_at-own.ensures c.equal.ensures c.if-equal.true c.loop-i.invariant

pub loop-i-preserved : goal.loop-i-preserved
loop-i-preserved c =
    let a = c.args in
    one_other a.file.now a.codes.now a.targets.now a.j c.loop-i.i (omega arith) (omega arith) c.target_at-other.ensures c.target_at-own.ensures c.equal.ensures c.if-equal.false c.loop-i.invariant

pub returns : goal.returns
returns c = let a = c.args in none_equal a.file.now a.codes.now a.targets.now a.j c.loop-i.i (omega arith) c.loop-i.invariant
