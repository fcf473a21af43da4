use Rattle.std.proofs.Common.{◌≡◌, ◌-◌, ◌+◌, arith}
use Rattle.number_rules.specs.Numbers.{none_reached, one_reached, all_reached, entry-wrong}
use Rattle.number_rules.proofs.entries_numbers.Goals as goal

pub loop-init : goal.loop-init
loop-init c = λ h l. let z : c.args.readers - 0 ≡ c.args.readers = omega arith in rw z (none_reached c.args.file.now c.args.readers c.args.from l)

pub returns-in-Some : goal.returns-in-Some
returns-in-Some c =
    let a = c.args in
    λ h n. entry-wrong a.file.now a.readers a.from (a.readers - c.loop.counter) c.loop.at (c.loop.invariant h n) (omega arith) (rw c.in-Some.is at c.number_at.ensures)

pub loop-preserved : goal.loop-preserved
loop-preserved c =
    let a = c.args in
    λ h n.
    let w = c.loop.invariant h n in
    let z : a.readers - (c.loop.counter + 1) ≡ a.readers - c.loop.counter - 1 = omega arith in
    rw z (one_reached a.file.now a.readers a.from (a.readers - c.loop.counter) c.loop.at w (omega arith) c.entry_at-at.result (c.entry_at-at.ensures h (omega (arith, w.near, w.few, c.ranges.readers.fits))) (rw c.in_default.is at c.number_at.ensures))

pub returns : goal.returns
returns c =
    let a = c.args in λ h n. all_reached a.file.now a.readers a.from (a.readers - c.loop.counter) c.loop.at (c.loop.invariant h n) (omega arith)
