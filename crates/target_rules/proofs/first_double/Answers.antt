use Rattle.std.proofs.Common.{arith}
use Rattle.reading.specs.Reads.{small_by_index}
use Rattle.number_rules.specs.Entries.{first_stands, stands_near, name_is_start, next_stands}
use Rattle.target_rules.specs.Doubled.{none_passed, all_passed, reader_other, reader-doubled}
use Rattle.target_rules.proofs.first_double.Goals as goal

pub loop-j-init : goal.loop-j-init
loop-j-init c =
    let a = c.args in
    ((λ h. first_stands a.file.now (small_by_index a.file.now (λ i h. omega (arith, c.type_inv.file i))) h c.behind-at.ensures), none_passed a.file.now a.codes.now a.targets.now a.count)

pub returns-then-among_earlier : goal.returns-then-among_earlier
returns-then-among_earlier c =
    let a = c.args in
    λ h.
    let w = c.loop-j.invariant.0 h in
    let near = stands_near a.file.now c.loop-j.j c.loop-j.at w (omega (arith, c.ranges.count.fits)) in
    let starts = name_is_start a.file.now c.loop-j.j c.loop-j.at w c.entry_at-reader.result (c.entry_at-reader.ensures h near) in
    reader-doubled a.file.now a.codes.now a.targets.now a.count c.loop-j.j c.loop-j-test.true c.among_earlier.ensures c.if-among_earlier.true starts c.loop-j.invariant.1

pub loop-j-preserved : goal.loop-j-preserved
loop-j-preserved c =
    let a = c.args in (
      (λ h.
          let w = c.loop-j.invariant.0 h in
          let near = stands_near a.file.now c.loop-j.j c.loop-j.at w (omega (arith, c.ranges.count.fits)) in
          next_stands a.file.now c.loop-j.j c.loop-j.at w c.entry_at-reader.result (c.entry_at-reader.ensures h near)),
      reader_other a.file.now a.codes.now a.targets.now a.count c.loop-j.j c.loop-j-test.true c.among_earlier.ensures c.if-among_earlier.false c.loop-j.invariant.1,
    )

pub returns : goal.returns
returns c = let a = c.args in λ h. all_passed a.file.now a.codes.now a.targets.now a.count c.loop-j.j c.loop-j-test.false c.loop-j.invariant.1
