use Rattle.std.proofs.Common.{arith}
use Rattle.reading.specs.Reads.{small_by_index}
use Rattle.number_rules.specs.Entries.{first_stands, stands_near, name_is_start, next_stands}
use Rattle.reader_rules.specs.Readers.{all_left, none_left, reader-used, reader-unused}
use Rattle.reader_rules.proofs.unused_reader.Goals as goal

pub loop-i-init : goal.loop-i-init
loop-i-init c =
    let a = c.args in
    ((λ h. first_stands a.file.now (small_by_index a.file.now (λ i h. omega (arith, c.type_inv.file i))) h c.behind-at.ensures), all_left a.file.now a.rows.table.grid a.rows.table.words.now a.rows.used a.readers 0 (omega arith))

pub returns-then-not-uses : goal.returns-then-not-uses
returns-then-not-uses c =
    let a = c.args in
    λ h.
    let w = c.loop-i.invariant.0 h in
    let near = stands_near a.file.now c.loop-i.i c.loop-i.at w (omega (arith, c.ranges.readers.fits)) in
    let starts = name_is_start a.file.now c.loop-i.i c.loop-i.at w c.entry_at-reader.result (c.entry_at-reader.ensures h near) in
    reader-unused a.file.now a.rows.table.grid a.rows.table.words.now a.rows.used a.readers c.loop-i.i c.loop-i-test.true c.uses.ensures c.if-not-uses.true starts c.loop-i.invariant.1

pub loop-i-preserved : goal.loop-i-preserved
loop-i-preserved c =
    let a = c.args in (
      (λ h.
          let w = c.loop-i.invariant.0 h in
          let near = stands_near a.file.now c.loop-i.i c.loop-i.at w (omega (arith, c.ranges.readers.fits)) in
          next_stands a.file.now c.loop-i.i c.loop-i.at w c.entry_at-reader.result (c.entry_at-reader.ensures h near)),
      reader-used a.file.now a.rows.table.grid a.rows.table.words.now a.rows.used a.readers c.loop-i.i c.loop-i-test.true c.uses.ensures c.if-not-uses.false c.loop-i.invariant.1,
    )

pub returns : goal.returns
returns c = let a = c.args in λ h. none_left a.file.now a.rows.table.grid a.rows.table.words.now a.rows.used a.readers c.loop-i.i c.loop-i-test.false c.loop-i.invariant.1
