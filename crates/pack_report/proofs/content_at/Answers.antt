use Rattle.std.proofs.Common.{arith}
use Rattle.pack_report.specs.Files.{past_pack, in_pack}
use Rattle.pack_report.proofs.content_at.Goals.{then-pack-first-via-then-pack-first, then-pack-first-via-else-pack-first+then-pack-first-2}
use Rattle.pack_report.proofs.content_at.Goals as goal

pub returns-then-pack-first : goal.returns-then-pack-first
returns-then-pack-first c =
    let a = c.args in
    past_pack a.pack.now a.table.now a.i c.word_at-first.ensures c.word_at-count.ensures elim c.then-pack-first.branch [
      | then-pack-first-via-then-pack-first w ↦ omega (arith, w.if-pack-first.true)
      | then-pack-first-via-else-pack-first+then-pack-first-2 w ↦ omega (arith, w.if-pack-first.false, w.if-pack-first-2.true)
    ]

pub returns : goal.returns
returns c =
    let a = c.args in
    in_pack a.pack.now a.table.now a.i c.word_at-first.ensures c.word_at-count.ensures (omega (arith, c.if-pack-first.false, c.if-pack-first-2.false))
