use Rattle.std.proofs.Common.{sym, ◌∙◌, arith}
use Rattle.pack_records.proofs.Parts.{no_mark, mark-missing, mark-fits, first_other, second_other, mark_there}
use Rattle.pack_records.proofs.start_at.Goals.{then-pack-at-via-then-pack-at, then-pack-at-via-else-pack-at+then-pack-at-2}
use Rattle.pack_records.proofs.start_at.Goals as goal

pub returns-then-not-marked : goal.returns-then-not-marked
returns-then-not-marked c = rw c.if-not-marked.true (no_mark c.args.pack.now c.args.at)

pub returns-then-not-has_bytes : goal.returns-then-not-has_bytes
returns-then-not-has_bytes c =
    let a = c.args in
    rw (c.at.ensures, c.if-not-marked.false) (mark-missing a.pack.now a.at (sym c.has_bytes.ensures ∙ c.if-not-has_bytes.true))

pub bounds-pack-at : goal.bounds-pack-at
bounds-pack-at c = omega (arith, mark-fits c.args.pack.now c.args.at (sym c.has_bytes.ensures ∙ c.if-not-has_bytes.false))

pub returns-then-pack-at : goal.returns-then-pack-at
returns-then-pack-at c =
    let a = c.args in
    let t = sym c.has_bytes.ensures ∙ c.if-not-has_bytes.false in
    rw (c.at-then-pack-at.ensures, c.if-not-marked.false) elim c.then-pack-at.branch [
      | then-pack-at-via-then-pack-at w ↦ first_other a.pack.now a.at t w.if-pack-at.true
      | then-pack-at-via-else-pack-at+then-pack-at-2 w ↦ second_other a.pack.now a.at t w.if-pack-at.false w.if-pack-at-2.true
    ]

pub returns : goal.returns
returns c =
    let a = c.args in
    rw c.if-not-marked.false (mark_there a.pack.now a.at (sym c.has_bytes.ensures ∙ c.if-not-has_bytes.false) c.if-pack-at.false c.if-pack-at-2.false)
