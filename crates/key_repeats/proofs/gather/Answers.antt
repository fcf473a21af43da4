use Rattle.std.proofs.Common.{◌≡◌, ◌∙◌, ◌-◌, ◌+◌, refl, arith}
use Rattle.key_repeats.specs.Gathered.{none-gathered, rows-ended, one_gathered, all_gathered}
use Rattle.key_repeats.proofs.gather.Goals as goal

pub loop-init : goal.loop-init
loop-init c =
    let a = c.args in
    let z : a.n - 0 ≡ a.n = omega arith in
    (omega arith, refl, λ rows d. rw z (none-gathered a.rows.table.grid a.rows.table.words.now a.rows.used a.n a.first rows d a.keys.now))

pub returns-then-rows-row : goal.returns-then-rows-row
returns-then-rows-row c =
    let a = c.args in
    (λ rows d. rows-ended a.rows.table.grid a.rows.table.words.now a.rows.used a.n a.first rows d c.loop.keys c.loop.m (a.n - c.loop.counter) c.loop.row c.if-rows-row.true (c.loop.invariant.2 rows d), c.loop.invariant.1, omega (arith, c.loop.invariant.0))

pub loop-preserved : goal.loop-preserved
loop-preserved c =
    let a = c.args in
    let z : a.n - (c.loop.counter + 1) ≡ a.n - c.loop.counter - 1 = omega arith in (
      omega (arith, c.note-m.ensures.within),
      c.note-m.ensures.size ∙ c.loop.invariant.1,
      λ rows d.
          rw z (one_gathered a.rows.table.grid a.rows.table.words.now a.rows.used a.n a.first rows d (a.n - c.loop.counter) c.loop.row (omega arith) c.if-rows-row.false c.next-value.ensures c.next-row.ensures c.word-kind.ensures _ _ _ _ (omega arith) c.note-m.ensures (c.loop.invariant.2 rows d)),
    )

pub returns : goal.returns
returns c =
    let a = c.args in
    (λ rows d. all_gathered a.rows.table.grid a.rows.table.words.now a.rows.used a.n a.first rows d c.loop.keys c.loop.m (a.n - c.loop.counter) c.loop.row (omega arith) (c.loop.invariant.2 rows d), c.loop.invariant.1, omega (arith, c.loop.invariant.0))
