use mathlib.Core.Path.{sym, ◌∙◌}
use mathlib.Core.List.{◌++◌}
use native.Mathlib.Omega.{arith}
use Rattle.reading.specs.Reads.{small_by_index}
use Rattle.reading.specs.Seven.{seven_at}
use Rattle.numbers.specs.Padded.{past}
use Rattle.places.specs.Places.{count_places}
use Rattle.rewrite.specs.Steps.{with_id, without_id}
use Rattle.rewrite.specs.Measured.{found}
use Rattle.rewrite.proofs.pass_row.Goals as goal

pub returns-then-numbered : goal.returns-then-numbered
returns-then-numbered c =
    λ base places whole p.
    let a = c.args in
    let s = a.file.now in
    let w = c.by_rows-table.ensures.0 in
    let f = found s (small_by_index s (λ i h. omega (arith, c.type_inv.file i))) c.word-first.result c.measure-id.result c.measure-id.ensures.value in
    let e = with_id s a.words.now c.by_rows-table.result.grid a.row c.word-kind.result c.word-first.result c.word-detail.result c.by_rows-table.ensures.1
    (rw w at c.word-kind.ensures) (rw w at c.word-first.ensures) (rw w at c.word-detail.ensures) (sym c.if-numbered.true ∙ c.numbered.ensures) in
    let q = c.pass-behind.ensures base (count_places s c.word-kind.result (past (seven_at s c.word-first.result) c.word-first.result) ++ places) whole c.measure-id.ensures.value (rw e at p) in
    c.pass_count.ensures base places whole (rw (← f.next_is) at q)

pub returns : goal.returns
returns c =
    λ base places whole p.
    let a = c.args in
    let w = c.by_rows-table.ensures.0 in
    let e = without_id a.file.now a.words.now c.by_rows-table.result.grid a.row c.word-kind.result c.word-first.result c.word-detail.result c.by_rows-table.ensures.1
    (rw w at c.word-kind.ensures) (rw w at c.word-first.ensures) (rw w at c.word-detail.ensures) (sym c.if-numbered.false ∙ c.numbered.ensures) in
    c.pass_count-2.ensures base places whole (rw e at p)
