-- `readers::reader_at` meets its contract. Assumes nothing.
use mathlib.Core.Path.{sym, ap, ◌∙◌}
use native.Mathlib.Omega.{arith}
use Rattle.std.proofs.lemmas.Result.{err_from_is_err_and}
use Rattle.reading.specs.Reads.{small_by_index}
use Rattle.reading.specs.Seven.{seven_next}
use Rattle.readers.specs.Steps.{count-refused, count_empty, count_long, count_fits}
use borrow.Author.Rules.{rules}
use Rattle.readers.proofs.reader_at.Goals as goal

pub returns-in_err-count : goal.returns-in_err-count
returns-in_err-count c =
    let a = c.args in
    let p = err_from_is_err_and c.from_residual.result c.from_residual.ensures.1 in
    rw (p.1, p.2) (count-refused _ a.file.now a.codes.now a.used a.at (sym c.in_err-count.ensures))

pub returns-then-count-eq0 : goal.returns-then-count-eq0
returns-then-count-eq0 c =
    let a = c.args in
    rw c.at.ensures (count_empty _ a.file.now a.codes.now a.used a.at (sym c.in_ok-count.ensures) c.if-count-eq0.true)

pub returns-then-count-gt1024 : goal.returns-then-count-gt1024
returns-then-count-gt1024 c =
    let a = c.args in
    rw c.at-then-count-gt1024.ensures (count_long _ a.file.now a.codes.now a.used a.at (sym c.in_ok-count.ensures) c.if-count-eq0.false c.if-count-gt1024.true)

pub named_at-requires : goal.named_at-requires
named_at-requires c =
    let s = c.args.file.now in
    let n = seven_next s (small_by_index s (λ i h. omega (arith, c.type_inv.file i))) _ (sym c.in_ok-count.ensures) in
    (n.1, c.if-count-gt1024.false)

pub returns : goal.returns
returns c =
    let a = c.args in
    count_fits _ a.file.now a.codes.now a.used a.at (sym c.in_ok-count.ensures) c.if-count-eq0.false c.if-count-gt1024.false ∙ c.named_at.ensures
