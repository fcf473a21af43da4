-- `readers::read_lists` meets its contract. Assumes nothing.
use mathlib.Core.Path.{sym, ap, ◌∙◌}
use native.Mathlib.Omega.{arith}
use Rattle.names.specs.Entries.{enums_of}
use Rattle.std.proofs.lemmas.Result.{err_from_is_err_and}
use Rattle.reading.specs.Reads.{small_by_index}
use Rattle.places.specs.Padding.{past_few, pad_few}
use Rattle.readers.specs.Steps.{left_long, left_refused, left_full, left_counted}
use Rattle.readers.specs.Room.{up_to_bound}
use Rattle.readers.specs.Whole.{up_to-past}
use borrow.Author.Rules.{rules}
use Rattle.readers.proofs.read_lists.Goals as goal

pub returns-then-file-gt16777216 : goal.returns-then-file-gt16777216
returns-then-file-gt16777216 c = rw c.at.ensures (left_long _ _ _ _ _ _ c.if-file-gt16777216.true)

pub codes_for-requires : goal.codes_for-requires
codes_for-requires c = up_to_bound _ _ _ (sym c.in_ok-count.ensures)

pub returns-then-codes-codes_for : goal.returns-then-codes-codes_for
returns-then-codes-codes_for c =
    let h = c.if-file-gt16777216.false in
    let n = sym c.in_ok-count.ensures in
    left_full _ _ _ _ _ _ h n (rw c.codes_for.ensures at c.if-codes-codes_for.true)

pub counted-requires : goal.counted-requires
counted-requires c =
    let args = c.args in
    let file = args.file.now in
    let small = small_by_index file (λ i h. omega (arith, c.type_inv.file i)) in
    let n = sym c.in_ok-count.ensures in
    let past = up_to-past (enums_of args.enums.now) file 10 c.if-file-gt16777216.false n in (
      (c.if-file-gt16777216.false, up_to_bound _ _ _ n, rw c.codes_for.ensures at c.if-codes-codes_for.false, search rules, search rules),
      omega (arith, past, past_few file small 10),
      omega (arith, c.padding_at.ensures, pad_few file small 10),
    )

pub returns-in_err-count : goal.returns-in_err-count
returns-in_err-count c =
    let p = err_from_is_err_and c.from_residual.result c.from_residual.ensures.1 in
    rw (p.1, p.2) (left_refused _ _ _ _ _ _ c.if-file-gt16777216.false (sym c.in_err-count.ensures))

pub returns : goal.returns
returns c =
    let n = sym c.in_ok-count.ensures in
    left_counted _ _ _ _ _ _ c.if-file-gt16777216.false n (rw c.codes_for.ensures at c.if-codes-codes_for.false) ∙ rw (← c.padding_at.ensures) c.counted.ensures
