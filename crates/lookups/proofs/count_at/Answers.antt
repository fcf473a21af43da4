use mathlib.Core.Path.{sym, ◌∙◌}
use Rattle.std.proofs.lemmas.Result.{err_from_is_err_and}
use Rattle.lookups.proofs.Laws.{count-refused, count-read}
use Rattle.lookups.proofs.count_at.Goals as goal

pub returns-in_err-id : goal.returns-in_err-id
returns-in_err-id c =
    let p = err_from_is_err_and c.from_residual.result c.from_residual.ensures.1 in
    rw (p.1, p.2) (count-refused c.args.bytes.now (sym c.in_err-id.ensures))

pub returns : goal.returns
returns c = c.seven_at-2.ensures ∙ count-read c.args.bytes.now (sym c.in_ok-id.ensures)
