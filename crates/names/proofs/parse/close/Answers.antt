use mathlib.Core.Path.{sym, ap}
use Rattle.std.proofs.lemmas.Result.{err_from_is_err_and}
use Rattle.layout.specs.Text.{ascii}
use Rattle.names.specs.Contract.{tailed_after}
use Rattle.names.proofs.Steps.{passed-fits}
use Rattle.names.proofs.parse.close.Goals as goal

pub tailed_at-requires : goal.tailed_at-requires
tailed_at-requires c = passed-fits _ _ _ _ c.args.argument c.requires (sym c.in_ok-end.ensures)

pub returns-in_err-end : goal.returns-in_err-end
unfolding ascii
returns-in_err-end c =
    let p = err_from_is_err_and c.from_residual.result c.from_residual.ensures.1 in
    rw (p.1, p.2) (ap (tailed_after c.args.part.bytes.now c.args.argument.used) c.in_err-end.ensures)

pub returns : goal.returns
unfolding ascii
returns c = rw c.tailed_at.ensures (ap (tailed_after c.args.part.bytes.now c.args.argument.used) c.in_ok-end.ensures)
