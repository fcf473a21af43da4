use Rattle.std.proofs.Common.{[]}
use Rattle.std.proofs.lemmas.Result.{err_from_is_err_and}
use Rattle.xml_import.proofs.Bytes.{then_fails, then_inside, then_goes}
use Rattle.xml_import.proofs.character.three_at.Goals as goal

pub two_at-requires : goal.two_at-requires
two_at-requires c = then_inside _ [] _ _ c.in_ok-next.ensures

pub returns-in_err-next : goal.returns-in_err-next
returns-in_err-next c =
    let p = err_from_is_err_and c.from_residual.result c.from_residual.ensures.1 in
    rw (p.1, p.2) (then_fails _ _ _ _ _ c.in_err-next.ensures)

pub returns : goal.returns
returns c = then_goes _ _ _ _ _ _ c.in_ok-next.ensures c.two_at.ensures
