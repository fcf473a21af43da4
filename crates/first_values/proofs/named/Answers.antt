use Rattle.std.proofs.Common.{refl}
use Rattle.first_values.specs.Looks.{looked}
use Rattle.first_values.proofs.named.Goals as goal

pub returns : goal.returns
returns c =
    λ declared at d e u.
    let a = c.args in
    let fits = d _ (c.is_wanted.ensures c.if-not-is_wanted.false) in
    looked a.file.now a.codes.now a.targets.now a.count declared at a.it.id a.it.next _ (rw c.from-place.ensures at fits) e u c.if-it-eq0.false c.if-count-i.false c.if-i-ge64.false
    (rw c.from-place.ensures at c.in_ok-end.ensures) (rw c.from-place.ensures at c.row_kind-kind.ensures) refl
