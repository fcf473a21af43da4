use Rattle.std.proofs.Common.{sym, ◌∙◌, arith}
use Rattle.std.proofs.lemmas.Bool.Decides.{nat_tests}
use Rattle.targets.specs.Place.{fits_at}
use Rattle.targets.proofs.fits.Goals.{in_default-via-in-31+in_default, in_default-via-in_default}
use Rattle.targets.proofs.fits.Goals as goal

pub returns-in-14-default : goal.returns-in-14-default
unfolding fits_at
returns-in-14-default c = rw (sym c.kind_at.ensures ∙ c.in-14-default.is-0)

pub returns-in-31-eq32 : goal.returns-in-31-eq32
unfolding fits_at
returns-in-31-eq32 c = rw (sym c.kind_at.ensures ∙ c.in-31-eq32.is-0, sym c.kind_at-2.ensures ∙ c.in-31-eq32.is-1)

pub returns-in_default : goal.returns-in_default
unfolding fits_at
returns-in_default c =
    rw (← c.kind_at.ensures, ← c.kind_at-2.ensures, ← c.equal.ensures)
    (elim c.in_default.branch [ in_default-via-in-31+in_default w ↦ grind (arith, nat_tests) | in_default-via-in_default w ↦ grind (arith, nat_tests) ])
