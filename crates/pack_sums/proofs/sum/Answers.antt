use Rattle.std.proofs.Common.{sym, ◌∙◌}
use Rattle.pack_sums.specs.Sum.{sum_not, sum_all}
use Rattle.pack_sums.proofs.sum.Goals as goal

pub add_all-requires : goal.add_all-requires
add_all-requires c = sym c.fits_all.ensures ∙ c.if-not-fits_all.false

pub returns-then-not-fits_all : goal.returns-then-not-fits_all
returns-then-not-fits_all c =
    let s = sum_not c.args.into.now c.args.other.now (sym c.fits_all.ensures ∙ c.if-not-fits_all.true) in
    record { value = rw c.at.ensures s.0; into_after = s.1 }

pub returns : goal.returns
returns c =
    let s = sum_all c.args.into.now c.args.other.now (sym c.fits_all.ensures ∙ c.if-not-fits_all.false) in
    record { value = s.0; into_after = c.add_all.ensures ∙ s.1 }
