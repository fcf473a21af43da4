-- `pack_sums::fits_all` meets its contract: before each turn the words from `i` on decide. Assumes nothing.
use Rattle.std.specs.Prelude.{◌≡◌}
use Rattle.pack_figures.specs.Report.{fits}
use Rattle.pack_sums.specs.Sum.{fits_from}
use Rattle.pack_sums.proofs.fits_all.Given as goal

abbrev pub invariant-loop-i : goal.invariant-loop-i
invariant-loop-i l = fits l.into l.other ≡ fits_from l.i l.into l.other
