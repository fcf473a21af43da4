use Rattle.std.proofs.Common.{sym}
use Rattle.std.proofs.lemmas.Result.{err_from_is_err_and}
use mathlib.Core.Logic.{⊎_elim}
use Rattle.heads.specs.Images.{ranged_refused, ranged_low, ranged_high, ranged_there}
use Rattle.heads.proofs.open.ranged.Goals as goal

pub returns-in_err-read : goal.returns-in_err-read
returns-in_err-read c =
    let a = c.args in
    let p = err_from_is_err_and c.from_residual.result c.from_residual.ensures.1 in
    rw (p.1, p.2) (ranged_refused a.file.now a.low a.high a.at (sym c.in_err-read.ensures))

pub returns-then-read-low : goal.returns-then-read-low
returns-then-read-low c =
    let a = c.args in
    let field = sym c.in_ok-read.ensures in
    rw c.at.ensures (⊎_elim (λ l. ranged_low a.file.now a.low a.high a.at field l) (λ h. ranged_high a.file.now a.low a.high a.at field h.0 h.1) c.then-read-low.either)

pub returns : goal.returns
returns c =
    let a = c.args in
    ranged_there a.file.now a.low a.high a.at (sym c.in_ok-read.ensures) c.if-read-low.false c.if-high-read.false
