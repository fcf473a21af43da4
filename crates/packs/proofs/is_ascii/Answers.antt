use Rattle.std.proofs.Common.{◌-◌, arith}
use Rattle.packs.proofs.Ascii.{covered}
use Rattle.packs.proofs.is_ascii.Goals as goal

pub returns : goal.returns
returns c =
    let a = c.args in
    let most = c.if-size-gt32.false in
    λ e. (c.if-size-lt16.false, most, covered a.pack.now a.start (a.behind - 16) (a.behind - a.start) most (omega (arith, c.requires, c.if-size-lt16.false)) (c.ascii_blocks.ensures e))
