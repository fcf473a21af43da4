use Rattle.std.proofs.Common.{sym, arith}
use Rattle.heads.specs.Images.{ranged_bounds}
use Rattle.heads.proofs.open.image_height.Goals as goal

pub overflow_cast-height : goal.overflow_cast-height
overflow_cast-height c =
    let b = ranged_bounds c.args.file.now 1 4096 c.args.at (sym c.in_ok-height.ensures) in
    omega arith

pub image_levels-requires : goal.image_levels-requires
image_levels-requires c =
    let b = ranged_bounds c.args.file.now 1 4096 c.args.at (sym c.in_ok-height.ensures) in
    (c.requires.0, c.requires.1, c.requires.2, b.0, b.1)
