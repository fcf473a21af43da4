use Rattle.std.proofs.Common.{sym, arith}
use Rattle.heads.specs.Images.{ranged_bounds}
use Rattle.heads.proofs.open.image_width.Goals as goal

pub overflow_cast-width : goal.overflow_cast-width
overflow_cast-width c =
    let b = ranged_bounds c.args.file.now 1 4096 c.args.at (sym c.in_ok-width.ensures) in
    omega arith

pub image_height-requires : goal.image_height-requires
image_height-requires c =
    let b = ranged_bounds c.args.file.now 1 4096 c.args.at (sym c.in_ok-width.ensures) in
    (c.requires, b.0, b.1)
