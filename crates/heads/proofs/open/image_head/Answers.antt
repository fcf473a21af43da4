use Rattle.std.proofs.Common.{sym, arith}
use Rattle.heads.specs.Images.{ranged_bounds}
use Rattle.heads.proofs.open.image_head.Goals as goal

pub overflow_cast-format : goal.overflow_cast-format
overflow_cast-format c =
    let b = ranged_bounds c.args.file.now 0 18 c.args.at (sym c.in_ok-format.ensures) in
    omega arith

pub image_width-requires : goal.image_width-requires
image_width-requires c =
    let b = ranged_bounds c.args.file.now 0 18 c.args.at (sym c.in_ok-format.ensures) in
    b.1
