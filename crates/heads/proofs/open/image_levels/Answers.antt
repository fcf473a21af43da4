use Rattle.std.proofs.Common.{sym, arith}
use Rattle.heads.specs.Images.{chain_bound, ranged_bounds}
use Rattle.heads.proofs.open.image_levels.Goals as goal

pub overflow_cast-count : goal.overflow_cast-count
overflow_cast-count c =
    let a = c.args in
    omega (arith, ranged_bounds a.file.now 1 _ a.at (sym c.in_ok-levels.ensures), c.longest_chain-most.ensures, chain_bound a.width a.height c.requires.2 c.requires.4)
