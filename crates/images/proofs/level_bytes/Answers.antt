-- `images::level_bytes` meets its contract, and no product in it is above 2 to the 28. Assumes nothing.
use Prim.Native.Nat.{◌*◌, ◌≤◌}
use native.Mathlib.Omega.{arith}
use native.Mathlib.Nat.{mul-le-mul}
use Rattle.layout.specs.Image.{level_bytes}
use Rattle.images.proofs.Sizes.{pixel_bound, block_bound}
use Rattle.images.proofs.level_bytes.Goals.{After-block_bytes, After-pixel_bytes}
use Rattle.images.proofs.level_bytes.Goals as goal

in-pixels : (c : After-pixel_bytes) → c.pixel_bytes.result * (c.args.w * c.args.h) ≤ 16 * (4096 * 4096)
in-pixels c = mul-le-mul {n₂ = 16} (omega (arith, pixel_bound c.args.format)) (let h : c.args.w * c.args.h ≤ 4096 * 4096 = mul-le-mul c.requires.0 c.requires.1 in h)

of_blocks : (c : After-block_bytes) → c.block_bytes.result * (c.in_blocks.result * c.in_blocks-2.result) ≤ 16 * (1024 * 1024)
of_blocks c = mul-le-mul {n₂ = 16} (omega (arith, block_bound c.args.format)) (let h : c.in_blocks.result * c.in_blocks-2.result ≤ 1024 * 1024 = mul-le-mul {n₂ = 1024} {m₂ = 1024} (omega arith) (omega arith) in h)

pub overflow_mul-result : goal.overflow_mul-result
overflow_mul-result c = omega (arith, in-pixels c)

pub overflow_mul-result-2 : goal.overflow_mul-result-2
overflow_mul-result-2 c = omega (arith, of_blocks c)

pub overflow_add-result : goal.overflow_add-result
overflow_add-result c = omega (arith, in-pixels (goal.at.overflow_add-result c).After-pixel_bytes, of_blocks c)

pub returns : goal.returns
unfolding level_bytes
returns c = rw (c.pixel_bytes.ensures, c.block_bytes.ensures, c.in_blocks.ensures, c.in_blocks-2.ensures)
