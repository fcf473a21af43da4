use Rattle.std.proofs.Common.{◌≡◌, ◌∙◌, ◌/◌, ◌%◌, ◌^◌, arith}
use Rattle.layout.specs.Number.{little}
use Rattle.numbers.proofs.little.put4.Goals as goal

pub returns : goal.returns
unfolding little
returns c =
    let n = c.args.n in
    let first : n % 4294967296 % 256 ≡ n % 256 = omega arith in
    let second : n % 4294967296 / 256 ^ 1 % 256 ≡ n / 256 % 256 = omega arith in
    let third : n % 4294967296 / 256 ^ 2 % 256 ≡ n / 256 / 256 % 256 = omega arith in
    let fourth : n % 4294967296 / 256 ^ 3 % 256 ≡ n / 256 / 256 / 256 % 256 = omega arith in
    c.copy.ensures.out_after ∙ rw (c.to_le_bytes-bytes.ensures, first, second, third, fourth)
