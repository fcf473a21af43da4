use Prim.Native.Nat.{◌/◌}
use native.Mathlib.Omega.{arith}
use borrow.Author.Tests.{lt-ltb, le-ltb}
use Rattle.layout.specs.Shortest.{shortest, fewest}
use Rattle.numbers.proofs.shortest.shortest_len.Goals as goal

pub returns-then-n-lt128 : goal.returns-then-n-lt128
unfolding shortest fewest
returns-then-n-lt128 c =
    let n = c.args.n in
    simp (lt-ltb (n) 128 (omega arith))

pub returns-then-n-lt16384 : goal.returns-then-n-lt16384
unfolding shortest fewest
returns-then-n-lt16384 c =
    let n = c.args.n in
    simp (le-ltb (n) 128 (omega arith), lt-ltb (n / 128) 128 (omega arith))

pub returns-then-n-lt2097152 : goal.returns-then-n-lt2097152
unfolding shortest fewest
returns-then-n-lt2097152 c =
    let n = c.args.n in
    simp (le-ltb (n) 128 (omega arith), le-ltb (n / 128) 128 (omega arith), lt-ltb (n / 128 / 128) 128 (omega arith))

pub returns-then-n-lt268435456 : goal.returns-then-n-lt268435456
unfolding shortest fewest
returns-then-n-lt268435456 c =
    let n = c.args.n in
    simp (le-ltb (n) 128 (omega arith), le-ltb (n / 128) 128 (omega arith), le-ltb (n / 128 / 128) 128 (omega arith), lt-ltb (n / 128 / 128 / 128) 128 (omega arith))

pub returns : goal.returns
unfolding shortest fewest
returns c =
    let n = c.args.n in
    simp (le-ltb (n) 128 (omega arith), le-ltb (n / 128) 128 (omega arith), le-ltb (n / 128 / 128) 128 (omega arith), le-ltb (n / 128 / 128 / 128) 128 (omega arith), lt-ltb (n / 128 / 128 / 128 / 128) 128 (omega arith))
