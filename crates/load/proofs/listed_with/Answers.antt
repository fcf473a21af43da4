use mathlib.Core.Path.{◌≡◌}
use native.Mathlib.Omega.{arith}
use Prim.Native.Nat.{ℕ}
use lib.ListN.{length, replicate}
use Rattle.std.proofs.lemmas.List.{length-replicate}
use Rattle.load.proofs.listed_with.Goals as goal

pub listed-requires : goal.listed-requires
listed-requires g c =
    let n : length (replicate {A = ℕ} g.row.N 0) ≡ g.row.N = length-replicate g.row.N 0 in
    (c.requires.0, omega (arith, n, c.requires.1), rw n c.requires.3)

pub whole_as_slice-listed : goal.whole_as_slice-listed
whole_as_slice-listed g c = omega (arith, c.requires.2)
