use mathlib.Core.Path.{◌≡◌, refl, ◌∙◌}
use mathlib.Core.Bool.{true}
use Prim.Native.Nat.{◌+◌}
use native.Mathlib.Omega.{arith}
use lib.Dec.{leb}
use lib.ListN.{length}
use lib.Seq.{sets-eq}
use borrow.Author.Tests.{le-leb}
use Rattle.layout.specs.Shortest.{shortest}
use Rattle.numbers.proofs.shortest.write_shortest.Goals as goal

pub returns : goal.returns
returns c =
    let a = c.args in
    let t : leb (a.at + length (shortest a.n)) (length a.out.now) ≡ true = le-leb (a.at + length (shortest a.n)) (length a.out.now) (omega arith) in
    rw (t, c.shortest_len-size.ensures) (refl, c.put.ensures ∙ sets-eq (shortest a.n) a.out.now a.at (omega arith))
