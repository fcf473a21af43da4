-- `text::ascii_end` meets its contract: what is left from `i` on is a part of the last 16 bytes. Assumes nothing.
use mathlib.Core.Path.{◌≡◌, subst}
use mathlib.Core.Bool.{false≢true}
use Prim.Native.Nat.{◌+◌, ◌-◌}
use native.Mathlib.Omega.{arith}
use lib.ListN.{length}
use Rattle.text.specs.Passed.{Passed}
use Rattle.text.proofs.Laws.{pass_block, later-ascii}
use Rattle.text.proofs.ascii_end.Goals as goal

pub returns-then-s-lt16 : goal.returns-then-s-lt16
returns-then-s-lt16 c = λ e. absurd (false≢true e)

pub returns-then-i-last : goal.returns-then-i-last
returns-then-i-last c = λ e. absurd (false≢true e)

pub returns : goal.returns
returns c e =
    let a = c.args in
    let s = a.s.now in
    let last = length s - 16 in
    let n = last + 16 - a.i in
    let z : a.i + n ≡ length s = omega (arith, c.if-s-lt16.false) in
    subst (λ k. Passed s a.i k) z (pass_block s n a.i (omega arith) (later-ascii s last 16 a.i c.if-i-last.false (c.ascii_block.ensures e)))
