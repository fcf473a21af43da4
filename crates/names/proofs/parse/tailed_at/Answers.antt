use mathlib.Core.Path.{◌≡◌, sym, ap, ◌∙◌}
use Prim.Native.Nat.{◌+◌}
use native.Mathlib.Omega.{arith}
use lib.ListN.{drop}
use Rattle.names.specs.Parse.{tail_size}
use Rattle.names.proofs.Laws.{rest, tail-fits, bare_is, tail_is}
use Rattle.names.proofs.parse.tailed_at.Goals as goal

pub returns-then-size-eq0 : goal.returns-then-size-eq0
returns-then-size-eq0 c =
    let a = c.args in
    let e = c.tail_size-size.ensures ∙ ap tail_size (rest a.name.now a.at) in
    let z : a.at ≡ a.at + tail_size (drop a.at a.name.now) = omega (arith, e, c.if-size-eq0.true) in
    rw (← bare_is (drop a.at a.name.now) a.bare (sym e ∙ c.if-size-eq0.true), ← z)

pub overflow_add-end : goal.overflow_add-end
overflow_add-end c =
    let a = c.args in
    let e = c.tail_size-size.ensures ∙ ap tail_size (rest a.name.now a.at) in
    omega (arith, tail-fits a.name.now a.at (c.requires))

pub returns : goal.returns
returns c =
    let a = c.args in
    let e = c.tail_size-size.ensures ∙ ap tail_size (rest a.name.now a.at) in
    rw (← tail_is (drop a.at a.name.now) a.bare (λ q. c.if-size-eq0.false (e ∙ q)), e)
