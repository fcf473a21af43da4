use mathlib.Core.Path.{sym, ◌∙◌}
use Prim.Native.Nat.{◌-◌}
use native.Mathlib.Omega.{arith}
use Rattle.rewrite.specs.Pending.{copy-inside, not_behind, not_copied, has_room, number-written}
use Rattle.rewrite.proofs.write_number.Goals as goal

pub returns-then-at-c : goal.returns-then-at-c
returns-then-at-c c =
    let a = c.args in
    λ base places whole ev en p.
    absurd (not_behind a.file.now base a.out.now a.c.from a.c.to whole a.at a.number.value a.number.next places ev en p c.if-at-c.true)

pub returns-then-not-copy : goal.returns-then-not-copy
returns-then-not-copy c =
    let a = c.args in
    λ base places whole ev en p.
    absurd (not_copied a.file.now base a.out.now a.c.from a.c.to whole a.at a.number.value a.number.next places ev en p (sym c.if-not-copy.true ∙ c.copy.ensures.value))

pub overflow_add-c : goal.overflow_add-c
overflow_add-c c =
    let a = c.args in
    omega (arith, copy-inside a.out.now a.c.to a.file.now a.c.from (a.at - a.c.from) (sym c.if-not-copy.false ∙ c.copy.ensures.value))

pub returns-in-Some : goal.returns-in-Some
returns-in-Some c =
    let a = c.args in
    λ base places whole ev en p.
    number-written a.file.now base a.out.now a.c.from a.c.to whole a.at a.number.value a.number.next places ev en p c.copy.ensures.out_after c.write_shortest.ensures.0 c.write_shortest.ensures.1 c.in-Some.is

pub returns-in-None : goal.returns-in-None
returns-in-None c =
    let a = c.args in
    λ base places whole ev en p.
    absurd (has_room a.file.now base a.out.now a.c.from a.c.to whole a.at a.number.value a.number.next places ev en p c.copy.ensures.out_after c.write_shortest.ensures.0 c.in-None.is)
