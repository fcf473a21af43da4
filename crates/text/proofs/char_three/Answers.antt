use mathlib.Core.Path.{sym, ◌∙◌}
use mathlib.Core.Bool.{false}
use Prim.Native.Nat.{◌+◌}
use native.Mathlib.Omega.{arith}
use lib.ListN.{get_or}
use Rattle.reading.specs.Answer.{check}
use Rattle.reading.specs.Utf8.{size-three}
use Rattle.text.proofs.Laws.{char_cut, char-read, second-least, third_least, three-read}
use Rattle.text.proofs.char_three.Goals as goal

pub returns-then-s-at-lt3 : goal.returns-then-s-at-lt3
returns-then-s-at-lt3 c =
    let a = c.args in
    let b = get_or a.s.now a.at 0 in
    rw c.at.ensures (sym (char_cut a.s.now a.at 2 c.requires.0 (size-three b c.requires.1.0 c.requires.1.1) (omega arith) c.if-s-at-lt3.true))

pub with_six-v-requires : goal.with_six-v-requires
with_six-v-requires c =
    let a = c.args in
    let b = get_or a.s.now a.at 0 in
    (omega arith, second-least a.s.now (a.at + 1) 1 b (sym c.follows.ensures ∙ c.if-follows.true))

pub with_six-requires : goal.with_six-requires
with_six-requires c =
    let a = c.args in
    let b = get_or a.s.now a.at 0 in
    (omega (arith, c.type_inv.s (a.at + 1)), third_least a.s.now a.at b (sym c.follows.ensures ∙ c.if-follows.true))

pub returns-then-follows : goal.returns-then-follows
returns-then-follows c =
    let a = c.args in
    let b = get_or a.s.now a.at 0 in
    cc (three-read a.s.now a.at c.requires.0 (size-three b c.requires.1.0 c.requires.1.1) c.if-s-at-lt3.false (sym c.follows.ensures ∙ c.if-follows.true))

pub returns : goal.returns
unfolding check
returns c =
    let a = c.args in
    let b = get_or a.s.now a.at 0 in
    rw c.at-2.ensures (sym (char-read a.s.now a.at 2 false c.requires.0 (size-three b c.requires.1.0 c.requires.1.1) (omega arith) c.if-s-at-lt3.false (sym c.follows.ensures ∙ c.if-follows.false)))
