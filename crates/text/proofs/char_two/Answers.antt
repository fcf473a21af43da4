use mathlib.Core.Path.{sym, ◌∙◌}
use mathlib.Core.Bool.{false}
use Prim.Native.Nat.{◌+◌}
use native.Mathlib.Omega.{arith}
use lib.ListN.{get_or}
use Rattle.reading.specs.Answer.{check}
use Rattle.reading.specs.Utf8.{size_two}
use Rattle.text.proofs.Laws.{char_cut, char-read, second-least, two_read}
use Rattle.text.proofs.char_two.Goals as goal

pub returns-then-s-at-lt2 : goal.returns-then-s-at-lt2
returns-then-s-at-lt2 c =
    let a = c.args in
    let b = get_or a.s.now a.at 0 in
    rw c.at.ensures (sym (char_cut a.s.now a.at 1 c.requires.0 (size_two b c.requires.1.0 c.requires.1.1) (omega arith) c.if-s-at-lt2.true))

pub with_six-requires : goal.with_six-requires
with_six-requires c =
    let a = c.args in
    let b = get_or a.s.now a.at 0 in
    (omega arith, second-least a.s.now (a.at + 1) 0 b (sym c.follows.ensures ∙ c.if-follows.true))

pub returns-then-follows : goal.returns-then-follows
returns-then-follows c =
    let a = c.args in
    let b = get_or a.s.now a.at 0 in
    cc (two_read a.s.now a.at c.requires.0 (size_two b c.requires.1.0 c.requires.1.1) c.if-s-at-lt2.false (sym c.follows.ensures ∙ c.if-follows.true))

pub returns : goal.returns
unfolding check
returns c =
    let a = c.args in
    let b = get_or a.s.now a.at 0 in
    rw c.at-2.ensures (sym (char-read a.s.now a.at 1 false c.requires.0 (size_two b c.requires.1.0 c.requires.1.1) (omega arith) c.if-s-at-lt2.false (sym c.follows.ensures ∙ c.if-follows.false)))
