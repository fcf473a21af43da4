use mathlib.Core.Path.{sym, ◌∙◌}
use mathlib.Core.Bool.{true, false}
use lib.ListN.{get_or}
use Rattle.reading.specs.Utf8.{size_low, size_two, size-three, size-four, size_high}
use Rattle.text.proofs.Laws.{no_char, char_here}
use borrow.Author.Rules.{rules}
use Rattle.text.proofs.multi.Goals as goal

pub returns-then-b-lt194 : goal.returns-then-b-lt194
returns-then-b-lt194 c =
    let a = c.args in
    let b = get_or a.s.now a.i 0 in
    sym (no_char a.s.now a.i c.requires.0 (size_low b c.requires.1 c.if-b-lt194.true))

pub returns-then-follows : goal.returns-then-follows
returns-then-follows c =
    let a = c.args in
    let b = get_or a.s.now a.i 0 in
    sym (char_here a.s.now a.i 1 true c.requires.0 (size_two b (search rules) (search rules)) (sym c.follows.ensures ∙ c.if-follows.true))

pub returns-then-b-lt224 : goal.returns-then-b-lt224
returns-then-b-lt224 c =
    let a = c.args in
    let b = get_or a.s.now a.i 0 in
    sym (char_here a.s.now a.i 1 false c.requires.0 (size_two b (search rules) (search rules)) (sym c.follows.ensures ∙ c.if-follows.false))

pub returns-then-follows-2 : goal.returns-then-follows-2
returns-then-follows-2 c =
    let a = c.args in
    let b = get_or a.s.now a.i 0 in
    sym (char_here a.s.now a.i 2 true c.requires.0 (size-three b (search rules) (search rules)) (sym c.follows-then-b-lt240.ensures ∙ c.if-follows-2.true))

pub returns-then-b-lt240 : goal.returns-then-b-lt240
returns-then-b-lt240 c =
    let a = c.args in
    let b = get_or a.s.now a.i 0 in
    sym (char_here a.s.now a.i 2 false c.requires.0 (size-three b (search rules) (search rules)) (sym c.follows-then-b-lt240.ensures ∙ c.if-follows-2.false))

pub returns-then-follows-3 : goal.returns-then-follows-3
returns-then-follows-3 c =
    let a = c.args in
    let b = get_or a.s.now a.i 0 in
    sym (char_here a.s.now a.i 3 true c.requires.0 (size-four b (search rules) (search rules)) (sym c.follows-then-b-lt245.ensures ∙ c.if-follows-3.true))

pub returns-else-follows-3 : goal.returns-else-follows-3
returns-else-follows-3 c =
    let a = c.args in
    let b = get_or a.s.now a.i 0 in
    sym (char_here a.s.now a.i 3 false c.requires.0 (size-four b (search rules) (search rules)) (sym c.follows-then-b-lt245.ensures ∙ c.if-follows-3.false))

pub returns-else-b-lt245 : goal.returns-else-b-lt245
returns-else-b-lt245 c =
    let a = c.args in
    let b = get_or a.s.now a.i 0 in
    sym (no_char a.s.now a.i c.requires.0 (size_high b c.if-b-lt245.false))
