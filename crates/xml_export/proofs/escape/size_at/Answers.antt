use mathlib.Core.Path.{sym, ◌∙◌}
use Rattle.xml_export.proofs.Escapes.{letter_size, low_size, top_size, other_size}
use Rattle.xml_export.proofs.escape.size_at.Goals as goal

pub returns-then-b : goal.returns-then-b
returns-then-b c =
    let a = c.args in
    letter_size a.text.now a.at c.requires c.if-b-gt62.true c.if-b.true

pub returns-then-b-lt32 : goal.returns-then-b-lt32
returns-then-b-lt32 c =
    let a = c.args in
    low_size a.text.now a.at c.requires c.if-b-lt32.true

pub returns-then-noncharacter_at : goal.returns-then-noncharacter_at
returns-then-noncharacter_at c =
    let a = c.args in
    top_size a.text.now a.at c.requires c.if-b-lt32.false (sym c.if-noncharacter_at.true ∙ c.noncharacter_at.ensures)

pub returns : goal.returns
returns c =
    let a = c.args in
    other_size a.text.now a.at c.requires c.if-b-lt32.false (sym c.if-noncharacter_at.false ∙ c.noncharacter_at.ensures) c.escaped_size.ensures
