use mathlib.Core.Path.{sym, ap, ◌∙◌}
use native.Mathlib.Omega.{arith}
use Rattle.answers.specs.Told.{told}
use Rattle.readers.specs.Left.{codes_for}
use Rattle.readers.specs.Room.{up_to_bound, suffice, suffice-refused}
use Rattle.load.proofs.lists.Goals as goal

pub listed_with-requires : goal.listed_with-requires
unfolding codes_for
listed_with-requires c = (c.requires, omega arith, omega arith, suffice-refused _ _ _ c.requires.short (sym c.reader_count.ensures ∙ ap told c.in-Err.is))

pub listed_with-requires-in-0 : goal.listed_with-requires-in-0
unfolding codes_for
listed_with-requires-in-0 c = (c.requires, omega arith, omega arith, suffice _ _ 0 c.requires.short (sym c.reader_count.ensures ∙ ap told c.in-Ok.is) (omega (arith, c.in-0.is)))

pub listed_with-requires-in-1 : goal.listed_with-requires-in-1
unfolding codes_for
listed_with-requires-in-1 c = (c.requires, omega arith, omega arith, suffice _ _ 1 c.requires.short (sym c.reader_count.ensures ∙ ap told c.in-Ok.is) (omega (arith, c.in-1.is)))

pub listed_with-requires-in-2-to-8 : goal.listed_with-requires-in-2-to-8
unfolding codes_for
listed_with-requires-in-2-to-8 c = (c.requires, omega arith, omega arith, suffice _ _ 8 c.requires.short (sym c.reader_count.ensures ∙ ap told c.in-Ok.is) (omega arith))

pub listed_with-requires-in_default : goal.listed_with-requires-in_default
unfolding codes_for
listed_with-requires-in_default c =
    let e = sym c.reader_count.ensures ∙ ap told c.in-Ok.is in
    (c.requires, omega arith, omega arith, suffice _ _ 64 c.requires.short e (up_to_bound 64 _ _ e))
