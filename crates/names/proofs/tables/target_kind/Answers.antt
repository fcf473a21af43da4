use Rattle.std.proofs.Common.{refl, ◌∙◌, arith, leb, le-leb, length}
use Rattle.layout.specs.Number.{between}
use Rattle.layout.specs.Text.{ascii}
use Rattle.layout.specs.Kind.{targets, target}
use Rattle.layout.specs.EnumList.{write_enums}
use Rattle.names.specs.Entries.{listing}
use Rattle.names.proofs.Lookup.{part, table_found, between_is}
use Rattle.names.proofs.tables.target_kind.Goals as goal

pub returns-in-0-to-12 : goal.returns-in-0-to-12
unfolding write_enums listing part targets target ascii
returns-in-0-to-12 c = c.find.ensures ∙ table_found (λ n. leb n 12) targets _ c.args.head.now refl (le-leb (length c.args.head.now) 12 (omega (arith, c.in-0-to-12)))

pub returns-in-13-to-15 : goal.returns-in-13-to-15
unfolding write_enums listing part targets target ascii
returns-in-13-to-15 c = c.find-in-13-to-15.ensures ∙ table_found (between 13 15) targets _ c.args.head.now refl (between_is 13 15 (length c.args.head.now) (omega (arith, c.in-13-to-15)) (omega (arith, c.in-13-to-15)))

pub returns-in-16-to-32 : goal.returns-in-16-to-32
unfolding write_enums listing part targets target ascii
returns-in-16-to-32 c = c.find-in-16-to-32.ensures ∙ table_found (between 16 32) targets _ c.args.head.now refl (between_is 16 32 (length c.args.head.now) (omega (arith, c.in-16-to-32)) (omega (arith, c.in-16-to-32)))

pub returns-in_default : goal.returns-in_default
unfolding write_enums listing part targets target ascii
returns-in_default c = c.find-in_default.ensures ∙ table_found (leb 33) targets _ c.args.head.now refl (le-leb 33 (length c.args.head.now) (omega (arith, c.in_default)))
