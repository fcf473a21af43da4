use Rattle.std.proofs.Common.{refl, ◌∙◌, arith, leb, le-leb, length}
use Rattle.layout.specs.Number.{between}
use Rattle.layout.specs.Text.{ascii}
use Rattle.layout.specs.Kind.{readers, reader}
use Rattle.layout.specs.EnumList.{write_enums}
use Rattle.names.specs.Entries.{listing}
use Rattle.names.proofs.Lookup.{part, table_found, between_is}
use Rattle.names.proofs.tables.reader_kind.Goals as goal

pub returns-in-0-to-43 : goal.returns-in-0-to-43
unfolding write_enums listing part readers reader ascii
returns-in-0-to-43 c = c.find-in-0-to-43.ensures ∙ table_found (λ n. leb n 43) readers _ c.args.head.now refl (le-leb (length c.args.head.now) 43 (omega (arith, c.in-0-to-43)))

pub returns-in-44 : goal.returns-in-44
unfolding write_enums listing part readers reader ascii
returns-in-44 c = c.find.ensures ∙ table_found (between 44 44) readers _ c.args.head.now refl (between_is 44 44 (length c.args.head.now) (omega (arith, c.in-44.is)) (omega (arith, c.in-44.is)))

pub returns-in-45-to-46 : goal.returns-in-45-to-46
unfolding write_enums listing part readers reader ascii
returns-in-45-to-46 c = c.find-in-45-to-46.ensures ∙ table_found (between 45 46) readers _ c.args.head.now refl (between_is 45 46 (length c.args.head.now) (omega (arith, c.in-45-to-46)) (omega (arith, c.in-45-to-46)))

pub returns-in_default : goal.returns-in_default
unfolding write_enums listing part readers reader ascii
returns-in_default c = c.find-in_default.ensures ∙ table_found (leb 47) readers _ c.args.head.now refl (le-leb 47 (length c.args.head.now) (omega (arith, c.in_default)))
