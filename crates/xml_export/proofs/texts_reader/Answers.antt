use Rattle.std.proofs.Common.{sym, arith}
use Rattle.readers.specs.Left.{codes_for}
use Rattle.readers.specs.Room.{suffice, suffice-refused, all_suffice}
use Rattle.xml_export.proofs.texts_reader.Goals as goal

pub of_codes-requires : goal.of_codes-requires
unfolding codes_for
of_codes-requires c = (c.requires, omega arith, suffice-refused _ _ _ c.requires (sym c.in-Err.ensures))

pub of_codes-requires-then-count-le2 : goal.of_codes-requires-then-count-le2
unfolding codes_for
of_codes-requires-then-count-le2 c = (c.requires, omega arith, suffice _ _ 2 c.requires (sym c.in-Ok.ensures) c.if-count-le2.true)

pub of_codes-requires-then-count-le8 : goal.of_codes-requires-then-count-le8
unfolding codes_for
of_codes-requires-then-count-le8 c = (c.requires, omega arith, suffice _ _ 8 c.requires (sym c.in-Ok.ensures) c.if-count-le8.true)

pub of_codes-requires-in-Ok : goal.of_codes-requires-in-Ok
unfolding codes_for
of_codes-requires-in-Ok c = (c.requires, omega arith, all_suffice c.args.file.now 10)
