use borrow.Author.Rules.{rules}
use mathlib.Core.Path.{refl, sym, ◌∙◌}
use Rattle.reading.specs.Utf8.{utf8s-sound}
use Rattle.xml_import.proofs.Runs.{stands-none, stands_utf8}
use Rattle.xml_import.proofs.standing.utf8_run.Goals as goal

pub returns-then-is_utf8 : goal.returns-then-is_utf8
returns-then-is_utf8 c =
    stands_utf8 c.cut-end.ensures.0 c.cut-end.ensures.1 refl (c.quiet_run-n.ensures.run (search rules)) (utf8s-sound _ (sym c.is_utf8.ensures ∙ c.if-is_utf8.true))

pub returns : goal.returns
returns c = stands-none c.requires
