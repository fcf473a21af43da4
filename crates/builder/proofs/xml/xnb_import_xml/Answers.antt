use mathlib.Core.Path.{sym, ◌∙◌}
use lib.ListN.{length}
use Rattle.xml_reading.specs.Answers.{import_of}
use Rattle.builder.proofs.XmlTold.{not_imported, all_imported}
use borrow.Author.Rules.{rules}
use Rattle.builder.proofs.xml.xnb_import_xml.Goals as goal

pub returns-in-Err : goal.returns-in-Err
returns-in-Err c =
    let a = c.args in
    record { at_after = not_imported (import_of a.xml.now (length a.out.now)) (sym c.in-Err.is ∙ c.import.ensures.value); out_after = c.import.ensures.out_after }

pub returns-in-Ok : goal.returns-in-Ok
returns-in-Ok c =
    let a = c.args in
    record { at_after = all_imported (import_of a.xml.now (length a.out.now)) (sym c.in-Ok.is ∙ c.import.ensures.value); out_after = c.import.ensures.out_after }
