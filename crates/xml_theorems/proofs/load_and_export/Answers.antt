use mathlib.Core.Path.{sym, ap, ◌∙◌}
use lib.ListN.{length}
use Rattle.xml_export.specs.Contract.{answer_of}
use Rattle.xml_theorems.proofs.Fits.{load_first}
use Rattle.xml_theorems.proofs.load_and_export.Goals as goal

pub returns : goal.returns
returns c =
    let a = c.args in
    let n = c.load-loaded.auto.words in
    let loads = c.load-loaded.ensures.value in
    let l = rw (← n) at loads in
    let exports = c.export-exported.ensures.value in
    record {
      behind = record { refused = λ number place q. exports ∙ ap answer_of (load_first a.enums.now a.file.now _ (length a.out.now) (sym l ∙ q)) };
      loaded_value = loads;
      exported_value = rw n at exports;
    }
