use Rattle.xml_theorems.proofs.Imported.{import_exact}
use Rattle.xml_theorems.proofs.import_exact.Goals as goal

pub returns : goal.returns
returns c =
    let a = c.args in
    import_exact a.xml.now a.out.now c.import.ensures.value c.import.ensures.out_after
