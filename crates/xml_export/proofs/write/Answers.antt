use mathlib.Core.Path.{refl}
use Rattle.layout.specs.Text.{ascii}
use Rattle.xml_layout.specs.Xml.{document_start, document_end}
use Rattle.xml_export.proofs.Gathers.{whole_xml}
use Rattle.xml_export.proofs.write.Goals as goal

pub returns : goal.returns
unfolding document_start document_end ascii
returns c =
    let a' = c.args in
    whole_xml a'.file.now a'.words.now a'.rows _ a'.out.now _ _ _ _ _ refl refl c.copy.ensures.out_after c.put_rows-end.ensures c.copy-2.ensures.out_after
