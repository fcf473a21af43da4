use Rattle.xml_import.proofs.Bytes.{byte_out, byte_low, byte_high, byte_in}
use Rattle.xml_import.proofs.character.byte_at.Goals as goal

pub returns-then-xml-at : goal.returns-then-xml-at
returns-then-xml-at c = byte_out _ _ _ _ c.if-xml-at.true

pub returns-then-b-low : goal.returns-then-b-low
returns-then-b-low c = byte_low _ _ _ _ c.if-xml-at.false c.if-b-low.true

pub returns-then-high-b : goal.returns-then-high-b
returns-then-high-b c = byte_high _ _ _ _ c.if-xml-at.false c.if-b-low.false c.if-high-b.true

pub returns : goal.returns
returns c = byte_in _ _ _ _ c.if-xml-at.false c.if-b-low.false c.if-high-b.false
