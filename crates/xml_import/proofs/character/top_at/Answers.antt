use mathlib.Core.List.{[]}
use Rattle.xml_import.proofs.Bytes.{then_inside, top_first, top_second}
use Rattle.xml_import.proofs.character.top_at.Goals as goal

pub byte_at-requires-in-Ok : goal.byte_at-requires-in-Ok
byte_at-requires-in-Ok c = then_inside _ [] _ _ c.in-Ok.ensures

pub returns-in-Err : goal.returns-in-Err
returns-in-Err c = top_second _ _ _ _ c.in-Err.ensures c.two_at.ensures

pub returns-in-Ok : goal.returns-in-Ok
returns-in-Ok c = top_first _ _ _ _ c.in-Ok.ensures c.byte_at-in-Ok.ensures
