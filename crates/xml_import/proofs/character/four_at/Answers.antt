use Rattle.std.proofs.Common.{arith, eqb-true}
use Rattle.xml_import.proofs.Words.{same_four}
use Rattle.xml_import.proofs.character.four_at.Goals as goal

pub returns : goal.returns
returns c = λ e.
    same_four c.args.xml.now c.args.four.now c.args.at (λ k. (c.type_inv.xml k).fits) c.fits-four
    (omega (arith, eqb-true _ _ e, c.from_le_bytes-here.ensures, c.from_le_bytes.ensures))
