use Rattle.std.proofs.Common.{arith}
use Rattle.xml_import.proofs.Rows.{lead-gap, lead-past, lead_two, lead_e0, lead_e1, lead_ed, lead_ee, lead_top, lead_f0, lead_f1, lead_f4}
use Rattle.xml_import.proofs.character.wide_at.Goals as goal

pub returns-in-194-to-223 : goal.returns-in-194-to-223
returns-in-194-to-223 c = lead_two _ _ c.requires.0 (omega arith) (omega arith) _ c.byte_at.ensures

pub returns-in-224 : goal.returns-in-224
returns-in-224 c = lead_e0 _ _ c.requires.0 c.in-224.is _ c.two_at.ensures

pub returns-in-225-to-236 : goal.returns-in-225-to-236
returns-in-225-to-236 c = lead_e1 _ _ c.requires.0 (omega arith) (omega arith) _ c.two_at-in-225-to-236.ensures

pub returns-in-237 : goal.returns-in-237
returns-in-237 c = lead_ed _ _ c.requires.0 c.in-237.is _ c.two_at-in-237.ensures

pub returns-in-238 : goal.returns-in-238
returns-in-238 c = lead_ee _ _ c.requires.0 c.in-238.is _ c.two_at-in-238.ensures

pub returns-in-239 : goal.returns-in-239
returns-in-239 c = lead_top _ _ c.requires.0 c.in-239.is _ c.top_at.ensures

pub returns-in-240 : goal.returns-in-240
returns-in-240 c = lead_f0 _ _ c.requires.0 c.in-240.is _ c.three_at.ensures

pub returns-in-241-to-243 : goal.returns-in-241-to-243
returns-in-241-to-243 c = lead_f1 _ _ c.requires.0 (omega arith) (omega arith) _ c.three_at-in-241-to-243.ensures

pub returns-in-244 : goal.returns-in-244
returns-in-244 c = lead_f4 _ _ c.requires.0 c.in-244.is _ c.three_at-in-244.ensures

pub returns-in_default : goal.returns-in_default
returns-in_default c = lead-gap _ _ c.requires.0 (omega arith) c.requires.1

pub returns-in_default-2 : goal.returns-in_default-2
returns-in_default-2 c = lead-past _ _ c.requires.0 (omega arith) (omega (arith, c.type_inv.xml c.args.at))
