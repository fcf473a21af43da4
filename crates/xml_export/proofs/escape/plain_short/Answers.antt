use Rattle.std.proofs.Common.{refl, arith, rules}
use Rattle.xml_escape.proofs.Cuts.{block_cut}
use Rattle.xml_export.proofs.escape.plain_short.Goals as goal

pub returns-then-n-first_of : goal.returns-then-n-first_of
returns-then-n-first_of c =
    let b = block_cut c.args.file.now c.args.first c.requires c.in-Some.ensures.cases refl c.first_of.ensures in
    λ e k h. let q = b.before k (omega (arith, h, c.if-n-first_of.true)) in search rules
