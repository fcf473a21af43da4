use native.Mathlib.Omega.{arith}
use Rattle.xml_export.proofs.Escapes.{extra_of}
use Rattle.xml_escape.specs.Sizes.{few_bytes}
use Rattle.xml_export.proofs.escape.extra.Goals as goal

pub returns : goal.returns
returns c =
    let a = c.args in (
      omega (arith, c.worth.ensures.0, c.worth-2.ensures.0, c.worth-3.ensures.0, extra_of a.b),
      omega (arith, c.worth.ensures.0, c.worth-2.ensures.0, c.worth-3.ensures.0, extra_of a.b, few_bytes a.b),
    )
