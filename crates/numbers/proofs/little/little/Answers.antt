use Rattle.std.proofs.Common.{sym, ◌∙◌}
use Rattle.numbers.specs.Bytes.{inside, is_there, is_missing}
use Rattle.numbers.proofs.little.little.Goals as goal

pub returns-then-not-has_bytes : goal.returns-then-not-has_bytes
returns-then-not-has_bytes g c =
    let a = c.args in
    rw c.at.ensures (is_missing a.s.now g.W.Width.BYTES a.at (rw c.BYTES.ensures at (sym c.has_bytes.ensures ∙ c.if-not-has_bytes.true)))

pub returns : goal.returns
returns g c =
    let a = c.args in
    let e = rw c.BYTES.ensures at (sym c.has_bytes.ensures ∙ c.if-not-has_bytes.false) in
    rw c.BYTES-2.ensures (is_there a.s.now g.W.Width.BYTES a.at e (c.value.ensures.there (inside a.s.now g.W.Width.BYTES a.at g.met.W.Width.some e)))
