use mathlib.Core.Path.{◌∙◌}
use native.Mathlib.Omega.{arith}
use Rattle.reading.specs.Reads.{small_by_index}
use Rattle.lookups.proofs.Signs.{little-within, last_of}
use Rattle.lookups.proofs.last_bytes.Goals as goal

pub signed_from-requires : goal.signed_from-requires
signed_from-requires g c =
    let s = c.args.bytes.now in
    rw c.requires (little-within s (small_by_index s (λ i h. omega (arith, c.type_inv.bytes i))) g.W.Width.BYTES _ g.met.W.Width.some c.little-read.ensures)

pub returns : goal.returns
returns g c = c.signed_from.ensures ∙ rw c.requires (last_of c.args.bytes.now g.W.Width.BYTES c.args.row (rw c.BYTES.ensures at c.back.ensures) c.little-read.ensures)
