use mathlib.Core.Bool.{false}
use lib.ListN.{length}
use native.Mathlib.Omega.{arith}
use Rattle.reading.specs.Reads.{small_by_index}
use Rattle.theorems.specs.Laws.{load_exact}
use Rattle.theorems.proofs.load_exact.Goals as goal

named : {A B : Type 0} → A × B → record { loads : A; value : B }
named p = record { loads = p.0; value = p.1 }

pub returns : goal.returns
returns c =
    let file = c.args.file.now in
    let enums = c.args.enums.now in named ((
      load_exact enums file (length c.args.words.now) false
          (λ i h. omega (arith, c.type_inv.enums i))
          (small_by_index file (λ i h. omega (arith, c.type_inv.file i)))
          c.load.ensures.value
          c.load.ensures.words_after,
      c.load.ensures.value,
    ))
