use lib.ListN.{length}
use native.Mathlib.Omega.{arith}
use Rattle.reading.specs.Reads.{small_by_index}
use Rattle.theorems.specs.Laws.{rewrite_exact}
use Rattle.theorems.proofs.rewrite_exact.Goals as goal

named : {A B : Type 0} → A × B → record { rewrites : A; value : B }
named p = record { rewrites = p.0; value = p.1 }

pub returns : goal.returns
returns c =
    let file = c.args.file.now in
    let enums = c.args.enums.now in named ((
      rewrite_exact enums file (length c.args.words.now) c.args.out.now
          (λ i h. omega (arith, c.type_inv.enums i))
          (small_by_index file (λ i h. omega (arith, c.type_inv.file i)))
          c.rewrite.ensures.value
          c.rewrite.ensures.out_after
          c.rewrite.ensures.words_after,
      c.rewrite.ensures.value,
    ))
