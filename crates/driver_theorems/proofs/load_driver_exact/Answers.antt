use lib.ListN.{length}
use native.Mathlib.Omega.{arith}
use Rattle.reading.specs.Reads.{small_by_index}
use Rattle.driver_theorems.proofs.Laws.{load_driver_exact}
use Rattle.driver_theorems.proofs.load_driver_exact.Goals as goal

pub returns : goal.returns
returns c =
    let a = c.args in record {
      loads_for_driver = load_driver_exact a.enums.now a.file.now (length a.words.now)
          (λ i h. omega (arith, c.type_inv.enums i))
          (small_by_index a.file.now (λ i h. omega (arith, c.type_inv.file i)))
          c.load_driver.ensures.value
          c.load_driver.ensures.words_after;
      value = c.load_driver.ensures.value;
    }
