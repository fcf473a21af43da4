use lib.ListN.{length}
use native.Mathlib.Omega.{arith}
use Rattle.reading.specs.Reads.{small_by_index}
use Rattle.xml_theorems.proofs.Fits.{export_exact}
use Rattle.xml_theorems.proofs.export_exact.Goals as goal

named : {A B : Type 0} → A × B → record { exports_file : A; value : B }
named p = record { exports_file = p.0; value = p.1 }

pub returns : goal.returns
returns c =
    let a = c.args in
    named ((
      export_exact a.enums.now a.file.now (length a.words.now) a.out.now
          (λ i h. omega (arith, c.type_inv.enums i))
          (small_by_index a.file.now (λ i h. omega (arith, c.type_inv.file i)))
          c.export.auto.words c.export.ensures.value c.export.ensures.out_after c.export.ensures.words_after,
      c.export.ensures.value,
    ))
