use mathlib.Core.Path.{sym, ap, ◌∙◌}
use native.Mathlib.Omega.{arith}
use Rattle.reading.specs.Reads.{small_by_index}
use Rattle.reading.specs.Seven.{seven_at, seven_next}
use Rattle.numbers.specs.Padded.{told_padded, number_read, number-refused}
use Rattle.rewrite.specs.Measured.{measured-none, measured-read}
use Rattle.rewrite.proofs.measure.Goals as goal

pub returns-in-Ok : goal.returns-in-Ok
returns-in-Ok c =
    let a = c.args in
    let s = a.file.now in
    let n = number_read a.at (seven_at s a.at) (sym (ap told_padded c.in-Ok.is) ∙ c.seven_padded.ensures) in
    record {
      value = measured-read (seven_at s a.at) a.at n;
      small = (seven_next s (small_by_index s (λ i h. omega (arith, c.type_inv.file i))) a.at n.0).2;
    }

pub returns-in-Err : goal.returns-in-Err
returns-in-Err c =
    let a = c.args in
    record {
      value = measured-none (seven_at a.file.now a.at) a.at (number-refused a.at (seven_at a.file.now a.at) (sym (ap told_padded c.in-Err.is) ∙ c.seven_padded.ensures));
      small = omega arith;
    }
