use mathlib.Core.Path.{◌≡◌, ◌∙◌}
use native.Mathlib.Omega.{arith}
use Rattle.std.proofs.lemmas.Result.{err_from_is_err_and}
use Rattle.reading.specs.Answer.{read}
use Rattle.reading.specs.Reads.{small_by_index}
use Rattle.reading.specs.Seven.{seven_at, seven_next}
use Rattle.numbers.specs.Padded.{pad_of, number_read, number-refused}
use Rattle.leaves.specs.Text.{text-counted, text-refused}
use Rattle.leaves.proofs.read.text_at.Goals.{In_ok-count}
use Rattle.leaves.proofs.read.text_at.Goals as goal

-- the count was read, with its padding
count : (c : In_ok-count)
    → (seven_at c.args.file.now c.args.at ≡ read c.in_ok-count.count.value c.in_ok-count.count.next)
    × (c.in_ok-count.count.padding ≡ pad_of (seven_at c.args.file.now c.args.at) c.args.at)
count c =
    let a = c.args in
    number_read a.at (seven_at a.file.now a.at) c.in_ok-count.ensures

pub text_bytes-requires : goal.text_bytes-requires
text_bytes-requires c =
    let s = c.args.file.now in
    (seven_next s (small_by_index s (λ i h. omega (arith, c.type_inv.file i))) _ (count c).0).1

pub returns-in_err-count : goal.returns-in_err-count
returns-in_err-count c =
    let a = c.args in
    let p = err_from_is_err_and c.from_residual.result c.from_residual.ensures.1 in
    rw (p.1, p.2) (text-refused a.file.now a.at (number-refused a.at (seven_at a.file.now a.at) c.in_err-count.ensures))

pub returns : goal.returns
returns c =
    let a = c.args in
    let n = count (goal.at.returns c).In_ok-count in
    c.text_bytes.ensures ∙ text-counted a.file.now a.at n.0 n.1
