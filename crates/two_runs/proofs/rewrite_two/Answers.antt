use Rattle.two_runs.proofs.Laws.{rewritten-alike}
use Rattle.reading.specs.Reads.{small_by_index}
use Rattle.enums.specs.Lists.{Bytes}
use lib.ListN.{length}
use native.Mathlib.Omega.{arith}
use borrow.Author.Rules.{rules}
use Rattle.two_runs.proofs.rewrite_two.Goals as goal

pub returns : goal.returns
returns c =
    let a = c.args in
    let file = a.file.now in
    let small = small_by_index file (λ i h. omega (arith, c.type_inv.file i)) in
    let bytes : Bytes a.enums.now = λ i h. omega (arith, c.type_inv.enums i) in
    let first = c.rewrite-first.ensures.value in
    let second = c.rewrite-second.ensures.value in record { rewrites_alike = λ room r e. rewritten-alike a.enums.now file a.other.now (length a.words.now) (length a.others.now) (length a.out.now) (length a.outs.now) bytes small r room e first second; rewrite_is = first; rewrite_is_2 = second }
