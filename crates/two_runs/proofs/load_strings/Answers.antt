use native.Mathlib.Omega.{arith}
use lib.ListN.{length}
use Rattle.enums.specs.Lists.{Bytes}
use Rattle.reading.specs.Reads.{small_by_index}
use Rattle.two_runs.proofs.Laws.{each-string}
use borrow.Author.Rules.{rules}
use Rattle.two_runs.proofs.load_strings.Goals as goal

both : {A B : Type 0} → A → B → A × B
both a b = (a, b)

pub returns : goal.returns
returns c =
    let a = c.args in
    let file = a.file.now in
    let enums = a.enums.now in
    let small = small_by_index file (λ i h. omega (arith, c.type_inv.file i)) in
    let bytes : Bytes enums = λ i h. omega (arith, c.type_inv.enums i) in
    record { every_string = each-string a.columns enums file (length a.words.now) bytes small c.load_in.ensures.words_after; load_is = (both c.load_in.ensures.value c.load_in.ensures.words_after) }
