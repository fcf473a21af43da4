use native.Mathlib.Omega.{arith}
use lib.ListN.{length}
use Rattle.enums.specs.Lists.{Bytes}
use Rattle.reading.specs.Reads.{small_by_index}
use Rattle.two_runs.proofs.LookingUp.{looked_up, lookups_alike}
use borrow.Author.Rules.{rules}
use Rattle.two_runs.proofs.look_up_two.Goals as goal

pub returns : goal.returns
returns c =
    let a = c.args in
    let file = a.file.now in
    let other = a.other.now in
    let enums = a.enums.now in
    let small = small_by_index file (λ i h. omega (
      arith,
      c.type_inv.file i,
    )) in
    let small' = small_by_index other (λ i h. omega (
      arith,
      c.type_inv.other i,
    )) in
    let bytes : Bytes enums = λ i h. omega (
      arith,
      c.type_inv.enums i,
    ) in
    let n = length a.words.now in
    let m = length a.others.now in
    let first = rw (c.shaped.ensures.0, c.shaped.ensures.1) at c.look_up-first.ensures in
    let second = rw (c.shaped-2.ensures.0, c.shaped-2.ensures.1) at c.look_up-second.ensures in
    record {
      lookups_alike = λ room r.
          lookups_alike a.columns enums file other n m bytes small small' r room c.load_in.ensures.words_after c.load_in-2.ensures.words_after a.row.0 first second;
      lookups_are = looked_up a.columns enums file n small c.load_in.ensures.words_after a.row.0 first;
      lookups_are_2 = looked_up a.columns enums other m small' c.load_in-2.ensures.words_after a.row.0 second;
    }
