use native.Mathlib.Omega.{arith}
use Rattle.rewrite.specs.Table.{table_places}
use Rattle.rewrite.specs.Contract.{copy, copy-length, start, finish}
use Rattle.rewrite.specs.Pending.{length-put}
use Rattle.rewrite.proofs.write.Goals as goal

pub pass_lists-lists-requires : goal.pass_lists-lists-requires
pass_lists-lists-requires c = c.requires.0

pub overflow_sub-file : goal.overflow_sub-file
overflow_sub-file c = c.requires.1

pub returns : goal.returns
returns c =
    λ w n h.
    let a = c.args in
    let s = a.file.now in
    let words = a.words.now in
    let base = a.out.now in
    let whole = copy s words a.readers a.rows a.padding w in
    let p₀ = start s words a.readers a.rows a.padding w base (omega (arith, n, h)) in
    let p₁ = c.pass_lists-lists.ensures base (table_places s words a.rows 0) whole p₀ in
    let p₂ = c.pass_rows-objects.ensures base whole (omega (arith, w.pads, copy-length s words a.readers a.rows a.padding w)) p₁ in
    finish s words a.readers a.rows a.padding w base _ _ _ n (c.write_rest.ensures base whole p₂) (length-put _ _ _ c.put4.ensures)
