use mathlib.Core.List.{[], ◌∷◌, ◌++◌, append_assoc}
use native.Mathlib.Omega.{arith}
use Rattle.reading.specs.Reads.{small_by_index}
use Rattle.places.specs.Places.{entries_places, entries_end, lists_places}
use Rattle.rewrite.specs.Measured.{found}
use Rattle.rewrite.proofs.pass_lists.Goals as goal

pub pass_entries-place-requires : goal.pass_entries-place-requires
pass_entries-place-requires c =
    let s = c.args.file.now in
    let f = found s (small_by_index s (λ i h. omega (arith, c.type_inv.file i))) 10 c.measure-count.result c.measure-count.ensures.value in
    (c.requires, omega (arith, f.end_small, c.requires))

pub returns : goal.returns
unfolding lists_places
returns c =
    let args = c.args in
    λ base places whole p.
    let s = args.file.now in
    let f = found s (small_by_index s (λ i h. omega (arith, c.type_inv.file i))) 10 c.measure-count.result c.measure-count.ensures.value in
    let first = c.measure-count.result.next in
    let end = entries_end s args.readers first in
    let q = rw (← f.next_is, append_assoc (entries_places s args.readers first) (end ∷ []) places) at p in
    let p₁ = c.pass-start.ensures base (entries_places s args.readers first ++ (end ∷ places)) whole c.measure-count.ensures.value q in
    let p₂ = c.pass_entries-place.ensures.1 base (end ∷ places) whole p₁ in
    c.pass.ensures base places whole c.measure.ensures.value (rw (← c.pass_entries-place.ensures.0) at p₂)
