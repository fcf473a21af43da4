use mathlib.Core.Path.{sym, ap, ◌∙◌}
use native.Mathlib.Omega.{arith}
use Rattle.std.proofs.lemmas.Result.{err_from_is_err_and}
use Rattle.reading.specs.Reads.{small_by_index}
use Rattle.reading.specs.Heads.{head_at}
use Rattle.heads.specs.Slots.{row_kind_lem}
use Rattle.heads.specs.Pads.{open_pads}
use Rattle.places.specs.Places.{count_places}
use Rattle.places.specs.Padding.{padding}
use Rattle.heads.specs.Meaning.{opens_as}
use Rattle.steps.specs.Walks.{opened_as, refused_as}
use Rattle.steps.specs.Steps.{no_rule, refusing-head}
use Rattle.load.proofs.walk.raw_step.Goals as goal

pub close_flat-requires : goal.close_flat-requires
close_flat-requires c =
    let a = c.args in
    (c.requires, no_rule a.file.now a.codes.now a.place a.at _ _ c.row_kind-kind.ensures (sym c.open.ensures ∙ c.in_ok-head.was))

pub returns-in_err-head : goal.returns-in_err-head
returns-in_err-head c =
    λ readers t i.
    let p = err_from_is_err_and c.from_residual.result c.from_residual.ensures.1 in
    let a = c.args in
    let small = small_by_index a.file.now (λ j h. omega (arith, c.type_inv.file j)) in
    rw (p.1, p.2) (refusing-head a.grid a.file.now readers a.shared a.depth t a.h a.at
    (refused_as a.file.now a.codes.now (head_at a.file.now t a.at)
    (rw c.open.ensures (opens_as a.file.now a.codes.now a.place a.at t i)) c.in_err-head.was))

pub returns : goal.returns
returns c =
    λ readers t i.
    let a = c.args in
    let k = row_kind_lem i in
    let p = open_pads a.file.now a.codes.now a.place a.at (sym c.open.ensures ∙ c.in_ok-head.was) ∙ ap
    (λ n. padding a.file.now (count_places a.file.now n a.at)) k in
    c.close_flat.ensures a.codes.now readers t i (c.row_kind-kind.ensures ∙ k)
    (opened_as a.file.now a.codes.now t a.at
    (rw c.open.ensures (opens_as a.file.now a.codes.now a.place a.at t i)) c.in_ok-head.was p)
