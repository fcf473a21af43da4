use mathlib.Core.Path.{sym, ◌∙◌}
use native.Mathlib.Omega.{arith}
use Rattle.std.proofs.lemmas.Result.{err_from_is_err_and}
use Rattle.names.specs.EntryLaws.{enums-sized}
use Rattle.targets.proofs.Resolving.{unnamed_is, got_is, unknown_is, known_is, some-codes, used-small}
use Rattle.targets.proofs.resolve.Goals as goal

pub returns-in_err-end : goal.returns-in_err-end
returns-in_err-end c =
    let p = err_from_is_err_and c.from_residual.result c.from_residual.ensures.1 in
    rw (p.1, p.2) (unnamed_is _ (enums-sized _) _ _ _ _ _ _ c.in_err-end.ensures)

pub offset_bounds-codes-used : goal.offset_bounds-codes-used
offset_bounds-codes-used c =
    let g = got_is _ (enums-sized _) _ _ _ _ _ c.in_ok-end.ensures in
    omega (arith, used-small _ (enums-sized _) _ _ _ _ _ g)

pub slice_bounds-bad_reader-count : goal.slice_bounds-bad_reader-count
slice_bounds-bad_reader-count c =
    let g = got_is _ (enums-sized _) _ _ _ _ _ c.in_ok-end.ensures in
    omega (arith, g.ends)

pub slice_bounds-bad_reader-start : goal.slice_bounds-bad_reader-start
slice_bounds-bad_reader-start c =
    let g = got_is _ (enums-sized _) _ _ _ _ _ c.in_ok-end.ensures in
    omega (arith, g.ends)

pub slice_bounds-bad_reader-end : goal.slice_bounds-bad_reader-end
slice_bounds-bad_reader-end c = (got_is _ (enums-sized _) _ _ _ _ _ c.in_ok-end.ensures).within

pub settle-requires : goal.settle-requires
settle-requires c =
    let g = got_is _ (enums-sized _) _ _ _ _ _ c.in_ok-end.ensures in
    (some-codes _ (enums-sized _) _ _ _ _ _ g, g.within)

pub returns-in-Some : goal.returns-in-Some
returns-in-Some c =
    unknown_is _ (enums-sized _) _ _ _ _ _ (got_is _ (enums-sized _) _ _ _ _ _ c.in_ok-end.ensures) _ (sym c.bad_reader.ensures ∙ c.in-Some.is)

pub returns-in-None : goal.returns-in-None
returns-in-None c =
    known_is _ (enums-sized _) _ _ _ _ _ (got_is _ (enums-sized _) _ _ _ _ _ c.in_ok-end.ensures) (sym c.bad_reader.ensures ∙ c.in-None.is) c.settle.ensures
