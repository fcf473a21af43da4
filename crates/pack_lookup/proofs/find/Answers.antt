use Rattle.std.specs.Prelude.{◌≡◌, ◌+◌, ◌*◌}
use Rattle.std.proofs.Common.{sym, ◌∙◌, arith}
use Rattle.pack_lookup.proofs.Laws.{look, look_end, look_found, look_next}
use Rattle.pack_lookup.proofs.find.Goals as goal

pub loop-file-init : goal.loop-file-init
loop-file-init c = look _ _ _

pub returns-then-entry_matches : goal.returns-then-entry_matches
returns-then-entry_matches c = look_found _ _ _ c.loop-file.invariant (omega arith) (sym c.if-entry_matches.true ∙ c.entry_matches.ensures)

pub loop-file-preserved : goal.loop-file-preserved
loop-file-preserved c =
    let z : 4 * c.loop-file.file + 4 ≡ 4 * (c.loop-file.file + 1) = omega arith in
    let n = look_next _ _ _ c.loop-file.invariant (omega arith) (sym c.if-entry_matches.false ∙ c.entry_matches.ensures) in
    rw z at n

pub returns : goal.returns
returns c = look_end _ _ _ c.loop-file.invariant (omega arith)
