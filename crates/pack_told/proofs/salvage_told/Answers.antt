use Rattle.std.specs.Prelude.{ℕ}
use Rattle.std.proofs.Common.{sym, ap, ◌∙◌}
use Rattle.pack_salvage.specs.Salvage.{salvage_for}
use Rattle.pack_told.proofs.Laws.{not_salvaged, all_salvaged}
use Rattle.pack_told.proofs.salvage_told.Goals as goal

pub returns-in-Err-clause-stretches_after : goal.returns-in-Err-clause-stretches_after
returns-in-Err-clause-stretches_after c =
    let a = c.args in
    ap (λ (t : ℕ × ℕ). (t.0, t.1, 0)) c.tell.ensures ∙ not_salvaged (salvage_for a.pack.now a.out.now a.list.now) (sym c.in-Err.is ∙ c.salvage.ensures.value)

pub returns-in-Ok-clause-stretches_after : goal.returns-in-Ok-clause-stretches_after
returns-in-Ok-clause-stretches_after c =
    let a = c.args in
    ap (λ (t : ℕ × ℕ). (t.0, t.1, c.in-Ok.salvaged.stretches)) c.tell-in-Ok.ensures ∙ all_salvaged (salvage_for a.pack.now a.out.now a.list.now) (sym c.in-Ok.is ∙ c.salvage.ensures.value)
