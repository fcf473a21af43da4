use Rattle.std.proofs.Common.{sym, ap, ◌∙◌, suc, add-one, drop, ◌||◌}
use Rattle.profile.specs.Offences.{uses}
use Rattle.reader_rules.specs.Readers.{uses-step, no_more-rows}
use Rattle.reader_rules.proofs.uses.Goals as goal

pub returns-then-names : goal.returns-then-names
returns-then-names c =
    let a = c.args in
    λ rows d.
    sym (c.loop-row.invariant rows d ∙ uses-step a.rows.table.grid a.rows.table.words.now a.rows.used c.loop-row.row a.id c.loop-row-test.true c.names.ensures rows d ∙ ap (λ b. b || uses a.id (drop (suc c.loop-row.row) rows)) c.if-names.true)

pub loop-row-preserved : goal.loop-row-preserved
loop-row-preserved c =
    let a = c.args in
    λ rows d.
    rw add-one (c.loop-row.invariant rows d ∙ uses-step a.rows.table.grid a.rows.table.words.now a.rows.used c.loop-row.row a.id c.loop-row-test.true c.names.ensures rows d ∙ ap (λ b. b || uses a.id (drop (suc c.loop-row.row) rows)) c.if-names.false)

pub returns : goal.returns
returns c =
    let a = c.args in
    λ rows d. sym (c.loop-row.invariant rows d ∙ no_more-rows a.rows.table.grid a.rows.table.words.now a.rows.used c.loop-row.row a.id c.loop-row-test.false rows d)
