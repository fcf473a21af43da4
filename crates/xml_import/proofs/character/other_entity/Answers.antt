use native.Mathlib.Omega.{arith}
use Rattle.layout.specs.Text.{ascii}
use Rattle.xml_import.proofs.Characters.{amp_takes, lt_takes, gt_takes, quot_takes, entity-fails, entity-inside, largest}
use borrow.Author.Rules.{rules}
use Rattle.xml_import.proofs.character.other_entity.Goals as goal

pub returns-then-a-eq5 : goal.returns-then-a-eq5
unfolding ascii
returns-then-a-eq5 c = let a = c.args in amp_takes a.xml.now a.at (omega (arith, c.requires.0)) c.matched_at-a.ensures c.if-a-eq5.true

pub returns-then-l-eq4 : goal.returns-then-l-eq4
unfolding ascii
returns-then-l-eq4 c =
    let a = c.args in
    lt_takes a.xml.now a.at (omega (arith, c.requires.0)) c.matched_at-a.ensures c.if-a-eq5.false c.matched_at-l.ensures c.if-l-eq4.true

pub returns-then-g-eq4 : goal.returns-then-g-eq4
unfolding ascii
returns-then-g-eq4 c =
    let a = c.args in
    gt_takes a.xml.now a.at (omega (arith, c.requires.0)) c.matched_at-a.ensures c.if-a-eq5.false c.matched_at-l.ensures c.if-l-eq4.false c.matched_at-g.ensures c.if-g-eq4.true

pub returns-then-q-eq6 : goal.returns-then-q-eq6
unfolding ascii
returns-then-q-eq6 c =
    let a = c.args in
    quot_takes a.xml.now a.at (omega (arith, c.requires.0)) c.matched_at-a.ensures c.if-a-eq5.false c.matched_at-l.ensures c.if-l-eq4.false c.matched_at-g.ensures c.if-g-eq4.false
    c.matched_at-q.ensures c.if-q-eq6.true

pub overflow_add-result-2 : goal.overflow_add-result-2
unfolding ascii
overflow_add-result-2 c =
    let x = c.args in
    omega (
      arith,
      entity-inside x.xml.now x.at (omega (arith, c.requires.0)) c.matched_at-a.ensures c.if-a-eq5.false c.matched_at-l.ensures c.if-l-eq4.false c.matched_at-g.ensures c.if-g-eq4.false c.matched_at-q.ensures
          (largest c.matched_at-a.result c.matched_at-l.result c.matched_at-g.result c.matched_at-q.result c.max.result c.max-2.result c.max-3.result (search rules) (search rules) (search rules)),
    )

pub returns : goal.returns
unfolding ascii
returns c =
    let x = c.args in
    rw (largest c.matched_at-a.result c.matched_at-l.result c.matched_at-g.result c.matched_at-q.result c.max.result c.max-2.result c.max-3.result (search rules) (search rules) (search rules))
    (entity-fails x.xml.now x.at (omega (arith, c.requires.0)) c.matched_at-a.ensures c.if-a-eq5.false c.matched_at-l.ensures c.if-l-eq4.false c.matched_at-g.ensures c.if-g-eq4.false c.matched_at-q.ensures c.if-q-eq6.false c.requires.0 c.requires.1)
