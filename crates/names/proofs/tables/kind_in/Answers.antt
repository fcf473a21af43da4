use mathlib.Core.Path.{sym, ap, ◌∙◌}
use borrow.Author.Tests.{eq-eqb, ne_eqb}
use Rattle.names.specs.Kind.{listed, enum_kind, kind_in}
use Rattle.names.specs.EntryLaws.{kind_listed}
use Rattle.names.proofs.tables.kind_in.Goals as goal

pub returns-then-own : goal.returns-then-own
unfolding kind_in listed
returns-then-own c = rw c.if-own.true (rw c.if-own.true at c.kind_of-kind.ensures)

pub returns-then-kind-ne0 : goal.returns-then-kind-ne0
unfolding kind_in listed
returns-then-kind-ne0 c =
    let e = rw c.if-own.false at c.kind_of-kind.ensures in
    rw (c.if-own.false, ne_eqb _ _ (λ q. c.if-kind-ne0.true (e ∙ q))) e

pub returns-then-n-ne0 : goal.returns-then-n-ne0
unfolding kind_in listed
returns-then-n-ne0 c =
    let e = rw c.if-own.false at c.kind_of-kind.ensures in
    rw (c.if-own.false, eq-eqb _ _ (sym e ∙ c.if-kind-ne0.false), ne_eqb _ _ c.if-n-ne0.true)

pub returns : goal.returns
unfolding kind_in listed
returns c =
    let e = rw c.if-own.false at c.kind_of-kind.ensures in
    rw (c.if-own.false, eq-eqb _ _ (sym e ∙ c.if-kind-ne0.false), eq-eqb _ _ c.if-n-ne0.false) (c.enum_kind.ensures ∙ ap enum_kind c.find.ensures ∙ sym (kind_listed _ _))
