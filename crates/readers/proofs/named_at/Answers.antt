-- `readers::named_at` meets its contract. Assumes nothing.
use mathlib.Core.Path.{sym, ap, ◌∙◌}
use native.Mathlib.Omega.{arith}
use lib.ListN.{length, drop, length-drop}
use borrow.Author.Tests.{leb-true, not-true, not-false}
use Rattle.readers.proofs.Parts.{name-part}
use Rattle.readers.specs.Steps.{name-missing, name_resolved}
use borrow.Author.Rules.{rules}
use Rattle.readers.proofs.named_at.Goals as goal

pub returns-then-not-has_bytes : goal.returns-then-not-has_bytes
returns-then-not-has_bytes c =
    let a = c.args in
    let short = sym c.has_bytes.ensures ∙ c.if-not-has_bytes.true in
    rw c.at.ensures (name-missing _ a.file.now a.codes.now a.used a.at a.first a.n short)

pub slice_bounds-resolve-end : goal.slice_bounds-resolve-end
slice_bounds-resolve-end c =
    let a = c.args in
    omega (arith, leb-true a.n (length (drop a.first a.file.now)) (sym c.has_bytes.ensures ∙ c.if-not-has_bytes.false), length-drop a.first a.file.now, c.requires.0)

pub returns-in-Err-Broken : goal.returns-in-Err-Broken
returns-in-Err-Broken c =
    let a = c.args in
    let long = sym c.has_bytes.ensures ∙ c.if-not-has_bytes.false in
    rw (c.in-Err-Broken.is, c.in-Err-Broken.field-0-is) at (name_resolved _ a.file.now a.codes.now a.used a.at a.first a.n long _ _ _ (name-part a.file.now a.first a.n) c.resolve.ensures)

pub returns-in-Err-Unknown : goal.returns-in-Err-Unknown
returns-in-Err-Unknown c =
    let a = c.args in
    let long = sym c.has_bytes.ensures ∙ c.if-not-has_bytes.false in
    rw c.at-in-Err-Unknown.ensures (rw (c.in-Err-Unknown.is, c.in-Err-Unknown.field-0-is) at (name_resolved _ a.file.now a.codes.now a.used a.at a.first a.n long _ _ _ (name-part a.file.now a.first a.n) c.resolve.ensures))

pub returns-in-Err-NoRoom : goal.returns-in-Err-NoRoom
returns-in-Err-NoRoom c =
    let a = c.args in
    let long = sym c.has_bytes.ensures ∙ c.if-not-has_bytes.false in
    rw c.at-in-Err-NoRoom.ensures (rw (c.in-Err-NoRoom.is, c.in-Err-NoRoom.field-0-is) at (name_resolved _ a.file.now a.codes.now a.used a.at a.first a.n long _ _ _ (name-part a.file.now a.first a.n) c.resolve.ensures))

pub returns-in-Ok : goal.returns-in-Ok
returns-in-Ok c =
    let a = c.args in
    let long = sym c.has_bytes.ensures ∙ c.if-not-has_bytes.false in
    rw c.versioned.ensures (rw c.in-Ok.is at (name_resolved _ a.file.now a.codes.now a.used a.at a.first a.n long _ _ _ (name-part a.file.now a.first a.n) c.resolve.ensures))
