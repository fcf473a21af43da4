use borrow.Author.Rules.{rules}
use mathlib.Core.Path.{◌≡◌}
use lib.ListN.{length}
use Rattle.load_part.specs.Part.{first_not_full, first_full, again}
use Rattle.load_part.proofs.load_part.Goals as goal

named : {A B : Type 0} → A × B → record { value : A; words_after : B }
named p = record { value = p.0; words_after = p.1 }

pub returns-then-not_full : goal.returns-then-not_full
returns-then-not_full c =
    let a = c.args in
    named (first_not_full a.enums.now a.file.now a.words.now _ _ c.load_within-few.ensures c.not_full.result c.not_full.ensures c.if-not_full.true)

pub returns-then-not_full-2 : goal.returns-then-not_full-2
returns-then-not_full-2 c =
    let a = c.args in
    let n : length c.load_within-few.new.words ≡ length a.words.now = search rules in
    let zeros = first_full a.enums.now a.file.now a.words.now _ _ c.load_within-few.ensures c.not_full.result c.not_full.ensures c.if-not_full.false in
    named (again a.enums.now a.file.now a.words.now _ c.load_within-few.new.words n zeros
    (first_not_full a.enums.now a.file.now c.load_within-few.new.words _ _ c.load_within-more.ensures c.not_full-2.result c.not_full-2.ensures c.if-not_full-2.true))

pub returns : goal.returns
returns c =
    let a = c.args in
    let n : length c.load_within-more.new.words ≡ length a.words.now = search rules in
    record { value = rw n at c.load.ensures.value; words_after = λ z. rw n at c.load.ensures.words_after }
