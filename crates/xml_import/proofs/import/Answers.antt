use Rattle.std.proofs.Common.{rules}
use Rattle.xml_import.proofs.Imports.{found, refused-answer, other_form, too_many, too_long, too_small, fits, written-answer}
use Rattle.xml_import.proofs.import.Goals as goal

named : {A B : Type 0} → A × B → record { value : A; out_after : B }
named p = record { value = p.0; out_after = p.1 }

pub returns-in-Err : goal.returns-in-Err
returns-in-Err c = rw c.at.ensures (named (refused-answer _ (other_form _ _ _ c.in-Err.ensures)))

pub returns-then-texts-gt65535 : goal.returns-then-texts-gt65535
returns-then-texts-gt65535 c = rw c.at-then-texts-gt65535.ensures (named (refused-answer _ (too_many (found _ _ c.in-Ok.ensures) _ c.if-texts-gt65535.true)))

pub returns-then-texts-gt16777216 : goal.returns-then-texts-gt16777216
returns-then-texts-gt16777216 c =
    rw c.at-then-texts-gt16777216.ensures (named (refused-answer _ (too_long (found _ _ c.in-Ok.ensures) _ c.if-texts-gt65535.false c.if-texts-gt16777216.true)))

pub returns-then-out-texts : goal.returns-then-out-texts
returns-then-out-texts c =
    rw c.at-then-out-texts.ensures
    (named (refused-answer _ (too_small (found _ _ c.in-Ok.ensures) _ c.if-texts-gt65535.false c.if-texts-gt16777216.false c.if-out-texts.true)))

pub put_strings-requires : goal.put_strings-requires
put_strings-requires c = fits (found _ _ c.in-Ok.ensures) _ c.if-texts-gt65535.false c.if-texts-gt16777216.false (search rules) c.if-out-texts.false

pub returns : goal.returns
returns c =
    named (written-answer (found _ _ c.in-Ok.ensures) _ _ _ c.if-texts-gt65535.false c.if-texts-gt16777216.false c.if-out-texts.false c.put_front.ensures c.put_strings.ensures)
