use mathlib.Core.Path.{refl, ap, ◌∙◌}
use native.Mathlib.Omega.{arith}
use Prim.Native.Nat.{ℕ}
use Rattle.std.specs.Prelude.{Result, Err}
use Rattle.targets.specs.declared.Unresolved.{Unresolved}
use Rattle.targets.specs.Contract.{told}
use Rattle.reader_names.specs.Lines.{number}
use Rattle.reader_names.proofs.Laws.{empty_is, long_is, judged_is, bounded}
use borrow.Author.Rules.{rules}
use Rattle.reader_names.proofs.judge.Goals as goal

pub returns-then-name-eq0 : goal.returns-then-name-eq0
returns-then-name-eq0 c = rw c.number.ensures (empty_is c.args.name.now (omega arith))

pub returns-then-name-gt1024 : goal.returns-then-name-gt1024
returns-then-name-gt1024 c = rw c.number-then-name-gt1024.ensures (long_is c.args.name.now (λ z. c.if-name-eq0.false z) c.if-name-gt1024.true)

pub overflow_mul-result-in-Err-Broken : goal.overflow_mul-result-in-Err-Broken
overflow_mul-result-in-Err-Broken c = let b = bounded _ _ _ _ _ _ _ c.if-name-gt1024.false c.resolve.ensures (ap told (c.in-Err-Broken.is ∙ ap Err c.in-Err-Broken.field-0-is)) in omega (arith, b)

pub overflow_cast-result : goal.overflow_cast-result
overflow_cast-result c = let b = bounded _ _ _ _ _ _ _ c.if-name-gt1024.false c.resolve.ensures (ap told (c.in-Err-Broken.is ∙ ap Err c.in-Err-Broken.field-0-is)) in omega (arith, b)

pub overflow_add-result : goal.overflow_add-result
overflow_add-result c = let b = bounded _ _ _ _ _ _ _ c.if-name-gt1024.false c.resolve.ensures (ap told (c.in-Err-Broken.is ∙ ap Err c.in-Err-Broken.field-0-is)) in omega (arith, b)

pub overflow_cast-result-in-Err-Unknown : goal.overflow_cast-result-in-Err-Unknown
overflow_cast-result-in-Err-Unknown c = let b = bounded _ _ _ _ _ _ _ c.if-name-gt1024.false c.resolve.ensures (ap told (c.in-Err-Unknown.is ∙ ap Err c.in-Err-Unknown.field-0-is)) in omega (arith, b)

pub overflow_add-result-in-Err-Unknown : goal.overflow_add-result-in-Err-Unknown
overflow_add-result-in-Err-Unknown c = let b = bounded _ _ _ _ _ _ _ c.if-name-gt1024.false c.resolve.ensures (ap told (c.in-Err-Unknown.is ∙ ap Err c.in-Err-Unknown.field-0-is)) in omega (arith, b)

pub returns-in-Ok : goal.returns-in-Ok
returns-in-Ok c =
    judged_is _ _ _ _ _ (λ z. c.if-name-eq0.false z) c.if-name-gt1024.false refl (search rules) c.resolve.ensures _ (ap (λ (x : Result ℕ Unresolved). number (told x)) c.in-Ok.is)

pub returns-in-Err-Broken : goal.returns-in-Err-Broken
returns-in-Err-Broken c =
    judged_is _ _ _ _ _ (λ z. c.if-name-eq0.false z) c.if-name-gt1024.false refl (search rules) c.resolve.ensures _ (ap (λ (x : Result ℕ Unresolved). number (told x)) (c.in-Err-Broken.is ∙ ap Err c.in-Err-Broken.field-0-is))

pub returns-in-Err-Unknown : goal.returns-in-Err-Unknown
returns-in-Err-Unknown c =
    rw c.number-in-Err-Unknown.ensures (judged_is _ _ _ _ _ (λ z. c.if-name-eq0.false z) c.if-name-gt1024.false refl (search rules) c.resolve.ensures _ (ap (λ (x : Result ℕ Unresolved). number (told x)) (c.in-Err-Unknown.is ∙ ap Err c.in-Err-Unknown.field-0-is)))

pub returns-in-Err-NoRoom : goal.returns-in-Err-NoRoom
returns-in-Err-NoRoom c =
    rw c.number-in-Err-NoRoom.ensures (judged_is _ _ _ _ _ (λ z. c.if-name-eq0.false z) c.if-name-gt1024.false refl (search rules) c.resolve.ensures _ (ap (λ (x : Result ℕ Unresolved). number (told x)) (c.in-Err-NoRoom.is ∙ ap Err c.in-Err-NoRoom.field-0-is)))
