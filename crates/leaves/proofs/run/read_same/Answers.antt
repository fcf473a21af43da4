use mathlib.Core.Path.{refl}
use native.Mathlib.Omega.{arith}
use Rattle.leaves.proofs.SameLaws.{same_run}
use Rattle.leaves.proofs.run.read_same.Goals as goal

named : {A B : Type 0} → A × B → record { value : A; words_after : B }
named p = record { value = p.0; words_after = p.1 }

pub returns-then-put_kept : goal.returns-then-put_kept
returns-then-put_kept c =
    let a = c.args in
    let k = c.put_kept.ensures.kept c.if-put_kept.true in
    named (rw (same_run a.grid a.file.now a.shared a.spot.depth a.spot.parent a.slot c.in-Some.kind c.in-Some.size a.n a.spot.at a.spot.used a.words.now c.in-Some.ensures k.0 k.1 (omega arith) k.2)
    (refl, rw c.if-put_kept.true at c.put_kept.ensures.words_after))
