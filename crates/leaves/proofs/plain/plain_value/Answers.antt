use Rattle.leaves.specs.Plain.{plain_at, plain_pad}
use Rattle.leaves.proofs.plain.plain_value.Goals.{in-Fixed, in-Enum, in-Char, in-Level, in-Blob, in-Bone, in-Code, in-DataSize}
use Rattle.leaves.proofs.plain.plain_value.Goals as goal

both : {A B : Type 0} → A → B → A × B
both a b = (a, b)

named : {A B : Type 0} → A × B → record { value : A; words_after : B }
named p = record { value = p.0; words_after = p.1 }

pub returns : goal.returns
unfolding plain_at plain_pad
returns c =
    let e = both c.leaf.ensures.value c.leaf.ensures.words_after in
    elim c.match-slot.branch [
      | in-Fixed w ↦ named (rw (w.in-Fixed.is, ← w.fixed_at.ensures) (rw w.kind-is at e))
      | in-Enum w ↦ named (rw (w.in-Enum.is, ← w.fixed_at-in-Enum.ensures) (rw w.kind-is at e))
      | in-Char w ↦ named (rw (w.in-Char.is, ← w.char_at.ensures) (rw w.kind-is at e))
      | in-Level w ↦ named (rw (w.in-Level.is, ← w.level_at.ensures) (rw w.kind-is at e))
      | in-Blob w ↦ named (rw (w.in-Blob.is, ← w.data_at.ensures) (rw w.kind-is at e))
      | in-Bone w ↦ named (rw (w.in-Bone.is, ← w.bone_at.ensures) (rw w.kind-is at e))
      | in-Code w ↦ named (rw (w.in-Code.is, ← w.code_at.ensures) (rw w.kind-is at e))
      | in-DataSize w ↦ named (rw (w.in-DataSize.is, ← w.size_at.ensures) (rw w.kind-is at e))
    ]
