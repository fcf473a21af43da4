-- What holds of each text that a String's head reads holds of each text that a walk reads; so each is valid text. Assumes nothing.
use Rattle.std.specs.Prelude.{◌≡◌, List, ◌⊎◌, get_or, take, drop}
use Rattle.std.proofs.Common.{sym, subst, inl, inr}
use Prim.Native.Nat.{ℕ, zero, suc}
use Rattle.layout.specs.Text.{Utf8s}
use Rattle.layout.specs.Tree.{told_of}
use Rattle.layout.specs.Target.{Target, string}
use Rattle.layout.specs.Slot.{Slot, raw, object, reference, leaf, Plan, stop, put}
use Rattle.layout.specs.File.{objects_plan}
use Rattle.reading.specs.Reads.{Small}
use Rattle.reading.specs.Rules.{Found, missing, found, reader}
use Rattle.reading.specs.Utf8.{utf8s-sound}
use Rattle.reading.specs.Walk.{Outcome, walk}
use Rattle.reading.specs.File.{Named}
use Rattle.retyped.specs.Texts.{Span, SequenceText, HeadText, RawText, ReaderText, ObjectText, ValueText, WalkText, FileText, In, InText, Retyped, BothRead}
use Rattle.retyped.specs.Leaves.{TextBytes, text_here}
use Rattle.retyped.proofs.Files.{texts-kept}
use Rattle.retyped.specs.Valid.{file_texts, read_by_both}

bytes_valid : (file : List ℕ) (n e : ℕ) (x : Span) → TextBytes file n e x → Utf8s (take x.1 (drop x.0 file))
bytes_valid file n e x b = rw (b.0, b.1) (utf8s-sound (take n (drop e file)) b.2)

-- a text that a walk reads is valid
pub text_valid : (name_of : ℕ → List ℕ → Named) (file : List ℕ) (room : ℕ) (x : Span) → FileText name_of room file x → Utf8s (take x.1 (drop x.0 file))
text_valid name_of file room x w =
    file_texts file (λ z. Utf8s (take z.1 (drop z.0 file))) (λ at z t.
    let h = text_here file at z t in
    bytes_valid file h.0 h.1 z h.3.1) name_of room x w

pub file_read_by_both : (name_of : ℕ → List ℕ → Named) (f g : List ℕ) (room : ℕ) → Small f → Retyped (FileText name_of room) f g → BothRead (FileText name_of room) f g
file_read_by_both name_of f g room small r = read_by_both (FileText name_of room) f g (texts-kept name_of f g room small r) r
