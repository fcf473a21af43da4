-- Typed text never steers (02, Req 12): two files that differ in typed text alone are read alike, whether they are accepted or refused. Assumes nothing.
use Rattle.std.specs.Prelude.{◌≡◌, ◌⊎◌, leb, eqb, get_or, drop}
use Rattle.std.proofs.Math.Path.{refl, sym, ap}
use Rattle.std.proofs.Common.{◌∙◌, inl, inr, arith, length-drop}
use mathlib.Core.List.{List, [], ◌∷◌}
use Prim.Native.Nat.{ℕ, zero, suc, ◌+◌, ◌-◌, ◌<◌, min}
use Rattle.std.proofs.Math.ListN.{length, take, length-take}
use Rattle.std.proofs.Math.Seq.{ext_get_or, get_or-drop, get_or-take}
use Rattle.layout.specs.Target.{Target}
use Rattle.layout.specs.File.{objects_plan}
use Rattle.layout.specs.Table.{room_of}
use Rattle.reading.specs.Answer.{Answer, refused, read, bind, check, several, within}
use Rattle.reading.specs.Reads.{Small, some}
use Rattle.reading.specs.Seven.{seven_at}
use Rattle.reading.specs.Little.{little_at}
use Rattle.reading.specs.Resource.{suits}
use Rattle.reading.specs.Drafts.{Draft}
use Rattle.reading.specs.Walk.{Taken, walk}
use Rattle.reading.specs.Front.{header-sound}
use Rattle.reading.specs.File.{header_at, Named, unknown, known, judge, root_kinds, judged, Loaded, objects_at, finished, reader_at, readers_at, lists_at, file_at, to_load, load_of}
use Rattle.retyped.specs.Texts.{Span, SequenceText, WalkText, FileText, In, InText, Retyped, EachRead}
use Rattle.retyped.specs.Twin.{Behind, ends_at, no_end, WasRead, SameBy, both_refused, both_read, same_equal, Covered, typed as covers, behind, InSome, Agree, Overlap, Twin, Wordless, Quiet, wordless, twin-read, twin-refused, twin_then, then_twin, quiet_check, quiet_bind, tail_same, plainly}
use Rattle.retyped.specs.Leaves.{some-twin, seven-twin, little-twin}
use Rattle.retyped.specs.Alike.{Alike, TakenAlike, taken_own}
use Rattle.retyped.specs.Walks.{sequence-twin}

-- files that were read alike: the same rows, reader names and counts, and trees that are alike
pub record LoadedAlike (a b : Loaded) : Type 0 where
  pub rows : a.rows ≡ b.rows
  pub readers : a.readers ≡ b.readers
  pub shared : a.shared ≡ b.shared
  pub platform : a.tree.platform ≡ b.tree.platform
  pub flags : a.tree.flags ≡ b.tree.flags
  pub names : a.tree.names ≡ b.tree.names
  pub objects : Alike a.tree.objects b.tree.objects
