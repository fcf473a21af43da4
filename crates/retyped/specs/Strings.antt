-- No String value is left out: the text of each String row of an accepted file is among the texts that its walk reads, wherever the value stands. Assumes
-- nothing.
use Rattle.std.specs.Prelude.{◌≡◌, ltb, leb, eqb, drop}
use Rattle.std.proofs.Math.Path.{refl, sym, ap, subst}
use Rattle.std.proofs.Common.{◌∙◌}
use mathlib.Core.List.{List, [], ◌∷◌, ◌++◌}
use Rattle.std.proofs.Math.Logic.{inl, inr}
use Prim.Native.Nat.{ℕ, zero, suc, ◌+◌, ◌-◌, ◌≤◌}
use native.Mathlib.Omega.{arith}
use Rattle.std.proofs.Math.ListN.{length, length-append}
use Rattle.laws.specs.Small.{differ}
use Rattle.laws.specs.Ok.{ok_weaken}
use Rattle.layout.specs.Fixed.{sizes}
use Rattle.layout.specs.Head.{Head, Textual}
use Rattle.layout.specs.Target.{Target, fixed, char, string, object as anything, texture, texture_2d, sprite_font, page, index_buffer, vertex_declaration, vertex_buffer, model, mesh, enum, nullable, array, list, dictionary, kind_of, mesh_kind}
use Rattle.layout.specs.Tree.{Trees, none, tree, count, told_of}
use Rattle.layout.specs.Slot.{Leaf, level, blob, numeric, bone_field, code_field, uint_field, field_kind, leaf_kind, Slot, raw, object, reference, leaf, Plan, stop, put}
use Rattle.layout.specs.File.{objects_plan}
use Rattle.layout.specs.Rows.{Row, row}
use Rattle.layout.specs.Table.{room_of}
use Rattle.reading.specs.Answer.{Answer, refused, read, check, Ok, not_read, is_read, ok_bind, ok_check}
use Rattle.reading.specs.Reads.{Small, next_of}
use Rattle.reading.specs.Seven.{seven_at, seven_next}
use Rattle.reading.specs.Rules.{Found, missing, found, reader, serves}
use Rattle.reading.specs.Font.{font_ok}
use Rattle.reading.specs.Heads.{Opening, fixed_head_at, head_at, leaf_at}
use Rattle.reading.proofs.Heads.{head_reads}
use Rattle.reading.specs.Drafts.{Draft, drafted, wanting, bare}
use Rattle.reading.specs.Walk.{Taken, Outcome, done, point, before, sequence, raw_at, by_reader, object_at, value_at, walk}
use Rattle.reading.specs.References.{judged-sound}
use Rattle.reading.specs.File.{Named, header_at, lists_at, objects_at, root_kinds, finished, Loaded, file_at, accepted, to_load, load_of}
use Rattle.retyped.specs.Texts.{Span, SequenceText, HeadText, RawText, ReaderText, ObjectText, ValueText, WalkText, FileText}
use Rattle.retyped.specs.Parts.{Each, each_map, each_append, with_read, was_read}

-- a text that stands in a row's part and ends where it ends: behind the type id and the count
abbrev pub TextOf : (Span → Type 0) → Row → Type 0
TextOf T r = (x : Span) × T x × (r.first ≤ x.0) × (x.0 + x.1 ≡ r.first + r.bytes)
