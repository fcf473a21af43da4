-- The parts of rows and the texts of a file: each row's part encloses a text or has none of its bytes; so where two files differ in typed text alone, the
-- parts of a row differ only in texts that it encloses (02, Req 12). Assumes nothing.
use Rattle.std.specs.Prelude.{◌≡◌, Bool, ◌||◌, ◌⊎◌, ltb, leb, eqb, get_or, take, drop}
use Rattle.std.proofs.Math.Path.{refl, sym}
use Rattle.std.proofs.Common.{ap, subst, ◌∙◌, inr, length-drop, length-take, ext_get_or, get_or-drop, get_or-take, eq-eqb}
use Rattle.std.proofs.Math.Bool.{true, false}
use mathlib.Core.List.{List, [], ◌∷◌, ◌++◌}
use Rattle.std.proofs.Math.Logic.{inl}
use Prim.Native.Nat.{ℕ, zero, suc, ◌+◌, ◌-◌, ◌<◌, ◌≤◌, min}
use native.Mathlib.Omega.{arith}
use Rattle.std.proofs.Math.ListN.{length}
use Rattle.laws.specs.Small.{differ}
use Rattle.laws.specs.Ok.{ok_weaken}
use Rattle.layout.specs.Head.{Head}
use Rattle.layout.specs.Target.{Target, fixed, char, string, object as anything, texture, texture_2d, sprite_font, page, index_buffer, vertex_declaration, vertex_buffer, model, mesh, enum, nullable, array, list, dictionary, kind_of, mesh_kind}
use Rattle.layout.specs.Tree.{Trees, none, tree, count, told_of}
use Rattle.layout.specs.Slot.{leaf_kind, Slot, raw, object, reference, leaf, Plan, stop, put}
use Rattle.layout.specs.File.{objects_plan}
use Rattle.layout.specs.Rows.{Row, row}
use Rattle.layout.specs.Table.{room_of}
use Rattle.reading.specs.Answer.{Answer, refused, read, Ok, not_read, is_read, ok_bind, ok_check}
use Rattle.reading.specs.Reads.{Small, next_of}
use Rattle.reading.specs.Seven.{seven_at}
use Rattle.reading.specs.Rules.{Found, missing, found, reader, serves}
use Rattle.reading.specs.Font.{font_ok}
use Rattle.reading.specs.Heads.{Opening, head_at, leaf_at}
use Rattle.reading.proofs.Heads.{head_reads}
use Rattle.reading.specs.Drafts.{Draft, drafted, wanting, bare}
use Rattle.reading.specs.Walk.{Taken, Outcome, done, point, before, sequence, raw_at, by_reader, object_at, value_at, walk}
use Rattle.reading.specs.File.{Named, header_at, lists_at, objects_at, root_kinds, finished, Loaded, file_at, accepted, to_load, load_of}
use Rattle.reading.specs.References.{judged-sound}
use Rattle.retyped.specs.Texts.{Span, SequenceText, HeadText, RawText, ReaderText, ObjectText, ValueText, WalkText, FileText, InText, Retyped}
use Rattle.retyped.specs.Twin.{Twin, is_behind}
use Rattle.retyped.specs.Leaves.{text_here, seven-twin, leaf-twin}
use Rattle.retyped.specs.Alike.{TakenAlike}
use Rattle.retyped.specs.Walks.{sequence-twin}

-- ---- What the statement speaks of

-- a row's part "encloses such a text"
abbrev pub Encloses : Row → Span → Type 0
Encloses r x = (r.first ≤ x.0) × (x.0 + x.1 ≤ r.first + r.bytes)

-- or ends before it, or starts behind it
abbrev pub Apart : Row → Span → Type 0
Apart r x = (r.first + r.bytes ≤ x.0) ⊎ (x.0 + x.1 ≤ r.first)

-- each of some rows
unfoldable pub Each : (Row → Type 0) → List Row → Type 0
Each P [] = Unit {0}
Each P (r ∷ rows) = P r × Each P rows

-- the kinds of signed lookups (01, "Looking up")
unfoldable pub is_signed : (kind : ℕ) → Bool
is_signed k = eqb k 2 || (eqb k 3 || (eqb k 5 || (eqb k 7 || eqb k 20)))

-- "each other row's part has the same bytes except where it encloses such a text"
abbrev pub SamePart : (name_of : ℕ → List ℕ → Named) (f g : List ℕ) (room : ℕ) → Row → Type 0
SamePart name_of f g room r =
    (i : ℕ) → r.first ≤ i → i < r.first + r.bytes → (get_or f i 0 ≡ get_or g i 0) ⊎ ((t : InText (FileText name_of room) f g i) × Encloses r t.span)

-- a row's part begins with two numbers, of which the second ends at or before a place
abbrev pub NumbersBefore : List ℕ → Row → ℕ → Type 0
NumbersBefore f r s = (id : ℕ) × (at : ℕ) × (n : ℕ) × (e : ℕ) × (seven_at f r.first ≡ read id at) × (seven_at f at ≡ read n e) × (e ≤ s)

-- a byte of a String's part that differs stands behind type id and count
abbrev pub SameCount : (f g : List ℕ) → Row → Type 0
SameCount f g r = (i : ℕ) → r.first ≤ i → i < r.first + r.bytes → (get_or f i 0 ≡ get_or g i 0) ⊎ NumbersBefore f r i

-- so it is for a row; a signed number, which encloses none, has the same bytes, and a String that has a type id the same type id and count
pub record PartAlike (name_of : ℕ → List ℕ → Named) (f g : List ℕ) (room : ℕ) (r : Row) : Type 0 where
  pub bytes : SamePart name_of f g room r
  pub signed : is_signed r.kind ≡ true → take r.bytes (drop r.first f) ≡ take r.bytes (drop r.first g)
  pub text : r.kind ≡ 13 → 0 < r.detail → SameCount f g r

-- ---- Laws of Each

pub each_map : {P Q : Row → Type 0} (ds : List Draft) → ((r : Row) → P r → Q r) → Each P (bare ds) → Each Q (bare ds)
unfolding Each
each_map [] h w = tt
each_map (d ∷ ds) h w = (h d.row w.0, each_map ds h w.1)

pub each_both : {P Q R : Row → Type 0} (rows : List Row) → ((r : Row) → P r → Q r → R r) → Each P rows → Each Q rows → Each R rows
unfolding Each
each_both [] h w v = tt
each_both (r ∷ rows) h w v = (h r w.0 v.0, each_both rows h w.1 v.1)

pub each_append : (P : Row → Type 0) (ds es : List Draft) → Each P (bare ds) → Each P (bare es) → Each P (bare (ds ++ es))
unfolding Each
each_append P [] es w v = v
each_append P (d ∷ ds) es w v = (w.0, each_append P ds es w.1 v)

-- what holds of what was read, and that it was read
pub with_read : {A : Type 0} {P : A → ℕ → Type 0} {o : Answer A} → Ok P o → Ok (λ a e. P a e × (o ≡ read a e)) o
with_read w = record { got = λ q. (w.got q, q) }

pub was_read : {A : Type 0} (o : Answer A) → Ok (λ a e. o ≡ read a e) o
was_read o = record { got = λ q. q }

pub each_all : {P Q : Row → Type 0} (rows : List Row) → ((r : Row) → P r → Q r) → Each P rows → Each Q rows
unfolding Each
each_all [] h w = tt
each_all (r ∷ rows) h w = (h r w.0, each_all rows h w.1)

-- bytes of two files that are the same one by one
pub bytes_same : (f g : List ℕ) → length f ≡ length g → (at n : ℕ) → ((i : ℕ) → at ≤ i → i < at + n → get_or f i 0 ≡ get_or g i 0) → take n (drop at f) ≡ take n (drop at g)
bytes_same f g equal at n h =
    let l : length (take n (drop at f)) ≡ length (take n (drop at g))
    = length-take n (drop at f) ∙ ap (min n) (length-drop at f ∙ ap (λ (k : ℕ). k - at) equal ∙ sym (length-drop at g)) ∙ sym (length-take n (drop at g)) in
    ext_get_or 0 (take n (drop at f)) (take n (drop at g)) l (λ i k.
    let m : i < n = omega (arith, length-take n (drop at f)) in
    get_or-take n (drop at f) i 0 m ∙ get_or-drop at f i 0 ∙ h (at + i) (omega arith) (omega arith) ∙ sym (get_or-drop at g i 0) ∙ sym (get_or-take n (drop at g) i 0 m))
