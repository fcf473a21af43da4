-- Values that have no children and need no reader list. Assumes nothing.
use Rattle.std.specs.Prelude.{◌≡◌, leb, ltb, length, get_or}
use Rattle.std.proofs.Math.Path.{refl}
use Rattle.std.proofs.Math.Bool.{false}
use mathlib.Core.List.{List, []}
use Prim.Native.Nat.{ℕ, zero, suc, ◌*◌, ◌-◌, ◌≤◌, ◌<◌, ◌^◌}
use native.Mathlib.Omega.{arith}
use borrow.Author.Tests.{lt-ltb, le-ltb, le-leb, lt-leb}
use Rattle.layout.specs.Target.{Target, fixed, char, enum, kind_of, sprite_font}
use Rattle.layout.specs.Tree.{none, count}
use Rattle.layout.specs.Fixed.{sizes}
use Rattle.layout.specs.Slot.{level, blob, Slot, raw, reference, leaf, Plan, stop}
use Rattle.layout.specs.Rows.{width}
use Rattle.layout.specs.Mesh.{bone_leaf, code_leaf, size_leaf}
use Rattle.reading.specs.Answer.{Answer, refused, read, bind, check}
use Rattle.reading.specs.Seven.{seven_at}
use Rattle.reading.specs.Utf8.{char_at}
use Rattle.reading.specs.Fixed.{fixed_at, sized}
use Rattle.reading.specs.Rules.{same}
use Rattle.reading.specs.Font.{font_ok, font_if}
use Rattle.reading.specs.Heads.{head_at, leaf_at, whole}
use Rattle.reading.specs.Walk.{Outcome, done, raw_at}
use Rattle.table.specs.declared.Grid.{Grid}
use Rattle.walked.specs.declared.Head.{Head}
use Rattle.walked.specs.Contract.{Seen, seen}
use Rattle.walked.specs.Leaf.{leaf_of, leaf_words}
use Rattle.numbers.specs.Padded.{pad_of}
use Rattle.leaves.specs.declared.plain.Plain.{Plain}
use Rattle.leaves.specs.declared.plain.Plain.TheVariants.{Fixed, Enum, Char, Level, Reference, Blob, Bone, Code, DataSize}
use Rattle.reading.specs.Drafts.{nothing, resource}

-- how the value stands; an enum's name makes no difference to its values, so it stands for those of every name
abbrev pub plain_slot : Plain → Slot
plain_slot (Fixed kind size) = raw (fixed kind)
plain_slot (Enum size) = raw (enum [] size)
plain_slot Char = raw char
plain_slot (Level size) = leaf (level size)
plain_slot (Reference wanted) = reference wanted
plain_slot (Blob size) = leaf (blob size)
plain_slot (Bone bones) = leaf (bone_leaf bones)
plain_slot (Code last) = leaf (code_leaf last)
plain_slot (DataSize flag) = leaf (size_leaf flag)

-- the size is that of the kind
abbrev pub Lawful : Plain → Type 0
Lawful (Fixed kind size) = (size ≡ get_or sizes kind 0) × (0 < size)
Lawful (Enum size) = Unit {0}
Lawful Char = Unit {0}
Lawful (Level size) = Unit {0}
Lawful (Reference wanted) = Unit {0}
Lawful (Blob size) = Unit {0}
Lawful (Bone bones) = Unit {0}
Lawful (Code last) = Unit {0}
Lawful (DataSize flag) = Unit {0}

-- a value may begin at a place: the words have so many rows, and all numbers fit
pub record Begin (file words : List ℕ) (g : Grid) (at used : ℕ) : Type 0 where
  pub long : width * g.room ≤ length words
  pub few : g.room < 2 ^ 32
  pub rows : used ≤ g.room
  pub place : at ≤ length file
  pub short : length file < 2 ^ 32

abbrev pub head_of : (used at parent id padding : ℕ) → Head
head_of used at parent id padding = record { row = record { 0 = used }; first = at; parent = parent; detail = id; padding = padding }

-- the bytes of the value at a place, and the number that they hold or how many they are
unfoldable pub plain_at : List ℕ → (shared : ℕ) → Plain → (at : ℕ) → Answer ℕ
plain_at file shared (Fixed kind size) at = sized (fixed_at file kind size at)
plain_at file shared (Enum size) at = sized (fixed_at file 15 size at)
plain_at file shared Char at = char_at file at
plain_at file shared (Level size) at = sized (leaf_at file (level size) at)
plain_at file shared (Reference wanted) at = bind (seven_at file at) (λ id next. check (leb id shared) 16 at (read id next))
plain_at file shared (Blob size) at = sized (leaf_at file (blob size) at)
plain_at file shared (Bone bones) at = sized (leaf_at file (bone_leaf bones) at)
plain_at file shared (Code last) at = sized (leaf_at file (code_leaf last) at)
plain_at file shared (DataSize flag) at = sized (leaf_at file (size_leaf flag) at)

-- the padding of its number, which a reference alone has; else that of its id
unfoldable pub plain_pad : List ℕ → Plain → (padding at : ℕ) → ℕ
plain_pad file (Fixed kind size) padding at = padding
plain_pad file (Enum size) padding at = padding
plain_pad file Char padding at = padding
plain_pad file (Level size) padding at = padding
plain_pad file (Reference wanted) padding at = pad_of (seven_at file at) at
plain_pad file (Blob size) padding at = padding
plain_pad file (Bone bones) padding at = padding
plain_pad file (Code last) padding at = padding
plain_pad file (DataSize flag) padding at = padding

-- 18, then 19, then the bytes
unfoldable pub plain_value : List ℕ → (room shared : ℕ) → Plain → (at used depth : ℕ) → Answer ℕ
plain_value file room shared p at used zero = refused 18 at
plain_value file room shared p at used (suc d) = check (ltb used room) 19 at (plain_at file shared p at)

-- a reference's row names its resource
abbrev pub named : Head → Answer ℕ → Head
named h (refused n p) = h
named h (read id next) = head_of h.row.0 h.first h.parent id h.padding

-- the words once its bytes are read, or refused
abbrev pub plain_words : Grid → List ℕ → Plain → Head → Answer ℕ → List ℕ
plain_words g w (Fixed kind size) h x = leaf_words g w h kind 0 x
plain_words g w (Enum size) h x = leaf_words g w h 15 0 x
plain_words g w Char h x = leaf_words g w h 12 0 x
plain_words g w (Level size) h x = leaf_words g w h 35 0 x
plain_words g w (Reference wanted) h x = leaf_words g w (named h x) 36 wanted x
plain_words g w (Blob size) h x = leaf_words g w h 41 0 x
plain_words g w (Bone bones) h x = leaf_words g w h 42 0 x
plain_words g w (Code last) h x = leaf_words g w h 5 0 x
plain_words g w (DataSize flag) h x = leaf_words g w h 6 0 x

-- the words once the bytes at the head's first byte are read, or refused
abbrev pub plain_left : Grid → (file words : List ℕ) (shared : ℕ) → Plain → Head → List ℕ
plain_left g file words shared p h = plain_words g words p h (plain_at file shared p h.first)

-- the words once a value with the depth left is read, or refused
abbrev pub value_left : Grid → (file words : List ℕ) (shared : ℕ) → Plain → (at used depth parent : ℕ) → List ℕ
value_left g file words shared p at used depth parent = plain_words g words p (head_of used at parent 0 0) (plain_value file g.room shared p at used depth)

pub kept : (g : Grid) (w : List ℕ) (p : Plain) (h : Head) (n q : ℕ) → plain_words g w p h (refused n q) ≡ w
kept g w (Fixed kind size) h n q = refl
kept g w (Enum size) h n q = refl
kept g w Char h n q = refl
kept g w (Level size) h n q = refl
kept g w (Reference wanted) h n q = refl
kept g w (Blob size) h n q = refl
kept g w (Bone bones) h n q = refl
kept g w (Code last) h n q = refl
kept g w (DataSize flag) h n q = refl

-- the value's row
abbrev pub plain_seen : Plain → Head → Answer ℕ → Answer Seen
plain_seen (Fixed kind size) h x = leaf_of h kind nothing x
plain_seen (Enum size) h x = leaf_of h 15 nothing x
plain_seen Char h x = leaf_of h 12 nothing x
plain_seen (Level size) h x = leaf_of h 35 nothing x
plain_seen (Reference wanted) h x = leaf_of (named h x) 36 (resource wanted) x
plain_seen (Blob size) h x = leaf_of h 41 nothing x
plain_seen (Bone bones) h x = leaf_of h 42 nothing x
plain_seen (Code last) h x = leaf_of h 5 nothing x
plain_seen (DataSize flag) h x = leaf_of h 6 nothing x

-- nothing stands below a value without children
abbrev pub Stops : (Plan → ℕ → ℕ → Outcome) → Type 0
Stops below = (next used : ℕ) → below stop next used ≡ done next used [] none

module _ (file : List ℕ) (readers : List Target) (shared room : ℕ) (below : Plan → ℕ → ℕ → Outcome) (stops : Stops below) where
  -- a raw value of a type without children, by what its head answers
  pub raw-leaf : (t : Target) → same t sprite_font ≡ false → (r : Answer (List ℕ)) (first at used parent id padding : ℕ) → head_at file t at ≡ whole file r
      → seen (raw_at file readers shared room below t first at used parent id) ≡ leaf_of (head_of used first parent id padding) (kind_of t) nothing r
  unfolding raw_at whole bind check seen font_ok font_if count
  raw-leaf t f (refused n p) first at used parent id padding e = rw e
  raw-leaf t f (read own next) first at used parent id padding e =
      let one : suc used - used ≡ 1 = omega arith in
      rw (e, stops next (suc used), f, one)

-- a resource id was read
module _ (file : List ℕ) (shared wanted at : ℕ) where
  pub reference-refused : {n p : ℕ} → seven_at file at ≡ refused n p → plain_at file shared (Reference wanted) at ≡ refused n p
  unfolding plain_at bind
  reference-refused e = rw e

  pub reference-beyond : {id next : ℕ} → seven_at file at ≡ read id next → shared < id → plain_at file shared (Reference wanted) at ≡ refused 16 at
  unfolding plain_at bind check
  reference-beyond {id} e b = rw (e, lt-leb id shared b)

  pub reference-within : {id next : ℕ} → seven_at file at ≡ read id next → id ≤ shared → plain_at file shared (Reference wanted) at ≡ read id next
  unfolding plain_at bind check
  reference-within {id} e b = rw (e, le-leb id shared b)

-- a value in such a slot, with the depth left
module _ (file : List ℕ) (room shared : ℕ) (p : Plain) (at used : ℕ) where
  pub value_deep : (depth : ℕ) → depth ≡ 0 → plain_value file room shared p at used depth ≡ refused 18 at
  unfolding plain_value check
  value_deep depth e = rw e

  pub value-full : (depth : ℕ) → (depth ≡ 0 → ⊥) → room ≤ used → plain_value file room shared p at used depth ≡ refused 19 at
  unfolding plain_value check
  value-full zero ne h = absurd (ne refl)
  value-full (suc d) ne h = rw (le-ltb used room h)

  pub value_there : (depth : ℕ) → (depth ≡ 0 → ⊥) → used < room → plain_value file room shared p at used depth ≡ plain_at file shared p at
  unfolding plain_value check
  value_there zero ne h = absurd (ne refl)
  value_there (suc d) ne h = rw (lt-ltb used room h)
