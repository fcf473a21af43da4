-- Which texts a walk reads, whether or not the file is accepted in the end, and what it is that two files differ in typed text alone (02, Req 12). Assumes
-- nothing.
use Rattle.std.specs.Prelude.{◌≡◌, true, List, ◌⊎◌, ℕ, zero, suc, ◌+◌, ◌<◌, ◌≤◌, ltb, length, get_or, take, drop}
use Rattle.layout.specs.Text.{Utf8s}
use Rattle.layout.specs.Target.{Target, string}
use Rattle.layout.specs.Tree.{told_of}
use Rattle.layout.specs.Slot.{Slot, raw, object, reference, leaf, Plan, stop, put}
use Rattle.layout.specs.File.{objects_plan}
use Rattle.reading.specs.Answer.{read}
use Rattle.reading.specs.Seven.{seven_at}
use Rattle.reading.specs.Rules.{Found, missing, found, reader, serves}
use Rattle.reading.specs.Heads.{Opening, head_at}
use Rattle.reading.specs.Walk.{Taken, Outcome, walk}
use Rattle.reading.specs.File.{Named, header_at, lists_at}

-- where a text's bytes start, behind their count, and how many they are
abbrev pub Span : Type 0
Span = ℕ × ℕ

-- texts that are read by values one after the other: by the first, or, once that was read, by those behind it
unfoldable pub SequenceText : (Slot → ℕ → ℕ → Outcome) → (Slot → ℕ → ℕ → Span → Type 0) → Plan → (at used : ℕ) → Span → Type 0
SequenceText step text stop at used x = ⊥
SequenceText step text (put y go) at used x =
    text y at used x ⊎ ((a : Taken) × (n : ℕ) × (step y at used ≡ read a n) × SequenceText step text (go (told_of a.2)) n a.0 x)

module _ (file : List ℕ) where
  -- the text of a raw String value: count and bytes were read, so it is valid
  unfoldable pub HeadText : Target → (at : ℕ) → Span → Type 0
  HeadText t at x = (t ≡ string) × ((h : Opening) × (next : ℕ) × (head_at file t at ≡ read h next) × (x.1 ≡ length h.0) × (x.0 + x.1 ≡ next))

  module _ (readers : List Target) (shared room : ℕ) where
    -- of a raw value: its own, or, once its head was read, one below it
    unfoldable pub RawText : (Plan → ℕ → ℕ → Span → Type 0) → Target → (at used : ℕ) → Span → Type 0
    RawText below t at used x = HeadText t at x ⊎ ((h : Opening) × (next : ℕ) × (head_at file t at ≡ read h next) × below h.1 next (suc used) x)

    unfoldable pub ReaderText : Found → (Plan → ℕ → ℕ → Span → Type 0) → Target → (next used : ℕ) → Span → Type 0
    ReaderText missing below t next used x = ⊥
    ReaderText (found u) below t next used x = (serves t u ≡ true) × RawText below u next used x

    unfoldable pub ObjectText : (Plan → ℕ → ℕ → Span → Type 0) → Target → (id next used : ℕ) → Span → Type 0
    ObjectText below t zero next used x = ⊥
    ObjectText below t (suc i) next used x = ReaderText (reader readers (suc i)) below t next used x

    -- of a value in a slot; references and leaves have none
    unfoldable pub ValueText : (Plan → ℕ → ℕ → Span → Type 0) → Slot → (at used : ℕ) → Span → Type 0
    ValueText below (raw t) at used x = RawText below t at used x
    ValueText below (object t) at used x = (id : ℕ) × (next : ℕ) × (seven_at file at ≡ read id next) × ObjectText below t id next used x
    ValueText below (reference k) at used x = ⊥
    ValueText below (leaf l) at used x = ⊥

    -- a text that the walk reads from `at` on, with so much depth left and so many rows used
    unfoldable pub WalkText : (depth : ℕ) → Slot → (at used : ℕ) → Span → Type 0
    WalkText zero y at used x = ⊥
    WalkText (suc d) y at used x =
        (ltb used room ≡ true)
        × ValueText
        (λ plan a u z. SequenceText (λ y b v. walk file readers shared room d y b v (suc used)) (λ y b v z. WalkText d y b v z) plan a u z) y at used x

-- the walk over a file reads a String value there "as valid text", whether or not the file is accepted in the end: the header and the lists were read, and
-- then this text
unfoldable pub FileText : (name_of : ℕ → List ℕ → Named) (room : ℕ) (file : List ℕ) → Span → Type 0
FileText name_of room file x =
    (h : ℕ × ℕ) × (at : ℕ) × (header_at file ≡ read h at)
    × ((l : List (List ℕ) × List Target × ℕ) × (first : ℕ) × (lists_at name_of file at ≡ read l first)
    × SequenceText (λ y a u. walk file l.1 l.2 room 32 y a u 0) (λ y a u z. WalkText file l.1 l.2 room 32 y a u z) (objects_plan l.2) first 0 x)

-- a byte stands in a text
abbrev pub In : ℕ → Span → Type 0
In i x = (x.0 ≤ i) × (i < x.0 + x.1)

-- ---- Two files, where `Read` says which texts the walk over a file reads

module _ (Read : List ℕ → Span → Type 0) where
  -- a byte stands in a text that the first walk reads, where the second file has valid text of the same length
  pub record InText (f g : List ℕ) (i : ℕ) : Type 0 where
    pub span : Span
    pub inside : In i span
    pub typed : Read f span
    pub valid : Utf8s (take span.1 (drop span.0 g))

  -- Two files "of one length .. differing only inside the text bytes of String values .., with counts and all other bytes equal":
  -- each byte is the same in both, or stands in a text that the first walk reads, where the second file has valid text.
  -- No more is asked of the second file: that its walk then reads the text too is proved (Valid, `read_by_both`).
  pub record Retyped (f g : List ℕ) : Type 0 where
    pub as_long : length f ≡ length g
    pub elsewhere : (i : ℕ) → (get_or f i 0 ≡ get_or g i 0) ⊎ InText f g i

  -- 02's words in their widest reading: a byte that differs stands in a text of the first walk and in a text of the second.
  -- That the two are then one text is proved (Files, `Each-read` and `one_text`).
  pub record EachRead (f g : List ℕ) : Type 0 where
    pub as_long : length f ≡ length g
    pub elsewhere : (i : ℕ) → (get_or f i 0 ≡ get_or g i 0) ⊎ (((x : Span) × In i x × Read f x) × ((y : Span) × In i y × Read g y))

  -- 02's words as they stand, "String values that both walks read as valid text": one text, which both read
  pub record BothRead (f g : List ℕ) : Type 0 where
    pub as_long : length f ≡ length g
    pub elsewhere : (i : ℕ) → (get_or f i 0 ≡ get_or g i 0) ⊎ ((x : Span) × In i x × Read f x × Read g x)
