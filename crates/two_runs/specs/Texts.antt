-- Two files that differ in typed text alone, under a lent list of enum types (02, Req 12). Assumes nothing.
use Rattle.std.specs.Prelude.{◌≡◌, List, ◌⊎◌, ℕ, get_or}
use Rattle.std.proofs.Common.{subst, inl, inr}
use Rattle.layout.specs.EnumList.{EnumEntry, write_enums, Enums, Unlawful}
use Rattle.enums.specs.Judge.{enums_at, lawful}
use Rattle.enums.specs.Lists.{judged-list}
use Rattle.reading.specs.Reads.{Small}
use Rattle.readers.specs.Judged.{judged_name}
use Rattle.retyped.specs.Texts.{Span, FileText, In, InText, Retyped, EachRead, BothRead}
use Rattle.retyped.proofs.Files as files
use Rattle.retyped.proofs.Files.{texts-kept}
use Rattle.retyped.specs.Valid as valid
use Rattle.retyped.proofs.Valid.{text_valid}

-- the walk over a file reads a String value there "as valid text", under the lent list and with this room
pub record Read (enums : List ℕ) (room : ℕ) (file : List ℕ) (x : Span) : Type 0 where
  pub es : List EnumEntry
  pub lawful : Enums es
  pub listed : enums ≡ write_enums es
  pub text : FileText (judged_name es) room file x

-- "any two files .. of one length, with one room and one enum list, differing only inside the text bytes of String values that both walks read as valid text,
-- with counts and all other bytes equal"; or, since no walk begins under a list that 32 refuses, any two files of any bytes under such a list
abbrev pub SameButTexts : (enums : List ℕ) (room : ℕ) (f g : List ℕ) → Type 0
SameButTexts enums room f g = Retyped (Read enums room) f g ⊎ Unlawful enums

-- ---- One list

module _ (enums : List ℕ) (es : List EnumEntry) (l : enums_at enums ≡ lawful es) where
  -- under the bytes of a lawful list the texts are those under that list
  pub under : (room : ℕ) (file : List ℕ) (x : Span) → Read enums room file x → FileText (judged_name es) room file x
  under room file x r =
      let j = judged-list enums r.es r.lawful r.listed in
      let e : r.es ≡ es = cc in
      subst (λ z. FileText (judged_name z) room file x) e r.text

  pub plain : (room : ℕ) (f g : List ℕ) → Retyped (Read enums room) f g → Retyped (FileText (judged_name es) room) f g
  plain room f g r = record { as_long = r.as_long; elsewhere = λ i. go i (r.elsewhere i) } where
    go : (i : ℕ) → (get_or f i 0 ≡ get_or g i 0) ⊎ InText (Read enums room) f g i → (get_or f i 0 ≡ get_or g i 0) ⊎ InText (FileText (judged_name es) room) f g i
    go i (inl e) = inl e
    go i (inr w) = inr (record { span = w.span; inside = w.inside; typed = under room f w.span w.typed; valid = w.valid })

-- ---- 02's hypothesis as it stands, the weaker one, and the widest reading, which say the same

-- what the first walk reads, the second reads
pub kept : (enums : List ℕ) (room : ℕ) (f g : List ℕ) → Small f → Retyped (Read enums room) f g → (x : Span) → Read enums room f x → Read enums room g x
kept enums room f g small r x t =
    let l = judged-list enums t.es t.lawful t.listed in
    let text = texts-kept (judged_name t.es) f g room small (plain enums t.es l room f g r) x t.text in
    record { es = t.es; lawful = t.lawful; listed = t.listed; text = text }

pub both_read : (enums : List ℕ) (room : ℕ) (f g : List ℕ) → BothRead (Read enums room) f g → Retyped (Read enums room) f g
both_read enums room f g = valid.both_read (Read enums room) f g (λ x t. text_valid (judged_name t.es) g room x t.text)

pub read_by_both : (enums : List ℕ) (room : ℕ) (f g : List ℕ) → Small f → Retyped (Read enums room) f g → BothRead (Read enums room) f g
read_by_both enums room f g small r = valid.read_by_both (Read enums room) f g (kept enums room f g small r) r

-- 02's words in their widest reading, a text of the one walk and a text of the other over each byte that differs, say the same too
module _ (enums : List ℕ) (room : ℕ) (f g : List ℕ) (small : Small f) (r : EachRead (Read enums room) f g) where
  under_list : (es : List EnumEntry) → enums_at enums ≡ lawful es → EachRead (FileText (judged_name es) room) f g
  under_list es l = record { as_long = r.as_long; elsewhere = λ i. go i (r.elsewhere i) } where
    go : (i : ℕ) → (get_or f i 0 ≡ get_or g i 0) ⊎ (((x : Span) × In i x × Read enums room f x) × ((y : Span) × In i y × Read enums room g y))
        → (get_or f i 0 ≡ get_or g i 0) ⊎ (((x : Span) × In i x × FileText (judged_name es) room f x) × ((y : Span) × In i y × FileText (judged_name es) room g y))
    go i (inl e) = inl e
    go i (inr w) =
        let x = w.0 in
        let y = w.1 in
        inr ((x.0, x.1, under enums es l room f x.0 x.2), (y.0, y.1, under enums es l room g y.0 y.2))

  pub each_read : Retyped (Read enums room) f g
  each_read = record { as_long = r.as_long; elsewhere = λ i. go i (r.elsewhere i) } where
    of : (i : ℕ) (x : Span) (t : Read enums room f x) → (get_or f i 0 ≡ get_or g i 0) ⊎ InText (FileText (judged_name t.es) room) f g i → (get_or f i 0 ≡ get_or g i 0) ⊎ InText (Read enums room) f g i
    of i x t (inl e) = inl e
    of i x t (inr c) =
        inr (record { span = c.span; inside = c.inside; typed = record { es = t.es; lawful = t.lawful; listed = t.listed; text = c.typed }; valid = c.valid })

    go : (i : ℕ) → (get_or f i 0 ≡ get_or g i 0) ⊎ (((x : Span) × In i x × Read enums room f x) × ((y : Span) × In i y × Read enums room g y))
        → (get_or f i 0 ≡ get_or g i 0) ⊎ InText (Read enums room) f g i
    go i (inl e) = inl e
    go i (inr w) =
        let t = w.0.2 in
        let l = judged-list enums t.es t.lawful t.listed in
        of i w.0.0 t ((files.each_read (judged_name t.es) f g room small (under_list t.es l)).elsewhere i)

-- where a text of the one walk and a text of the other have a byte in common, they are one text
pub one_text : (enums : List ℕ) (room : ℕ) (f g : List ℕ) → Small f → Retyped (Read enums room) f g → (i : ℕ) (x y : Span) → In i x → In i y → Read enums room f x → Read enums room g y → x ≡ y
one_text enums room f g small r i x y j k t u =
    let l = judged-list enums t.es t.lawful t.listed in
    files.one_text (judged_name t.es) f g room small (plain enums t.es l room f g r) i x y j k t.text (under enums t.es l room g y u)

-- so it does not matter which file is the first
pub either_first : (enums : List ℕ) (room : ℕ) (f g : List ℕ) → Small f → Retyped (Read enums room) f g → Retyped (Read enums room) g f
either_first enums room f g small r = both_read enums room g f (valid.turned (Read enums room) f g (read_by_both enums room f g small r))
