-- What holds of each text that a String's head reads holds of each text that a walk reads; so each is valid text. Assumes nothing.
use Rattle.std.specs.Prelude.{◌≡◌, List, ◌⊎◌, get_or, take, drop}
use Rattle.std.proofs.Common.{sym, subst, inl, inr}
use Prim.Native.Nat.{ℕ, zero, suc}
use Rattle.layout.specs.Text.{Utf8s}
use Rattle.layout.specs.Tree.{told_of}
use Rattle.layout.specs.Target.{Target, string}
use Rattle.layout.specs.Slot.{Slot, raw, object, reference, leaf, Plan, stop, put}
use Rattle.layout.specs.File.{objects_plan}
use Rattle.reading.specs.Reads.{Small}
use Rattle.reading.specs.Rules.{Found, missing, found, reader}
use Rattle.reading.specs.Utf8.{utf8s-sound}
use Rattle.reading.specs.Walk.{Outcome, walk}
use Rattle.reading.specs.File.{Named}
use Rattle.retyped.specs.Texts.{Span, SequenceText, HeadText, RawText, ReaderText, ObjectText, ValueText, WalkText, FileText, In, InText, Retyped, BothRead}
use Rattle.retyped.specs.Leaves.{TextBytes, text_here}

module _ (file : List ℕ) (P : Span → Type 0) (holds : (at : ℕ) (x : Span) → HeadText file string at x → P x) where
  sequence_texts : (step : Slot → ℕ → ℕ → Outcome) (text : Slot → ℕ → ℕ → Span → Type 0) → ((y : Slot) (at used : ℕ) (x : Span) → text y at used x → P x)
      → (plan : Plan) (at used : ℕ) (x : Span) → SequenceText step text plan at used x → P x
  unfolding SequenceText
  sequence_texts step text h stop at used x w = absurd w
  sequence_texts step text h (put y go) at used x (inl t) = h y at used x t
  sequence_texts step text h (put y go) at used x (inr w) = sequence_texts step text h (go (told_of w.0.2)) w.1 w.0.0 x w.3

  module _ (readers : List Target) (shared room : ℕ) where
    module _ (below : Plan → ℕ → ℕ → Span → Type 0) (h : (plan : Plan) (at used : ℕ) (x : Span) → below plan at used x → P x) where
      raw_texts : (t : Target) (at used : ℕ) (x : Span) → RawText file readers shared room below t at used x → P x
      unfolding RawText HeadText
      raw_texts t at used x (inl w) = holds at x (subst (λ u. HeadText file u at x) w.0 w)
      raw_texts t at used x (inr w) = h w.0.1 w.1 (suc used) x w.3

      reader_texts : (u : Found) (t : Target) (next used : ℕ) (x : Span) → ReaderText file readers shared room u below t next used x → P x
      unfolding ReaderText
      reader_texts missing t next used x w = absurd w
      reader_texts (found u) t next used x w = raw_texts u next used x w.1

      object_texts : (t : Target) (id next used : ℕ) (x : Span) → ObjectText file readers shared room below t id next used x → P x
      unfolding ObjectText
      object_texts t zero next used x w = absurd w
      object_texts t (suc i) next used x w = reader_texts (reader readers (suc i)) t next used x w

      value_texts : (y : Slot) (at used : ℕ) (x : Span) → ValueText file readers shared room below y at used x → P x
      unfolding ValueText
      value_texts (raw t) at used x w = raw_texts t at used x w
      value_texts (object t) at used x w = object_texts t w.0 w.1 used x w.3
      value_texts (reference k) at used x w = absurd w
      value_texts (leaf l) at used x w = absurd w

    walk_texts : (d : ℕ) (y : Slot) (at used : ℕ) (x : Span) → WalkText file readers shared room d y at used x → P x
    unfolding WalkText
    walk_texts zero y at used x w = absurd w
    walk_texts (suc d) y at used x w =
        value_texts (λ plan a u z. SequenceText (λ y b v. walk file readers shared room d y b v (suc used)) (λ y b v z. WalkText file readers shared room d y b v z) plan a u z)
        (λ plan a u z t. sequence_texts (λ y b v. walk file readers shared room d y b v (suc used)) (λ y b v z. WalkText file readers shared room d y b v z) (λ y b v z t. walk_texts d y b v z t) plan a u z t)
        y at used x w.1

  pub file_texts : (name_of : ℕ → List ℕ → Named) (room : ℕ) (x : Span) → FileText name_of room file x → P x
  unfolding FileText
  file_texts name_of room x w =
      let l = w.3.0 in
      sequence_texts (λ y a u. walk file l.1 l.2 room 32 y a u 0) (λ y a u z. WalkText file l.1 l.2 room 32 y a u z)
      (λ y a u z t. walk_texts l.1 l.2 room 32 y a u z t) (objects_plan l.2) w.3.1 0 x w.3.3

-- ---- The hypotheses say the same

module _ (Read : List ℕ → Span → Type 0) (f g : List ℕ) where
  -- where both walks read a text, and what the second reads is valid, all is there that is asked
  pub both_read : ((x : Span) → Read g x → Utf8s (take x.1 (drop x.0 g))) → BothRead Read f g → Retyped Read f g
  both_read valid r = record { as_long = r.as_long; elsewhere = λ i. go i (r.elsewhere i) } where
    go : (i : ℕ) → (get_or f i 0 ≡ get_or g i 0) ⊎ ((x : Span) × In i x × Read f x × Read g x) → (get_or f i 0 ≡ get_or g i 0) ⊎ InText Read f g i
    go i (inl e) = inl e
    go i (inr w) = inr (record { span = w.0; inside = w.1; typed = w.2; valid = valid w.0 w.3 })

  -- and the other way, where the second walk reads what the first reads
  pub read_by_both : ((x : Span) → Read f x → Read g x) → Retyped Read f g → BothRead Read f g
  read_by_both kept r = record { as_long = r.as_long; elsewhere = λ i. go i (r.elsewhere i) } where
    go : (i : ℕ) → (get_or f i 0 ≡ get_or g i 0) ⊎ InText Read f g i → (get_or f i 0 ≡ get_or g i 0) ⊎ ((x : Span) × In i x × Read f x × Read g x)
    go i (inl e) = inl e
    go i (inr c) = inr (c.span, c.inside, c.typed, kept c.span c.typed)

-- either file may be the first
pub turned : (Read : List ℕ → Span → Type 0) (f g : List ℕ) → BothRead Read f g → BothRead Read g f
turned Read f g r = record { as_long = sym r.as_long; elsewhere = λ i. go i (r.elsewhere i) } where
  go : (i : ℕ) → (get_or f i 0 ≡ get_or g i 0) ⊎ ((x : Span) × In i x × Read f x × Read g x) → (get_or g i 0 ≡ get_or f i 0) ⊎ ((x : Span) × In i x × Read g x × Read f x)
  go i (inl e) = inl (sym e)
  go i (inr w) = inr (w.0, w.1, w.3, w.2)
