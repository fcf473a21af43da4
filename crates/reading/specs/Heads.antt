-- Reading the head of a raw value of each type, and a leaf, with their two laws. Assumes nothing.
use Rattle.std.specs.Prelude.{◌≡◌, Bool, true, ltb, leb, eqb, drop, get_or}
use Rattle.std.proofs.Math.Path.{refl, ap}
use Rattle.std.proofs.Common.{sym, ◌∙◌, inl, inr, div-add-mod'}
use mathlib.Core.List.{List, [], ◌∷◌, ◌++◌, append_assoc, append-nil}
use Prim.Native.Nat.{ℕ, zero, suc, ◌+◌, ◌-◌, ◌/◌, ◌%◌, ◌<◌, ◌≤◌, ◌^◌, max}
use native.Mathlib.Omega.{arith}
use Rattle.std.proofs.Math.Nat.{mul-mod_right}
use Rattle.std.proofs.Math.ListN.{length, take, replicate}
use Rattle.std.proofs.Math.Seq.{take-append_seam}
use borrow.Author.Tests.{leb-true, le-leb, ltb-true, lt-ltb, eqb-true, eq-eqb}
use Rattle.laws.specs.Ok.{ok_weaken}
use Rattle.layout.specs.Number.{little, value_of}
use Rattle.layout.specs.Text.{Character}
use Rattle.layout.specs.Target.{Target, fixed, char, string, object, texture, texture_2d, sprite_font, page, mesh, enum, nullable, array, list, dictionary}
use Rattle.layout.specs.Fixed.{sizes, Boolean, Fixed}
use Rattle.layout.specs.Image.{levels, digits}
use Rattle.layout.specs.Slot.{Rule, at_most, multiple_of, Keeps, Leaf, level, blob, numeric, leaf_kind, Slot, raw, slot_of, Plan, stop, each, pairs, leaves, font_slots, page_slots}
use Rattle.layout.specs.Mesh.{plan_of}
use Rattle.layout.specs.Head.{Textual, Flagged, Counted, Pictured, Head}
use Rattle.layout.specs.Layout.{Leafed}
use Rattle.reading.specs.Answer.{Answer, refused, read, bind, check, not_read, is_read, ok_bind, ok_check, within, within-true, true-within}
use Rattle.reading.specs.Reads.{Reads, pure_reads, bind_reads, check_reads, here_reads, convert, some, some_reads, field, field_reads}
use Rattle.reading.specs.Seven.{seven_at, seven_reads}
use Rattle.reading.specs.Little.{little_at, little_reads}
use Rattle.reading.specs.Utf8.{char_at, char_reads, utf8s, utf8s-sound, utf8s-complete}
use Rattle.reading.specs.Fixed.{is_boolean, boolean-sound, boolean-complete, fixed_at, fixed_reads}

-- a head: its own bytes and what stands below it
abbrev pub Opening : Type 0
Opening = List ℕ × Plan

unfoldable pub always : {A : Type 0} → A → Bool
always a = true

-- the test of a number's rule
unfoldable pub keeps : Rule → ℕ → Bool
keeps (at_most m) n = leb n m
keeps (multiple_of unit) n = eqb (n % unit) 0

keeps-sound : (r : Rule) (n : ℕ) → keeps r n ≡ true → Keeps r n
unfolding keeps Keeps
keeps-sound (at_most m) n t = leb-true n m t
keeps-sound (multiple_of unit) n t = (n / unit, omega (arith, div-add-mod' n unit, eqb-true (n % unit) 0 t))

keeps-complete : (r : Rule) (n : ℕ) → Keeps r n → keeps r n ≡ true
unfolding keeps Keeps
keeps-complete (at_most m) n h = le-leb n m h
keeps-complete (multiple_of unit) n h = eq-eqb (n % unit) 0 (rw h.1 (mul-mod_right unit h.0))

-- after a nullable's first byte
unfoldable pub flag_plan : Target → List ℕ → Plan
flag_plan t [] = stop
flag_plan t (zero ∷ l) = stop
flag_plan t (suc b ∷ l) = each (raw t ∷ [])

module _ (file : List ℕ) where
  -- the bytes that a reader takes, and not their value
  unfoldable pub own_at : (ℕ → Answer ℕ) → ℕ → Answer (List ℕ)
  own_at r at = bind (r at) (λ c e. read (take (e - at) (drop at file)) e)

  -- own bytes with nothing below
  unfoldable pub whole : Answer (List ℕ) → Answer Opening
  whole r = bind r (λ own e. read (own, stop) e)

  unfoldable pub fixed_head_at : ℕ → ℕ → Answer Opening
  fixed_head_at k at = check (ltb 0 (get_or sizes k 0)) 15 at (whole (fixed_at file k (get_or sizes k 0) at))

  unfoldable pub text_at : ℕ → Answer Opening
  text_at at = bind (seven_at file at) (λ n e. field file (some file n at) utf8s (λ own. (own, stop)) at e)

  unfoldable pub flag_at : Target → ℕ → Answer Opening
  flag_at t at = field file (some file 1 at) is_boolean (λ own. (own, flag_plan t own)) at at

  -- a 4-byte count, and slots by it
  unfoldable pub count_at : (ℕ → List Slot) → ℕ → Answer Opening
  count_at slots at = field file (little_at file 4 at) always (λ n. ([], each (slots n))) at at

  -- format, width, height and level count: four fields, each judged before the next
  unfoldable pub image_at : ℕ → Answer Opening
  image_at at =
      bind (little_at file 4 at at) (λ f e. check (leb f 18) 15 at
      (bind (little_at file 4 e e) (λ w e₂. check (within 4096 w) 15 e
      (bind (little_at file 4 e₂ e₂) (λ h e₃. check (within 4096 h) 15 e₂
      (bind (little_at file 4 e₃ e₃) (λ n e₄. check (within (digits 32 (max w h)) n) 15 e₃
      (read (little 4 f ++ little 4 w ++ little 4 h, each (leaves (levels f w h n))) e₄))))))))

  -- a level's size rule comes before its data's end
  unfoldable pub leaf_at : Leaf → ℕ → Answer (List ℕ)
  leaf_at (level z) at = bind (little_at file 4 at at) (λ n e. check (eqb n z) 15 at (some file n at e))
  leaf_at (blob z) at = some file z at at
  leaf_at (numeric f z rule) at = field file (some file z at) (λ own. keeps rule (value_of own)) (λ own. own) at at

  unfoldable pub head_at : Target → ℕ → Answer Opening
  head_at (fixed k) at = fixed_head_at k at
  head_at char at = whole (own_at (char_at file) at)
  head_at string at = text_at at
  head_at object at = refused 13 at
  head_at (enum name z) at = whole (some file z at at)
  head_at (nullable t) at = flag_at t at
  head_at (array t) at = count_at (λ n. replicate n (slot_of t)) at
  head_at (list t) at = count_at (λ n. replicate n (slot_of t)) at
  head_at (dictionary k v) at = count_at (λ n. pairs n (slot_of k) (slot_of v)) at
  head_at texture at = refused 13 at
  head_at texture_2d at = image_at at
  head_at sprite_font at = read ([], each font_slots) at
  head_at page at = read ([], each page_slots) at
  head_at (mesh m) at = read ([], plan_of m) at

  pub leaf_reads : (x : Leaf) → Reads file (λ own bs. Leafed x (leaf_kind x) own bs) (leaf_at x)
  unfolding leaf_at Leafed
  leaf_reads (level z) =
      convert file (bind_reads file (here_reads file (λ p. little_reads file 4 p)) (λ n at. check_reads file (eqb n z) 15 at (some_reads file n at)))
      (λ own bs s w. let q : w.0 ≡ z = eqb-true w.0 z w.5.0 in
      let r : bs ≡ little 4 z ++ own = rw (← q, ← w.4.1, ← w.5.1.0) w.3 in
      (refl, rw q at w.4.0, w.5.1.1 ∙ q, r))
      (λ own bs w. (z, little 4 z, own, w.3, (w.1, refl), (eq-eqb z z refl, (refl, w.2))))
  leaf_reads (blob z) =
      convert file (here_reads file (λ p. some_reads file z p))
      (λ own bs s w. (refl, w.1, w.0))
      (λ own bs w. (w.2, w.1))
  leaf_reads (numeric f z rule) =
      convert file (here_reads file (λ p. field_reads file (λ own. keeps rule (value_of own)) (λ own. own) p (some_reads file z p)))
      (λ own bs s w. rw w.3 (refl, w.1.1, keeps-sound rule (value_of w.0) w.2, w.1.0))
      (λ own bs w. (own, (w.3, w.1), keeps-complete rule (value_of own) w.2, refl))
