-- When a font's children were read, the test over the words is the test over the trees. Assumes nothing.
use Rattle.std.specs.Prelude.{◌≡◌, ℕ, suc, ◌+◌, ◌*◌, ◌^◌, ◌<◌, ◌≤◌, Bool, true, false, ◌&&◌, List, length, drop, ◌==◌, ◌≢◌, nat_lt}
use Rattle.std.proofs.Math.Path.{refl, sym, ap}
use Rattle.std.proofs.Common.{◌∙◌, arith}
use Rattle.std.proofs.Math.Numerals.{add-one}
use Rattle.layout.specs.Target.{Target, fixed, char, texture_2d, sprite_font, list, kind_of}
use Rattle.layout.specs.Tree.{Trees, none, tree, count, size, kind_at, children_at}
use Rattle.layout.specs.Slot.{raw, object, each, font_slots}
use Rattle.layout.specs.Layout.{Lays}
use Rattle.layout.specs.Resource.{Within}
use Rattle.layout.specs.Rows.{width}
use Rattle.reading.specs.Answer.{read}
use Rattle.reading.specs.Reads.{Small}
use Rattle.reading.specs.Rules.{same, same_true, same_refl}
use Rattle.reading.specs.Font.{rising, font_test, font_if, font_ok}
use Rattle.reading.specs.Drafts.{drafts_of}
use Rattle.reading.specs.Walk.{Taken, point, sequence, walk}
use Rattle.reading.proofs.Sound.{walks_sound}
use Rattle.table.specs.declared.Grid.{Grid}
use Rattle.walked.specs.Written.{written}
use Rattle.fonts.specs.FontWords.{beyond, beyond_is, word_at, row_after, some, equal, all_there, all_equal, font_words, by_rows}
use Rattle.fonts.specs.Held.{HoldsDrafts, written_holds}
use Rattle.fonts.specs.Children.{child_row, row_next, lays_count, fixed_childless, There, Placed, placed_at, object-row}
use Rattle.fonts.specs.Characters.{map-rising}

-- the tests of objects, of counts and of characters, one after the other
regroup : (a b c d e f g h r : Bool) → ((a && (b && (c && (d && e)))) && ((f && (g && h)) && r)) ≡ (a && (b && (c && (d && (e && (f && (g && (h && r))))))))
regroup false b c d e f g h r = refl
regroup true false c d e f g h r = refl
regroup true true false d e f g h r = refl
regroup true true true false e f g h r = refl
regroup true true true true false f g h r = refl
regroup true true true true true false g h r = refl
regroup true true true true true true false h r = refl
regroup true true true true true true true h r = refl

first_row : (ts : Trees) (n : ℕ) → child_row 0 ts n ≡ n
unfolding child_row
first_row none n = refl
first_row (tree k d own cs rest) n = refl

-- the row after a child and all below it is the next child's
after_child : (g : Grid) (words : List ℕ) (i : ℕ) (ts : Trees) (n : ℕ) → i < count ts → word_at g words (child_row i ts n) 6 ≡ suc (size (children_at i ts))
    → child_row (suc i) ts n < 2 ^ 32 → child_row (suc i) ts n ≡ row_after g words (child_row i ts n)
unfolding row_after
after_child g words i ts n h r b =
    let z = row_next i ts n h in
    z ∙ sym (ap (beyond (child_row i ts n)) r ∙ beyond_is (child_row i ts n) (suc (size (children_at i ts))) (omega (arith, z)))

module _ (g : Grid) (file words : List ℕ) (readers : List Target) (refers : ℕ → ℕ → Type 0) where
  no_child : (z : ℕ) {k n : ℕ} {cs : Trees} → Placed g file words readers refers (raw (fixed z)) k cs n → size cs ≡ 0
  unfolding size
  no_child z {k} {n} {cs} p = ap size (fixed_childless readers refers z k p.id p.own cs p.bytes p.value)

  -- a font's children that are laid down in the file, with their rows in the words
  pub laid_words : (ts : Trees) (bs : List ℕ) (w : Lays readers refers (each font_slots) ts bs) (at number parent used : ℕ)
      → There file at bs → HoldsDrafts g words (suc used) (drafts_of readers refers (each font_slots) ts bs w at number parent) → font_words g file words used ≡ font_test point ts
  unfolding font_slots all_there all_equal some equal font_test
  laid_words ts bs w at number parent used t s =
      let n = suc used in
      let m : count ts ≡ 8 = lays_count readers refers font_slots ts bs w in
      let p₀ = placed_at g file words readers refers 0 font_slots (object texture_2d) ts bs w at number parent n t s (omega arith) refl in
      let p₁ = placed_at g file words readers refers 1 font_slots (object (list (fixed 30))) ts bs w at number parent n t s (omega arith) refl in
      let p₂ = placed_at g file words readers refers 2 font_slots (object (list (fixed 30))) ts bs w at number parent n t s (omega arith) refl in
      let p₃ = placed_at g file words readers refers 3 font_slots (object (list char)) ts bs w at number parent n t s (omega arith) refl in
      let p₄ = placed_at g file words readers refers 4 font_slots (raw (fixed 5)) ts bs w at number parent n t s (omega arith) refl in
      let p₅ = placed_at g file words readers refers 5 font_slots (raw (fixed 9)) ts bs w at number parent n t s (omega arith) refl in
      let p₆ = placed_at g file words readers refers 6 font_slots (object (list (fixed 24))) ts bs w at number parent n t s (omega arith) refl in
      let r₀ = object-row g file words readers refers p₀ in
      let r₁ = object-row g file words readers refers p₁ in
      let r₂ = object-row g file words readers refers p₂ in
      let r₃ = object-row g file words readers refers p₃ in
      let r₆ = object-row g file words readers refers p₆ in
      let e₀ : child_row 0 ts n ≡ beyond used 1 = first_row ts n ∙ sym (beyond_is used 1 (omega (arith, s.fits)) ∙ add-one used) in
      let e₁ : child_row 1 ts n ≡ row_after g words (child_row 0 ts n) = after_child g words 0 ts n (omega arith) r₀.2 p₁.few in
      let e₂ : child_row 2 ts n ≡ row_after g words (child_row 1 ts n) = after_child g words 1 ts n (omega arith) r₁.2 p₂.few in
      let e₃ : child_row 3 ts n ≡ row_after g words (child_row 2 ts n) = after_child g words 2 ts n (omega arith) r₂.2 p₃.few in
      let e₄ : child_row 4 ts n ≡ row_after g words (child_row 3 ts n) = after_child g words 3 ts n (omega arith) r₃.2 p₄.few in
      let z : child_row 4 ts n + 2 ≡ child_row 6 ts n = omega (arith, row_next 4 ts n (omega arith), row_next 5 ts n (omega arith), no_child 5 p₄, no_child 9 p₅) in
      let e₆ : child_row 6 ts n ≡ beyond (row_after g words (child_row 3 ts n)) 2 = sym (ap (λ (c : ℕ). beyond c 2) (sym e₄) ∙ beyond_is (child_row 4 ts n) 2 (omega (arith, z, p₆.few)) ∙ z) in
      let f : suc (child_row 3 ts n) ≡ beyond (child_row 3 ts n) 1 = sym (beyond_is (child_row 3 ts n) 1 (omega (arith, row_next 3 ts n (omega arith), p₄.few)) ∙ add-one (child_row 3 ts n)) in
      by_rows g file words used e₀ e₁ e₂ e₃ e₆ f
      ∙ rw (r₀.0, r₁.0, r₂.0, r₃.0, r₆.0, r₁.1, r₂.1, r₆.1, r₃.1, ← map-rising g file words readers refers p₃)
      (regroup (nat_lt 0 (kind_at 0 ts)) (nat_lt 0 (kind_at 1 ts)) (nat_lt 0 (kind_at 2 ts)) (nat_lt 0 (kind_at 3 ts)) (nat_lt 0 (kind_at 6 ts))
      (count (children_at 1 ts) == count (children_at 3 ts)) (count (children_at 2 ts) == count (children_at 3 ts)) (count (children_at 6 ts) == count (children_at 3 ts))
      (rising point (children_at 3 ts)))

-- only a font has the rule
pub font_only : (t : Target) (cs : Trees) → (t ≢ sprite_font) → font_ok point t cs ≡ true
unfolding font_ok font_if
font_only t cs n = go (same t sprite_font) refl where
  go : (b : Bool) → same t sprite_font ≡ b → font_if point b cs ≡ true
  go true e = absurd (n (same_true t sprite_font e))
  go false e = refl

-- a value of another kind is no font
pub other_kind : (t : Target) (cs : Trees) → (kind_of t ≢ 33) → font_ok point t cs ≡ true
unfolding kind_of
other_kind t cs n = font_only t cs (λ e. n (ap kind_of e))

-- a font has it
pub font_has : (cs : Trees) → font_ok point sprite_font cs ≡ font_test point cs
unfolding font_ok font_if
font_has cs = rw (same_refl sprite_font)

module _ (g : Grid) (file : List ℕ) (small : Small file) (readers : List Target) (shared room d at used : ℕ) (a : Taken) (e : ℕ)
    (q : sequence (λ y b v. walk file readers shared room d y b v (suc used)) (each font_slots) at (suc used) ≡ read a e)
    (w w' : List ℕ) (ew : w' ≡ written g w (suc used) a.1) (long : width * g.room ≤ length w) (few : g.room < 2 ^ 32) (fits : suc used + length a.1 ≤ g.room) where
  -- a font's eight children were read and their rows stored, with room for them: the test over the words is the test over the trees
  pub font_words_lem : font_words g file w' used ≡ font_test point a.2
  font_words_lem =
      let v = (walks_sound file readers shared room small d (each font_slots) at (suc used) (suc used)).got q in
      let s : HoldsDrafts g w' (suc used) a.1 = rw ew (written_holds g w (suc used) a.1 long few fits) in
      laid_words g file w' readers (Within shared) a.2 v.bytes v.laid at (suc used) (suc used) used (drop e file, v.there) (rw v.rows_are at s)

  -- the walk's test of a font whose children were read, over the words
  pub font_judged : font_ok point sprite_font a.2 ≡ font_words g file w' used
  font_judged = font_has a.2 ∙ sym font_words_lem
