-- The font rule by the rows of a font's children in the words (01: "No object in it is null, the four lists have equal counts, and characters rise strictly"). Assumes nothing.
use Rattle.std.specs.Prelude.{◌≡◌, ℕ, zero, suc, ◌+◌, ◌^◌, ◌<◌, Bool, true, ◌&&◌, List, ◌==◌, nat_lt, slice_index}
use Rattle.reading.specs.Utf8.{char_at}
use Rattle.reading.specs.Walk.{value_or}
use Rattle.table.specs.declared.Grid.{Grid}
use Rattle.table.specs.Grids.{cell_of}
use Rattle.table.specs.Word.{in_word, in_word_lem}

-- the number of the row so many rows after another, as a word holds it
unfoldable pub beyond : (row n : ℕ) → ℕ
beyond row n = in_word (row + n)

pub beyond_is : (row n : ℕ) → row + n < 2 ^ 32 → beyond row n ≡ row + n
unfolding beyond
beyond_is row n h = in_word_lem (row + n) h

module _ (g : Grid) where
  -- a word of a row, counted from 0; 0 where the words end before it
  unfoldable pub word_at : List ℕ → (row i : ℕ) → ℕ
  word_at words row i = slice_index words (cell_of g row i)

  -- the row after a value and all below it, whose number of rows is the value's seventh word: 01: "Rows stand in file order, a value before all below it"
  unfoldable pub row_after : List ℕ → ℕ → ℕ
  row_after words row = beyond row (word_at words row 6)

  -- a value that is not null, whose row has kind 0
  unfoldable pub some : List ℕ → ℕ → Bool
  some words row = nat_lt 0 (word_at words row 0)

  -- two values with equal numbers of children
  unfoldable pub equal : List ℕ → ℕ → ℕ → Bool
  equal words a b = word_at words a 3 == word_at words b 3

  -- the character at a row's first byte; 0 where there is none
  unfoldable pub code_at : (file words : List ℕ) → ℕ → ℕ
  code_at file words row = value_or (char_at file (word_at words row 1))

  -- the first of n characters, whose row comes after `row`, is above that row's
  unfoldable pub next_above : (file words : List ℕ) → (n row : ℕ) → Bool
  next_above file words zero row = true
  next_above file words (suc n) row = nat_lt (code_at file words row) (code_at file words (beyond row 1))

  -- 01: "characters rise strictly": those of n rows from `row` on
  unfoldable pub rising_rows : (file words : List ℕ) → (n row : ℕ) → Bool
  rising_rows file words zero row = true
  rising_rows file words (suc n) row = next_above file words n row && rising_rows file words n (beyond row 1)

  -- of a font's objects by their rows, 01: "No object in it is null"
  unfoldable pub all_there : List ℕ → (texture glyphs cropping characters kerning : ℕ) → Bool
  all_there words texture glyphs cropping characters kerning =
      some words texture && (some words glyphs && (some words cropping && (some words characters && some words kerning)))

  -- of a font's lists by their rows, 01: "the four lists have equal counts"
  unfoldable pub all_equal : List ℕ → (glyphs cropping characters kerning : ℕ) → Bool
  all_equal words glyphs cropping characters kerning =
      equal words glyphs characters && (equal words cropping characters && equal words kerning characters)

  -- the font rule of a font whose row has the number `row`, by the rows of its children, which come after it; between characters and kerning stand line spacing and spacing, a row each
  unfoldable pub font_words : (file words : List ℕ) (row : ℕ) → Bool
  font_words file words row =
      let texture = beyond row 1 in
      let glyphs = row_after words texture in
      let cropping = row_after words glyphs in
      let characters = row_after words cropping in
      let kerning = beyond (row_after words characters) 2 in
      (all_there words texture glyphs cropping characters kerning
      && (all_equal words glyphs cropping characters kerning
      && rising_rows file words (word_at words characters 3) (beyond characters 1)))

  -- the rule by the rows of the texture, the glyphs, the cropping, the characters and the kerning, and the first character's
  pub by_rows : (file words : List ℕ) (row : ℕ) {t l p c k f : ℕ} → t ≡ beyond row 1 → l ≡ row_after words t → p ≡ row_after words l → c ≡ row_after words p → k ≡ beyond (row_after words c) 2 → f ≡ beyond c 1
      → font_words file words row ≡ (all_there words t l p c k && (all_equal words l p c k && rising_rows file words (word_at words c 3) f))
  unfolding font_words
  by_rows file words row d e f h i j = rw (j, i, h, f, e, d)
