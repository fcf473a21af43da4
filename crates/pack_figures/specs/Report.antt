-- A report carried from pack to pack (02, Req 14). Assumes nothing.
use Rattle.std.specs.Prelude.{◌≡◌, refl, Bool, ◌&&◌, List, [], ◌∷◌, ◌++◌, ℕ, zero, suc, ◌+◌, ◌-◌, ◌^◌, leb, ltb, replicate}
use Rattle.std.proofs.Common.{sym, ap, ◌∙◌, arith}
use Rattle.std.proofs.Math.Bool.{true, false, cond}
use Rattle.layout.specs.Table.{room_of}
use Rattle.reading.specs.Answer.{Answer}
use Rattle.reading.specs.File.{Loaded}
use Rattle.pack_layout.specs.Pack.{plain}
use Rattle.pack_reading.specs.Pack.{Pack, refusal, accepted, pack_of, table_for}
use Rattle.pack_figures.specs.Figures.{Figure, files, loaded, text_bytes, image_bytes, refusals, rows, of_pack, season, split}

-- ---- The words of a report

-- which figure a word holds: 0 files, 1 files accepted, 2 text bytes, 3 image bytes, 4 + n the refusals of number n below 64, 68 + k the rows of kind k
unfoldable pub figure_at : (word : ℕ) → Figure
figure_at zero = files
figure_at (suc zero) = loaded
figure_at (suc (suc zero)) = text_bytes
figure_at (suc (suc (suc zero))) = image_bytes
figure_at (suc (suc (suc (suc i)))) = cond (ltb i 64) (refusals i) (rows (i - 64))

-- so many words from one on
unfoldable pub words_from : (from n : ℕ) → (Figure → ℕ) → List ℕ
words_from from zero g = []
words_from from (suc n) g = g (figure_at from) ∷ words_from (suc from) n g

-- a report has 132 words, so refusals and kinds are counted to 63
abbrev pub report : (Figure → ℕ) → List ℕ
report g = words_from 0 132 g

-- ---- Adding words to words, whatever they are

-- two reports word by word; a word without a partner stays
unfoldable pub sums : (a b : List ℕ) → List ℕ
sums [] b = []
sums (x ∷ a) [] = x ∷ a
sums (x ∷ a) (y ∷ b) = (x + y) ∷ sums a b

-- no sum passes 2 to the 64 less 1
unfoldable pub fits : (a b : List ℕ) → Bool
fits [] b = true
fits (x ∷ a) [] = true
fits (x ∷ a) (y ∷ b) = ltb (x + y) (2 ^ 64) && fits a b

-- a refusal's number and place, or the report's words with those of another added
pub data Added : Type 0 where
  unchanged : (number place : ℕ) → Added
  added : List ℕ → Added

-- Req 14: "71 at 0 when a figure would pass 2 to the 64 less 1"
unfoldable pub sum_of : (a b : List ℕ) → Added
sum_of a b = cond (fits a b) (added (sums a b)) (unchanged 71 0)

-- what the report then holds: Req 14, "A refused pack changes no figure"
unfoldable pub left : Added → (report : List ℕ) → List ℕ
left (unchanged number place) r = r
left (added s) r = s

-- ---- Adding a pack

module _ (opened : List ℕ → Answer Loaded) where
  unfoldable pub by_pack : Pack → (report : List ℕ) → Added
  by_pack (refusal number place) r = unchanged number place
  by_pack (accepted fs) r = sum_of r (report (of_pack opened (accepted fs)))

  -- Req 14: "72 at 0, first, for a lent row table without that room; those of the pack's reader; then 71 at 0 when a figure would pass 2 to the 64 less 1"
  unfoldable pub add_of : (row_words pack_words : ℕ) (report pack : List ℕ) → Added
  add_of row_words pack_words r pack = cond (leb 65536 (room_of row_words)) (by_pack (pack_of plain pack pack_words) r) (unchanged 72 0)

-- Req 14: "the pack table as by its reader, zero after 71 and 72"; its reader leaves zeros after a refusal of its own
unfoldable pub table_left : Added → (pack_words : ℕ) (pack : List ℕ) → List ℕ
table_left (unchanged number place) pack_words pack = replicate pack_words 0
table_left (added s) pack_words pack = table_for plain pack pack_words

-- ---- What a report carried over a list of packs holds

words-alike : (from n : ℕ) (g h : Figure → ℕ) → ((f : Figure) → g f ≡ h f) → words_from from n g ≡ words_from from n h
unfolding words_from
words-alike from zero g h e = refl
words-alike from (suc n) g h e = rw (e (figure_at from), words-alike (suc from) n g h e)

pub alike : {g h : Figure → ℕ} → ((f : Figure) → g f ≡ h f) → report g ≡ report h
alike {g} {h} e = words-alike 0 132 g h e

sums-words : (from n : ℕ) (g h : Figure → ℕ) → sums (words_from from n g) (words_from from n h) ≡ words_from from n (λ f. g f + h f)
unfolding sums words_from
sums-words from zero g h = refl
sums-words from (suc n) g h = ap (λ (l : List ℕ). (g (figure_at from) + h (figure_at from)) ∷ l) (sums-words (suc from) n g h)

module _ (opened : List ℕ → Answer Loaded) (pack_words : ℕ) where
  -- the report of a list of packs
  abbrev pub report_of : (packs : List (List ℕ)) → List ℕ
  report_of packs = report (season opened pack_words packs)

  carried : (seen : List (List ℕ)) (pack : List ℕ) (f : Figure)
      → season opened pack_words seen f + of_pack opened (pack_of plain pack pack_words) f ≡ season opened pack_words (seen ++ (pack ∷ [])) f
  unfolding season
  carried seen pack f = omega (arith, split opened pack_words seen (pack ∷ []) f)

  -- the sum of two runs' reports is the report of both lists: Req 14, "the same however the list is split between two runs whose reports are added"
  pub runs_added : (packs more : List (List ℕ)) → sums (report_of packs) (report_of more) ≡ report_of (packs ++ more)
  runs_added packs more =
      sums-words 0 132 (season opened pack_words packs) (season opened pack_words more) ∙ alike (λ f. sym (split opened pack_words packs more f))

  -- a pack that is added, or refused by its reader, carries the report of the packs seen on, "no 71 or 72 met"
  pub adds : (row_words : ℕ) (seen : List (List ℕ)) (pack : List ℕ)
      → ((n p : ℕ) → add_of opened row_words pack_words (report_of seen) pack ≡ unchanged n p → ((n ≡ 71) → ⊥) × ((n ≡ 72) → ⊥))
      → left (add_of opened row_words pack_words (report_of seen) pack) (report_of seen) ≡ report_of (seen ++ (pack ∷ []))
  unfolding add_of by_pack sum_of left of_pack
  adds row_words seen pack unmet = by_room (leb 65536 (room_of row_words)) unmet where
    summed : (x : Pack) → pack_of plain pack pack_words ≡ x → (b : Bool)
        → ((n p : ℕ) → cond b (added (sums (report_of seen) (report (of_pack opened x)))) (unchanged 71 0) ≡ unchanged n p → ((n ≡ 71) → ⊥) × ((n ≡ 72) → ⊥))
        → left (cond b (added (sums (report_of seen) (report (of_pack opened x)))) (unchanged 71 0)) (report_of seen) ≡ report_of (seen ++ (pack ∷ []))
    summed x e true n = sums-words 0 132 (season opened pack_words seen) (of_pack opened x) ∙ alike (λ f. rw (← e) (carried seen pack f))
    summed x e false n = absurd ((n 71 0 refl).0 refl)

    nothing_new : {s t : ℕ} → s + 0 ≡ t → s ≡ t
    nothing_new e = omega arith

    by : (x : Pack) → pack_of plain pack pack_words ≡ x → ((n p : ℕ) → by_pack opened x (report_of seen) ≡ unchanged n p → ((n ≡ 71) → ⊥) × ((n ≡ 72) → ⊥))
        → left (by_pack opened x (report_of seen)) (report_of seen) ≡ report_of (seen ++ (pack ∷ []))
    by (refusal number place) e n = alike (λ f. nothing_new (rw e at (carried seen pack f)))
    by (accepted fs) e n = summed (accepted fs) e (fits (report_of seen) (report (of_pack opened (accepted fs)))) n

    by_room : (b : Bool)
        → ((n p : ℕ) → cond b (by_pack opened (pack_of plain pack pack_words) (report_of seen)) (unchanged 72 0) ≡ unchanged n p → ((n ≡ 71) → ⊥) × ((n ≡ 72) → ⊥))
        → left (cond b (by_pack opened (pack_of plain pack pack_words) (report_of seen)) (unchanged 72 0)) (report_of seen) ≡ report_of (seen ++ (pack ∷ []))
    by_room true n = by (pack_of plain pack pack_words) refl n
    by_room false n = absurd ((n 72 0 refl).1 refl)
