-- Words that are raised, up to the largest number that a word holds. Assumes nothing.
use Rattle.std.specs.Prelude.{◌≡◌, refl, Bool, true, false, cond, List, [], ◌∷◌, ℕ, zero, suc, ◌+◌, ◌-◌, ◌≤◌, ◌<◌, ◌^◌, eqb, leb, length, get_or, set, replicate, min}
use Rattle.std.proofs.Common.{sym, ap, ◌∙◌, arith, le-leb, leb-true, leb-false, eq-eqb, ne_eqb}
use Rattle.std.proofs.lemmas.Bool.{lt-leb}
use Rattle.pack_figures.specs.Figures.{Figure}
use Rattle.pack_figures.specs.Report.{figure_at, words_from, report}

-- a word raised by a number, to 2 to the 64 less 1 at most
unfoldable pub up_to : (word by : ℕ) → ℕ
up_to word by = cond (leb by (2 ^ 64 - 1 - word)) (word + by) (2 ^ 64 - 1)

-- words raised, each by what its number says
unfoldable pub raised : (from : ℕ) → (ℕ → ℕ) → List ℕ → List ℕ
raised from h [] = []
raised from h (x ∷ l) = up_to x (h from) ∷ raised (suc from) h l

-- the words of a report raised by figures
abbrev pub counted : (Figure → ℕ) → List ℕ → List ℕ
counted g l = raised 0 (λ i. g (figure_at i)) l

-- a number for one word, and 0 for the others
unfoldable pub only : (at by : ℕ) → ℕ → ℕ
only at by i = cond (eqb i at) by 0

-- ---- Laws

up_none : (x : ℕ) → up_to x 0 ≡ x
unfolding up_to
up_none x = rw (le-leb 0 (2 ^ 64 - 1 - x) (omega arith)) (omega arith)

up_twice : (x a b : ℕ) → up_to (up_to x a) b ≡ up_to x (a + b)
unfolding up_to
up_twice x a b = go (leb a (2 ^ 64 - 1 - x)) refl where
  full : (b : ℕ) → cond (leb b (2 ^ 64 - 1 - (2 ^ 64 - 1))) (2 ^ 64 - 1 + b) (2 ^ 64 - 1) ≡ 2 ^ 64 - 1
  full zero = refl
  full (suc b) = rw (lt-leb (suc b) (2 ^ 64 - 1 - (2 ^ 64 - 1)) (omega arith))

  fit : a ≤ 2 ^ 64 - 1 - x → (t : Bool) → leb b (2 ^ 64 - 1 - (x + a)) ≡ t → cond t (x + a + b) (2 ^ 64 - 1) ≡ cond (leb (a + b) (2 ^ 64 - 1 - x)) (x + (a + b)) (2 ^ 64 - 1)
  fit h true e = let l = leb-true b (2 ^ 64 - 1 - (x + a)) e in rw (le-leb (a + b) (2 ^ 64 - 1 - x) (omega arith)) (omega arith)
  fit h false e = let l = leb-false b (2 ^ 64 - 1 - (x + a)) e in rw (lt-leb (a + b) (2 ^ 64 - 1 - x) (omega arith))

  go : (t : Bool) → leb a (2 ^ 64 - 1 - x) ≡ t
      → cond (leb b (2 ^ 64 - 1 - cond t (x + a) (2 ^ 64 - 1))) (cond t (x + a) (2 ^ 64 - 1) + b) (2 ^ 64 - 1) ≡ cond (leb (a + b) (2 ^ 64 - 1 - x)) (x + (a + b)) (2 ^ 64 - 1)
  go true e = fit (leb-true a (2 ^ 64 - 1 - x) e) (leb b (2 ^ 64 - 1 - (x + a))) refl
  go false e = let l = leb-false a (2 ^ 64 - 1 - x) e in full b ∙ sym (rw (lt-leb (a + b) (2 ^ 64 - 1 - x) (omega arith)))

pub raised-alike : (from : ℕ) (g h : ℕ → ℕ) → ((i : ℕ) → g i ≡ h i) → (l : List ℕ) → raised from g l ≡ raised from h l
unfolding raised
raised-alike from g h e [] = refl
raised-alike from g h e (x ∷ l) = rw (e from, raised-alike (suc from) g h e l)

raised_by_none : (from : ℕ) (h : ℕ → ℕ) → ((i : ℕ) → h i ≡ 0) → (l : List ℕ) → raised from h l ≡ l
unfolding raised
raised_by_none from h e [] = refl
raised_by_none from h e (x ∷ l) = rw (e from, up_none x, raised_by_none (suc from) h e l)

raised_twice : (from : ℕ) (g h : ℕ → ℕ) (l : List ℕ) → raised from h (raised from g l) ≡ raised from (λ i. g i + h i) l
unfolding raised
raised_twice from g h [] = refl
raised_twice from g h (x ∷ l) = rw (up_twice x (g from) (h from), raised_twice (suc from) g h l)

pub counted-alike : (g h : Figure → ℕ) → ((f : Figure) → g f ≡ h f) → (l : List ℕ) → counted g l ≡ counted h l
counted-alike g h e l = raised-alike 0 _ _ (λ i. e (figure_at i)) l

pub counted_none : (l : List ℕ) → l ≡ counted (λ f. 0) l
counted_none l = sym (raised_by_none 0 (λ i. 0) (λ i. refl) l)

-- figures after figures
pub counted_twice : (g h : Figure → ℕ) (l : List ℕ) → counted h (counted g l) ≡ counted (λ f. g f + h f) l
counted_twice g h l = raised_twice 0 (λ i. g (figure_at i)) (λ i. h (figure_at i)) l

pub raises_twice : (g h : ℕ → ℕ) (l : List ℕ) → raised 0 h (raised 0 g l) ≡ raised 0 (λ i. g i + h i) l
raises_twice g h l = raised_twice 0 g h l

-- ---- One word

above : (from at by : ℕ) → at < from → (l : List ℕ) → raised from (only at by) l ≡ l
unfolding raised only
above from at by h [] = refl
above from at by h (x ∷ l) = rw (ne_eqb from at (λ e. omega arith), up_none x, above (suc from) at by (omega arith) l)

set_from : (from k by : ℕ) (l : List ℕ) → k < length l → set l k (up_to (get_or l k 0) by) ≡ raised from (only (from + k) by) l
unfolding raised only
set_from from k by [] h = absurd (omega arith)
set_from from zero by (x ∷ l) h =
    let z : from + 0 ≡ from = omega arith in
    rw (z, eq-eqb from from refl, above (suc from) from by (omega arith) l)
set_from from (suc k) by (x ∷ l) h =
    let z : from + suc k ≡ suc from + k = omega arith in
    rw (z, ne_eqb from (suc from + k) (λ e. omega arith), up_none x) (ap (λ (m : List ℕ). x ∷ m) (set_from (suc from) k by l (omega arith)))

pub set_word : (at by : ℕ) (l : List ℕ) → at < length l → set l at (up_to (get_or l at 0) by) ≡ raised 0 (only at by) l
set_word at by l h = let z : 0 + at ≡ at = omega arith in rw z at (set_from 0 at by l h)

past_from : (from at by : ℕ) (l : List ℕ) → from + length l ≤ at → l ≡ raised from (only at by) l
unfolding raised only
past_from from at by [] h = refl
past_from from at by (x ∷ l) h = rw (ne_eqb from at (λ e. omega arith), up_none x) (ap (λ (m : List ℕ). x ∷ m) (past_from (suc from) at by l (omega arith)))

pub past_word : (at by : ℕ) (l : List ℕ) → length l ≤ at → l ≡ raised 0 (only at by) l
past_word at by l h = past_from 0 at by l (omega arith)

-- a sum that is held at the largest word
pub held : (x by : ℕ) → x < 2 ^ 64 → min (x + by) (2 ^ 64 - 1) ≡ up_to x by
unfolding up_to
held x by h = go (leb by (2 ^ 64 - 1 - x)) refl where
  go : (t : Bool) → leb by (2 ^ 64 - 1 - x) ≡ t → min (x + by) (2 ^ 64 - 1) ≡ cond t (x + by) (2 ^ 64 - 1)
  go true e = let l = leb-true by (2 ^ 64 - 1 - x) e in omega arith
  go false e = let l = leb-false by (2 ^ 64 - 1 - x) e in omega arith

-- ---- From zeros

up_zero : (n : ℕ) → n < 2 ^ 64 → up_to 0 n ≡ n
unfolding up_to
up_zero n h = rw (le-leb n (2 ^ 64 - 1 - 0) (omega arith)) (omega arith)

zeros_from : (from n : ℕ) (g : Figure → ℕ) → ((f : Figure) → g f < 2 ^ 64) → raised from (λ i. g (figure_at i)) (replicate n 0) ≡ words_from from n g
unfolding raised words_from
zeros_from from zero g h = refl
zeros_from from (suc n) g h = rw (up_zero (g (figure_at from)) (h (figure_at from)), zeros_from (suc from) n g h)

-- figures that words hold, counted from zeros on, are a report
pub counted-report : (g : Figure → ℕ) → ((f : Figure) → g f < 2 ^ 64) → counted g (replicate 132 0) ≡ report g
counted-report g h = zeros_from 0 132 g h
