-- Laws of the font rule over the words. Assumes nothing.
use Rattle.std.proofs.Common.{◌≡◌, ℕ, zero, suc, ◌-◌, ◌<◌, ◌≤◌, Bool, true, false, not, ◌&&◌, List, refl, arith, le-ltb, lt-ltb}
use Rattle.laws.specs.Small.{differ}
use Rattle.reading.specs.Answer.{Answer}
use Rattle.reading.specs.Utf8.{char_at}
use Rattle.reading.specs.Walk.{value_or}
use Rattle.table.specs.declared.Grid.{Grid}
use Rattle.fonts.specs.FontWords.{beyond, word_at, code_at, next_above, rising_rows}

-- a test that failed, and one that passed
pub no : {a r : Bool} (rest : Bool) → r ≡ a → not r ≡ true → false ≡ (a && rest)
no {r = true} rest e t = differ cc
no {r = false} rest e t = rw (← e)

pub yes : {a r x rest : Bool} → r ≡ a → not r ≡ false → x ≡ rest → x ≡ (a && rest)
yes {r = true} e t q = rw (← e) q
yes {r = false} e t q = differ cc

module _ (g : Grid) (file words : List ℕ) where
  -- one character does not fall
  pub few_rise : (n row : ℕ) → n ≤ 1 → rising_rows g file words n row ≡ true
  unfolding rising_rows next_above
  few_rise zero row h = refl
  few_rise (suc zero) row h = refl
  few_rise (suc (suc n)) row h = absurd (omega arith)

  -- the second of some characters is above the first
  pub step_up : (n row : ℕ) → 1 < n → code_at g file words row < code_at g file words (beyond row 1) → rising_rows g file words n row ≡ rising_rows g file words (n - 1) (beyond row 1)
  unfolding rising_rows next_above
  step_up zero row h l = absurd (omega arith)
  step_up (suc zero) row h l = absurd (omega arith)
  step_up (suc (suc n)) row h l =
      let m : suc (suc n) - 1 ≡ suc n = omega arith in
      rw (m, lt-ltb (code_at g file words row) (code_at g file words (beyond row 1)) l)

  -- the second of some characters is not above the first
  pub no_step : (n row : ℕ) → 1 < n → code_at g file words (beyond row 1) ≤ code_at g file words row → rising_rows g file words n row ≡ false
  unfolding rising_rows next_above
  no_step zero row h l = absurd (omega arith)
  no_step (suc zero) row h l = absurd (omega arith)
  no_step (suc (suc n)) row h l = rw (le-ltb (code_at g file words row) (code_at g file words (beyond row 1)) l)

  -- the character that was read at a row's first byte
  pub code_of : {first : ℕ} (row : ℕ) {x : Answer ℕ} → x ≡ char_at file first → first ≡ word_at g words row 1 → value_or x ≡ code_at g file words row
  unfolding code_at
  code_of row e f = rw (← f, e)
