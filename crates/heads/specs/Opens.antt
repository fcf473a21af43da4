-- What opening a value answers in code, and the layout's head that it is. Assumes nothing.
use Rattle.std.specs.Prelude.{◌≡◌, Result, Ok, Err, ℕ, ◌<◌, max, List, ◌++◌, nat_le, slice_index}
use Rattle.layout.specs.Number.{little}
use Rattle.layout.specs.Target.{Target, fixed, char, string, enum}
use Rattle.layout.specs.EnumList.{EnumSize}
use Rattle.layout.specs.Image.{levels, digits}
use Rattle.layout.specs.Fixed.{sizes}
use Rattle.layout.specs.Slot.{stop, each, leaves}
use Rattle.reading.specs.Answer.{Answer, refused, read, bind, check}
use Rattle.reading.specs.Little.{little_at}
use Rattle.reading.specs.Heads.{Opening}
use Rattle.heads.specs.declared.nest.Below.{Below}
use Rattle.heads.specs.declared.open.Opened.{Opened}
use Rattle.answers.specs.declared.Refusal.{Refusal}
use Rattle.answers.specs.Refusals.{refusal}
use Rattle.heads.specs.Plans.{BelowPlan}

-- what opening a value answers: a head that ends before `next`, or a refusal
abbrev pub Headed : Type 0
Headed = Result Opened Refusal

abbrev pub headed : (next : ℕ) → Below → Headed
headed next below = Ok (record { next = next; below = below })

abbrev pub refusing : (number place : ℕ) → Headed
refusing number place = Err (refusal number place)

-- a head was read: where it ends, and what stands below it
pub record OpenIs (file codes : List ℕ) (o : Opening) (e : ℕ) (r : Headed) : Type 0 where
  pub below : Below
  pub is : r ≡ headed e below
  pub goes : BelowPlan file codes below o.1

abbrev pub Opens : (file codes : List ℕ) → Answer Opening → Headed → Type 0
Opens file codes (refused n p) r = r ≡ refusing n p
Opens file codes (read o e) r = OpenIs file codes o e r

-- nothing stands below
abbrev pub Stopping : Answer Opening → Type 0
Stopping x = (o : Opening) (e : ℕ) → x ≡ read o e → o.1 ≡ stop

-- the types without children
pub data Leafy : Target → Type 0 where
  of_fixed : {k : ℕ} → 0 < slice_index sizes k → Leafy (fixed k)
  of_enum : {name : List ℕ} {z : ℕ} → EnumSize z → Leafy (enum name z)
  of_char : Leafy char
  of_string : Leafy string

module _ (file : List ℕ) where
  -- a field of four bytes within bounds
  unfoldable pub ranged_at : (low high at : ℕ) → Answer ℕ
  ranged_at low high at = bind (little_at file 4 at at) (λ n e. check (nat_le low n) 15 at (check (nat_le n high) 15 at (read n e)))

  unfoldable pub levels_at : (format width height at : ℕ) → Answer Opening
  levels_at f w h at =
      bind (ranged_at 1 (digits 32 (max w h)) at) (λ n e. read (little 4 f ++ little 4 w ++ little 4 h, each (leaves (levels f w h n))) e)

  unfoldable pub height_at : (format width at : ℕ) → Answer Opening
  height_at f w at = bind (ranged_at 1 4096 at) (λ h e. levels_at f w h e)

  unfoldable pub width_at : (format at : ℕ) → Answer Opening
  width_at f at = bind (ranged_at 1 4096 at) (λ w e. height_at f w e)
