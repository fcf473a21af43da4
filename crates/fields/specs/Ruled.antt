-- Numbers that keep a rule, by the bytes that are read, and data bytes. Assumes nothing.
use Rattle.std.specs.Prelude.{◌≡◌, refl, Bool, true, false, List, ℕ, ◌+◌, leb, length, take, drop}
use Rattle.std.proofs.Common.{sym, ap, leb-true}
use Rattle.std.proofs.Math.Seq.{length-take-le}
use Rattle.layout.specs.Number.{value_of}
use Rattle.layout.specs.Slot.{Rule, Field, blob, numeric}
use Rattle.reading.specs.Answer.{Answer, refused, read, bind, check}
use Rattle.reading.specs.Reads.{some, field}
use Rattle.reading.specs.Little.{little_at}
use Rattle.reading.specs.Fixed.{sized}
use Rattle.reading.specs.Heads.{keeps, leaf_at}

-- a number that was read, or refused, under a rule: how many bytes it has
abbrev pub ruled : Rule → (size at : ℕ) → Answer ℕ → Answer ℕ
ruled rule size at (refused n p) = refused n p
ruled rule size at (read n next) = check (keeps rule n) 15 at (read size next)

-- a leaf that is a number is that number under its rule
pub numeric-ruled : (file : List ℕ) (f : Field) (z : ℕ) (rule : Rule) (at : ℕ) → ruled rule z at (little_at file z at at) ≡ sized (leaf_at file (numeric f z rule) at)
unfolding leaf_at little_at field some bind check sized
numeric-ruled file f z rule at = go (leb z (length (drop at file))) refl where
  judged : (b : Bool) → length (take z (drop at file)) ≡ z → check b 15 at (read z (at + z)) ≡ sized (check b 15 at (read (take z (drop at file)) (at + z)))
  judged true l = ap (λ (n : ℕ). read n (at + z)) (sym l)
  judged false l = refl

  go : (b : Bool) → leb z (length (drop at file)) ≡ b
      → ruled rule z at (bind (check b 1 at (read (take z (drop at file)) (at + z))) (λ bs e. read (value_of bs) e))
      ≡ sized (bind (check b 1 at (read (take z (drop at file)) (at + z))) (λ own e. check (keeps rule (value_of own)) 15 at (read own e)))
  go true e = judged (keeps rule (value_of (take z (drop at file)))) (length-take-le z (drop at file) (leb-true z (length (drop at file)) e))
  go false e = refl

module _ (file : List ℕ) (z at : ℕ) where
  pub data_missing : leb z (length (drop at file)) ≡ false → refused 1 at ≡ sized (leaf_at file (blob z) at)
  unfolding leaf_at some check sized
  data_missing t = rw t

  pub data_there : leb z (length (drop at file)) ≡ true → read z (at + z) ≡ sized (leaf_at file (blob z) at)
  unfolding leaf_at some check sized
  data_there t = rw (t, length-take-le z (drop at file) (leb-true z (length (drop at file)) t))
