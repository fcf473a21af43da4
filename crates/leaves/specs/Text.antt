-- How many own bytes a head has, and the two parts of reading a text. Assumes nothing.
use Rattle.std.specs.Prelude.{◌≡◌, true, false, List, ℕ, ◌+◌, leb, length, take, drop}
use Rattle.std.proofs.Math.Seq.{length-take-le}
use borrow.Author.Tests.{leb-true, eq-eqb, ne_eqb}
use Rattle.layout.specs.Slot.{stop, level}
use Rattle.reading.specs.Answer.{Answer, refused, read, bind, check}
use Rattle.reading.specs.Reads.{some, field}
use Rattle.reading.specs.Seven.{seven_at}
use Rattle.reading.specs.Little.{little_at}
use Rattle.reading.specs.Utf8.{utf8s}
use Rattle.reading.specs.Fixed.{sized}
use Rattle.reading.specs.Heads.{Opening, text_at, leaf_at}
use Rattle.numbers.specs.Padded.{pad_of, beside}

-- how many own bytes were read, and not which
unfoldable pub own_size : Answer Opening → Answer ℕ
own_size (refused n p) = refused n p
own_size (read o e) = read (length o.0) e

-- a text's n bytes at `start`, behind the count at `at`
abbrev pub text_bytes : List ℕ → (at n start : ℕ) → Answer Opening
text_bytes file at n start = field file (some file n at) utf8s (λ own. (own, stop)) at start

module _ (file : List ℕ) (at n start padding : ℕ) where
  pub text-missing : leb n (length (drop start file)) ≡ false → refused 1 at ≡ beside padding (own_size (text_bytes file at n start))
  unfolding own_size field some check bind
  text-missing t = rw t

  pub text-broken : leb n (length (drop start file)) ≡ true → utf8s (take n (drop start file)) ≡ false → refused 15 at ≡ beside padding (own_size (text_bytes file at n start))
  unfolding own_size field some check bind
  text-broken t u = rw (t, u)

  pub text_there : leb n (length (drop start file)) ≡ true → utf8s (take n (drop start file)) ≡ true → read (n, padding) (start + n) ≡ beside padding (own_size (text_bytes file at n start))
  unfolding own_size field some check bind
  text_there t u = rw (t, u, length-take-le n (drop start file) (leb-true n (length (drop start file)) t))

pub text-counted : (file : List ℕ) (at : ℕ) {n start padding : ℕ} → seven_at file at ≡ read n start → padding ≡ pad_of (seven_at file at) at
    → beside padding (own_size (text_bytes file at n start)) ≡ beside (pad_of (seven_at file at) at) (own_size (text_at file at))
unfolding text_at bind
text-counted file at e q = rw (q, e)

pub text-refused : (file : List ℕ) (at : ℕ) {n p : ℕ} → seven_at file at ≡ refused n p → refused n p ≡ beside (pad_of (seven_at file at) at) (own_size (text_at file at))
unfolding text_at bind own_size
text-refused file at e = rw e

-- an image level, by its size field
module _ (file : List ℕ) (z at : ℕ) where
  pub level-refused : {n p : ℕ} → little_at file 4 at at ≡ refused n p → refused n p ≡ sized (leaf_at file (level z) at)
  unfolding leaf_at bind sized
  level-refused e = rw e

  module _ (n start : ℕ) (q : little_at file 4 at at ≡ read n start) where
    pub level_other : (n ≡ z → ⊥) → refused 15 at ≡ sized (leaf_at file (level z) at)
    unfolding leaf_at bind sized check
    level_other h = rw (q, ne_eqb n z h)

    pub level-missing : n ≡ z → leb n (length (drop start file)) ≡ false → refused 1 at ≡ sized (leaf_at file (level z) at)
    unfolding leaf_at bind sized check some
    level-missing h t = rw (q, eq-eqb n z h, t)

    pub level_there : n ≡ z → leb n (length (drop start file)) ≡ true → read n (start + n) ≡ sized (leaf_at file (level z) at)
    unfolding leaf_at bind sized check some
    level_there h t = rw (q, eq-eqb n z h, t, length-take-le n (drop start file) (leb-true n (length (drop start file)) t))
