-- How far the output is written while a file is rewritten number by number. Assumes nothing.
use Rattle.std.specs.Prelude.{◌≡◌, refl, Bool, false, ◌&&◌, List, [], ◌∷◌, ◌++◌, ℕ, ◌+◌, ◌-◌, ◌<◌, ◌≤◌, length, take, Option, Some, None}
use Rattle.std.proofs.Common.{sym, ap, ◌∙◌, append_assoc, arith, length-append, drop-drop, take_all, length-take-le}
use Rattle.std.proofs.Math.Bool.{true}
use Rattle.std.proofs.Math.Dec.{leb}
use Rattle.std.proofs.Math.ListN.{drop, length-drop}
use Rattle.std.proofs.Math.Seq.{drop-append_seam, take-append_seam}
use borrow.Author.Tests.{le-leb, leb-true}
use Rattle.laws.specs.Small.{differ}
use Rattle.layout.specs.Number.{little}
use Rattle.layout.specs.Text.{ascii}
use Rattle.layout.specs.File.{header}
use Rattle.layout.specs.Shortest.{shortest}
use Rattle.reading.specs.Answer.{read}
use Rattle.reading.specs.Seven.{seven_at}
use Rattle.numbers.specs.Shortest.{placed_at, written_at}
use Rattle.fill.specs.Fill.{inside, pasted, copied}
use Rattle.shortest.specs.File.{length-header}
use Rattle.numbers.specs.Padded.{number_of, past, pad_of}
use Rattle.reading.specs.Reads.{Small}
use Rattle.places.specs.Padding.{padding}
use Rattle.shortest.specs.Rewrites.{Rewrites, rest, anew, rewrites-padding, unpadded, none-padded}

-- The output, which was `base`, has its first `to` bytes written; the file is taken up to `from`. With the numbers at these places in their shortest forms it becomes `whole`, for which there is room.
pub record Pending (file base out : List ℕ) (from to : ℕ) (places whole : List ℕ) : Type 0 where
  pub done : List ℕ
  pub left : List ℕ
  pub long : length done ≡ to
  pub stands : out ≡ done ++ drop to base
  pub rewrites : Rewrites file from places left
  pub makes : done ++ left ≡ whole
  pub room : length whole ≤ length base

module _ (base done : List ℕ) (to : ℕ) (long : length done ≡ to) where
  -- a block put behind what is written
  put_behind : (block : List ℕ) (n : ℕ) → length block ≡ n
      → take to (done ++ drop to base) ++ block ++ drop (to + n) (done ++ drop to base) ≡ (done ++ block) ++ drop (to + n) base
  put_behind block n e =
      let a : take to (done ++ drop to base) ≡ done = rw (← long) (take-append_seam done (drop (length done) base)) in
      let b : drop (to + n) (done ++ drop to base) ≡ drop (to + n) base
      = sym (drop-drop n to (done ++ drop to base)) ∙ ap (drop n) (rw (← long) (drop-append_seam done (drop (length done) base))) ∙ drop-drop n to base in
      rw (a, b)

  same_length : to ≤ length base → length (done ++ drop to base) ≡ length base
  same_length h = omega (arith, length-append done (drop to base), length-drop to base)

  -- bytes of the file put there by a copy
  pub copy-puts : (file : List ℕ) (from n : ℕ) → to + n ≤ length base → from + n ≤ length file
      → (inside (done ++ drop to base) to file from n ≡ true) × (copied (done ++ drop to base) to file from n ≡ (done ++ take n (drop from file)) ++ drop (to + n) base)
  unfolding inside copied pasted
  copy-puts file from n h k =
      let l = same_length (omega arith) in
      let a : leb (to + n) (length (done ++ drop to base)) ≡ true = le-leb (to + n) (length (done ++ drop to base)) (omega arith) in
      let b : leb (from + n) (length file) ≡ true = le-leb (from + n) (length file) k in
      rw (a, b) (refl, put_behind (take n (drop from file)) n (length-take-le n (drop from file) (omega (arith, length-drop from file))))

  -- a number's shortest form put there
  pub number-puts : (v : ℕ) → to + length (shortest v) ≤ length base
      → (placed_at (done ++ drop to base) to v ≡ Some (to + length (shortest v))) × (written_at (done ++ drop to base) to v ≡ (done ++ shortest v) ++ drop (to + length (shortest v)) base)
  number-puts v h =
      let l = same_length (omega arith) in
      let a : leb (to + length (shortest v)) (length (done ++ drop to base)) ≡ true = le-leb (to + length (shortest v)) (length (done ++ drop to base)) (omega arith) in
      rw a (refl, put_behind (shortest v) (length (shortest v)) refl)

module _ (file base out : List ℕ) (from to : ℕ) (whole : List ℕ) where
  -- the next number is at `at`, of this value and end: what is between is copied, the number is written, and the rest is pending
  pub record Wrote (at value next : ℕ) (places : List ℕ) : Type 0 where
    pub ahead : from ≤ at
    pub copies : inside out to file from (at - from) ≡ true
    pub puts : placed_at (copied out to file from (at - from)) (to + (at - from)) value ≡ Some (to + (at - from) + length (shortest value))
    pub after : Pending file base (written_at (copied out to file from (at - from)) (to + (at - from)) value) next (to + (at - from) + length (shortest value)) places whole

  number_read : (at : ℕ) {n e : ℕ} → seven_at file at ≡ read n e → (number_of (seven_at file at) ≡ n) × (past (seven_at file at) at ≡ e)
  unfolding number_of past
  number_read at s = rw s (refl, refl)

  pub wrote : (at value next : ℕ) (places : List ℕ) → value ≡ number_of (seven_at file at) → next ≡ past (seven_at file at) at → Pending file base out from to (at ∷ places) whole → Wrote at value next places
  wrote at value next places ev en p = go p.left p.rewrites p.makes where
    go : (left : List ℕ) → Rewrites file from (at ∷ places) left → p.done ++ left ≡ whole → Wrote at value next places
    go left (anew {n = n} {next = e} {out = l} h s long in_file b r) m =
        let same = number_read at s in
        let v : value ≡ n = ev ∙ same.0 in
        let x : next ≡ e = en ∙ same.1 in
        let d = p.done in
        let gap = at - from in
        let between = take gap (drop from file) in
        let bl : length between ≡ gap = length-take-le gap (drop from file) (omega (arith, length-drop from file)) in
        let all : length whole ≡ to + (gap + (length (shortest n) + length l))
        = omega (arith, ap length m, p.long, length-append d (between ++ (shortest n ++ l)), length-append between (shortest n ++ l), length-append (shortest n) l) in
        let vl : length (shortest value) ≡ length (shortest n) = ap (λ (k : ℕ). length (shortest k)) v in
        let c = copy-puts base d to p.long file from gap (omega (arith, p.room)) (omega arith) in
        let dl : length (d ++ between) ≡ to + gap = omega (arith, p.long, length-append d between) in
        let w = number-puts base (d ++ between) (to + gap) dl value (omega (arith, p.room)) in
        let shape : (d ++ between) ++ shortest value ++ l ≡ whole
        = rw v (append_assoc (d ++ between) (shortest n) l ∙ append_assoc d between (shortest n ++ l) ∙ m) in
        record {
          ahead = h;
          copies = rw p.stands c.0;
          puts = rw (p.stands, c.1) w.0;
          after = record {
            done = (d ++ between) ++ shortest value;
            left = l;
            long = omega (arith, dl, length-append (d ++ between) (shortest value));
            stands = rw (p.stands, c.1) w.1;
            rewrites = rw x r;
            makes = shape;
            room = p.room;
          };
        }

  -- the same by what the calls answered and left
  module _ (at value next : ℕ) (places : List ℕ) (ev : value ≡ number_of (seven_at file at)) (en : next ≡ past (seven_at file at) at) (p : Pending file base out from to (at ∷ places) whole) where
    pub not_behind : at < from → ⊥
    not_behind h = omega (arith, (wrote at value next places ev en p).ahead)

    pub not_copied : false ≡ inside out to file from (at - from) → ⊥
    not_copied e = let q : false ≡ true = e ∙ (wrote at value next places ev en p).copies in differ cc

    pub has_room : {mid : List ℕ} {r : Option ℕ} → mid ≡ copied out to file from (at - from) → r ≡ placed_at mid (to + (at - from)) value → r ≡ None → ⊥
    has_room {mid} {r} c e n =
        let w = wrote at value next places ev en p in
        let q : None ≡ Some (to + (at - from) + length (shortest value)) = sym n ∙ rw c at e ∙ w.puts in
        differ cc

    pub number-written : {mid exit : List ℕ} {r : Option ℕ} {end : ℕ} → mid ≡ copied out to file from (at - from) → r ≡ placed_at mid (to + (at - from)) value → exit ≡ written_at mid (to + (at - from)) value
        → r ≡ Some end → Pending file base exit next end places whole
    number-written {mid} {exit} {r} {end} c e x n =
        let w = wrote at value next places ev en p in
        let q : Some end ≡ Some (to + (at - from) + length (shortest value)) = sym n ∙ rw c at e ∙ w.puts in
        let z : end ≡ to + (at - from) + length (shortest value) = cc in
        let y : exit ≡ written_at (copied out to file from (at - from)) (to + (at - from)) value = rw c at x in
        rw (y, z) w.after

  -- no number is left: the rest of the file is copied
  pub rest-copied : Pending file base out from to [] whole → (from ≤ length file) × (copied out to file from (length file - from) ≡ whole ++ drop (length whole) base)
  rest-copied p = go p.left p.rewrites p.makes where
    go : (left : List ℕ) → Rewrites file from [] left → p.done ++ left ≡ whole → (from ≤ length file) × (copied out to file from (length file - from) ≡ whole ++ drop (length whole) base)
    go left (rest h) m =
        let n = length file - from in
        let d = p.done in
        let t : take n (drop from file) ≡ drop from file = take_all n (drop from file) (omega (arith, length-drop from file)) in
        let all : length whole ≡ to + n = omega (arith, ap length m, p.long, length-append d (drop from file), length-drop from file) in
        let c = copy-puts base d to p.long file from n (omega (arith, p.room)) (omega arith) in
        (h, rw (p.stands, c.1, t, m, all))

-- a number that has no padding is left to be copied with what stands around it
pub passed_over : (file base out : List ℕ) (from to : ℕ) (places whole : List ℕ) {at : ℕ} → Small file → pad_of (seven_at file at) at ≡ 0 → Pending file base out from to (at ∷ places) whole → Pending file base out from to places whole
passed_over file base out from to places whole small z p =
    record { done = p.done; left = p.left; long = p.long; stands = p.stands; rewrites = unpadded file small z p.rewrites; makes = p.makes; room = p.room }

-- all bytes are saved that can be: the numbers that are left have no padding
pub all_saved : (file base out : List ℕ) (from to total : ℕ) (places whole : List ℕ) → Small file → length file ≡ length whole + total → to + total ≤ from
    → Pending file base out from to places whole → Pending file base out from to [] whole
all_saved file base out from to total places whole small n t p =
    let l : length whole ≡ to + length p.left = omega (arith, ap length p.makes, length-append p.done p.left, p.long) in
    let z : padding file places ≡ 0 = omega (arith, rewrites-padding file p.rewrites) in
    record { done = p.done; left = p.left; long = p.long; stands = p.stands; rewrites = none-padded file small places z p.rewrites; makes = p.makes; room = p.room }

-- a copy that was made had its ranges inside
pub copy-inside : (out : List ℕ) (to : ℕ) (file : List ℕ) (from n : ℕ) → true ≡ inside out to file from n → to + n ≤ length out
unfolding inside
copy-inside out to file from n e = leb-true (to + n) (length out) (and_left (leb (to + n) (length out)) (leb (from + n) (length file)) (sym e)) where
  and_left : (a b : Bool) → (a && b) ≡ true → a ≡ true
  and_left true b q = refl
  and_left false b q = q

-- four bytes of the header stored anew: a header with another length
unfoldable pub LengthPut : (n : ℕ) (entry exit : List ℕ) → Type 0
LengthPut n entry exit = (platform flags old : ℕ) (behind : List ℕ) → entry ≡ header platform flags old ++ behind → exit ≡ header platform flags n ++ behind

-- the bytes of a number put there
pub length-put : (n : ℕ) (entry exit : List ℕ) → exit ≡ copied entry 6 (little 4 n) 0 4 → LengthPut n entry exit
unfolding LengthPut header ascii little copied inside pasted
length-put n entry exit w platform flags old behind e =
    let all = header platform flags old ++ behind in
    let t : leb (6 + 4) (length all) ≡ true = le-leb (6 + 4) (length all) (omega (arith, length-append (header platform flags old) behind, length-header platform flags old)) in
    w ∙ rw (e, t) refl
