-- Loops over bytes: how far a class goes, and whether a text stands there. Assumes nothing.
use mathlib.Core.Path.{◌≡◌, refl, sym, ap, ◌∙◌}
use mathlib.Core.Bool.{Bool, true, false, not, ◌&&◌, ◌||◌, cond, and_assoc}
use mathlib.Core.List.{List, [], ◌∷◌, ◌++◌}
use Prim.Native.Nat.{ℕ, suc, ◌+◌, ◌-◌, ◌≤◌, ◌<◌}
use native.Mathlib.Omega.{arith}
use lib.Dec.{eqb}
use lib.ListN.{length, take, drop, get_or, length-drop, length-append, take-append-drop, drop_of_length-le}
use lib.Seq.{drop-cons, take_all, take-suc, length-take-le}
use Rattle.std.specs.List.{prefix_len, zip}
use Rattle.std.specs.Cmp.Lexicographic.{pointwise}
use borrow.Author.Tests.{eq-eqb, ne_eqb}
use Rattle.laws.specs.Small.{neither}
use Rattle.layout.specs.Text.{ascii}
use Prim.Native.Char.{code}
use Rattle.layout.specs.Name.{none, some, tail_byte, all}
use Rattle.names.specs.Parse.{span, starts, common, tail_size, tail_of}
use Rattle.answers.specs.declared.Rule.{Rule}
use Rattle.answers.specs.declared.Rule.TheVariants.{TailByte, ArgumentBrackets}
use Rattle.names.specs.Contract.{rule_by, rule_behind}
use Rattle.names.specs.Common.{common-none, common-fits, starts-longer}
use Rattle.names.specs.Sound.{starts_is, span_le}
use Rattle.names.specs.Complete.{span-past}

-- the list from i on, where there is an i-th
pub cons_at : (s : List ℕ) (i : ℕ) → i < length s → drop i s ≡ get_or s i 0 ∷ drop (i + 1) s
cons_at s i h = drop-cons s i 0 h ∙ ap (λ (k : ℕ). get_or s i 0 ∷ drop k s) (let q : suc i ≡ i + 1 = omega arith in q)

span_no : (p : ℕ → Bool) (b : ℕ) (s : List ℕ) → p b ≡ false → span p (b ∷ s) ≡ 0
unfolding span
span_no p b s e = rw (e, span)

span_yes : (p : ℕ → Bool) (b : ℕ) (s : List ℕ) → p b ≡ true → span p (b ∷ s) ≡ suc (span p s)
unfolding span
span_yes p b s e = rw (e, span)

-- a run as the library counts it
pub span_is_prefix : (p : ℕ → Bool) (s : List ℕ) → prefix_len p s ≡ span p s
unfolding span
span_is_prefix p [] = refl
span_is_prefix p (b ∷ s) = ap (λ (k : ℕ). cond (p b) k 0) (omega (arith, span_is_prefix p s))

module _ (p : ℕ → Bool) (s : List ℕ) (i : ℕ) where
  pub span-start : span p s ≡ 0 + span p (drop 0 s)
  span-start = omega arith

  pub span-end : length s ≤ i → span p s ≡ i + span p (drop i s) → i ≡ span p s
  unfolding span
  span-end h e =
      let d : drop i s ≡ [] = drop_of_length-le s h in
      omega (arith, rw d at e)

  pub span-stop : i < length s → p (get_or s i 0) ≡ false → span p s ≡ i + span p (drop i s) → i ≡ span p s
  span-stop h b e =
      let z : span p (drop i s) ≡ 0 = ap (span p) (cons_at s i h) ∙ span_no p (get_or s i 0) (drop (i + 1) s) b in
      omega arith

  pub span-step : i < length s → p (get_or s i 0) ≡ true → span p s ≡ i + span p (drop i s) → span p s ≡ i + 1 + span p (drop (i + 1) s)
  span-step h b e =
      let z : span p (drop i s) ≡ suc (span p (drop (i + 1) s)) = ap (span p) (cons_at s i h) ∙ span_yes p (get_or s i 0) (drop (i + 1) s) b in
      omega arith

-- a block of n bytes at the front
pub span_block : (p : ℕ → Bool) (s : List ℕ) (n : ℕ) → n ≤ length s → all p (take n s) ≡ true → span p s ≡ n + span p (drop n s)
span_block p s n h b =
    let z = ap (span p) (sym (take-append-drop n s)) ∙ span-past p (take n s) (drop n s) b in
    omega (arith, z, length-take-le n s h)

all_join : (p : ℕ → Bool) (s t : List ℕ) → all p (s ++ t) ≡ (all p s && all p t)
unfolding all
all_join p [] t = refl
all_join p (b ∷ s) t = rw (all_join p s t) (sym (and_assoc (p b) (all p s) (all p t)))

-- whether one of some bytes is not of the class, with one byte more
pub other_step : (p : ℕ → Bool) (s : List ℕ) (i : ℕ) (other : Bool) → i < length s → other ≡ not (all p (take i s)) → (other || not (p (get_or s i 0))) ≡ not (all p (take (i + 1) s))
unfolding all
other_step p s i other h e =
    let q : i + 1 ≡ suc i = omega arith in
    rw (e, q, take-suc s i 0 h, all_join p (take i s) (get_or s i 0 ∷ [])) (go (all p (take i s)) (p (get_or s i 0))) where
      go : (x y : Bool) → (not x || not y) ≡ not (x && (y && true))
      go true true = refl
      go true false = refl
      go false y = refl

-- the pairs of two texts that are equal, as the library counts them
pub common_is_prefix : (t s : List ℕ) → prefix_len (λ p. eqb p.0 p.1) (zip t s) ≡ common t s
unfolding common
common_is_prefix [] s = refl
common_is_prefix (a ∷ t) [] = refl
common_is_prefix (a ∷ t) (b ∷ s) = ap (λ (k : ℕ). cond (eqb a b) k 0) (omega (arith, common_is_prefix t s))

-- a text that stands first, as the library tests it
pub starts_are : (t s : List ℕ) → pointwise eqb t (take (length t) s) ≡ starts t s
unfolding starts
starts_are [] s = refl
starts_are (a ∷ t) [] = refl
starts_are (a ∷ t) (b ∷ s) = rw (starts_are t s)

-- none of a text stands behind the end
pub common-past : (t s : List ℕ) (at : ℕ) → length s ≤ at → 0 ≡ common t (drop at s)
common-past t s at h = sym (ap (common t) (drop_of_length-le s h) ∙ common-none t)

-- `&s[a..]` as the borrow checker has it
pub rest : (s : List ℕ) (a : ℕ) → take (length s - a) (drop a s) ≡ drop a s
rest s a = take_all (length s - a) (drop a s) (omega (arith, length-drop a s))

-- a run, as far as it is known and then from there on
pub span_rest : (p : ℕ → Bool) (s : List ℕ) (i : ℕ) {r : ℕ} → r ≡ span p (take (length s - i) (drop i s)) →
    span p s ≡ i + span p (drop i s) → i + r ≡ span p s
span_rest p s i e w = omega (arith, e ∙ ap (span p) (rest s i))

-- a text that stands there ends there
pub starts-fits : (w s : List ℕ) (at : ℕ) → at ≤ length s → starts w (drop at s) ≡ true → at + length w ≤ length s
starts-fits w s at h e =
    let l : length (drop at s) ≡ length w + length (drop (length w) (drop at s)) = ap length (starts_is w (drop at s) e) ∙ length-append w (drop (length w) (drop at s)) in
    omega (arith, length-drop at s)

pub tail_none : (s : List ℕ) → starts (ascii ",") s ≡ false → 0 ≡ tail_size s
unfolding tail_size
tail_none s e = rw e

pub tail-some : (s : List ℕ) → starts (ascii ",") s ≡ true → span tail_byte (drop 1 s) + 1 ≡ tail_size s
unfolding tail_size
tail-some s e = rw e (let q : span tail_byte (drop 1 s) + 1 ≡ suc (span tail_byte (drop 1 s)) = omega arith in q)

tail_bound : (s : List ℕ) (e : ℕ) → e ≤ length s → (b : Bool) → starts (ascii ",") (drop e s) ≡ b → e + tail_size (drop e s) ≤ length s
unfolding ascii
tail_bound s e h false b = omega (arith, tail_none (drop e s) b)
tail_bound s e h true b =
    omega (arith, tail-some (drop e s) b, span_le tail_byte (drop 1 (drop e s)), length-drop 1 (drop e s), length-drop e s, starts-fits (ascii ",") s e h b)

pub tail-fits : (s : List ℕ) (e : ℕ) → e ≤ length s → e + tail_size (drop e s) ≤ length s
tail-fits s e h = tail_bound s e h (starts (ascii ",") (drop e s)) refl

-- perhaps a tail: none if it has no bytes
pub bare_is : (s : List ℕ) (bare : Rule) → tail_size s ≡ 0 → bare ≡ rule_by bare (tail_of s)
unfolding tail_size tail_of rule_by
bare_is s bare e = go (starts (ascii ",") s) e where
  go : (b : Bool) → cond b (suc (span tail_byte (drop 1 s))) 0 ≡ 0 → bare ≡ rule_by bare (cond b (some (take (span tail_byte (drop 1 s)) (drop 1 s))) none)
  go true e = absurd (omega arith)
  go false e = refl

pub tail_is : (s : List ℕ) (bare : Rule) → (tail_size s ≡ 0 → ⊥) → TailByte ≡ rule_by bare (tail_of s)
unfolding tail_size tail_of rule_by
tail_is s bare e = go (starts (ascii ",") s) e where
  go : (b : Bool) → (cond b (suc (span tail_byte (drop 1 s))) 0 ≡ 0 → ⊥) → TailByte ≡ rule_by bare (cond b (some (take (span tail_byte (drop 1 s)) (drop 1 s))) none)
  go true e = refl
  go false e = absurd (e refl)

-- behind an argument
module _ (s : List ℕ) (e : ℕ) (other : Rule) where
  pub behind_end : length s ≤ e → ArgumentBrackets ≡ rule_behind other (drop e s)
  unfolding rule_behind
  behind_end h = rw (drop_of_length-le s h)

  pub behind_bracket : e < length s → get_or s e 0 ≡ code "]" → ArgumentBrackets ≡ rule_behind other (drop e s)
  unfolding rule_behind
  behind_bracket h b = rw (cons_at s e h, eq-eqb (get_or s e 0) (code "]") b)

  pub behind_other : e < length s → (get_or s e 0 ≡ code "]" → ⊥) → other ≡ rule_behind other (drop e s)
  unfolding rule_behind
  behind_other h b = rw (cons_at s e h, ne_eqb (get_or s e 0) (code "]") b)

-- as much of a text as stands there ends within the list
pub matched_fits : (t s : List ℕ) (at m : ℕ) → at ≤ length s → m ≡ common t (drop at s) → at + m ≤ length s
matched_fits t s at m h e = omega (arith, common-fits t (drop at s), length-drop at s)

-- where neither of two texts stands, no longer ones do
pub shorter-either : (s : List ℕ) → (starts (ascii "`1") s || starts (ascii "`2") s) ≡ false → (starts (ascii "`1[") s || starts (ascii "`2[") s) ≡ false
unfolding ascii
shorter-either s e =
    let q = neither (starts (ascii "`1") s) (starts (ascii "`2") s) e in
    rw (starts-longer (ascii "`1") (ascii "[") s q.0, starts-longer (ascii "`2") (ascii "[") s q.1)
