-- Reading a value of fixed size: the tests of the three kinds that have a rule, and the laws that tie them to the layout. Assumes nothing.
use Rattle.std.specs.Prelude.{◌≡◌, refl, Bool, true, false, ◌&&◌, cond, List, [], ◌∷◌, ◌⊎◌, ℕ, zero, suc, ◌+◌, ◌*◌, ◌/◌, ◌%◌, ◌<◌, ◌≤◌, ◌^◌, leb, eqb, length, get_or, take, drop}
use Rattle.std.proofs.Common.{sym, ap, ◌∙◌, subst, inl, inr, ⊎_elim, arith, length-append, length-drop, take-append-drop, drop_of_length-le, length-take-le, get_or-append-add, leb-true, le-leb, eqb-true, eq-eqb}
use Rattle.std.proofs.Math.Bool.{and-eq-true_iff}
use Rattle.layout.specs.Number.{little, value_of}
use Rattle.layout.specs.Fixed.{sizes, Boolean, DateTime, Decimal, Fixed}
use Rattle.reading.specs.Answer.{Answer, refused, read}
use Rattle.reading.specs.Reads.{Small, small-drop, Reads, convert, some, some_reads, here_reads, field, field_reads}
use Rattle.reading.specs.Little.{length-little, value-little, little-value}

-- 01: "Boolean is 0 or 1"
unfoldable pub is_boolean : List ℕ → Bool
is_boolean own = eqb (length own) 1 && leb (get_or own 0 0) 1

-- 01: "DateTime: low 62 bits at most 3155378975999999999, high two bits 0 to 2"
unfoldable pub is_date_time : List ℕ → Bool
is_date_time own = eqb (length own) 8 && leb (value_of own % 2 ^ 62) 3155378975999999999 && leb (value_of own / 2 ^ 62) 2

-- 01: "Decimal: in the fourth word bits 0 to 15 and 24 to 30 are zero and bits 16 to 23 are at most 28", byte by byte
unfoldable pub is_decimal : List ℕ → Bool
is_decimal own =
    eqb (length own) 16 && eqb (get_or own 12 0) 0 && eqb (get_or own 13 0) 0 && leb (get_or own 14 0) 28 && eqb (get_or own 15 0 % 128) 0

-- the rule of a kind, which for most kinds asks nothing
unfoldable pub rule : (kind : ℕ) → List ℕ → Bool
rule kind own = cond (eqb kind 11) (is_boolean own) (cond (eqb kind 21) (is_date_time own) (cond (eqb kind 22) (is_decimal own) true))

-- 01, "Refusals": "a value of fixed size is one field": its bytes (1), then its rule (15), both at its start
unfoldable pub fixed_at : (file : List ℕ) (kind size at : ℕ) → Answer (List ℕ)
fixed_at file kind size at = field file (some file size at) (rule kind) (λ own. own) at at

-- how many bytes a reader took, and not which
unfoldable pub sized : Answer (List ℕ) → Answer ℕ
sized (refused n p) = refused n p
sized (read own e) = read (length own) e

-- the number of bytes from k on is the byte at k, and the number of those after it
pub value-drop : (l : List ℕ) (k : ℕ) → value_of (drop k l) ≡ get_or l k 0 + 256 * value_of (drop (suc k) l)
unfolding value_of
value-drop [] zero = refl
value-drop [] (suc k) = refl
value-drop (b ∷ l) zero = refl
value-drop (b ∷ l) (suc k) = value-drop l k

small_at : (l : List ℕ) (i : ℕ) → Small l → get_or l i 0 < 256
unfolding Small
small_at [] i h = omega arith
small_at (b ∷ l) zero h = h.0
small_at (b ∷ l) (suc i) h = small_at l i h.1

-- a test of several parts holds where each part does
parts : (a b : Bool) → (a && b) ≡ true → (a ≡ true) × (b ≡ true)
parts a b = (and-eq-true_iff a b).0

pub boolean-sound : (own : List ℕ) → is_boolean own ≡ true → Boolean own
unfolding is_boolean Boolean
boolean-sound own t =
    let p = parts (eqb (length own) 1) (leb (get_or own 0 0) 1) t in
    go own (eqb-true (length own) 1 p.0) (leb-true (get_or own 0 0) 1 p.1)
  where
    go : (l : List ℕ) → length l ≡ 1 → get_or l 0 0 ≤ 1 → (l ≡ 0 ∷ []) ⊎ (l ≡ 1 ∷ [])
    go [] e h = absurd (omega arith)
    go (zero ∷ []) e h = inl refl
    go (suc zero ∷ []) e h = inr refl
    go (suc (suc b) ∷ []) e h = absurd (omega arith)
    go (a ∷ b ∷ l) e h = absurd (omega arith)

pub boolean-complete : (own : List ℕ) → Boolean own → is_boolean own ≡ true
unfolding is_boolean Boolean
boolean-complete own w = ⊎_elim (λ e. rw e) (λ e. rw e) w

date_sound : (own : List ℕ) → Small own → is_date_time own ≡ true → DateTime own
unfolding is_date_time DateTime
date_sound own s t =
    let v = value_of own in
    let p = parts (eqb (length own) 8 && leb (v % 2 ^ 62) 3155378975999999999) (leb (v / 2 ^ 62) 2) t in
    let q = parts (eqb (length own) 8) (leb (v % 2 ^ 62) 3155378975999999999) p.0 in
    let n : v ≡ v % 2 ^ 62 + 2 ^ 62 * (v / 2 ^ 62) = omega arith in (
      v % 2 ^ 62,
      v / 2 ^ 62,
      leb-true (v % 2 ^ 62) 3155378975999999999 q.1,
      leb-true (v / 2 ^ 62) 2 p.1,
      rw (← n, ← eqb-true (length own) 8 q.0) (sym (little-value own s)),
    )

date_complete : (own : List ℕ) → DateTime own → is_date_time own ≡ true
unfolding is_date_time DateTime
date_complete own w =
    let n = w.0 + 2 ^ 62 * w.1 in
    let v : value_of own ≡ n = ap value_of w.4 ∙ value-little 8 n (omega arith) in
    let l : length own ≡ 8 = ap length w.4 ∙ length-little 8 n in
    rw (eq-eqb (length own) 8 l, le-leb (value_of own % 2 ^ 62) 3155378975999999999 (omega arith), le-leb (value_of own / 2 ^ 62) 2 (omega arith))

decimal_sound : (own : List ℕ) → Small own → is_decimal own ≡ true → Decimal own
unfolding is_decimal Decimal value_of
decimal_sound own s t =
    let p = parts (eqb (length own) 16 && eqb (get_or own 12 0) 0 && eqb (get_or own 13 0) 0 && leb (get_or own 14 0) 28) (eqb (get_or own 15 0 % 128) 0) t in
    let q = parts (eqb (length own) 16 && eqb (get_or own 12 0) 0 && eqb (get_or own 13 0) 0) (leb (get_or own 14 0) 28) p.0 in
    let r = parts (eqb (length own) 16 && eqb (get_or own 12 0) 0) (eqb (get_or own 13 0) 0) q.0 in
    let u = parts (eqb (length own) 16) (eqb (get_or own 12 0) 0) r.0 in
    let l : length own ≡ 16 = eqb-true (length own) 16 u.0 in
    let m : length (drop 12 own) ≡ 4 = omega (arith, length-drop 12 own) in
    let e : value_of (drop 16 own) ≡ 0 = ap value_of (drop_of_length-le own {i = 16} (omega arith)) in
    let a : get_or own 12 0 ≡ 0 = eqb-true (get_or own 12 0) 0 u.1 in
    let b : get_or own 13 0 ≡ 0 = eqb-true (get_or own 13 0) 0 r.1 in
    let d : get_or own 15 0 % 128 ≡ 0 = eqb-true (get_or own 15 0 % 128) 0 p.1 in
    let v : value_of (drop 12 own) ≡ 2 ^ 16 * get_or own 14 0 + 2 ^ 31 * (get_or own 15 0 / 128)
    = omega (arith, value-drop own 12, value-drop own 13, value-drop own 14, value-drop own 15) in (
      take 12 own,
      get_or own 14 0,
      get_or own 15 0 / 128,
      length-take-le 12 own (omega arith),
      leb-true (get_or own 14 0) 28 q.1,
      omega (arith, small_at own 15 s),
      rw (← v, ← m, little-value (drop 12 own) (small-drop 12 own s)) (sym (take-append-drop 12 own)),
    )

decimal_complete : (own : List ℕ) → Decimal own → is_decimal own ≡ true
unfolding is_decimal Decimal little
decimal_complete own w =
    let n = 2 ^ 16 * w.1 + 2 ^ 31 * w.2 in
    let l : length own ≡ 16 = ap length w.6 ∙ length-append w.0 (little 4 n) ∙ omega (arith, length-little 4 n) in
    let at : (i : ℕ) → get_or own (12 + i) 0 ≡ get_or (little 4 n) i 0
    = λ i. rw (w.6, ← w.3) (get_or-append-add w.0 (little 4 n) i 0) in
    let a : get_or own 12 0 ≡ 0 = at 0 ∙ omega arith in
    let b : get_or own 13 0 ≡ 0 = at 1 ∙ omega arith in
    let c : get_or own 14 0 ≡ w.1 = at 2 ∙ omega arith in
    let top : n / 256 / 256 / 256 ≡ 128 * w.2 = omega arith in
    let d : get_or own 15 0 % 128 ≡ 0 = omega (arith, at 3) in
    rw (eq-eqb (length own) 16 l, eq-eqb (get_or own 12 0) 0 a, eq-eqb (get_or own 13 0) 0 b, le-leb (get_or own 14 0) 28 (omega arith), eq-eqb (get_or own 15 0 % 128) 0 d)

-- what keeps the rule, of the kind's size, is a value of the kind
pub rule-sound : (kind : ℕ) (own : List ℕ) → 0 < get_or sizes kind 0 → length own ≡ get_or sizes kind 0 → Small own → rule kind own ≡ true → Fixed kind own
unfolding rule
rule-sound kind own z l s t = record {
  sized = z;
  whole = l;
  boolean = λ k. boolean-sound own (subst (λ n. rule n own ≡ true) k t);
  date_time = λ k. date_sound own s (subst (λ n. rule n own ≡ true) k t);
  decimal = λ k. decimal_sound own s (subst (λ n. rule n own ≡ true) k t);
}

cond-true : (t a b : Bool) → (t ≡ true → a ≡ true) → b ≡ true → cond t a b ≡ true
cond-true true a b f g = f refl
cond-true false a b f g = g

-- a value of a kind keeps the rule
pub rule-complete : (kind : ℕ) (own : List ℕ) → Fixed kind own → rule kind own ≡ true
unfolding rule
rule-complete kind own w =
    cond-true (eqb kind 11) _ _ (λ t. boolean-complete own (w.boolean (eqb-true kind 11 t)))
    (cond-true (eqb kind 21) _ _ (λ t. date_complete own (w.date_time (eqb-true kind 21 t)))
    (cond-true (eqb kind 22) _ _ (λ t. decimal_complete own (w.decimal (eqb-true kind 22 t))) refl))

pub fixed_reads : (file : List ℕ) (kind : ℕ) → 0 < get_or sizes kind 0 → Reads file (λ own bs. (bs ≡ own) × Fixed kind own) (fixed_at file kind (get_or sizes kind 0))
unfolding fixed_at
fixed_reads file kind z =
    convert file (here_reads file (λ p. field_reads file (rule kind) (λ own. own) p (some_reads file (get_or sizes kind 0) p)))
    (λ own bs s w.
    let q : bs ≡ own = w.1.0 ∙ sym w.3 in
    (q, rule-sound kind own z (ap length w.3 ∙ w.1.1) (rw q at s) (rw w.3 w.2)))
    (λ own bs w. (own, (w.0, w.1.whole), rule-complete kind own w.1, refl))
