-- UTF-8 by the syntax of RFC 3629, section 4: reading one character, deciding a text, and their laws. Assumes nothing.
use Rattle.std.specs.Prelude.{◌≡◌, refl, Bool, true, false, ◌&&◌, cond, List, [], ◌∷◌, ◌++◌, ◌⊎◌, ℕ, zero, suc, pred, ◌+◌, ◌*◌, ◌-◌, ◌/◌, ◌%◌, ◌<◌, ◌≤◌, ltb, leb, eqb, length, get_or, take, drop}
use Rattle.std.proofs.Common.{sym, ap, subst, ◌∙◌, inl, inr, arith, length-append, take-append-drop, drop-drop, length-take-le, ltb-true, ltb-false, lt-ltb, le-ltb, leb-true, le-leb, eqb-true}
use Rattle.std.proofs.Math.Bool.{and-true, and_assoc}
use Rattle.std.proofs.Math.Decide.{dec_lt}
use Rattle.std.proofs.Math.Seq.{drop-append_seam, drop-nil}
use Rattle.std.proofs.lemmas.Bool.{eqb-false}
use Rattle.laws.specs.Small.{differ, both}
use Rattle.laws.specs.Ok.{ok_weaken}
use Rattle.layout.specs.Text.{Utf8, one, two, three, four, Utf8s, end, then}
use Rattle.layout.specs.Number.{between}
use Rattle.reading.specs.Answer.{Answer, refused, read, check, Ok, not_read, is_read, ok_check, within, within-true, true-within}
use Rattle.reading.specs.Reads.{Reads}

-- how many bytes the character has that the lead byte b starts (00 to 7F hex: 1, C2 to DF: 2, E0 to EF: 3, F0 to F4: 4); 0 where b starts none
unfoldable pub size : ℕ → ℕ
size b = cond (ltb b 0x80) 1 (cond (ltb b 0xC2) 0 (cond (ltb b 0xE0) 2 (cond (ltb b 0xF0) 3 (cond (ltb b 0xF5) 4 0))))

-- the least second byte after the lead byte b: A0 after E0 and 90 after F0, so that no form is overlong, else 80
unfoldable pub least : ℕ → ℕ
least b = cond (eqb b 0xE0) 0xA0 (cond (eqb b 0xF0) 0x90 0x80)

-- the greatest second byte after the lead byte b: 9F after ED, so that there is no surrogate, 8F after F4, so that nothing is above 10FFFF, else BF
unfoldable pub most : ℕ → ℕ
most b = cond (eqb b 0xED) 0x9F (cond (eqb b 0xF4) 0x8F 0xBF)

-- whether the list begins with k bytes, the first from low to high and the others from 80 to BF (UTF8-tail)
unfoldable pub follow : (k low high : ℕ) → List ℕ → Bool
follow zero low high l = true
follow (suc k) low high [] = false
follow (suc k) low high (x ∷ l) = between low high x && follow k 0x80 0xBF l

-- the size of the character that the list begins with (UTF8-char); 0 where it begins with none
unfoldable pub char_size : List ℕ → ℕ
char_size [] = 0
char_size (b ∷ l) = cond (follow (pred (size b)) (least b) (most b) l) (size b) 0

-- size 0 is no character; after one of size suc k, what f says of the list k bytes past the lead byte
abbrev pub if_char : ℕ → (ℕ → Bool) → Bool
if_char zero f = false
if_char (suc k) f = f k

-- whether past the first k bytes one character follows the other to the list's end
unfoldable pub chars : ℕ → List ℕ → Bool
chars k [] = true
chars zero (b ∷ l) = if_char (char_size (b ∷ l)) (λ k. chars k l)
chars (suc k) (b ∷ l) = chars k l

-- whether the list is a text: characters one after the other (UTF8-octets)
unfoldable pub utf8s : List ℕ → Bool
utf8s l = chars zero l

-- RFC 3629, section 3: the bits that mark the lead byte of a character of n bytes (110xxxxx, 1110xxxx, 11110xxx)
abbrev pub mark : ℕ → ℕ
mark zero = 0
mark (suc zero) = 0
mark (suc (suc zero)) = 0xC0
mark (suc (suc (suc zero))) = 0xE0
mark (suc (suc (suc (suc n)))) = 0xF0

-- RFC 3629, section 3: the bits v and then the six low bits of each of k bytes, high first
unfoldable pub bits : (v k : ℕ) → List ℕ → ℕ
bits v zero l = v
bits v (suc k) [] = v
bits v (suc k) (x ∷ l) = bits (v * 64 + (x - 0x80)) k l

-- 01: "Char: one such character of 1 to 3 bytes". No byte: 1. A lead byte of no such character: 15. Then missing bytes: 1. Then wrong bytes: 15. All at its first byte.
unfoldable pub char_of : ℕ → List ℕ → Answer ℕ
char_of at [] = refused 1 at
char_of at (b ∷ l) =
    check (within 3 (size b)) 15 at
    (check (leb (size b) (suc (length l))) 1 at
    (check (follow (pred (size b)) (least b) (most b) l) 15 at
    (read (bits (b - mark (size b)) (pred (size b)) l) (at + size b))))

-- the character at a place of the file
unfoldable pub char_at : List ℕ → ℕ → Answer ℕ
char_at file at = char_of at (drop at file)

-- 01: "Char E2 82 AC is taken; ED A0 80 and F0 9F 98 80 are 15"
pub euro : char_at (0xE2 ∷ 0x82 ∷ 0xAC ∷ []) 0 ≡ read 0x20AC 3
unfolding char_at char_of size least most follow bits check within
euro = refl

pub surrogate : char_at (0xED ∷ 0xA0 ∷ 0x80 ∷ []) 0 ≡ refused 15 0
unfolding char_at char_of size least most follow bits check within
surrogate = refl

pub of_four : char_at (0xF0 ∷ 0x9F ∷ 0x98 ∷ 0x80 ∷ []) 0 ≡ refused 15 0
unfolding char_at char_of size least most follow bits check within
of_four = refl

-- ---- the size by the lead byte
pub size_one : (b : ℕ) → b < 0x80 → size b ≡ 1
unfolding size
size_one b h = rw (lt-ltb b 0x80 h)

pub size_low : (b : ℕ) → 0x80 ≤ b → b < 0xC2 → size b ≡ 0
unfolding size
size_low b g h = rw (le-ltb b 0x80 g, lt-ltb b 0xC2 h)

pub size_two : (b : ℕ) → 0xC2 ≤ b → b < 0xE0 → size b ≡ 2
unfolding size
size_two b g h = rw (le-ltb b 0x80 (omega arith), le-ltb b 0xC2 g, lt-ltb b 0xE0 h)

pub size-three : (b : ℕ) → 0xE0 ≤ b → b < 0xF0 → size b ≡ 3
unfolding size
size-three b g h = rw (le-ltb b 0x80 (omega arith), le-ltb b 0xC2 (omega arith), le-ltb b 0xE0 g, lt-ltb b 0xF0 h)

pub size-four : (b : ℕ) → 0xF0 ≤ b → b < 0xF5 → size b ≡ 4
unfolding size
size-four b g h =
    rw (le-ltb b 0x80 (omega arith), le-ltb b 0xC2 (omega arith), le-ltb b 0xE0 (omega arith), le-ltb b 0xF0 g, lt-ltb b 0xF5 h)

pub size_high : (b : ℕ) → 0xF5 ≤ b → size b ≡ 0
unfolding size
size_high b g =
    rw (le-ltb b 0x80 (omega arith), le-ltb b 0xC2 (omega arith), le-ltb b 0xE0 (omega arith), le-ltb b 0xF0 (omega arith), le-ltb b 0xF5 g)

pick_by : (P : ℕ → Type 0) (t : Bool) {a b : ℕ} → (t ≡ true → P a) → (t ≡ false → P b) → P (cond t a b)
pick_by P true f g = f refl
pick_by P false f g = g refl

-- a lead byte and the size that it gives
data Lead : ℕ → ℕ → Type 0 where
  starts_none : {b : ℕ} → Lead b 0
  starts_one : {b : ℕ} → b < 0x80 → Lead b 1
  starts_two : {b : ℕ} → 0xC2 ≤ b → b < 0xE0 → Lead b 2
  starts_three : {b : ℕ} → 0xE0 ≤ b → b < 0xF0 → Lead b 3
  starts_four : {b : ℕ} → 0xF0 ≤ b → b < 0xF5 → Lead b 4

lead : (b : ℕ) → Lead b (size b)
unfolding size
lead b =
    pick_by (Lead b) (ltb b 0x80) (λ e. starts_one (ltb-true b 0x80 e)) (λ _.
    pick_by (Lead b) (ltb b 0xC2) (λ _. starts_none) (λ p.
    pick_by (Lead b) (ltb b 0xE0) (λ e. starts_two (ltb-false b 0xC2 p) (ltb-true b 0xE0 e)) (λ q.
    pick_by (Lead b) (ltb b 0xF0) (λ e. starts_three (ltb-false b 0xE0 q) (ltb-true b 0xF0 e)) (λ r.
    pick_by (Lead b) (ltb b 0xF5) (λ e. starts_four (ltb-false b 0xF0 r) (ltb-true b 0xF5 e)) (λ _. starts_none)))))

-- ---- the range of the second byte
pub least_known : (b : ℕ) → (0x80 ≤ least b) × (b ≡ 0xE0 → 0xA0 ≤ least b) × (b ≡ 0xF0 → 0x90 ≤ least b)
unfolding least
least_known b =
    pick_by (λ n. (0x80 ≤ n) × (b ≡ 0xE0 → 0xA0 ≤ n) × (b ≡ 0xF0 → 0x90 ≤ n)) (eqb b 0xE0) (λ e. omega arith) (λ p.
    pick_by (λ n. (0x80 ≤ n) × (b ≡ 0xE0 → 0xA0 ≤ n) × (b ≡ 0xF0 → 0x90 ≤ n)) (eqb b 0xF0)
    (λ e. (omega arith, (λ q. absurd (eqb-false b 0xE0 p q)), (λ q. omega arith)))
    (λ e. (omega arith, (λ q. absurd (eqb-false b 0xE0 p q)), (λ q. absurd (eqb-false b 0xF0 e q)))))

most_known : (b : ℕ) → (most b ≤ 0xBF) × (b ≡ 0xED → most b ≤ 0x9F) × (b ≡ 0xF4 → most b ≤ 0x8F)
unfolding most
most_known b =
    pick_by (λ n. (n ≤ 0xBF) × (b ≡ 0xED → n ≤ 0x9F) × (b ≡ 0xF4 → n ≤ 0x8F)) (eqb b 0xED)
    (λ e. let h : b ≡ 0xED = eqb-true b 0xED e in (omega arith, omega arith, omega arith)) (λ p.
    pick_by (λ n. (n ≤ 0xBF) × (b ≡ 0xED → n ≤ 0x9F) × (b ≡ 0xF4 → n ≤ 0x8F)) (eqb b 0xF4)
    (λ e. (omega arith, (λ q. absurd (eqb-false b 0xED p q)), (λ q. omega arith)))
    (λ e. (omega arith, (λ q. absurd (eqb-false b 0xED p q)), (λ q. absurd (eqb-false b 0xF4 e q)))))

least_le : (b x : ℕ) → 0x80 ≤ x → (b ≡ 0xE0 → 0xA0 ≤ x) → (b ≡ 0xF0 → 0x90 ≤ x) → least b ≤ x
unfolding least
least_le b x h f g =
    pick_by (λ n. n ≤ x) (eqb b 0xE0) (λ e. f (eqb-true b 0xE0 e)) (λ _. pick_by (λ n. n ≤ x) (eqb b 0xF0) (λ e. g (eqb-true b 0xF0 e)) (λ _. h))

le_most : (b x : ℕ) → x ≤ 0xBF → (b ≡ 0xED → x ≤ 0x9F) → (b ≡ 0xF4 → x ≤ 0x8F) → x ≤ most b
unfolding most
le_most b x h f g =
    pick_by (λ n. x ≤ n) (eqb b 0xED) (λ e. f (eqb-true b 0xED e)) (λ _. pick_by (λ n. x ≤ n) (eqb b 0xF4) (λ e. g (eqb-true b 0xF4 e)) (λ _. h))

-- ---- the bytes after the lead byte
data Follow : (k low high : ℕ) → List ℕ → Type 0 where
  done : {low high : ℕ} {l : List ℕ} → Follow zero low high l
  next : {k low high x : ℕ} {l : List ℕ} → low ≤ x → x ≤ high → Follow k 0x80 0xBF l → Follow (suc k) low high (x ∷ l)

follow_is : (k low high : ℕ) (l : List ℕ) → follow k low high l ≡ true → Follow k low high l
unfolding follow
follow_is zero low high l e = done
follow_is (suc k) low high [] e = differ cc
follow_is (suc k) low high (x ∷ l) e =
    let p = both (between low high x) (follow k 0x80 0xBF l) e in
    let q = both (leb low x) (leb x high) p.0 in
    next (leb-true low x q.0) (leb-true x high q.1) (follow_is k 0x80 0xBF l p.1)

is_follow : {k low high : ℕ} {l : List ℕ} → Follow k low high l → follow k low high l ≡ true
unfolding follow
is_follow done = refl
is_follow (next {low = low} {high = high} {x = x} p q f) = rw (le-leb low x p, le-leb x high q, is_follow f)

follow-length : {k low high : ℕ} {l : List ℕ} → Follow k low high l → k ≤ length l
follow-length done = omega arith
follow-length (next p q f) = omega (arith, follow-length f)

pub follow-fits : (k low high : ℕ) (l : List ℕ) → follow k low high l ≡ true → k ≤ length l
follow-fits k low high l e = follow-length (follow_is k low high l e)

pub follow_first : (k low high : ℕ) (l : List ℕ) → follow (suc k) low high l ≡ true → low ≤ get_or l 0 0
follow_first k low high l e = first (follow_is (suc k) low high l e) where
  first : {l : List ℕ} → Follow (suc k) low high l → low ≤ get_or l 0 0
  first (next p q f) = p

-- one byte more
pub follow_last : (k low high : ℕ) (l : List ℕ)
    → follow (suc (suc k)) low high l ≡ (follow (suc k) low high l && follow 1 0x80 0xBF (drop (suc k) l))
unfolding follow
follow_last k low high [] = refl
follow_last zero low high (x ∷ l) = rw (and-true (between low high x))
follow_last (suc k) low high (x ∷ l) = rw (follow_last k 0x80 0xBF l) (sym (and_assoc (between low high x) (follow (suc k) 0x80 0xBF l) (follow 1 0x80 0xBF (drop (suc k) l))))

-- ---- what is read is a character
-- a byte's six bits after those of v
abbrev six : ℕ → ℕ → ℕ
six v x = v * 64 + (x - 0x80)

high_bits : (v x : ℕ) → 0x80 ≤ x → x ≤ 0xBF → six v x / 64 ≡ v
high_bits v x p q = omega arith

low_bits : (v x : ℕ) → 0x80 ≤ x → x ≤ 0xBF → 0x80 + six v x % 64 ≡ x
low_bits v x p q = omega arith

sound_two : (b x : ℕ) → 0xC2 ≤ b → b < 0xE0 → 0x80 ≤ x → x ≤ 0xBF → Utf8 (six (b - 0xC0) x) (b ∷ x ∷ [])
sound_two b x g h p q =
    let e : 0xC0 + six (b - 0xC0) x / 64 ≡ b = omega arith in
    rw (e, low_bits (b - 0xC0) x p q) at (two {c = six (b - 0xC0) x} (omega arith) (omega arith))

-- neither overlong nor a surrogate
three-least : (b x y : ℕ) → 0xE0 ≤ b → 0x80 ≤ x → (b ≡ 0xE0 → 0xA0 ≤ x) → 0x800 ≤ six (six (b - 0xE0) x) y
three-least b x y g p f = go (dec_lt 0xE0 b) where
  go : Dec (0xE0 < b) → 0x800 ≤ six (six (b - 0xE0) x) y
  go (yes k) = omega arith
  go (no k) = omega (arith, f (omega arith))

no_surrogate : (b x y : ℕ) → 0xE0 ≤ b → 0x80 ≤ x → x ≤ 0xBF → y ≤ 0xBF → (b ≡ 0xED → x ≤ 0x9F)
    → (six (six (b - 0xE0) x) y < 0xD800) ⊎ (0xE000 ≤ six (six (b - 0xE0) x) y)
no_surrogate b x y g p q r f = go (dec_lt b 0xED) (dec_lt 0xED b) where
  go : Dec (b < 0xED) → Dec (0xED < b) → (six (six (b - 0xE0) x) y < 0xD800) ⊎ (0xE000 ≤ six (six (b - 0xE0) x) y)
  go (yes j) k = inl (omega arith)
  go (no j) (yes k) = inr (omega arith)
  go (no j) (no k) = inl (omega (arith, f (omega arith)))

sound-three : (b x y : ℕ) → 0xE0 ≤ b → b < 0xF0 → least b ≤ x → x ≤ most b → 0x80 ≤ y → y ≤ 0xBF
    → Utf8 (six (six (b - 0xE0) x) y) (b ∷ x ∷ y ∷ [])
sound-three b x y g h p q r s =
    let c = six (six (b - 0xE0) x) y in
    let l = least_known b in
    let m = most_known b in
    let i : 0x80 ≤ x = omega arith in
    let j : x ≤ 0xBF = omega arith in
    let d : c / 64 ≡ six (b - 0xE0) x = high_bits (six (b - 0xE0) x) y r s in
    let e : 0xE0 + c / 4096 ≡ b = omega arith in
    let f : 0x80 + c / 64 % 64 ≡ x = rw d (low_bits (b - 0xE0) x i j) in
    rw (e, f, low_bits (six (b - 0xE0) x) y r s)
    at (three {c = c} (three-least b x y g i (λ z. omega (arith, l.1 z))) (omega arith) (no_surrogate b x y g i j s (λ z. omega (arith, m.1 z))))

four-least : (b x y z : ℕ) → 0xF0 ≤ b → 0x80 ≤ x → (b ≡ 0xF0 → 0x90 ≤ x) → 0x10000 ≤ six (six (six (b - 0xF0) x) y) z
four-least b x y z g p f = go (dec_lt 0xF0 b) where
  go : Dec (0xF0 < b) → 0x10000 ≤ six (six (six (b - 0xF0) x) y) z
  go (yes k) = omega arith
  go (no k) = omega (arith, f (omega arith))

four-most : (b x y z : ℕ) → b < 0xF5 → x ≤ 0xBF → y ≤ 0xBF → z ≤ 0xBF → (b ≡ 0xF4 → x ≤ 0x8F) → six (six (six (b - 0xF0) x) y) z < 0x110000
four-most b x y z g p q r f = go (dec_lt b 0xF4) where
  go : Dec (b < 0xF4) → six (six (six (b - 0xF0) x) y) z < 0x110000
  go (yes k) = omega arith
  go (no k) = omega (arith, f (omega arith))

sound-four : (b x y z : ℕ) → 0xF0 ≤ b → b < 0xF5 → least b ≤ x → x ≤ most b → 0x80 ≤ y → y ≤ 0xBF → 0x80 ≤ z → z ≤ 0xBF
    → Utf8 (six (six (six (b - 0xF0) x) y) z) (b ∷ x ∷ y ∷ z ∷ [])
sound-four b x y z g h p q r s t u =
    let v = six (b - 0xF0) x in
    let c = six (six v y) z in
    let l = least_known b in
    let m = most_known b in
    let i : 0x80 ≤ x = omega arith in
    let j : x ≤ 0xBF = omega arith in
    let d : c / 64 ≡ six v y = high_bits (six v y) z t u in
    let w : c / 4096 ≡ v = omega arith in
    let e : 0xF0 + c / 262144 ≡ b = omega arith in
    let f : 0x80 + c / 4096 % 64 ≡ x = rw w (low_bits (b - 0xF0) x i j) in
    let k : 0x80 + c / 64 % 64 ≡ y = rw d (low_bits v y r s) in
    rw (e, f, k, low_bits (six v y) z t u)
    at (four {c = c} (four-least b x y z g i (λ n. omega (arith, l.2 n))) (four-most b x y z h j s u (λ n. omega (arith, m.2 n))))

char-sound : {b n : ℕ} {l : List ℕ} → Lead b n → 1 ≤ n → Follow (pred n) (least b) (most b) l → Utf8 (bits (b - mark n) (pred n) l) (b ∷ take (pred n) l)
unfolding bits
char-sound starts_none i f = absurd (omega arith)
char-sound {b} (starts_one h) i f = let z : b - 0 ≡ b = omega arith in rw z (one h)
char-sound {b} (starts_two g h) i (next {x = x} p q done) = sound_two b x g h (omega (arith, (least_known b).0)) (omega (arith, (most_known b).0))
char-sound {b} (starts_three g h) i (next {x = x} p q (next {x = y} r s done)) = sound-three b x y g h p q r s
char-sound {b} (starts_four g h) i (next {x = x} p q (next {x = y} r s (next {x = z} t u done))) = sound-four b x y z g h p q r s t u

short-char : {c : ℕ} {bs : List ℕ} → Utf8 c bs → length bs ≤ 3 → c < 0x10000
short-char (one h) l = omega arith
short-char (two g h) l = omega arith
short-char (three g h s) l = h
short-char (four g h) l = absurd (omega arith)

-- ---- what is a character is read
data Begins : ℕ → List ℕ → Type 0 where
  begins : (c b : ℕ) (t : List ℕ) → size b ≡ suc (length t) → ((rest : List ℕ) → Follow (length t) (least b) (most b) (t ++ rest))
      → ((rest : List ℕ) → bits (b - mark (suc (length t))) (length t) (t ++ rest) ≡ c) → Begins c (b ∷ t)

below_surrogates : (c : ℕ) → (c < 0xD800) ⊎ (0xE000 ≤ c) → 0xE0 + c / 4096 ≡ 0xED → 0x80 + c / 64 % 64 ≤ 0x9F
below_surrogates c (inl s) e = omega arith
below_surrogates c (inr s) e = omega arith

tail : (x : ℕ) {k : ℕ} {l : List ℕ} → 0x80 ≤ x → x ≤ 0xBF → Follow k 0x80 0xBF l → Follow (suc k) 0x80 0xBF (x ∷ l)
tail x p q f = next p q f

char-begins : {c : ℕ} {bs : List ℕ} → Utf8 c bs → Begins c bs
unfolding bits
char-begins (one {c = c} h) = begins c c [] (size_one c h) (λ rest. done) (λ rest. omega arith)
char-begins (two {c = c} g h) =
    let b = 0xC0 + c / 64 in
    let x = 0x80 + c % 64 in
    begins c b (x ∷ []) (size_two b (omega arith) (omega arith))
    (λ rest. next (least_le b x (omega arith) (omega arith) (omega arith)) (le_most b x (omega arith) (omega arith) (omega arith)) done)
    (λ rest. omega arith)
char-begins (three {c = c} g h s) =
    let b = 0xE0 + c / 4096 in
    let x = 0x80 + c / 64 % 64 in
    let y = 0x80 + c % 64 in
    begins c b (x ∷ y ∷ []) (size-three b (omega arith) (omega arith))
    (λ rest. next (least_le b x (omega arith) (omega arith) (omega arith)) (le_most b x (omega arith) (below_surrogates c s) (omega arith))
    (tail y (omega arith) (omega arith) done))
    (λ rest. omega arith)
char-begins (four {c = c} g h) =
    let b = 0xF0 + c / 262144 in
    let x = 0x80 + c / 4096 % 64 in
    let y = 0x80 + c / 64 % 64 in
    let z = 0x80 + c % 64 in
    begins c b (x ∷ y ∷ z ∷ []) (size-four b (omega arith) (omega arith))
    (λ rest. next (least_le b x (omega arith) (omega arith) (omega arith)) (le_most b x (omega arith) (omega arith) (omega arith))
    (tail y (omega arith) (omega arith) (tail z (omega arith) (omega arith) done)))
    (λ rest.
    let p : c / 262144 * 64 + c / 4096 % 64 ≡ c / 4096 = omega arith in
    let q : c / 4096 * 64 + c / 64 % 64 ≡ c / 64 = omega arith in
    omega arith)

-- ---- the reader of one character
read_begun : (at : ℕ) {c : ℕ} {bs : List ℕ} → Begins c bs → length bs ≤ 3 → (rest : List ℕ) → char_of at (bs ++ rest) ≡ read c (at + length bs)
unfolding char_of check
read_begun at (begins c b t e f v) l rest =
    let k : suc (length t) ≤ suc (length (t ++ rest)) = rw length-append (omega arith) in
    rw (e, true-within 3 (suc (length t)) (omega arith) l, le-leb (suc (length t)) (suc (length (t ++ rest))) k, is_follow (f rest), v rest)

short-length : {c : ℕ} {bs : List ℕ} → Utf8 c bs → c < 0x10000 → length bs ≤ 3
short-length (one h) l = omega arith
short-length (two g h) l = omega arith
short-length (three g h s) l = omega arith
short-length (four g h) l = absurd (omega arith)

abbrev Taken : ℕ → List ℕ → ℕ → ℕ → Type 0
Taken at l c e = (bs : List ℕ) × (rest : List ℕ) × (c < 0x10000) × Utf8 c bs × (l ≡ bs ++ rest) × (e ≡ at + length bs)

char_ok : (at : ℕ) (l : List ℕ) → Ok (Taken at l) (char_of at l)
unfolding char_of
char_ok at [] = not_read
char_ok at (b ∷ l) =
    ok_check (within 3 (size b)) 15 at _ (λ p.
    ok_check (leb (size b) (suc (length l))) 1 at _ (λ q.
    ok_check (follow (pred (size b)) (least b) (most b) l) 15 at _ (λ r.
    let w = within-true 3 (size b) p in
    let m : length (take (pred (size b)) l) ≡ pred (size b) = length-take-le (pred (size b)) l (omega (arith, leb-true (size b) (suc (length l)) q)) in
    let u = char-sound (lead b) w.0 (follow_is (pred (size b)) (least b) (most b) l r) in
    let s : b ∷ l ≡ b ∷ (take (pred (size b)) l ++ drop (pred (size b)) l) = rw take-append-drop in
    let z : at + size b ≡ at + suc (length (take (pred (size b)) l)) = rw m (omega arith) in
    is_read (b ∷ take (pred (size b)) l, drop (pred (size b)) l, short-char u (omega arith), u, s, z))))

pub char_reads : (file : List ℕ) → Reads file (λ c bs. (c < 0x10000) × Utf8 c bs) (char_at file)
unfolding char_at
char_reads file = record {
  complete = λ c bs rest at w q. rw q (read_begun at (char-begins w.1) (short-length w.1 w.0) rest);
  sound = λ h at. ok_weaken (char_ok at (drop at file)) (λ c e v.
      let q : drop at file ≡ v.0 ++ drop e file
      = v.4 ∙ ap (λ (l : List ℕ). v.0 ++ l) (sym (rest_is v.0 v.1 at v.4) ∙ ap (λ (k : ℕ). drop k file) (sym v.5)) in
      (v.0, (v.2, v.3), q, v.5));
} where
  rest_is : (b r : List ℕ) (at : ℕ) → drop at file ≡ b ++ r → drop (at + length b) file ≡ r
  rest_is b r at e = sym (drop-drop (length b) at file) ∙ ap (drop (length b)) e ∙ drop-append_seam b r

-- ---- the decision of a text, character by character
pub chars-drop : (k : ℕ) (l : List ℕ) → chars k l ≡ utf8s (drop k l)
unfolding chars utf8s
chars-drop zero l = refl
chars-drop (suc k) [] = refl
chars-drop (suc k) (x ∷ l) = chars-drop k l

pub sized : (b k : ℕ) (l : List ℕ) → size b ≡ suc k → char_size (b ∷ l) ≡ cond (follow k (least b) (most b) l) (suc k) 0
unfolding char_size
sized b k l e = rw e

pub utf8s_stops : (l : List ℕ) → 1 ≤ length l → char_size l ≡ 0 → utf8s l ≡ false
unfolding utf8s chars
utf8s_stops [] h e = absurd (omega arith)
utf8s_stops (b ∷ l) h e = rw e

pub utf8s_steps : (k : ℕ) (l : List ℕ) → char_size l ≡ suc k → utf8s l ≡ utf8s (drop (suc k) l)
unfolding utf8s chars char_size
utf8s_steps k [] e = absurd (omega arith)
utf8s_steps k (b ∷ l) e = rw e (chars-drop k l)

size_is : (b k : ℕ) (l : List ℕ) → char_size (b ∷ l) ≡ suc k → (size b ≡ suc k) × (follow (pred (size b)) (least b) (most b) l ≡ true)
unfolding char_size
size_is b k l e = go (follow (pred (size b)) (least b) (most b) l) e where
  go : (t : Bool) → cond t (size b) 0 ≡ suc k → (size b ≡ suc k) × (t ≡ true)
  go true q = (q, refl)
  go false q = absurd (omega arith)

pub char-fits : (l : List ℕ) → char_size l ≤ length l
unfolding char_size
char-fits [] = omega arith
char-fits (b ∷ l) = go (char_size (b ∷ l)) refl where
  go : (n : ℕ) → char_size (b ∷ l) ≡ n → char_size (b ∷ l) ≤ suc (length l)
  go zero e = omega arith
  go (suc k) e =
      let p = size_is b k l e in
      omega (arith, follow-fits (pred (size b)) (least b) (most b) l p.1)

character : (b k : ℕ) (l : List ℕ) → char_size (b ∷ l) ≡ suc k → (c : ℕ) × Utf8 c (b ∷ take k l)
character b k l e =
    let p = size_is b k l e in
    let z : pred (size b) ≡ k = omega arith in
    let u = char-sound (lead b) (omega arith) (follow_is (pred (size b)) (least b) (most b) l p.1) in
    (bits (b - mark (size b)) (pred (size b)) l, subst (λ (n : ℕ). Utf8 (bits (b - mark (size b)) (pred (size b)) l) (b ∷ take n l)) z u)

text-sound : (l : List ℕ) (k : ℕ) → utf8s (drop k l) ≡ true → Utf8s (drop k l)
text-sound [] k e = rw drop-nil end
text-sound (b ∷ l) (suc k) e = text-sound l k e
text-sound (b ∷ l) zero e = go (char_size (b ∷ l)) refl (λ k. text-sound l k) where
  go : (n : ℕ) → char_size (b ∷ l) ≡ n → ((k : ℕ) → utf8s (drop k l) ≡ true → Utf8s (drop k l)) → Utf8s (b ∷ l)
  go zero q f = differ (cc (utf8s_stops (b ∷ l) (omega arith) q))
  go (suc k) q f =
      let u = character b k l q in
      let r : Utf8s (drop k l) = f k (sym (utf8s_steps k (b ∷ l) q) ∙ e) in
      rw (take-append-drop k l) at (then u.1 r)

pub utf8s-sound : (bs : List ℕ) → utf8s bs ≡ true → Utf8s bs
utf8s-sound bs e = text-sound bs zero e

text-step : {c : ℕ} {bs : List ℕ} → Begins c bs → (rest : List ℕ) → utf8s (bs ++ rest) ≡ utf8s rest
text-step (begins c b t e f v) rest =
    utf8s_steps (length t) (b ∷ t ++ rest) (rw (sized b (length t) (t ++ rest) e, is_follow (f rest))) ∙ ap utf8s (drop-append_seam t rest)

text-complete : {bs : List ℕ} → Utf8s bs → utf8s bs ≡ true
unfolding utf8s chars
text-complete end = refl
text-complete (then {rest = rest} u r) = text-step (char-begins u) rest ∙ text-complete r

pub utf8s-complete : (bs : List ℕ) → Utf8s bs → utf8s bs ≡ true
utf8s-complete bs u = text-complete u
