-- Reading a little-endian number of any size, and its two laws. Assumes nothing.
use Rattle.std.specs.Prelude.{◌≡◌, refl, List, [], ◌∷◌, ◌++◌, ℕ, zero, suc, ◌+◌, ◌*◌, ◌/◌, ◌%◌, ◌<◌, ◌≤◌, ◌^◌, length, take, drop}
use Rattle.std.proofs.Common.{sym, ap, ◌∙◌, append-nil, arith, mul-add, mul_assoc, le-leb}
use Rattle.std.proofs.Math.Nat.{pow-succ'}
use Rattle.std.proofs.lemmas.Bool.{lt-leb}
use Rattle.layout.specs.Number.{little, value_of}
use Rattle.reading.specs.Answer.{Answer, read, refused, bind, check}
use Rattle.reading.specs.Reads.{Small, Reads, pure_reads, bind_reads, convert, some, some_reads, next_of}

pub length-little : (k n : ℕ) → length (little k n) ≡ k
unfolding little
length-little zero n = refl
length-little (suc k) n = ap suc (length-little k (n / 256))

pub value-little : (k n : ℕ) → n < 256 ^ k → value_of (little k n) ≡ n
unfolding little value_of
value-little zero n h = omega arith
value-little (suc k) n h =
    let p : n < 256 * 256 ^ k = rw (pow-succ' 256 k) at h in
    let q : n / 256 < 256 ^ k = omega arith in
    rw (value-little k (n / 256) q) (omega arith)

pub little-value : (bs : List ℕ) → Small bs → little (length bs) (value_of bs) ≡ bs
unfolding little value_of Small
little-value [] h = refl
little-value (b ∷ bs) h =
    let lo : (b + 256 * value_of bs) % 256 ≡ b = omega (arith, h.0) in
    let hi : (b + 256 * value_of bs) / 256 ≡ value_of bs = omega (arith, h.0) in
    rw (lo, hi, little-value bs h.1)

pub value_bound : (bs : List ℕ) → Small bs → value_of bs < 256 ^ length bs
unfolding value_of Small
value_bound [] h = omega arith
value_bound (b ∷ bs) h = rw (pow-succ' 256 (length bs)) (omega (arith, value_bound bs h.1, h.0))

unfoldable pub little_at : List ℕ → ℕ → (place at : ℕ) → Answer ℕ
little_at file k place at = bind (some file k place at) (λ bs e. read (value_of bs) e)

pub little_reads : (file : List ℕ) (k place : ℕ) → Reads file (λ n bs. (n < 256 ^ k) × (bs ≡ little k n)) (little_at file k place)
unfolding little_at
little_reads file k place =
    convert file (bind_reads file (some_reads file k place) (λ bs at. pure_reads file (value_of bs)))
    (λ n bs s f.
    let q : bs ≡ f.0 = f.3 ∙ ap (λ (l : List ℕ). f.1 ++ l) f.5.1 ∙ append-nil f.1 ∙ f.4.0 in
    let v : n ≡ value_of bs = f.5.0 ∙ ap value_of (sym q) in
    let l : length bs ≡ k = ap length q ∙ f.4.1 in
    (rw (v, ← l) (value_bound bs s), rw (v, ← l) (sym (little-value bs s))))
    (λ n bs w. (bs, bs, [], sym (append-nil bs), (refl, ap length w.1 ∙ length-little k n), (sym (ap value_of w.1 ∙ value-little k n w.0), refl)))

-- bytes after bytes: the later ones weigh 256 to the number of the earlier
pub value-append : (bs cs : List ℕ) → value_of (bs ++ cs) ≡ value_of bs + 256 ^ length bs * value_of cs
unfolding value_of
value-append [] cs = omega arith
value-append (b ∷ bs) cs = rw (value-append bs cs, pow-succ' 256 (length bs), mul-add, mul_assoc) (omega arith)

-- where so many bytes are there, or not
pub little_there : (file : List ℕ) (k place at : ℕ) → k ≤ length (drop at file) → little_at file k place at ≡ read (value_of (take k (drop at file))) (at + k)
unfolding little_at bind some check
little_there file k place at h = rw (le-leb k (length (drop at file)) h)

pub little-missing : (file : List ℕ) (k place at : ℕ) → length (drop at file) < k → little_at file k place at ≡ refused 1 place
unfolding little_at bind some check
little-missing file k place at h = rw (lt-leb k (length (drop at file)) h)

-- a number that was read has its bytes in the file
pub little_next : (file : List ℕ) → Small file → (k place at : ℕ) {n e : ℕ} → 1 ≤ k → little_at file k place at ≡ read n e → (e ≡ at + k) × (e ≤ length file) × (n < 256 ^ k)
little_next file s k place at some q =
    let w = next_of (little_reads file k place) s at q in
    let l : length w.form ≡ k = ap length w.laid.1 ∙ length-little k _ in
    let b = w.behind in
    (omega arith, w.within (omega arith), w.laid.0)
