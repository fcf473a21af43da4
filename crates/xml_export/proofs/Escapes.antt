-- The size of a text in the XML, and its bytes put into an output. Assumes nothing.
use mathlib.Core.Path.{◌≡◌, refl, sym, ap, subst, ◌∙◌}
use mathlib.Core.Bool.{Bool, true, false, not, ◌||◌, ◌&&◌, cond}
use mathlib.Core.List.{List, [], ◌∷◌, ◌++◌, append-nil, append_assoc}
use Prim.Native.Nat.{ℕ, zero, suc, ◌+◌, ◌*◌, ◌-◌, ◌≤◌, ◌<◌}
use native.Mathlib.Omega.{arith}
use native.Mathlib.Decide.{ℕ_discrete}
use lib.Dec.{leb, eqb, ltb}
use lib.ListN.{length, take, drop, get_or, set, length-append, length-drop, length-set, drop_of_length-le}
use lib.Seq.{drop-drop, drop-append_seam, length-take-le}
use borrow.Author.Tests.{ne_eqb, eqb-false, ltb-false, le-leb, lt-leb}
use Rattle.laws.specs.Small.{neither, differ}
use Rattle.layout.specs.Text.{ascii}
use Rattle.fill.specs.Fill.{copied}
use Rattle.xml_layout.specs.Xml.{escaped, escape, item_start, item_end}
use Rattle.xml_reading.specs.Written.{noncharacter, writable}
use Rattle.xml_escape.specs.Runs.{AllOf, First, cons_at, passed_none, passed_more}
use Rattle.xml_escape.specs.Quiet.{Quiet, AllQuiet, Ran}
use Rattle.xml_escape.specs.Wrote.{Wrote, Put, PutTo, put-none, put_copy, put-more, put_one, put_on, take_more}
use Rattle.xml_escape.specs.Sizes.{item, few_bytes, start-long, item-long}
use Rattle.std.specs.Prelude.{Some, None}
use Rattle.xml_export.specs.Escaping.{Alone, byte_size, Grows, Runs, RunPut, EntityPut}
use Rattle.xml_export.specs.Gathering.{size_of}

-- ---- What quiet bytes are written as

-- a byte that is none of the four stands as it is
pub other_alone : (b : ℕ) → (b ≡ 0x26 → ⊥) → (b ≡ 0x3C → ⊥) → (b ≡ 0x3E → ⊥) → (b ≡ 0x22 → ⊥) → Alone b
unfolding escaped
other_alone b n₁ n₂ n₃ n₄ = rw (ne_eqb b 0x26 n₁, ne_eqb b 0x3C n₂, ne_eqb b 0x3E n₃, ne_eqb b 0x22 n₄)

quiet_escaped : {most b : ℕ} → Quiet most b → Alone b
quiet_escaped {b = b} q = other_alone b q.no_and q.no_less q.no_more q.no_quote

other_lead : (b : ℕ) (l : List ℕ) → (b ≡ 0xEF → ⊥) → noncharacter (b ∷ l) ≡ false
unfolding noncharacter
other_lead b [] f = refl
other_lead b (x ∷ []) f = refl
other_lead b (x ∷ y ∷ l) f = rw (ne_eqb b 0xEF f)

quiet_written : {most b : ℕ} (l : List ℕ) → Quiet most b → writable (b ∷ l) ≡ writable l
unfolding writable
quiet_written {b = b} l q = rw (le-leb 0x20 b q.printing, other_lead b l q.no_top)

-- n quiet bytes: what is left decides, and they are written as they are
record Passes (s : List ℕ) (i n : ℕ) : Type 0 where
  same : writable (drop i s) ≡ writable (drop (i + n) s)
  bytes : escape (drop i s) ≡ take n (drop i s) ++ escape (drop (i + n) s)

pass : {most : ℕ} (s : List ℕ) (n i : ℕ) → i + n ≤ length s → AllQuiet most s i n → Passes s i n
unfolding escape
pass s zero i h q = let z : i + 0 ≡ i = omega arith in record { same = rw z; bytes = rw z }
pass {most} s (suc n) i h q =
    let z : i + 0 ≡ i = omega arith in
    let b : Quiet most (get_or s i 0) = rw z at (q 0 (omega arith)) in
    let m : i + 1 + n ≡ i + suc n = omega arith in
    let r = pass s n (i + 1) (omega arith) (λ k l. let y : i + suc k ≡ i + 1 + k = omega arith in rw y at (q (suc k) (omega arith))) in
    let d : drop i s ≡ get_or s i 0 ∷ drop (i + 1) s = cons_at s i (omega arith) in
    record {
      same = ap writable d ∙ quiet_written (drop (i + 1) s) b ∙ r.same ∙ ap (λ (k : ℕ). writable (drop k s)) m;
      bytes = rw (d, quiet_escaped b) (ap (λ (l : List ℕ). get_or s i 0 ∷ l) (r.bytes ∙ ap (λ (k : ℕ). take n (drop (i + 1) s) ++ escape (drop k s)) m));
    }

passed : {most : ℕ} {s : List ℕ} {i next : ℕ} → Ran most s i next → Passes s i (next - i)
passed {s = s} {i = i} {next = next} r = pass s (next - i) i (omega (arith, r.forward, r.inside)) r.all

-- ---- The size of a byte

some_bytes : (b : ℕ) → 1 ≤ length (escaped b)
unfolding escaped ascii
some_bytes b = go (eqb b 0x26) (eqb b 0x3C) (eqb b 0x3E) (eqb b 0x22) where
  go : (p q r t : Bool) → 1 ≤ length (cond p (ascii "&amp;") (cond q (ascii "&lt;") (cond r (ascii "&gt;") (cond t (ascii "&quot;") (b ∷ [])))))
  go true q r t = omega arith
  go false true r t = omega arith
  go false false true t = omega arith
  go false false false true = omega arith
  go false false false false = omega arith

pub letter_alone : (b : ℕ) → 0x3E < b → Alone b
letter_alone b g = other_alone b (λ q. omega arith) (λ q. omega arith) (λ q. omega arith) (λ q. omega arith)

pub alone_by : (b : ℕ) → (((eqb b 0x22 || eqb b 0x26) || eqb b 0x3C) || eqb b 0x3E) ≡ false → Alone b
alone_by b e =
    let n₃ = neither ((eqb b 0x22 || eqb b 0x26) || eqb b 0x3C) (eqb b 0x3E) e in
    let n₂ = neither (eqb b 0x22 || eqb b 0x26) (eqb b 0x3C) n₃.0 in
    let n₁ = neither (eqb b 0x22) (eqb b 0x26) n₂.0 in
    other_alone b (eqb-false b 0x26 n₁.1) (eqb-false b 0x3C n₂.1) (eqb-false b 0x3E n₃.1) (eqb-false b 0x22 n₁.0)

-- the sum of what each of the four is worth
pub extra_of : (b : ℕ) → 1 + (cond (eqb b 0x26) 4 0 + cond (eqb b 0x3C || eqb b 0x3E) 3 0 + cond (eqb b 0x22) 5 0) ≡ length (escaped b)
unfolding escaped ascii
extra_of b = go (ℕ_discrete b 0x26) (ℕ_discrete b 0x3C) (ℕ_discrete b 0x3E) (ℕ_discrete b 0x22) where
  go : Dec (b ≡ 0x26) → Dec (b ≡ 0x3C) → Dec (b ≡ 0x3E) → Dec (b ≡ 0x22) → 1 + (cond (eqb b 0x26) 4 0 + cond (eqb b 0x3C || eqb b 0x3E) 3 0 + cond (eqb b 0x22) 5 0) ≡ length (escaped b)
  go (yes e) q r t = rw e refl
  go (no n) (yes e) r t = rw e refl
  go (no n) (no m) (yes e) t = rw e refl
  go (no n) (no m) (no o) (yes e) = rw e refl
  go (no n) (no m) (no o) (no u) = rw (ne_eqb b 0x26 n, ne_eqb b 0x3C m, ne_eqb b 0x3E o, ne_eqb b 0x22 u) refl

pub sure_by : (b : ℕ) → (ltb b 0x20 || eqb b 0xEF) ≡ false → (0x20 ≤ b) × (b ≡ 0xEF → ⊥)
sure_by b e = let n = neither (ltb b 0x20) (eqb b 0xEF) e in (ltb-false b 0x20 n.0, eqb-false b 0xEF n.1)

module _ (s : List ℕ) (i : ℕ) (h : i < length s) where
  pub letter_size : 0x3E < get_or s i 0 → (get_or s i 0 ≡ 0xEF → ⊥) → Some 1 ≡ byte_size (drop i s)
  unfolding byte_size
  letter_size g f =
      let b = get_or s i 0 in
      rw (cons_at s i h, le-leb 0x20 b (omega arith), other_lead b (drop (i + 1) s) f, letter_alone b g)

  pub low_size : get_or s i 0 < 0x20 → None ≡ byte_size (drop i s)
  unfolding byte_size
  low_size k = rw (cons_at s i h, lt-leb 0x20 (get_or s i 0) k)

  pub top_size : 0x20 ≤ get_or s i 0 → true ≡ noncharacter (drop i s) → None ≡ byte_size (drop i s)
  unfolding byte_size
  top_size k n =
      let m : noncharacter (get_or s i 0 ∷ drop (i + 1) s) ≡ true = ap noncharacter (sym (cons_at s i h)) ∙ sym n in
      rw (cons_at s i h, le-leb 0x20 (get_or s i 0) k, m)

  pub other_size : 0x20 ≤ get_or s i 0 → false ≡ noncharacter (drop i s) → {r : ℕ} → r ≡ length (escaped (get_or s i 0)) → Some r ≡ byte_size (drop i s)
  unfolding byte_size
  other_size k n {r} e =
      let m : noncharacter (get_or s i 0 ∷ drop (i + 1) s) ≡ false = ap noncharacter (sym (cons_at s i h)) ∙ sym n in
      ap Some e ∙ rw (cons_at s i h, le-leb 0x20 (get_or s i 0) k, m)

escape_at : (s : List ℕ) (i : ℕ) → i < length s → escape (drop i s) ≡ escaped (get_or s i 0) ++ escape (drop (i + 1) s)
unfolding escape
escape_at s i h = rw (cons_at s i h)

-- ---- The size of a block

pub grows_none : {s : List ℕ} {i : ℕ} → i ≤ length s → Grows s i 0 0
grows_none {s} {i} h = let z : i + 0 ≡ i = omega arith in record { inside = omega arith; same = rw z; sum = omega (arith, ap (λ (k : ℕ). length (escape (drop k s))) z); bound = omega arith }

-- one byte more
pub grows-more : {s : List ℕ} {i j size : ℕ} → Grows s i j size → i + j < length s → 0x20 ≤ get_or s (i + j) 0 → (get_or s (i + j) 0 ≡ 0xEF → ⊥) → (m : ℕ)
    → 1 + m ≡ length (escaped (get_or s (i + j) 0)) → Grows s i (j + 1) (size + 1 + m)
unfolding writable
grows-more {s} {i} {j} {size} g h k f m e =
    let z : i + j + 1 ≡ i + (j + 1) = omega arith in
    let b = get_or s (i + j) 0 in
    record {
      inside = omega arith;
      same = g.same ∙ rw (cons_at s (i + j) h, le-leb 0x20 b k, other_lead b (drop (i + j + 1) s) f) (ap (λ (k : ℕ). writable (drop k s)) z);
      sum =
          omega (
            arith,
            g.sum,
            ap length (escape_at s (i + j) h),
            length-append (escaped b) (escape (drop (i + j + 1) s)),
            ap (λ (k : ℕ). length (escape (drop k s))) z,
          );
      bound = omega (arith, g.bound, few_bytes b);
    }

-- ---- The size of a text

-- the text is judged up to i, where it has so many bytes
pub record Sized (s : List ℕ) (i size : ℕ) : Type 0 where
  pub inside : i ≤ length s
  pub same : writable s ≡ writable (drop i s)
  pub sum : size + length (escape (drop i s)) ≡ length (escape s)
  pub bound : size ≤ 6 * i

pub sized-start : {s : List ℕ} → Sized s 0 0
sized-start {s} = record { inside = omega arith; same = refl; sum = omega arith; bound = omega arith }

module _ {s : List ℕ} {i size : ℕ} (z : Sized s i size) where
  pub sized-run : {most next : ℕ} → Ran most s i next → Sized s next (size + (next - i))
  sized-run {next = next} r =
      let p = passed r in
      let m : i + (next - i) ≡ next = omega (arith, r.forward) in
      let e : escape (drop i s) ≡ take (next - i) (drop i s) ++ escape (drop next s) = p.bytes ∙ ap (λ (k : ℕ). take (next - i) (drop i s) ++ escape (drop k s)) m in
      record {
        inside = r.inside;
        same = z.same ∙ p.same ∙ ap (λ (k : ℕ). writable (drop k s)) m;
        sum =
            omega (
              arith,
              z.sum,
              ap length e,
              length-append (take (next - i) (drop i s)) (escape (drop next s)),
              length-take-le (next - i) (drop i s) (omega (arith, length-drop i s, r.inside)),
            );
        bound = omega (arith, z.bound, r.forward);
      }

  -- a block
  pub sized_block : {n m : ℕ} → Grows s i n m → Sized s (i + n) (size + m)
  sized_block g = record {
    inside = g.inside;
    same = z.same ∙ g.same;
    sum = omega (arith, z.sum, g.sum);
    bound = omega (arith, z.bound, g.bound);
  }

  module _ (h : i < length s) where
    -- a byte that is written
    pub sized_byte : {n : ℕ} → Some n ≡ byte_size (drop i s) → Sized s (i + 1) (size + n)
    unfolding byte_size writable
    sized_byte {n} e = go (leb 0x20 (get_or s i 0) && not (noncharacter (get_or s i 0 ∷ drop (i + 1) s))) refl where
      go : (t : Bool) → (leb 0x20 (get_or s i 0) && not (noncharacter (get_or s i 0 ∷ drop (i + 1) s))) ≡ t → Sized s (i + 1) (size + n)
      go true q =
          let w : Some n ≡ Some (length (escaped (get_or s i 0))) = e ∙ rw (cons_at s i h, q) in
          let m : n ≡ length (escaped (get_or s i 0)) = cc in
          record {
            inside = omega arith;
            same = z.same ∙ rw (cons_at s i h, q);
            sum = omega (arith, z.sum, ap length (escape_at s i h), length-append (escaped (get_or s i 0)) (escape (drop (i + 1) s)));
            bound = omega (arith, z.bound, few_bytes (get_or s i 0));
          }
      go false q =
          let w : Some n ≡ None = e ∙ rw (cons_at s i h, q) in
          differ cc

    -- a character that is not
    pub unwritten_byte : None ≡ byte_size (drop i s) → None ≡ size_of s
    unfolding byte_size size_of writable
    unwritten_byte e = go (leb 0x20 (get_or s i 0) && not (noncharacter (get_or s i 0 ∷ drop (i + 1) s))) refl where
      go : (t : Bool) → (leb 0x20 (get_or s i 0) && not (noncharacter (get_or s i 0 ∷ drop (i + 1) s))) ≡ t → None ≡ size_of s
      go true q =
          let w : None ≡ Some (length (escaped (get_or s i 0))) = e ∙ rw (cons_at s i h, q) in
          differ cc
      go false q = rw (z.same, cons_at s i h, q)

  pub sized-end : length s ≤ i → Some size ≡ size_of s
  unfolding size_of writable escape
  sized-end h =
      let d : drop i s ≡ [] = drop_of_length-le s h in
      let w : writable s ≡ true = z.same ∙ rw d in
      let n : size ≡ length (escape s) = omega (arith, z.sum, ap (λ (l : List ℕ). length (escape l)) d) in
      rw w (ap Some n)

pub none-size : (l : List ℕ) (n : ℕ) → n ≡ 0 → Some 0 ≡ size_of (take n l)
none-size l n e = rw e (sized-end sized-start (omega arith))

-- ---- A part of the file that stands as it is

alone-part : (s : List ℕ) (n i : ℕ) → i + n ≤ length s → AllOf Alone s i n → escape (take n (drop i s)) ≡ take n (drop i s)
unfolding escape
alone-part s zero i h q = refl
alone-part s (suc n) i h q =
    let z : i + 0 ≡ i = omega arith in
    let b : Alone (get_or s i 0) = rw z at (q 0 (omega arith)) in
    let r = alone-part s n (i + 1) (omega arith) (λ k l. let y : i + suc k ≡ i + 1 + k = omega arith in rw y at (q (suc k) (omega arith))) in
    rw (cons_at s i (omega arith), b) (ap (λ (l : List ℕ). get_or s i 0 ∷ l) r)

quiet_part : {most : ℕ} (s : List ℕ) (n i : ℕ) → i + n ≤ length s → AllQuiet most s i n → writable (take n (drop i s)) ≡ true
unfolding writable
quiet_part s zero i h q = refl
quiet_part {most} s (suc n) i h q =
    let z : i + 0 ≡ i = omega arith in
    let b : Quiet most (get_or s i 0) = rw z at (q 0 (omega arith)) in
    let r = quiet_part s n (i + 1) (omega arith) (λ k l. let y : i + suc k ≡ i + 1 + k = omega arith in rw y at (q (suc k) (omega arith))) in
    rw (cons_at s i (omega arith)) (quiet_written (take n (drop (i + 1) s)) b ∙ r)

module _ (s : List ℕ) (n i : ℕ) (h : i + n ≤ length s) where
  part-long : length (take n (drop i s)) ≡ n
  part-long = length-take-le n (drop i s) (omega (arith, length-drop i s))

  pub quiet_size : {most : ℕ} → AllQuiet most s i n → Some n ≡ size_of (take n (drop i s))
  unfolding size_of
  quiet_size q = rw (quiet_part s n i h q, alone-part s n i h (λ k l. quiet_escaped (q k l)), part-long)

  pub plain-put : AllOf Alone s i n → (out : List ℕ) {out' : List ℕ} (to : ℕ) → out' ≡ copied out to s i n → PutTo (escape (take n (drop i s))) to out out' (to + n)
  plain-put q out to e = rw (alone-part s n i h q) (record { ends = omega (arith, part-long); put = put_copy s i n h e })

pub no_put : (l : List ℕ) (n : ℕ) → n ≡ 0 → (out : List ℕ) (to : ℕ) → PutTo (escape (take n l)) to out out to
unfolding escape
no_put l n e out to = rw e (record { ends = omega arith; put = put-none })

-- the quiet bytes at the start
pub sized_first : {most next : ℕ} {s : List ℕ} → Ran most s 0 next → Sized s next next
sized_first {next = next} r = let z : 0 + (next - 0) ≡ next = omega arith in rw z at (sized-run sized-start r)

-- a block of 32 bytes that stand as they are, and quiet bytes behind it
pub sized-blocks : {s : List ℕ} {i size n most next : ℕ} → Sized s i size → Grows s i 32 n → n ≡ 32 → Ran most s (i + 32) next → Sized s next (size + (next - i))
sized-blocks {s} {i} {size} {n} {most} {next} z g e r =
    let y : size + n + (next - (i + 32)) ≡ size + (next - i) = omega (arith, r.forward) in
    rw y at (sized-run (sized_block z g) r)

-- ---- A text put into an output

-- what each of the four is written as
pub amp_is : (b : ℕ) → b ≡ 0x26 → escaped b ≡ 0x26 ∷ 0x61 ∷ 0x6D ∷ 0x70 ∷ 0x3B ∷ []
unfolding escaped ascii
amp_is b e = rw e refl

pub amp_long : (b : ℕ) → b ≡ 0x26 → length (escaped b) ≡ 5
amp_long b e = ap length (amp_is b e)

pub less_is : (b : ℕ) → b ≡ 0x3C → escaped b ≡ 0x26 ∷ 0x6C ∷ 0x74 ∷ 0x3B ∷ []
unfolding escaped ascii
less_is b e = rw e refl

pub less_long : (b : ℕ) → b ≡ 0x3C → length (escaped b) ≡ 4
less_long b e = ap length (less_is b e)

pub more_is : (b : ℕ) → b ≡ 0x3E → escaped b ≡ 0x26 ∷ 0x67 ∷ 0x74 ∷ 0x3B ∷ []
unfolding escaped ascii
more_is b e = rw e refl

pub more-long : (b : ℕ) → b ≡ 0x3E → length (escaped b) ≡ 4
more-long b e = ap length (more_is b e)

pub quote_is : (b : ℕ) → b ≡ 0x22 → escaped b ≡ 0x26 ∷ 0x71 ∷ 0x75 ∷ 0x6F ∷ 0x74 ∷ 0x3B ∷ []
unfolding escaped ascii
quote_is b e = rw e refl

pub quote_long : (b : ℕ) → b ≡ 0x22 → length (escaped b) ≡ 6
quote_long b e = ap length (quote_is b e)

-- the entity of a byte
pub entity-put : (b : ℕ) {to r : ℕ} {out out' : List ℕ} (w : List ℕ) → escaped b ≡ w → length w ≡ r → Put w to out out' → EntityPut b to out out' (Some r)
entity-put b w e l p = (sym l ∙ ap length (sym e), rw e p)

-- bytes that stand as they are
alone-bytes : (s : List ℕ) (n i : ℕ) → i + n ≤ length s → AllOf Alone s i n → escape (drop i s) ≡ take n (drop i s) ++ escape (drop (i + n) s)
unfolding escape
alone-bytes s zero i h q = let z : i + 0 ≡ i = omega arith in rw z
alone-bytes s (suc n) i h q =
    let z : i + 0 ≡ i = omega arith in
    let b : Alone (get_or s i 0) = rw z at (q 0 (omega arith)) in
    let m : i + 1 + n ≡ i + suc n = omega arith in
    let r = alone-bytes s n (i + 1) (omega arith) (λ k l. let y : i + suc k ≡ i + 1 + k = omega arith in rw y at (q (suc k) (omega arith))) in
    let d : drop i s ≡ get_or s i 0 ∷ drop (i + 1) s = cons_at s i (omega arith) in
    rw (d, b) (ap (λ (l : List ℕ). get_or s i 0 ∷ l) (r ∙ ap (λ (k : ℕ). take n (drop (i + 1) s) ++ escape (drop k s)) m))

-- no text is shorter in the XML
escape-least : (t : List ℕ) → length t ≤ length (escape t)
unfolding escape
escape-least [] = omega arith
escape-least (b ∷ t) = omega (arith, length-append (escaped b) (escape t), some_bytes b, escape-least t)

pub no_run : {s : List ℕ} {from to : ℕ} {out : List ℕ} → from ≤ length s → RunPut s from to out out from
no_run {s} {from} h = let z : from - from ≡ 0 = omega arith in record { runs = passed_none h; put = rw z put-none }

pub copy_run : {s : List ℕ} {from to r : ℕ} {out out' : List ℕ} → Runs s from r → out' ≡ copied out to s from (r - from) → RunPut s from to out out' r
copy_run {s} {from} {to} {r} u c = record { runs = u; put = put_copy s from (r - from) (omega (arith, u.forward, u.inside)) c }

-- ---- Blocks of bytes, which may overlap

-- two blocks of k bytes, of which the second ends behind n
module _ (s : List ℕ) (from n k to : ℕ) (f : k ≤ n) (g : n ≤ k + k) (h : from + n ≤ length s) where
  abbrev l : List ℕ
  l = drop from s

  abbrev m : ℕ
  m = n - k

  long : (j : ℕ) → j ≤ n → length (take j l) ≡ j
  long j e = length-take-le j l (omega (arith, length-drop from s))

  pub put_over : {o₀ o₁ o₂ : List ℕ} → Put (take k l) to o₀ o₁ → Put (take k (drop (from + m) s)) (to + m) o₁ o₂ → Put (take n l) to o₀ o₂
  put_over {o₀} {o₁} {o₂} p q = record {
    puts = λ base done w r.
        let lk = long k f in
        let ln = long n (omega arith) in
        let lm = long m (omega arith) in
        let w₁ : Wrote base (done ++ take k l) o₁ (to + k) = rw lk at (p.puts base done w (omega (arith, lk, ln))) in
        let cut : take k l ≡ take m l ++ take (k - m) (drop m l) = ap (λ (j : ℕ). take j l) (let z : k ≡ m + (k - m) = omega arith in z) ∙ take_more m (k - m) l in
        let parts : o₁ ≡ (done ++ take m l) ++ (take (k - m) (drop m l) ++ drop (to + k) base)
        = w₁.stands ∙ ap (λ (j : List ℕ). (done ++ j) ++ drop (to + k) base) cut ∙ ap (λ (j : List ℕ). j ++ drop (to + k) base) (sym (append_assoc done (take m l) (take (k - m) (drop m l))))
        ∙ append_assoc (done ++ take m l) (take (k - m) (drop m l)) (drop (to + k) base) in
        let lb : length (done ++ take m l) ≡ to + m = length-append done (take m l) ∙ omega (arith, w.long, lm) in
        let tail : drop (to + m) o₁ ≡ take (k - m) (drop m l) ++ drop (to + k) base
        = ap (drop (to + m)) parts ∙ subst (λ (j : ℕ). drop j ((done ++ take m l) ++ (take (k - m) (drop m l) ++ drop (to + k) base)) ≡ take (k - m) (drop m l) ++ drop (to + k) base) lb
        (drop-append_seam (done ++ take m l) (take (k - m) (drop m l) ++ drop (to + k) base)) in
        let w₂ : Wrote o₁ (done ++ take m l) o₁ (to + m) = record { long = lb; stands = parts ∙ ap (λ (j : List ℕ). (done ++ take m l) ++ j) (sym tail) } in
        let lo : length o₁ ≡ length base = ap length w₁.stands ∙ omega (arith, length-append (done ++ take k l) (drop (to + k) base), length-drop (to + k) base, w₁.long, ln) in
        let block : take k (drop (from + m) s) ≡ take k (drop m l) = ap (take k) (sym (drop-drop m from s)) in
        let lq : length (take k (drop (from + m) s)) ≡ k = length-take-le k (drop (from + m) s) (omega (arith, length-drop (from + m) s)) in
        let e : to + m + k ≡ to + n = omega arith in
        let v : Wrote o₁ ((done ++ take m l) ++ take k (drop (from + m) s)) o₂ (to + n) = rw e at (rw lq at (q.puts o₁ (done ++ take m l) w₂ (omega (arith, lq, lo, ln)))) in
        let all : (done ++ take m l) ++ take k (drop (from + m) s) ≡ done ++ take n l
        = append_assoc done (take m l) (take k (drop (from + m) s)) ∙ ap (λ (j : List ℕ). done ++ (take m l ++ j)) block
        ∙ ap (λ (j : List ℕ). done ++ j) (sym (take_more m k l) ∙ ap (λ (j : ℕ). take j l) (let z : m + k ≡ n = omega arith in z)) in
        let behind : drop (to + k) o₁ ≡ drop (to + k) base
        = ap (drop (to + k)) w₁.stands ∙ subst (λ (j : ℕ). drop j ((done ++ take k l) ++ drop (to + k) base) ≡ drop (to + k) base) w₁.long (drop-append_seam (done ++ take k l) (drop (to + k) base)) in
        let far : drop (to + n) o₁ ≡ drop (to + n) base
        = ap (λ (j : ℕ). drop j o₁) (let z : to + n ≡ to + k + m = omega arith in z) ∙ sym (drop-drop m (to + k) o₁) ∙ ap (drop m) behind ∙ drop-drop m (to + k) base
        ∙ ap (λ (j : ℕ). drop j base) (let z : to + k + m ≡ to + n = omega arith in z) in
        rw ln (record { long = ap length (sym all) ∙ v.long; stands = v.stands ∙ ap (λ (j : List ℕ). j ++ drop (to + n) o₁) all ∙ ap (λ (j : List ℕ). (done ++ take n l) ++ j) far });
  }

module _ {Q : ℕ → Type 0} {s : List ℕ} {at to n r : ℕ} {out out' : List ℕ} (b : First Alone Q s at n r) (p : Put (take r (drop at s)) to out out') (l : at + n ≤ length s) where
  few_runs : Runs s at (at + r)
  few_runs = passed_more (passed_none (omega arith)) r (omega (arith, b.within)) b.before

  pub few_run : RunPut s at to out out' (at + r)
  few_run = let z : at + r - at ≡ r = omega arith in record { runs = few_runs; put = rw z p }

  pub run_on : {run : ℕ} {end : List ℕ} → n ≤ r → RunPut s (at + n) (to + n) out' end run → RunPut s at to out end run
  run_on {run} h q =
      let z : r ≡ n = omega (arith, b.within) in
      let f = q.runs.forward in
      let y : at + n + (run - (at + n)) ≡ run = omega (arith, f) in
      record {
        runs = rw y at (passed_more (rw z at few_runs) (run - (at + n)) (omega (arith, f, q.runs.inside)) q.runs.all);
        put = put_on s at n f q.runs.inside (rw z at p) q.put;
      }

-- the text is put up to its byte i, and the output is written up to j
pub record Putting (s out₀ : List ℕ) (to : ℕ) (out : List ℕ) (i j : ℕ) : Type 0 where
  pub inside : i ≤ length s
  pub pre : List ℕ
  pub bytes : escape s ≡ pre ++ escape (drop i s)
  pub place : j ≡ to + length pre
  pub same_size : length out ≡ length out₀
  pub puts : Put pre to out₀ out

pub putting_start : {s out : List ℕ} {to : ℕ} → Putting s out to out 0 to
putting_start = record { inside = omega arith; pre = []; bytes = refl; place = omega arith; same_size = refl; puts = put-none }

module _ {s out₀ : List ℕ} {to : ℕ} {out : List ℕ} {i j : ℕ} (p : Putting s out₀ to out i j) where
  -- some more bytes of it
  more : {out' : List ℕ} (next : ℕ) (b : List ℕ) → next ≤ length s → escape (drop i s) ≡ b ++ escape (drop next s) → length out' ≡ length out → Put b j out out'
      → {k : ℕ} → k ≡ j + length b → Putting s out₀ to out' next k
  more {out'} next b h e l q {k} z = record {
    inside = h;
    pre = p.pre ++ b;
    bytes = p.bytes ∙ ap (λ (x : List ℕ). p.pre ++ x) e ∙ sym (append_assoc p.pre b (escape (drop next s)));
    place = omega (arith, p.place, length-append p.pre b);
    same_size = l ∙ p.same_size;
    puts = put-more p.puts p.place q;
  }

  left : to + length (escape s) ≡ j + length (escape (drop i s))
  left = omega (arith, p.place, ap length p.bytes, length-append p.pre (escape (drop i s)))

  pub rest-fits : j + (length s - i) ≤ to + length (escape s)
  rest-fits = omega (arith, left, escape-least (drop i s), length-drop i s)

  pub byte_fits : i < length s → j + length (escaped (get_or s i 0)) ≤ to + length (escape s)
  byte_fits h = omega (arith, left, ap length (escape_at s i h), length-append (escaped (get_or s i 0)) (escape (drop (i + 1) s)))

  pub putting_entity : i < length s → {out' : List ℕ} {n : ℕ} → EntityPut (get_or s i 0) j out out' (Some n) → length out' ≡ length out → Putting s out₀ to out' (i + 1) (j + n)
  putting_entity h q l = more (i + 1) (escaped (get_or s i 0)) (omega arith) (escape_at s i h) l q.1 (omega (arith, q.0))

  -- a byte that has none
  pub putting_plain : i < length s → {out₁ : List ℕ} → EntityPut (get_or s i 0) j out out₁ None → length out₁ ≡ length out → Putting s out₀ to (set out₁ j (get_or s i 0)) (i + 1) (j + 1)
  putting_plain h {out₁} a l =
      let b = get_or s i 0 in
      let e : escape (drop i s) ≡ b ∷ [] ++ escape (drop (i + 1) s) = escape_at s i h ∙ ap (λ (x : List ℕ). x ++ escape (drop (i + 1) s)) a.0 in
      more (i + 1) (b ∷ []) (omega arith) e (length-set out₁ j b ∙ l) (put_one b (ap (λ (x : List ℕ). set x j b) a.1)) refl

  pub putting_run : {next : ℕ} {out' : List ℕ} → RunPut s i j out out' next → length out' ≡ length out → Putting s out₀ to out' next (j + (next - i))
  putting_run {next} {out'} q l =
      let r = q.runs in
      let m : i + (next - i) ≡ next = omega (arith, r.forward) in
      let e : escape (drop i s) ≡ take (next - i) (drop i s) ++ escape (drop next s)
      = alone-bytes s (next - i) i (omega (arith, r.forward, r.inside)) r.all ∙ ap (λ (k : ℕ). take (next - i) (drop i s) ++ escape (drop k s)) m in
      let n : length (take (next - i) (drop i s)) ≡ next - i = length-take-le (next - i) (drop i s) (omega (arith, length-drop i s, r.inside)) in
      more next (take (next - i) (drop i s)) r.inside e l q.put (omega (arith, n))

  pub no_further : j ≤ to + length (escape s)
  no_further = omega (arith, left)

  pub putting_end : length s ≤ i → PutTo (escape s) to out₀ out j
  unfolding escape
  putting_end h =
      let d : escape (drop i s) ≡ [] = ap escape (drop_of_length-le s h) in
      let e : escape s ≡ p.pre = p.bytes ∙ ap (λ (x : List ℕ). p.pre ++ x) d ∙ append-nil p.pre in
      record { ends = p.place ∙ omega (arith, ap length e); put = rw e p.puts }

-- a byte, and a run behind it
pub putting_on : {s out₀ : List ℕ} {to : ℕ} {out out' : List ℕ} (i j : ℕ) {next : ℕ} → Putting s out₀ to out (i + 1) (j + 1) → RunPut s (i + 1) (j + 1) out out' next → length out' ≡ length out
    → Putting s out₀ to out' next (j + (next - i))
putting_on i j {next} p q l =
    let z : j + 1 + (next - (i + 1)) ≡ j + (next - i) = omega (arith, q.runs.forward) in
    rw z at (putting_run p q l)

-- ---- An item put into an output

pub item-put : (t : List ℕ) {to mid end : ℕ} {out out₁ out₂ out₃ : List ℕ} → Put item_start to out out₁ → PutTo (escape t) (to + 6) out₁ out₂ mid → Put item_end mid out₂ out₃ → end ≡ mid + 7
    → PutTo (item t) to out out₃ end
item-put t {to} {mid} {end} a p b q = record {
  ends = omega (arith, item-long t, p.ends);
  put = put-more a (omega (arith, start-long)) (put-more p.put p.ends b);
}
