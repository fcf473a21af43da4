-- A reader over a file and a place, and the two laws that make it the reader of a layout. Assumes nothing.
use Rattle.std.specs.Prelude.{◌≡◌, Bool, ℕ, zero, suc, ◌+◌, ◌-◌, ◌<◌, ◌≤◌, get_or}
use Rattle.std.proofs.Math.Path.{refl, sym, ap}
use Rattle.std.proofs.Common.{◌∙◌, arith, length-drop, take-append-drop}
use Rattle.std.proofs.Math.Bool.{true}
use mathlib.Core.List.{List, [], ◌∷◌, ◌++◌, append_assoc}
use Rattle.std.proofs.Math.Dec.{leb}
use Rattle.std.proofs.Math.ListN.{length, take, drop, length-append}
use Rattle.std.proofs.Math.Seq.{drop-drop, drop-append_seam, take-append_seam, length-take-le}
use borrow.Author.Tests.{leb-true, le-leb}
use Rattle.laws.specs.Ok.{ok_weaken}
use Rattle.reading.specs.Answer.{Answer, read, bind, check, Ok, is_read, ok_bind, ok_check}

-- a file of bytes
unfoldable pub Small : List ℕ → Type 0
Small [] = Unit {0}
Small (b ∷ bs) = (b < 256) × Small bs

-- as a slice's bytes are known, index by index
pub small_by_index : (l : List ℕ) → ((i : ℕ) → i < length l → get_or l i 0 < 256) → Small l
unfolding Small
small_by_index [] h = tt
small_by_index (b ∷ l) h = (h 0 (omega arith), small_by_index l (λ i k. h (suc i) (omega arith)))

pub small-drop : (n : ℕ) (l : List ℕ) → Small l → Small (drop n l)
unfolding Small
small-drop zero l h = h
small-drop (suc n) [] h = tt
small-drop (suc n) (x ∷ l) h = small-drop n l h.1

pub small_left : (a b : List ℕ) → Small (a ++ b) → Small a
unfolding Small
small_left [] b h = tt
small_left (x ∷ a) b h = (h.0, small_left a b h.1)

-- the bytes from `at` to `e` are laid down for the value
abbrev pub Spans : (file : List ℕ) {A : Type 0} → (A → List ℕ → Type 0) → ℕ → A → ℕ → Type 0
Spans file F at a e = (bs : List ℕ) × F a bs × (drop at file ≡ bs ++ drop e file) × (e ≡ at + length bs)

-- what is laid down is read; what is read, in a file of bytes, is laid down
pub record Reads (file : List ℕ) {A : Type 0} (F : A → List ℕ → Type 0) (r : ℕ → Answer A) : Type 0 where
  pub complete : (a : A) (bs rest : List ℕ) (at : ℕ) → F a bs → drop at file ≡ bs ++ rest → r at ≡ read a (at + length bs)
  pub sound : Small file → (at : ℕ) → Ok (Spans file F at) (r at)

module _ (file : List ℕ) where
  pub seam : (at : ℕ) (a b rest : List ℕ) → drop at file ≡ (a ++ b) ++ rest → drop (at + length a) file ≡ b ++ rest
  seam at a b rest e = sym (drop-drop (length a) at file) ∙ ap (drop (length a)) (e ∙ append_assoc a b rest) ∙ drop-append_seam a (b ++ rest)

  pub pure_reads : {A : Type 0} (a : A) → Reads file (λ b bs. (b ≡ a) × (bs ≡ [])) (λ e. read a e)
  pure_reads a = record {
    complete = λ b bs rest at f q. let z : at + length bs ≡ at = omega (arith, ap length f.1) in rw (z, f.0);
    sound = λ h at. let z : at ≡ at + 0 = omega arith in is_read ([], (refl, refl), refl, z);
  }

  pub bind_reads : {A B : Type 0} {F : A → List ℕ → Type 0} {r : ℕ → Answer A} {G : A → B → List ℕ → Type 0} {k : A → ℕ → ℕ → Answer B}
      → Reads file F r → ((a : A) (at : ℕ) → Reads file (G a) (k a at))
      → Reads file (λ b bs. (a : A) × (b₁ : List ℕ) × (b₂ : List ℕ) × (bs ≡ b₁ ++ b₂) × F a b₁ × G a b b₂) (λ at. bind (r at) (λ a e. k a at e))
  unfolding bind
  bind_reads x y = record {
    complete = λ b bs rest at f q.
        let b₁ = f.1 in
        let b₂ = f.2 in
        let e₀ : drop at file ≡ (b₁ ++ b₂) ++ rest = rw f.3 at q in
        let e₁ : drop at file ≡ b₁ ++ (b₂ ++ rest) = e₀ ∙ append_assoc b₁ b₂ rest in
        let l : at + length bs ≡ at + length b₁ + length b₂ = omega (arith, ap length f.3, length-append b₁ b₂) in
        rw (x.complete f.0 b₁ (b₂ ++ rest) at f.4 e₁, l) ((y f.0 at).complete b b₂ rest (at + length b₁) f.5 (seam at b₁ b₂ rest e₀));
    sound = λ h at. ok_bind (x.sound h at) (λ a e v. ok_weaken ((y a at).sound h e) (λ b e' u.
        let b₁ = v.0 in
        let b₂ = u.0 in
        let q : drop at file ≡ (b₁ ++ b₂) ++ drop e' file = v.2 ∙ ap (λ (l : List ℕ). b₁ ++ l) u.2 ∙ sym (append_assoc b₁ b₂ (drop e' file)) in
        let l : e' ≡ at + length (b₁ ++ b₂) = rw length-append (omega arith) in
        (b₁ ++ b₂, (a, b₁, b₂, refl, v.1, u.1), q, l)));
  }

  pub check_reads : {A : Type 0} {F : A → List ℕ → Type 0} {r : ℕ → Answer A} (b : Bool) (n : ℕ) (p : ℕ)
      → Reads file F r → Reads file (λ a bs. (b ≡ true) × F a bs) (λ at. check b n p (r at))
  unfolding check
  check_reads b n p x = record {
    complete = λ a bs rest at f q. rw f.0 (x.complete a bs rest at f.1 q);
    sound = λ h at. ok_check b n p _ (λ t. ok_weaken (x.sound h at) (λ a e v. (v.0, (t, v.1), v.2, v.3)));
  }

  -- the same reader for a layout that says the same of bytes
  pub convert : {A : Type 0} {F G : A → List ℕ → Type 0} {r : ℕ → Answer A}
      → Reads file F r → ((a : A) (bs : List ℕ) → Small bs → F a bs → G a bs) → ((a : A) (bs : List ℕ) → G a bs → F a bs) → Reads file G r
  convert x f g = record {
    complete = λ a bs rest at w q. x.complete a bs rest at (g a bs w) q;
    sound = λ h at. ok_weaken (x.sound h at) (λ a e v. (v.0, f a v.0 (small_left v.0 (drop e file) (rw v.2 at (small-drop at file h))) v.1, v.2, v.3));
  }

  -- the next n bytes; `place` is told where they are missing
  unfoldable pub some : (n place at : ℕ) → Answer (List ℕ)
  some n place at = check (leb n (length (drop at file))) 1 place (read (take n (drop at file)) (at + n))

  pub some_reads : (n place : ℕ) → Reads file (λ own bs. (bs ≡ own) × (length own ≡ n)) (some n place)
  unfolding some check
  some_reads n place = record {
    complete = λ own bs rest at f q.
        let k : n ≡ length bs = sym (ap length f.0 ∙ f.1) in
        let l : n ≤ length (bs ++ rest) = rw length-append (omega arith) in
        let t : leb n (length (drop at file)) ≡ true = rw q (le-leb n (length (bs ++ rest)) l) in
        rw (t, q, k, take-append_seam, f.0);
    sound = λ h at. ok_check (leb n (length (drop at file))) 1 place _ (λ t.
        let l : n ≤ length (drop at file) = leb-true n (length (drop at file)) t in
        let m : length (take n (drop at file)) ≡ n = length-take-le n (drop at file) l in
        let q : drop at file ≡ take n (drop at file) ++ drop (at + n) file = rw (← drop-drop n at file) (sym (take-append-drop n (drop at file))) in
        is_read (take n (drop at file), (refl, m), q, rw m));
  }

  -- a reader that tells its own start as the place of a fault
  pub here_reads : {A : Type 0} {F : A → List ℕ → Type 0} {r : ℕ → ℕ → Answer A} → ((p : ℕ) → Reads file F (r p)) → Reads file F (λ at. r at at)
  here_reads x = record { complete = λ a bs rest at f q. (x at).complete a bs rest at f q; sound = λ h at. (x at).sound h at }

  -- one field, a rule for it, and what it means
  unfoldable pub field : {A B : Type 0} → (ℕ → Answer A) → (A → Bool) → (A → B) → (place at : ℕ) → Answer B
  field r rule f place at = bind (r at) (λ a e. check (rule a) 15 place (read (f a) e))

  pub field_reads : {A B : Type 0} {F : A → List ℕ → Type 0} {r : ℕ → Answer A} (rule : A → Bool) (f : A → B) (place : ℕ) → Reads file F r
      → Reads file (λ b bs. (a : A) × F a bs × (rule a ≡ true) × (b ≡ f a)) (field r rule f place)
  unfolding field bind check
  field_reads rule f place x = record {
    complete = λ b bs rest at w q. rw (x.complete w.0 bs rest at w.1 q, w.2, w.3);
    sound = λ h at. ok_bind (x.sound h at) (λ a e v. ok_check (rule a) 15 place _ (λ t. is_read (v.0, (a, v.1, t, refl), v.2, v.3)));
  }

-- a layout that has a reader: two forms of which one begins the other are equal, and so are their values
pub reads_unique : {A : Type 0} {F : A → List ℕ → Type 0} (r : List ℕ → ℕ → Answer A) → ((file : List ℕ) → Reads file F (r file))
    → {a b : A} {bs cs : List ℕ} (rest others : List ℕ) → F a bs → F b cs → bs ++ rest ≡ cs ++ others → (a ≡ b) × (bs ≡ cs)
reads_unique r x {a} {b} {bs} {cs} rest others f g e =
    let file = bs ++ rest in
    let p : r file 0 ≡ read a (0 + length bs) = (x file).complete a bs rest 0 f refl in
    let q : r file 0 ≡ read b (0 + length cs) = (x file).complete b cs others 0 g e in
    let l : 0 + length bs ≡ 0 + length cs = cc in
    let m : length bs ≡ length cs = omega arith in
    (cc, sym (take-append_seam bs rest) ∙ ap (take (length bs)) e ∙ ap (λ (n : ℕ). take n (cs ++ others)) m ∙ take-append_seam cs others)

-- what a reader has read is there: the next place is behind its bytes, and these are in the file
pub record Next (file : List ℕ) {A : Type 0} (F : A → List ℕ → Type 0) (at : ℕ) (a : A) (e : ℕ) : Type 0 where
  pub form : List ℕ
  pub laid : F a form
  pub behind : e ≡ at + length form
  pub within : 1 ≤ length form → e ≤ length file

pub next_of : {file : List ℕ} {A : Type 0} {F : A → List ℕ → Type 0} {r : ℕ → Answer A} → Reads file F r → Small file
    → (at : ℕ) {a : A} {e : ℕ} → r at ≡ read a e → Next file F at a e
next_of {file} x s at {a} {e} q =
    let v = (x.sound s at).got q in
    let l : length file - at ≡ length v.0 + (length file - e) = omega (arith, length-drop at file, length-drop e file, simp length-append at (ap length v.2)) in
    record {
      form = v.0;
      laid = v.1;
      behind = v.3;
      within = λ some. omega (arith, v.3);
    }

-- what is read from inside the file ends inside it
pub reads_bounds : {file : List ℕ} {A : Type 0} {F : A → List ℕ → Type 0} {r : ℕ → Answer A} → Reads file F r → Small file
    → (at : ℕ) → at ≤ length file → {a : A} {e : ℕ} → r at ≡ read a e → (at ≤ e) × (e ≤ length file)
reads_bounds {file} x s at h {a} {e} q =
    let v = (x.sound s at).got q in
    let l : length file - at ≡ length v.0 + (length file - e) = omega (arith, length-drop at file, length-drop e file, simp length-append at (ap length v.2)) in
    (omega (arith, v.3), omega (arith, v.3))
