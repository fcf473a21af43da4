-- Laws of the entries that bytes hold: what was written is read back, and listed sizes have kinds. Assumes nothing.
use Rattle.std.specs.Prelude.{◌≡◌, refl, Bool, true, false, not, cond, List, [], ◌∷◌, ◌++◌, ℕ, zero, suc, ◌+◌, ◌≤◌, eqb, length, drop}
use Rattle.std.proofs.Common.{sym, ap, ◌∙◌, inl, inr, arith, length-append, lt-ltb, eqb-true}
use Rattle.std.proofs.Math.Seq.{take-append_seam, drop-append-add, get_or-append_seam}
use Rattle.laws.specs.Small.{differ}
use Rattle.layout.specs.Kind.{KindEntry, kind_entry, alike, lookup}
use Rattle.layout.specs.EnumList.{EnumEntry, entry, write_enums, EnumSize, Enums, size_in}
use Rattle.names.specs.Kind.{enum_kind}
use Rattle.names.specs.Entries.{entries_in, entries_of, is_size, lawful_size, lawfully, enums_of, listing}

written_from : (es : List EnumEntry) (m : ℕ) → length (write_enums es) ≤ m → entries_in m (write_enums es) ≡ es
unfolding entries_in write_enums
written_from [] zero h = refl
written_from [] (suc m) h = refl
written_from (entry n z ∷ es) zero h = absurd (omega arith)
written_from (entry n z ∷ es) (suc m) h =
    let r = z ∷ write_enums es in
    let l : length (n ++ r) ≡ length n + suc (length (write_enums es)) = length-append n r in
    let d : drop (suc (length n)) (n ++ r) ≡ write_enums es = ap (λ (k : ℕ). drop k (n ++ r)) (let q : suc (length n) ≡ length n + 1 = omega arith in q) ∙ drop-append-add n r 1 in
    rw (lt-ltb (length n) (length (n ++ r)) (omega arith), take-append_seam n r, get_or-append_seam n z (write_enums es) 0, d, written_from es m (omega arith))

-- what was written is read back
pub entries-written : (es : List EnumEntry) → entries_of (write_enums es) ≡ es
unfolding entries_of
entries-written es = written_from es (length (write_enums es)) (omega arith)

-- the test of a size, both ways
pub size-true : (z : ℕ) → EnumSize z → is_size z ≡ true
unfolding EnumSize is_size enum_kind
size-true z (inl e) = rw e
size-true z (inr (inl e)) = rw e
size-true z (inr (inr (inl e))) = rw e
size-true z (inr (inr (inr e))) = rw e

pub true-size : (z : ℕ) → is_size z ≡ true → EnumSize z
unfolding EnumSize is_size enum_kind
true-size z b = go (eqb z 1) (eqb z 2) (eqb z 4) (eqb z 8) refl refl refl refl b where
  go : (p q r s : Bool) → eqb z 1 ≡ p → eqb z 2 ≡ q → eqb z 4 ≡ r → eqb z 8 ≡ s → not (eqb (cond p 60 (cond q 61 (cond r 62 (cond s 63 0)))) 0) ≡ true → EnumSize z
  go true q r s e f g h b = inl (eqb-true z 1 e)
  go false true r s e f g h b = inr (inl (eqb-true z 2 f))
  go false false true s e f g h b = inr (inr (inl (eqb-true z 4 g)))
  go false false false true e f g h b = inr (inr (inr (eqb-true z 8 h)))
  go false false false false e f g h b = differ cc

-- no size is 0
pub size-some : (z : ℕ) → EnumSize z → z ≡ 0 → ⊥
unfolding EnumSize
size-some z (inl e) q = omega arith
size-some z (inr (inl e)) q = omega arith
size-some z (inr (inr (inl e))) q = omega arith
size-some z (inr (inr (inr e))) q = omega arith

lawful_is : (z : ℕ) → EnumSize z → lawful_size z ≡ z
unfolding lawful_size
lawful_is z w = rw (size-true z w)

all_lawful : (es : List EnumEntry) → Enums es → lawfully es ≡ es
unfolding lawfully Enums
all_lawful [] w = refl
all_lawful (entry n z ∷ es) w = rw (lawful_is z w.0.sized, all_lawful es w.2)

-- a list that 32 does not refuse holds what was written
pub enums-written : (es : List EnumEntry) → Enums es → enums_of (write_enums es) ≡ es
unfolding enums_of
enums-written es w = ap lawfully (entries-written es) ∙ all_lawful es w

pick-lawful : (b : Bool) (z x : ℕ) → lawful_size (cond b z x) ≡ cond b (lawful_size z) (lawful_size x)
pick-lawful true z x = refl
pick-lawful false z x = refl

size-lawful : (es : List EnumEntry) (h : List ℕ) → size_in (lawfully es) h ≡ lawful_size (size_in es h)
unfolding lawfully size_in lawful_size is_size enum_kind
size-lawful [] h = refl
size-lawful (entry n z ∷ es) h = rw (size-lawful es h, pick-lawful (alike h n) z (size_in es h))

lawful_size_lem : (z : ℕ) → (lawful_size z ≡ 0 → ⊥) → EnumSize (lawful_size z)
unfolding lawful_size
lawful_size_lem z f = go (is_size z) refl f where
  go : (b : Bool) → is_size z ≡ b → (cond b z 0 ≡ 0 → ⊥) → EnumSize (cond b z 0)
  go true e f = true-size z e
  go false e f = absurd (f refl)

-- a listed name has one of 02's sizes
pub enums-sized : (enums h : List ℕ) → (size_in (enums_of enums) h ≡ 0 → ⊥) → EnumSize (size_in (enums_of enums) h)
unfolding enums_of
enums-sized enums h f =
    let e = size-lawful (entries_of enums) h in
    rw e (lawful_size_lem (size_in (entries_of enums) h) (λ q. f (e ∙ q)))

some_kind : (k : ℕ) (b : Bool) → eqb k 0 ≡ b → cond (not b) k 0 ≡ k
some_kind k true e = sym (eqb-true k 0 e)
some_kind k false e = refl

pick_kind : (b : Bool) (z : ℕ) → enum_kind (cond b z 0) ≡ cond b (enum_kind z) 0
unfolding enum_kind
pick_kind true z = refl
pick_kind false z = refl

-- the kind of a listed name goes by the byte that the list has for it
pub kind_listed : (enums h : List ℕ) → enum_kind (size_in (enums_of enums) h) ≡ enum_kind (size_in (entries_of enums) h)
unfolding enums_of lawful_size is_size
kind_listed enums h = ap enum_kind (size-lawful (entries_of enums) h) ∙ pick_kind (is_size z) z ∙ some_kind (enum_kind z) (eqb (enum_kind z) 0) refl where
  z : ℕ
  z = size_in (entries_of enums) h

-- a table of heads and kinds holds what it lists
pub listing_is : (es : List KindEntry) (h : List ℕ) → size_in (listing es) h ≡ lookup h es
unfolding listing size_in lookup
listing_is [] h = refl
listing_is (kind_entry n k ∷ es) h = rw (listing_is es h)
