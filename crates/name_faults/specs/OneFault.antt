-- A name has at most one fault (02, Req 04: "the leftmost place decides, at one place 38"), so that what a refusal says of a name is the only thing that can be said. Assumes nothing.
use Rattle.std.specs.Prelude.{◌≡◌, refl, Bool, true, false, cond, List, [], ◌⊎◌, ℕ, suc, ◌+◌, ◌<◌, eqb, ltb, length, take}
use Rattle.std.proofs.Common.{sym, ap, subst, ◌∙◌, inl, inr, arith, eqb-true, ltb-true, ltb-false}
use Rattle.std.proofs.lemmas.Bool.{eqb-false}
use Rattle.layout.specs.Name.{Name, text}
use Rattle.layout.specs.Fault.{Part, head_start, head_end, digit, brackets, tail_end_lem, Place, fault_number, Fault}
use Rattle.names.specs.Complete.{end}
use Rattle.names.specs.Local.{Agree, fewer}
use Rattle.name_faults.specs.SameStart.{place_same}
use Rattle.name_faults.specs.Scan.{State, at_head, run, part_of, place-part}

-- 38 is of a part of level 9, at its start
is_38 : (level : ℕ) (part : Part) (ended : Bool) → fault_number level part ended ≡ 38 → (part ≡ head_start) × (level ≡ 9)
unfolding fault_number
is_38 level head_start ended q = go (eqb level 9) refl q where
  go : (t : Bool) → eqb level 9 ≡ t → ◌≡◌ {A = ℕ} (cond t 38 33) 38 → (head_start ≡ head_start) × (level ≡ 9)
  go true t q = (refl, eqb-true level 9 t)
  go false t q = absurd (omega arith)
is_38 level head_end true q = absurd (omega arith)
is_38 level head_end false q = absurd (omega arith)
is_38 level digit ended q = absurd (omega arith)
is_38 level brackets ended q = absurd (omega arith)
is_38 level tail_end_lem true q = absurd (omega arith)
is_38 level tail_end_lem false q = absurd (omega arith)

-- the other numbers do not hang on the level
level-free : (l k : ℕ) (part : Part) (ended : Bool) → (fault_number l part ended ≡ 38 → ⊥) → (fault_number k part ended ≡ 38 → ⊥) → fault_number l part ended ≡ fault_number k part ended
unfolding fault_number
level-free l k head_start ended f g = go (eqb l 9) (eqb k 9) f g where
  go : (x y : Bool) → (◌≡◌ {A = ℕ} (cond x 38 33) 38 → ⊥) → (◌≡◌ {A = ℕ} (cond y 38 33) 38 → ⊥) → ◌≡◌ {A = ℕ} (cond x 38 33) (cond y 38 33)
  go true y f g = absurd (f refl)
  go false true f g = absurd (g refl)
  go false false f g = refl
level-free l k head_end ended f g = refl
level-free l k digit ended f g = refl
level-free l k brackets ended f g = refl
level-free l k tail_end_lem ended f g = refl

module _ {s : List ℕ} where
  deep : {number i : ℕ} (f : Fault s number i) → number ≡ 38 → Place 9 head_start f.n i
  deep {number} {i} f e =
      let w = is_38 f.level f.part (eqb i (length s)) (sym f.is ∙ e) in
      subst (λ (l : ℕ). Place l head_start f.n i) w.1 (subst (λ (p : Part). Place f.level p f.n i) w.0 f.place)

  -- the names of two faults agree up to the first place
  agree : {n m i j : ℕ} (f : Fault s n i) (g : Fault s m j) → i < suc j → Agree i (text f.n) (text g.n)
  agree {i = i} {j = j} f g h = f.before ∙ sym (fewer i j (text g.n) s (omega arith) g.before)

  -- so a part of level 9 at that place is one of both
  deep_too : {n m i j : ℕ} (f : Fault s n i) (g : Fault s m j) → i < suc j → n ≡ 38 → (j < i) ⊎ ((j ≡ i) × (m ≡ 38))
  deep_too {i = i} f g h e = g.leftmost i (place_same f.n g.n [] [] 9 i f.formed g.formed end end (agree f g h) (deep f e))

  not_before : {n m i j : ℕ} → Fault s n i → Fault s m j → i < j → ⊥
  not_before {n} {m} {i} {j} f g h = go (eqb n 38) refl where
    other : (j < i) ⊎ ((j ≡ i) × (m ≡ 38)) → ⊥
    other (inl l) = omega arith
    other (inr w) = omega (arith, w.0)

    go : (t : Bool) → eqb n 38 ≡ t → ⊥
    go true t = other (deep_too f g (omega arith) (eqb-true n 38 t))
    go false t = f.after (eqb-false n 38 t) 9 g.n g.formed (fewer (suc i) j (text g.n) s (omega arith) g.before)

  same_place : {n m i j : ℕ} → Fault s n i → Fault s m j → i ≡ j
  same_place {i = i} {j = j} f g = go (ltb i j) (ltb j i) refl refl where
    go : (x y : Bool) → ltb i j ≡ x → ltb j i ≡ y → i ≡ j
    go true y p q = absurd (not_before f g (ltb-true i j p))
    go false true p q = absurd (not_before g f (ltb-true j i q))
    go false false p q = omega (arith, ltb-false i j p, ltb-false j i q)

  same_part : {n m i : ℕ} (f : Fault s n i) (g : Fault s m i) → f.part ≡ g.part
  same_part {i = i} f g =
      sym (place-part 9 f.n [] f.formed f.place) ∙ ap (λ (l : List ℕ). part_of (run at_head l)) (agree f g (omega arith)) ∙ place-part 9 g.n [] g.formed g.place

  same_number : {n m i : ℕ} → Fault s n i → Fault s m i → n ≡ m
  same_number {n} {m} {i} f g = go (eqb n 38) (eqb m 38) refl refl where
    told : {a b : ℕ} → (i < i) ⊎ ((i ≡ i) × (b ≡ 38)) → a ≡ 38 → a ≡ b
    told (inl l) e = absurd (omega arith)
    told (inr w) e = omega (arith, w.1)

    go : (x y : Bool) → eqb n 38 ≡ x → eqb m 38 ≡ y → n ≡ m
    go true y p q = let e = eqb-true n 38 p in told (deep_too f g (omega arith) e) e
    go false true p q = let e = eqb-true m 38 q in sym (told (deep_too g f (omega arith) e) e)
    go false false p q =
        let z = ap (λ (p : Part). fault_number g.level p (eqb i (length s))) (same_part f g) in
        f.is ∙ level-free f.level g.level f.part (eqb i (length s)) (λ e. eqb-false n 38 p (f.is ∙ e)) (λ e. eqb-false m 38 q (g.is ∙ sym z ∙ e)) ∙ z ∙ sym g.is

  pub one_fault : {n m i j : ℕ} → Fault s n i → Fault s m j → (n ≡ m) × (i ≡ j)
  one_fault {m = m} f g =
      let e = same_place f g in
      (same_number f (subst (λ (k : ℕ). Fault s m k) (sym e) g), e)
