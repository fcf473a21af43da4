-- The contracts of the search for repeated keys, and its steps. Assumes nothing.
use Rattle.std.specs.Prelude.{◌≡◌, refl, Bool, true, false, eqb, get_or, Option, None, Some}
use Rattle.std.proofs.Math.Path.{sym, ap}
use Rattle.std.proofs.Common.{◌∙◌, Ordering, Equal, Greater}
use mathlib.Core.List.{List, [], ◌∷◌, ◌++◌}
use Prim.Native.Nat.{ℕ, zero, suc, ◌+◌, ◌/◌, ◌<◌, ◌≤◌}
use native.Mathlib.Omega.{arith}
use Rattle.std.proofs.Math.ListN.{drop}
use borrow.Author.Tests.{eqb-true, eqb-false, eq-eqb, ne_eqb}
use Rattle.laws.specs.Small.{differ}
use Rattle.layout.specs.Rows.{Row, words}
use Rattle.table.specs.declared.Grid.{Grid}
use Rattle.profile.specs.Offences.{repeated}
use Rattle.fault_places.specs.Places.{lowest_place, lower_of, Lowest, lowest-append, lower_assoc, lower-fine}
use Rattle.used_rows.specs.Held.{word_in, Held, Tells, drop_past, drop-row}
use Rattle.used_rows.specs.Steps.{head_kind}
use Rattle.std.proofs.Common as std
use Rattle.std.specs.Ordering.{is_eq}
use Rattle.text_order.specs.Ordered.{order_of, same_means, equal_first, Less, trans, irreflexive}
use Rattle.key_order.specs.Texts.{key_text, KeyCertificate}
use Rattle.key_repeats.specs.Hits.{One, Pair, Next, Neighbour, one_repeats, none-repeats, more-pairs, next_equal, next_differs, more_neighbours, by_order}
use Rattle.key_repeats.specs.Twins.{keys_fault}
use Rattle.key_repeats.specs.Gathered.{key_place, LowestKey, LowestAmong}

-- whether two texts are equal
pub record Alike (text : ℕ → List ℕ) (a b : ℕ) (r : Bool) : Type 0 where
  pub yes : r ≡ true → text a ≡ text b
  pub no : r ≡ false → text a ≡ text b → ⊥

-- whether text i is one of the first n
pub record Earlier (text : ℕ → List ℕ) (n i : ℕ) (r : Bool) : Type 0 where
  pub yes : r ≡ true → (h : ℕ) × (h < n) × (text h ≡ text i)
  pub no : r ≡ false → (h : ℕ) → h < n → text h ≡ text i → ⊥

pub same_self : (t : List ℕ) → order_of t t ≡ Equal
unfolding order_of
same_self [] = refl
same_self (x ∷ t) = equal_first x (order_of t t) ∙ same_self t

pub alike_by : (text : ℕ → List ℕ) (a b : ℕ) (o : Ordering) → o ≡ order_of (text a) (text b) → Alike text a b (is_eq o)
alike_by text a b o is = go o is where
  same_text : text a ≡ text b → order_of (text a) (text b) ≡ Equal
  same_text e = ap (λ (t : List ℕ). order_of (text a) t) (sym e) ∙ same_self (text a)

  go : (o : Ordering) → o ≡ order_of (text a) (text b) → Alike text a b (is_eq o)
  go std.Less is = record { yes = λ f. differ cc; no = λ _ e. let q = same_text e in differ cc }
  go Equal is = record { yes = λ _. same_means (text a) (text b) (sym is); no = λ f. differ cc }
  go Greater is = record { yes = λ f. differ cc; no = λ _ e. let q = same_text e in differ cc }

-- none of the first h
abbrev pub NoneOf : (text : ℕ → List ℕ) (h i : ℕ) → Type 0
NoneOf text h i = (k : ℕ) → k < h → text k ≡ text i → ⊥

pub none_more : (text : ℕ → List ℕ) (h i : ℕ) {r : Bool} → NoneOf text h i → Alike text h i r → r ≡ false → NoneOf text (h + 1) i
none_more text h i n a e k l = go (eqb k h) refl where
  go : (b : Bool) → eqb k h ≡ b → text k ≡ text i → ⊥
  go true q = λ t. a.no e (ap text (sym (eqb-true k h q)) ∙ t)
  go false q = n k (omega (arith, eqb-false k h q))

pub earlier_found : (text : ℕ → List ℕ) (h n i : ℕ) {r : Bool} → h < n → Alike text h i r → r ≡ true → Earlier text n i true
earlier_found text h n i l a e = record { yes = λ _. (h, l, a.yes e); no = λ f. differ cc }

pub earlier_none : (text : ℕ → List ℕ) (h n i : ℕ) → n ≤ h → NoneOf text h i → Earlier text n i false
earlier_none text h n i l m = record { yes = λ f. differ cc; no = λ _ k j. m k (omega arith) }

-- no row has more children than so many rows could be
abbrev pub Few : List Row → Type 0
Few rows = (i : ℕ) → word_in rows i 3 ≤ 65535

-- what 45 says of a row, and of all
abbrev pub KeysFault : (file : List ℕ) → Grid → (table : List ℕ) (used row : ℕ) → Option ℕ → Type 0
KeysFault file g table used row r = (rows : List Row) → Held g table used rows → Few rows → r ≡ lowest_place (keys_fault file (drop row rows))

abbrev pub RepeatedKeys : (file : List ℕ) → Grid → (table : List ℕ) (used : ℕ) → Option ℕ → Type 0
RepeatedKeys file g table used r = (rows : List Row) → Held g table used rows → Few rows → r ≡ lowest_place (repeated file rows)

module _ (file : List ℕ) (g : Grid) (table : List ℕ) (used row : ℕ) (there : row < used) {kind : ℕ} (t : Tells g table used (λ rows. word_in rows row 0) kind) where
  pub no_dictionary : (kind ≡ 19 → ⊥) → KeysFault file g table used row None
  unfolding keys_fault
  no_dictionary n rows d f =
      let e = head_kind g table used row there rows d t in
      rw (e.1, ne_eqb e.0.kind 19 (λ q. n (sym e.2 ∙ q)))

  module _ (is : kind ≡ 19) {children : ℕ} (u : Tells g table used (λ rows. word_in rows row 3) children) where
    pub too_many : 65535 < children → KeysFault file g table used row None
    too_many h rows d f = let e = u rows d in absurd (omega (arith, f row))

    pub keys_found : {r : Option ℕ} → LowestAmong file g table used ((children + 1) / 2) (row + 1) r → KeysFault file g table used row r
    unfolding keys_fault word_in words
    keys_found {r} l rows d f =
        let e = head_kind g table used row there rows d t in
        let c : e.0.children ≡ children = sym (row_children rows row e.0 (drop (suc row) rows) e.1) ∙ sym (u rows d) in
        let z : row + 1 ≡ suc row = omega arith in
        l rows d ∙ rw (e.1, eq-eqb e.0.kind 19 (e.2 ∙ is), c, z) where
          row_children : (rows : List Row) (i : ℕ) (r : Row) (rest : List Row) → drop i rows ≡ r ∷ rest → word_in rows i 3 ≡ r.children
          row_children [] zero r rest e = differ cc
          row_children [] (suc i) r rest e = differ cc
          row_children (q ∷ rows) zero r rest e = let z : q ≡ r = cc in rw z
          row_children (q ∷ rows) (suc i) r rest e = row_children rows i r rest e

-- the rows from a row on are left, and `best` is the lowest place before
abbrev pub SoFar : (file : List ℕ) → Grid → (table : List ℕ) (used row : ℕ) → Option ℕ → Type 0
SoFar file g table used row best = (rows : List Row) → Held g table used rows → Few rows → lowest_place (repeated file rows) ≡ lower_of best (lowest_place (repeated file (drop row rows)))

module _ (file : List ℕ) (g : Grid) (table : List ℕ) (used : ℕ) where
  pub one_dictionary : (row : ℕ) (best here : Option ℕ) → row < used → SoFar file g table used row best → KeysFault file g table used row here → SoFar file g table used (row + 1) (lower_of best here)
  unfolding repeated keys_fault
  one_dictionary row best here h s k rows d f =
      let e = drop-row rows row (omega (arith, d.count)) in
      let z : row + 1 ≡ suc row = omega arith in
      let x : repeated file (drop row rows) ≡ keys_fault file (drop row rows) ++ repeated file (drop (suc row) rows) = rw e.1 in
      s rows d f ∙ ap (λ (l : List ℕ). lower_of best (lowest_place l)) x ∙ ap (lower_of best) (lowest-append (keys_fault file (drop row rows)) (repeated file (drop (suc row) rows)))
      ∙ ap (λ (p : Option ℕ). lower_of best (lower_of p (lowest_place (repeated file (drop (suc row) rows))))) (sym (k rows d f))
      ∙ sym (lower_assoc best here (lowest_place (repeated file (drop (suc row) rows))))
      ∙ ap (λ (i : ℕ). lower_of (lower_of best here) (lowest_place (repeated file (drop i rows)))) (sym z)

  pub all_dictionaries : (row : ℕ) (best : Option ℕ) → used ≤ row → SoFar file g table used row best → (rows : List Row) → Held g table used rows → Few rows → best ≡ lowest_place (repeated file rows)
  unfolding repeated
  all_dictionaries row best h s rows d f =
      sym (s rows d f ∙ ap (λ (l : List Row). lower_of best (lowest_place (repeated file l))) (drop_past rows row (omega (arith, d.count))) ∙ lower-fine best)

-- ---- Neighbours

module _ (file : List ℕ) (g : Grid) (table keys order : List ℕ) (m j : ℕ) where
  abbrev Turn : Option ℕ → Type 0
  Turn r = Lowest (Next (key_text file g table keys) (key_place g table keys) (λ (k : ℕ). get_or order k 0) m j) r

  one_on : j + 1 ≡ suc j
  one_on = omega arith

  pub second-outside : {b : ℕ} → b ≡ get_or order (j + 1) 0 → m ≤ b → Turn None
  second-outside e h =
      let z : get_or order (j + 1) 0 ≡ get_or order (suc j) 0 = ap (λ (k : ℕ). get_or order k 0) one_on in
      next_differs (key_text file g table keys) (key_place g table keys) (λ (k : ℕ). get_or order k 0) m j (λ l _. omega arith)

  is_next : {b : ℕ} → b ≡ get_or order (j + 1) 0 → b ≡ get_or order (suc j) 0
  is_next e = e ∙ ap (λ (k : ℕ). get_or order k 0) one_on

  pub second_other : {a b : ℕ} {r : Bool} → b ≡ get_or order (j + 1) 0 → a ≡ get_or order j 0 → Alike (key_text file g table keys) a b r → r ≡ false → Turn None
  second_other {a} {b} e f w t =
      next_differs (key_text file g table keys) (key_place g table keys) (λ (k : ℕ). get_or order k 0) m j
      (λ _ q. w.no t (ap (key_text file g table keys) f ∙ q ∙ ap (key_text file g table keys) (sym (is_next e))))

  pub second_same : {a b p : ℕ} {r : Bool} → b ≡ get_or order (j + 1) 0 → b < m → a ≡ get_or order j 0 → Alike (key_text file g table keys) a b r → r ≡ true → p ≡ key_place g table keys b → Turn (Some p)
  second_same {a} {b} e h f w t p =
      let z : b ≡ get_or order (suc j) 0 = is_next e in
      next_equal (key_text file g table keys) (key_place g table keys) (λ (k : ℕ). get_or order k 0) m j (omega arith)
      (ap (key_text file g table keys) (sym f) ∙ w.yes t ∙ ap (key_text file g table keys) z) (ap (key_place g table keys) (sym z) ∙ sym p)

  abbrev UpTo : (n : ℕ) → Option ℕ → Type 0
  UpTo n r = Lowest (Neighbour (key_text file g table keys) (key_place g table keys) (λ (k : ℕ). get_or order k 0) m n) r

  pub neighbours_more : (a b r : Option ℕ) → r ≡ lower_of a b → UpTo (j + 1) a → Turn b → UpTo (j + 1 + 1) r
  neighbours_more a b r e l t =
      let z : j + 1 ≡ suc j = omega arith in
      let y : suc j + 1 ≡ suc (suc j) = omega arith in
      rw (e, z, y) (more_neighbours (key_text file g table keys) (key_place g table keys) (λ (k : ℕ). get_or order k 0) m j a b (rw z at l) t)

  pub neighbours_all : (r : Option ℕ) → j + 1 ≡ m → UpTo (j + 1) r → UpTo m r
  neighbours_all r e l = rw e at l

-- ---- Pairs

module _ (text : ℕ → List ℕ) (place : ℕ → ℕ) (i : ℕ) where
  pub no_repeat : {r : Bool} → Earlier text i i r → r ≡ false → Lowest (One text place i) None
  no_repeat w t = none-repeats text place i (λ x. w.no t x.0 x.1 x.2)

  pub a_repeat : {r : Bool} {p : ℕ} → Earlier text i i r → r ≡ true → p ≡ place i → Lowest (One text place i) (Some p)
  a_repeat w t e = one_repeats text place i (w.yes t) (sym e)

  pub pairs-more : (a b r : Option ℕ) → r ≡ lower_of a b → Lowest (Pair text place i) a → Lowest (One text place i) b → Lowest (Pair text place (i + 1)) r
  pairs-more a b r e l o = rw e (more-pairs text place i a b l o)

  pub pairs_all : (m : ℕ) (r : Option ℕ) → i ≡ m → Lowest (Pair text place i) r → Lowest (Pair text place m) r
  pairs_all m r e l = rw e at l

pub order_lowest : (file : List ℕ) (g : Grid) (table keys order : List ℕ) (m : ℕ) (r : Option ℕ) → KeyCertificate file g table keys m order
    → Lowest (Neighbour (key_text file g table keys) (key_place g table keys) (λ (k : ℕ). get_or order k 0) m m) r → LowestKey file g table keys m r
order_lowest file g table keys order m r c l = by_order (key_text file g table keys) (key_place g table keys) (λ (k : ℕ). get_or order k 0) Less trans irreflexive m c r l

pub one_dictionary_as : (file : List ℕ) (g : Grid) (table : List ℕ) (used row : ℕ) (best here r : Option ℕ) → r ≡ lower_of best here → row < used → SoFar file g table used row best
    → KeysFault file g table used row here → SoFar file g table used (row + 1) r
one_dictionary_as file g table used row best here r e h s k = rw e (one_dictionary file g table used row best here h s k)
