-- The kinds of the rows that have no parent, as they are put behind each other. Assumes nothing.
use Rattle.std.specs.Prelude.{◌≡◌, ℕ, zero, suc, ◌+◌, ◌-◌, ◌≤◌, ◌<◌, List, [], ◌∷◌, ◌++◌, length, get_or, take}
use Rattle.std.proofs.Common.{refl, sym, ap, ◌∙◌, arith, append-nil, append_assoc, take_all, length-append}
use lib.ListN.{length-take}
use lib.Seq.{take-append-le}
use Rattle.reading.specs.File.{root_kind}
use Rattle.table.specs.declared.Grid.{Grid}
use Rattle.table.specs.Grids.{cell_of}
use Rattle.resources.specs.Roots.{NotesRow}
use Rattle.resources.specs.Total.{roots_from, roots_of}

-- no row adds a kind where there is no room
pub no_room : (found more : List ℕ) → length found ≡ 257 → found ≡ take 257 (found ++ more)
no_room found more h = sym (take-append-le 257 found more (omega arith) ∙ take_all 257 found (omega arith))

-- a row with a parent adds no kind
pub no_root : (found : List ℕ) (parent kind : ℕ) → (parent ≡ 0 → ⊥) → length found ≤ 257 → found ≡ take 257 (found ++ root_kind parent kind [])
unfolding root_kind
no_root found zero kind h few = absurd (h refl)
no_root found (suc parent) kind h few = rw (append-nil, take_all 257 found few)

-- a row without a parent adds its kind
pub one_root : (found : List ℕ) (parent kind : ℕ) → parent ≡ 0 → length found < 257 → found ++ (kind ∷ []) ≡ take 257 (found ++ root_kind parent kind [])
unfolding root_kind
one_root found parent kind p h = rw p (sym (take_all 257 (found ++ (kind ∷ [])) (omega (arith, length-append found (kind ∷ [])))))

take_first : (n : ℕ) (a b : List ℕ) → take n (take n a ++ b) ≡ take n (a ++ b)
take_first zero a b = refl
take_first (suc n) [] b = refl
take_first (suc n) (x ∷ a) b = ap (λ (l : List ℕ). x ∷ l) (take_first n a b)

root_append : (parent kind : ℕ) (more : List ℕ) → root_kind parent kind more ≡ root_kind parent kind [] ++ more
unfolding root_kind
root_append zero kind more = refl
root_append (suc parent) kind more = refl

module _ (g : Grid) (w : List ℕ) (used : ℕ) where
  -- the first i rows were looked at: these kinds are found, and those of the rows from i on stand behind them
  abbrev pub Found : (found : List ℕ) (i : ℕ) → Type 0
  Found found i = (length found ≤ 257) × (take 257 (found ++ roots_from g w (used - i) i) ≡ roots_of g w used)

  pub found_none : Found [] 0
  found_none =
      let z : used - 0 ≡ used = omega arith in
      (omega arith, rw z)

  -- one more row was looked at, and its kind was put behind the others if it has no parent
  pub found_more : (found exit : List ℕ) (i : ℕ) → i < used → Found found i → NotesRow g w i found exit → Found exit (i + 1)
  unfolding roots_from
  found_more found exit i h f e =
      let z : used - i ≡ suc (used - (i + 1)) = omega arith in
      let more = roots_from g w (used - (i + 1)) (i + 1) in
      let own = root_kind (get_or w (cell_of g i 4) 0) (get_or w (cell_of g i 0) 0) [] in
      let q : roots_from g w (used - i) i ≡ own ++ more = rw z (root_append (get_or w (cell_of g i 4) 0) (get_or w (cell_of g i 0) 0) more) in
      let all : take 257 (found ++ (own ++ more)) ≡ roots_of g w used = rw q at f.1 in
      rw e (omega (arith, length-take 257 (found ++ own)), take_first 257 (found ++ own) more ∙ ap (take 257) (append_assoc found own more) ∙ all)

  pub found_all : (found : List ℕ) (i : ℕ) → used ≤ i → Found found i → found ≡ roots_of g w used
  unfolding roots_from
  found_all found i h f =
      let z : used - i ≡ 0 = omega arith in
      let all : take 257 (found ++ []) ≡ roots_of g w used = rw z at f.1 in
      sym (take_all 257 found f.0) ∙ ap (take 257) (sym (append-nil found)) ∙ all
