-- Rows stored in the words of a table, by rows or in columns (01, "The row table"; 02, Req 08): the laws of stores. Assumes nothing.
use Rattle.std.specs.Prelude.{◌≡◌, ℕ, zero, suc, ◌+◌, ◌*◌, ◌<◌, ◌≤◌, Bool, true, false, List, [], ◌∷◌, ◌++◌, length, ◌≢◌, nat_lt, slice_index, slice_index_or, slice_set}
use Rattle.std.proofs.Math.Path.{refl, ap}
use Rattle.std.proofs.Common.{sym, ◌∙◌, mul-suc, mul-le-mul_left, mul_comm, set-set, ltb-true, ltb-false}
use native.Mathlib.Omega.{arith}
use Rattle.std.proofs.Math.ListN.{length-set}
use Rattle.std.proofs.lemmas.List.{set_comm}
use Rattle.std.proofs.Math.Seq.{get_or-set_same, get_or-set_other}
use Rattle.layout.specs.Rows.{width}
use Rattle.layout.specs.Table.{Shape, by_rows, by_columns, cell}

module _ (s : Shape) (room : ℕ) where
  -- words stored from word j of row i on
  unfoldable pub puts : List ℕ → (i j : ℕ) → List ℕ → List ℕ
  puts w i j [] = w
  puts w i j (x ∷ xs) = puts (slice_set w (cell s room i j) x) i (suc j) xs

  -- rows stored from row u on
  unfoldable pub written_rows : List ℕ → (u : ℕ) → List (List ℕ) → List ℕ
  written_rows w u [] = w
  written_rows w u (r ∷ rs) = written_rows (puts w u 0 r) (suc u) rs

  pub written-append : (w : List ℕ) (u : ℕ) (rs qs : List (List ℕ)) → written_rows (written_rows w u rs) (u + length rs) qs ≡ written_rows w u (rs ++ qs)
  unfolding written_rows
  written-append w u [] qs = let z : u + 0 ≡ u = omega arith in rw z
  written-append w u (r ∷ rs) qs = let z : u + suc (length rs) ≡ suc u + length rs = omega arith in rw z (written-append (puts w u 0 r) (suc u) rs qs)

-- products of one number grow with the other
grows : (m a b : ℕ) → a < b → m * a + m ≤ m * b
grows m a b h = omega (arith, mul-suc m a, mul-le-mul_left m h)

apart-rows : (i j i' j' : ℕ) → j < width → j' < width → i < i' → width * i + j ≢ width * i' + j'
apart-rows i j i' j' h h' l e = omega arith

apart_columns : (room i j i' j' : ℕ) → i < room → i' < room → i < i' → i + room * j ≢ i' + room * j'
apart_columns room i j i' j' h h' l e = go (nat_lt j j') (nat_lt j' j) refl refl where
  go : (a b : Bool) → nat_lt j j' ≡ a → nat_lt j' j ≢ b
  go true b p q = omega (arith, grows room j j' (ltb-true j j' p))
  go false true p q = omega (arith, grows room j' j (ltb-true j' j q))
  go false false p q =
      let x : j ≡ j' = omega (arith, ltb-false j j' p, ltb-false j' j q) in
      let y : i + room * j' ≡ i' + room * j' = rw x at e in
      omega arith

-- cells of different rows are different words
pub apart : (s : Shape) (room i j i' j' : ℕ) → j < width → j' < width → i < room → i' < room → i < i' → cell s room i j ≢ cell s room i' j'
unfolding cell
apart by_rows room i j i' j' a b c d l e = apart-rows i j i' j' a b l e
apart by_columns room i j i' j' a b c d l e = apart_columns room i j i' j' c d l e

-- rows of so many words
unfoldable pub Wide : List (List ℕ) → Type 0
Wide [] = Unit {0}
Wide (r ∷ rs) = (length r ≡ width) × Wide rs

module _ (s : Shape) (room : ℕ) where
  abbrev at : (i j : ℕ) → ℕ
  at i j = cell s room i j

  -- a store into an earlier row may go first
  set_puts : (w : List ℕ) (i j x u k : ℕ) (xs : List ℕ) → j < width → k + length xs ≤ width → i < room → u < room → i < u
      → slice_set (puts s room w u k xs) (at i j) x ≡ puts s room (slice_set w (at i j) x) u k xs
  unfolding puts
  set_puts w i j x u k [] a b c d l = refl
  set_puts w i j x u k (y ∷ xs) a b c d l =
      set_puts (slice_set w (at u k) y) i j x u (suc k) xs a (omega arith) c d l
      ∙ ap (λ (v : List ℕ). puts s room v u (suc k) xs) (set_comm w (at u k) (at i j) y x (λ e. apart s room i j u k a (omega arith) c d l (sym e)))

  puts_puts : (w : List ℕ) (i j : ℕ) (xs : List ℕ) (u : ℕ) (ys : List ℕ) → j + length xs ≤ width → length ys ≤ width → i < room → u < room → i < u
      → puts s room (puts s room w u 0 ys) i j xs ≡ puts s room (puts s room w i j xs) u 0 ys
  unfolding puts
  puts_puts w i j [] u ys a b c d l = refl
  puts_puts w i j (x ∷ xs) u ys a b c d l =
      ap (λ (v : List ℕ). puts s room v i (suc j) xs) (set_puts w i j x u 0 ys (omega arith) (omega arith) c d l)
      ∙ puts_puts (slice_set w (at i j) x) i (suc j) xs u ys (omega arith) b c d l

  puts_rows : (w : List ℕ) (i : ℕ) (xs : List ℕ) (u : ℕ) (rs : List (List ℕ)) → length xs ≤ width → Wide rs → i < u → u + length rs ≤ room
      → puts s room (written_rows s room w u rs) i 0 xs ≡ written_rows s room (puts s room w i 0 xs) u rs
  unfolding written_rows Wide
  puts_rows w i xs u [] a b l f = refl
  puts_rows w i xs u (r ∷ rs) a b l f =
      puts_rows (puts s room w u 0 r) i xs (suc u) rs a b.1 (omega arith) (omega arith)
      ∙ ap (λ (v : List ℕ). written_rows s room v (suc u) rs) (puts_puts w i 0 xs u r (omega arith) (omega (arith, b.0)) (omega arith) (omega arith) l)

  -- the rows of the children, and then their parent's row before them
  pub written_under : (w : List ℕ) (u : ℕ) (r : List ℕ) (rs : List (List ℕ)) → length r ≡ width → Wide rs → suc u + length rs ≤ room
      → written_rows s room (written_rows s room w (suc u) rs) u (r ∷ []) ≡ written_rows s room w u (r ∷ rs)
  unfolding written_rows
  written_under w u r rs a b f = puts_rows w u r (suc u) rs (omega (arith, a)) b (omega arith) f

  length_puts : (w : List ℕ) (i j : ℕ) (xs : List ℕ) → length (puts s room w i j xs) ≡ length w
  unfolding puts
  length_puts w i j [] = refl
  length_puts w i j (x ∷ xs) = length_puts (slice_set w (at i j) x) i (suc j) xs ∙ length-set w (at i j) x

  pub length-rows : (w : List ℕ) (u : ℕ) (rs : List (List ℕ)) → length (written_rows s room w u rs) ≡ length w
  unfolding written_rows
  length-rows w u [] = refl
  length-rows w u (r ∷ rs) = length-rows (puts s room w u 0 r) (suc u) rs ∙ length_puts w u 0 r

-- the cells of one row are different words
pub one_row : (s : Shape) (room i j j' : ℕ) → i < room → cell s room i j ≡ cell s room i j' → j ≡ j'
unfolding cell
one_row by_rows room i j j' h e = omega arith
one_row by_columns room i j j' h e = go (nat_lt j j') (nat_lt j' j) refl refl where
  go : (a b : Bool) → nat_lt j j' ≡ a → nat_lt j' j ≡ b → j ≡ j'
  go true b p q = absurd (omega (arith, grows room j j' (ltb-true j j' p)))
  go false true p q = absurd (omega (arith, grows room j' j (ltb-true j' j q)))
  go false false p q = omega (arith, ltb-false j j' p, ltb-false j' j q)

-- the words of one row stand in order
pub cell-grows : (s : Shape) (room i j k : ℕ) → j ≤ k → cell s room i j ≤ cell s room i k
unfolding cell
cell-grows by_rows room i j k h = omega arith
cell-grows by_columns room i j k h = omega (arith, mul-le-mul_left room h)

-- cells of rows in the room stand in words that have the room
pub cell-inside : (s : Shape) (room i j n : ℕ) → i < room → j < width → width * room ≤ n → cell s room i j < n
unfolding cell
cell-inside by_rows room i j n a b c = omega arith
cell-inside by_columns room i j n a b c = omega (arith, grows room j width b, mul_comm room width)

-- different rows in either order
pub rows_apart : (s : Shape) (room i j i' j' : ℕ) → j < width → j' < width → i < room → i' < room → (i ≢ i') → cell s room i j ≢ cell s room i' j'
rows_apart s room i j i' j' a b c d n e = go (nat_lt i i') refl where
  go : (x : Bool) → nat_lt i i' ≢ x
  go true p = apart s room i j i' j' a b c d (ltb-true i i' p) e
  go false p = apart s room i' j' i j b a d c (omega (arith, ltb-false i i' p, n)) (sym e)

module _ (s : Shape) (room : ℕ) where
  -- ---- what stands in a cell

  -- another row is not touched
  puts_other : (w : List ℕ) (u k : ℕ) (xs : List ℕ) (i j : ℕ) → k + length xs ≤ width → j < width → u < room → i < room → (i ≢ u)
      → slice_index (puts s room w u k xs) (cell s room i j) ≡ slice_index w (cell s room i j)
  unfolding puts
  puts_other w u k [] i j a b c d n = refl
  puts_other w u k (x ∷ xs) i j a b c d n =
      puts_other (slice_set w (cell s room u k) x) u (suc k) xs i j (omega arith) b c d n
      ∙ get_or-set_other w (cell s room u k) (cell s room i j) x 0 (λ e. rows_apart s room i j u k b (omega arith) d c n e)

  -- earlier words of the row are not touched
  puts_before : (w : List ℕ) (u k : ℕ) (xs : List ℕ) (j : ℕ) → j < k → u < room → slice_index (puts s room w u k xs) (cell s room u j) ≡ slice_index w (cell s room u j)
  unfolding puts
  puts_before w u k [] j a c = refl
  puts_before w u k (x ∷ xs) j a c =
      puts_before (slice_set w (cell s room u k) x) u (suc k) xs j (omega arith) c
      ∙ get_or-set_other w (cell s room u k) (cell s room u j) x 0 (λ e. omega (arith, one_row s room u j k c e))

  puts_at : (w : List ℕ) (u k : ℕ) (xs : List ℕ) (j : ℕ) → k + length xs ≤ width → j < length xs → u < room → width * room ≤ length w
      → slice_index (puts s room w u k xs) (cell s room u (k + j)) ≡ slice_index xs j
  unfolding puts
  puts_at w u k [] j a b c d = absurd (omega arith)
  puts_at w u k (x ∷ xs) zero a b c d =
      let z : k + 0 ≡ k = omega arith in
      rw z (puts_before (slice_set w (cell s room u k) x) u (suc k) xs k (omega arith) c
      ∙ get_or-set_same w (cell s room u k) x 0 (cell-inside s room u k (length w) c (omega arith) d))
  puts_at w u k (x ∷ xs) (suc j) a b c d =
      let z : k + suc j ≡ suc k + j = omega arith in
      rw z (puts_at (slice_set w (cell s room u k) x) u (suc k) xs j (omega arith) (omega arith) c (rw (length-set w (cell s room u k) x) d))

  -- rows before are not touched
  pub rows_before : (w : List ℕ) (u : ℕ) (rs : List (List ℕ)) (i j : ℕ) → Wide rs → u + length rs ≤ room → i < u → j < width
      → slice_index (written_rows s room w u rs) (cell s room i j) ≡ slice_index w (cell s room i j)
  unfolding written_rows Wide
  rows_before w u [] i j a b c d = refl
  rows_before w u (r ∷ rs) i j a b c d =
      rows_before (puts s room w u 0 r) (suc u) rs i j a.1 (omega arith) (omega arith) d
      ∙ puts_other w u 0 r i j (omega (arith, a.0)) d (omega arith) (omega arith) (λ e. omega arith)

  -- word j of row i of the rows that stand from u on
  pub rows_at : (w : List ℕ) (u : ℕ) (rs : List (List ℕ)) (i j : ℕ) → Wide rs → u + length rs ≤ room → i < length rs → j < width → width * room ≤ length w
      → slice_index (written_rows s room w u rs) (cell s room (u + i) j) ≡ slice_index (slice_index_or rs i []) j
  unfolding written_rows Wide
  rows_at w u [] i j a b c d f = absurd (omega arith)
  rows_at w u (r ∷ rs) zero j a b c d f =
      let z : u + 0 ≡ u = omega arith in
      let y : 0 + j ≡ j = omega arith in
      rw z (rows_before (puts s room w u 0 r) (suc u) rs u j a.1 (omega arith) (omega arith) d
      ∙ (rw y at (puts_at w u 0 r j (omega (arith, a.0)) (omega (arith, a.0)) (omega arith) f)))
  rows_at w u (r ∷ rs) (suc i) j a b c d f =
      let z : u + suc i ≡ suc u + i = omega arith in
      rw z (rows_at (puts s room w u 0 r) (suc u) rs i j a.1 (omega arith) (omega arith) d (rw (length_puts s room w u 0 r) f))

  -- ---- a store into a row

  set_later : (w : List ℕ) (u k : ℕ) (xs : List ℕ) (j x : ℕ) → j < k → u < room → slice_set (puts s room w u k xs) (cell s room u j) x ≡ puts s room (slice_set w (cell s room u j) x) u k xs
  unfolding puts
  set_later w u k [] j x a c = refl
  set_later w u k (y ∷ xs) j x a c =
      set_later (slice_set w (cell s room u k) y) u (suc k) xs j x (omega arith) c
      ∙ ap (λ (v : List ℕ). puts s room v u (suc k) xs) (set_comm w (cell s room u k) (cell s room u j) y x (λ e. omega (arith, one_row s room u k j c e)))

  set_in : (w : List ℕ) (u k : ℕ) (xs : List ℕ) (j x : ℕ) → j < length xs → u < room → slice_set (puts s room w u k xs) (cell s room u (k + j)) x ≡ puts s room w u k (slice_set xs j x)
  unfolding puts
  set_in w u k [] j x b c = absurd (omega arith)
  set_in w u k (y ∷ xs) zero x b c =
      let z : k + 0 ≡ k = omega arith in
      rw z (set_later (slice_set w (cell s room u k) y) u (suc k) xs k x (omega arith) c
      ∙ ap (λ (v : List ℕ). puts s room v u (suc k) xs) (set-set w (cell s room u k) y x))
  set_in w u k (y ∷ xs) (suc j) x b c =
      let z : k + suc j ≡ suc k + j = omega arith in
      rw z (set_in (slice_set w (cell s room u k) y) u (suc k) xs j x (omega arith) c)

  -- a store before some rows may go first
  set_rows : (w : List ℕ) (i j x : ℕ) (u : ℕ) (rs : List (List ℕ)) → j < width → Wide rs → i < u → u + length rs ≤ room
      → slice_set (written_rows s room w u rs) (cell s room i j) x ≡ written_rows s room (slice_set w (cell s room i j) x) u rs
  unfolding written_rows Wide
  set_rows w i j x u [] a b l f = refl
  set_rows w i j x u (r ∷ rs) a b l f =
      set_rows (puts s room w u 0 r) i j x (suc u) rs a b.1 (omega arith) (omega arith)
      ∙ ap (λ (v : List ℕ). written_rows s room v (suc u) rs) (set_puts s room w i j x u 0 r a (omega (arith, b.0)) (omega arith) (omega arith) l)

  -- a store into word j of row i of the rows that stand from u on
  pub set-row : (w : List ℕ) (u : ℕ) (rs : List (List ℕ)) (i j x : ℕ) → Wide rs → u + length rs ≤ room → i < length rs → j < width
      → slice_set (written_rows s room w u rs) (cell s room (u + i) j) x ≡ written_rows s room w u (slice_set rs i (slice_set (slice_index_or rs i []) j x))
  unfolding written_rows Wide
  set-row w u [] i j x a b c d = absurd (omega arith)
  set-row w u (r ∷ rs) zero j x a b c d =
      let z : u + 0 ≡ u = omega arith in
      let y : 0 + j ≡ j = omega arith in
      rw z (set_rows (puts s room w u 0 r) u j x (suc u) rs d a.1 (omega arith) (omega arith)
      ∙ ap (λ (v : List ℕ). written_rows s room v (suc u) rs) (rw y at (set_in w u 0 r j x (omega (arith, a.0)) (omega arith))))
  set-row w u (r ∷ rs) (suc i) j x a b c d =
      let z : u + suc i ≡ suc u + i = omega arith in
      rw z (set-row (puts s room w u 0 r) (suc u) rs i j x a.1 (omega arith) (omega arith) d)
