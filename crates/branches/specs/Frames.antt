-- The rule of the seventh word holds of the rows of any trees. Only a row's children, parent and count matter to it, and these follow from the trees alone. Assumes nothing.
use Rattle.std.specs.Prelude.{◌≡◌, Bool, cond, get_or}
use Rattle.std.proofs.Math.Path.{refl, ap}
use Rattle.std.proofs.Common.{sym, ◌∙◌, length-append, length-drop, get_or-drop, drop-drop}
use Rattle.std.proofs.Math.Bool.{true, false}
use mathlib.Core.List.{List, [], ◌∷◌, ◌++◌, append_assoc, append-nil}
use Prim.Native.Nat.{ℕ, suc, ◌+◌, ◌<◌, ◌≤◌}
use native.Mathlib.Omega.{arith}
use Rattle.std.proofs.Math.Dec.{eqb, ltb}
use Rattle.std.proofs.Math.ListN.{length, drop}
use Rattle.std.proofs.Math.Seq.{drop-append_seam}
use borrow.Author.Tests.{eqb-true, eqb-false, eq-eqb, ne_eqb, ltb-true, ltb-false}
use Rattle.layout.specs.Tree.{Trees, none, tree, count, size}
use Rattle.layout.specs.Branches.{naming, Chain, Skips}

-- of a row: its number of children, its parent's row number plus 1, and how many rows it has with all below it
pub record Frame : Type 0 where
  pub children : ℕ
  pub parent : ℕ
  pub branch : ℕ

abbrev pub frame : (children parent branch : ℕ) → Frame
frame children parent branch = record { children = children; parent = parent; branch = branch }

abbrev pub nil : Frame
nil = frame 0 0 0

-- those of row i
abbrev pub children_of : List Frame → ℕ → ℕ
children_of rows i = (get_or rows i nil).children

abbrev pub parent_of : List Frame → ℕ → ℕ
parent_of rows i = (get_or rows i nil).parent

abbrev pub branch_of : List Frame → ℕ → ℕ
branch_of rows i = (get_or rows i nil).branch

abbrev pub ChainIn : List Frame → (name at n end : ℕ) → Type 0
ChainIn rows name at n end = Chain (parent_of rows) (branch_of rows) (length rows) name at n end

-- the frames of trees, the first of which has row number n and the parent p
unfoldable pub frames : Trees → (n p : ℕ) → List Frame
frames none n p = []
frames (tree k i own cs rest) n p = frame (count cs) p (suc (size cs)) ∷ (frames cs (suc n) (suc n) ++ frames rest (n + suc (size cs)) p)

-- how many rows name a parent
unfoldable pub tally : ℕ → List Frame → ℕ
tally q [] = 0
tally q (x ∷ l) = cond (eqb x.parent q) (suc (tally q l)) (tally q l)

length-frames : (ts : Trees) (n p : ℕ) → length (frames ts n p) ≡ size ts
unfolding frames size
length-frames none n p = refl
length-frames (tree k i own cs rest) n p =
    let a = frames cs (suc n) (suc n) in
    let b = frames rest (n + suc (size cs)) p in
    let x : length a ≡ size cs = length-frames cs (suc n) (suc n) in
    let y : length b ≡ size rest = length-frames rest (n + suc (size cs)) p in
    let z : length (a ++ b) ≡ length a + length b = length-append a b in
    omega arith

-- frames that stand in rows from n on: the first, those below it, and those behind it
record Parts (rows : List Frame) (k i : ℕ) (own : List ℕ) (cs rest : Trees) (n p : ℕ) (post : List Frame) : Type 0 where
  pub there : n < length rows
  pub children : children_of rows n ≡ count cs
  pub parent : parent_of rows n ≡ p
  pub branch : branch_of rows n ≡ suc (size cs)
  pub below : drop (suc n) rows ≡ frames cs (suc n) (suc n) ++ (frames rest (n + suc (size cs)) p ++ post)
  pub behind : drop (n + suc (size cs)) rows ≡ frames rest (n + suc (size cs)) p ++ post

module _ (rows : List Frame) where
  taken : (n : ℕ) (x : Frame) (l : List Frame) → drop n rows ≡ x ∷ l → (n < length rows) × (get_or rows n nil ≡ x) × (drop (suc n) rows ≡ l)
  taken n x l e =
      let z : n + 0 ≡ n = omega arith in
      let o : n + 1 ≡ suc n = omega arith in
      let d : drop 1 (drop n rows) ≡ drop (n + 1) rows = drop-drop 1 n rows in
      (omega (arith, length-drop n rows, ap length e), sym (rw z at (get_or-drop n rows 0 nil)) ∙ ap (λ (m : List Frame). get_or m 0 nil) e, rw o at (sym d) ∙ ap (drop 1) e)

  parts : (k i : ℕ) (own : List ℕ) (cs rest : Trees) (n p : ℕ) (post : List Frame) → drop n rows ≡ frames (tree k i own cs rest) n p ++ post → Parts rows k i own cs rest n p post
  unfolding frames
  parts k i own cs rest n p post e =
      let a = frames cs (suc n) (suc n) in
      let b = frames rest (n + suc (size cs)) p in
      let t = taken n (frame (count cs) p (suc (size cs))) ((a ++ b) ++ post) e in
      let d : drop (suc n) rows ≡ a ++ (b ++ post) = t.2 ∙ append_assoc a b post in
      let l : length a ≡ size cs = length-frames cs (suc n) (suc n) in
      let s : suc n + length a ≡ n + suc (size cs) = omega arith in
      record {
        there = t.0;
        children = ap (λ (x : Frame). x.children) t.1;
        parent = ap (λ (x : Frame). x.parent) t.1;
        branch = ap (λ (x : Frame). x.branch) t.1;
        below = d;
        behind = rw s at (sym (drop-drop (length a) (suc n) rows)) ∙ ap (drop (length a)) d ∙ drop-append_seam a (b ++ post);
      }

  siblings : (ts : Trees) (n p : ℕ) (post : List Frame) → drop n rows ≡ frames ts n p ++ post → ChainIn rows p n (count ts) (n + size ts)
  unfolding Chain count size
  siblings none n p post e = omega arith
  siblings (tree k i own cs rest) n p post e =
      let w = parts k i own cs rest n p post e in
      let q : n + suc (size cs) + size rest ≡ n + (suc (size cs) + size rest) = omega arith in
      (w.there, w.parent, rw (w.branch, ← q) (siblings rest (n + suc (size cs)) p post w.behind))

  -- each row inside the trees keeps the rule's second part
  chains : (ts : Trees) (n p : ℕ) (post : List Frame) → drop n rows ≡ frames ts n p ++ post → (i : ℕ) → n ≤ i → i < n + size ts
      → ChainIn rows (suc i) (suc i) (children_of rows i) (i + branch_of rows i)
  unfolding size
  chains none n p post e i h l = absurd (omega arith)
  chains (tree k d own cs rest) n p post e i h l =
      let w = parts k d own cs rest n p post e in
      go (eqb i n) (ltb i (n + suc (size cs))) refl refl w (siblings cs (suc n) (suc n) (frames rest (n + suc (size cs)) p ++ post) w.below)
      (λ a b. chains cs (suc n) (suc n) (frames rest (n + suc (size cs)) p ++ post) w.below i a b)
      (λ a b. chains rest (n + suc (size cs)) p post w.behind i a b)
    where
      go : (a b : Bool) → eqb i n ≡ a → ltb i (n + suc (size cs)) ≡ b → Parts rows k d own cs rest n p post → ChainIn rows (suc n) (suc n) (count cs) (suc n + size cs)
          → (suc n ≤ i → i < suc n + size cs → ChainIn rows (suc i) (suc i) (children_of rows i) (i + branch_of rows i))
          → (n + suc (size cs) ≤ i → i < n + suc (size cs) + size rest → ChainIn rows (suc i) (suc i) (children_of rows i) (i + branch_of rows i))
          → ChainIn rows (suc i) (suc i) (children_of rows i) (i + branch_of rows i)
      go true b x y w here below behind = rw (eqb-true i n x, w.children, w.branch) (let s : suc n + size cs ≡ n + suc (size cs) = omega arith in rw s at here)
      go false true x y w here below behind = below (omega (arith, eqb-false i n x)) (omega (arith, ltb-true i (n + suc (size cs)) y))
      go false false x y w here below behind = behind (ltb-false i (n + suc (size cs)) y) (omega arith)

tally-append : (q : ℕ) (a b : List Frame) → tally q (a ++ b) ≡ tally q a + tally q b
unfolding tally
tally-append q [] b = omega arith
tally-append q (x ∷ a) b = go (eqb x.parent q) (tally-append q a b) where
  go : (c : Bool) → tally q (a ++ b) ≡ tally q a + tally q b → cond c (suc (tally q (a ++ b))) (tally q (a ++ b)) ≡ cond c (suc (tally q a)) (tally q a) + tally q b
  go true e = omega (arith, e)
  go false e = e

-- the parents that rows of trees name: their own, and row numbers of theirs plus 1
strangers : (ts : Trees) (n p q : ℕ) → (p ≡ q → ⊥) → (q ≤ n) → tally q (frames ts n p) ≡ 0
unfolding frames tally
strangers none n p q h l = refl
strangers (tree k i own cs rest) n p q h l =
    rw (ne_eqb p q h, tally-append q (frames cs (suc n) (suc n)) (frames rest (n + suc (size cs)) p), strangers cs (suc n) (suc n) q (λ e. omega arith) (omega arith), strangers rest (n + suc (size cs)) p q h (omega arith))

own_children : (ts : Trees) (n p : ℕ) → p ≤ n → tally p (frames ts n p) ≡ count ts
unfolding frames tally count
own_children none n p l = refl
own_children (tree k i own cs rest) n p l =
    rw (eq-eqb p p refl, tally-append p (frames cs (suc n) (suc n)) (frames rest (n + suc (size cs)) p), strangers cs (suc n) (suc n) p (λ e. omega arith) (omega arith))
    (omega (arith, own_children rest (n + suc (size cs)) p (omega arith)))

late : (ts : Trees) (n p q : ℕ) → (p ≡ q → ⊥) → n + size ts < q → tally q (frames ts n p) ≡ 0
unfolding frames tally size
late none n p q h l = refl
late (tree k i own cs rest) n p q h l =
    rw (ne_eqb p q h, tally-append q (frames cs (suc n) (suc n)) (frames rest (n + suc (size cs)) p), late cs (suc n) (suc n) q (λ e. omega arith) (omega arith), late rest (n + suc (size cs)) p q h (omega arith))

split : (cs rest : Trees) (n p q c : ℕ) → (p ≡ q → ⊥) → tally q (frames cs (suc n) (suc n)) + tally q (frames rest (n + suc (size cs)) p) ≡ c
    → (k i : ℕ) (own : List ℕ) → tally q (frames (tree k i own cs rest) n p) ≡ c
unfolding frames tally
split cs rest n p q c h e k i own = rw (ne_eqb p q h, tally-append q (frames cs (suc n) (suc n)) (frames rest (n + suc (size cs)) p)) e

module _ (rows : List Frame) where
  many_in : (ts : Trees) (n p : ℕ) (post : List Frame) → drop n rows ≡ frames ts n p ++ post → p ≤ n → (i : ℕ) → n ≤ i → i < n + size ts → tally (suc i) (frames ts n p) ≡ children_of rows i
  unfolding size
  many_in none n p post e h i l m = absurd (omega arith)
  many_in (tree k d own cs rest) n p post e h i l m =
      let w = parts rows k d own cs rest n p post e in
      split cs rest n p (suc i) (children_of rows i) (λ z. omega arith)
      (go (eqb i n) (ltb i (n + suc (size cs))) refl refl w
      (λ a b. many_in cs (suc n) (suc n) (frames rest (n + suc (size cs)) p ++ post) w.below (omega arith) i a b)
      (λ a b. many_in rest (n + suc (size cs)) p post w.behind (omega arith) i a b)) k d own
    where
      go : (a b : Bool) → eqb i n ≡ a → ltb i (n + suc (size cs)) ≡ b → Parts rows k d own cs rest n p post
          → (suc n ≤ i → i < suc n + size cs → tally (suc i) (frames cs (suc n) (suc n)) ≡ children_of rows i)
          → (n + suc (size cs) ≤ i → i < n + suc (size cs) + size rest → tally (suc i) (frames rest (n + suc (size cs)) p) ≡ children_of rows i)
          → tally (suc i) (frames cs (suc n) (suc n)) + tally (suc i) (frames rest (n + suc (size cs)) p) ≡ children_of rows i
      go true b x y w below behind =
          let q = eqb-true i n x in
          rw (q, w.children) (omega (arith, own_children cs (suc n) (suc n) (omega arith), strangers rest (n + suc (size cs)) p (suc n) (λ z. omega arith) (omega arith)))
      go false true x y w below behind =
          let v = ltb-true i (n + suc (size cs)) y in
          omega (arith, below (omega (arith, eqb-false i n x)) (omega arith), strangers rest (n + suc (size cs)) p (suc i) (λ z. omega arith) (omega arith))
      go false false x y w below behind =
          let v = ltb-false i (n + suc (size cs)) y in
          omega (arith, behind v (omega arith), late cs (suc n) (suc n) (suc i) (λ z. omega (arith, eqb-false i n x)) (omega arith))

-- how many rows name a parent, counted by their numbers
naming-tally : (rows : List Frame) (q at : ℕ) (l : List Frame) → drop at rows ≡ l → naming (parent_of rows) q at (length l) ≡ tally q l
unfolding naming tally
naming-tally rows q at [] e = refl
naming-tally rows q at (x ∷ l) e =
    let t = taken rows at x l e in
    let p : parent_of rows at ≡ x.parent = ap (λ (y : Frame). y.parent) t.1 in
    rw (p, naming-tally rows q (suc at) l t.2)

-- Req 09's rule holds of the rows of all trees
pub skips : (ts : Trees) → Skips (children_of (frames ts 0 0)) (parent_of (frames ts 0 0)) (branch_of (frames ts 0 0)) (length (frames ts 0 0))
skips ts =
    let rows = frames ts 0 0 in
    let here : drop 0 rows ≡ rows ++ [] = sym (append-nil rows) in
    let l : length rows ≡ size ts = length-frames ts 0 0 in
    record {
      many = λ i h. naming-tally rows (suc i) 0 rows refl ∙ many_in rows ts 0 0 [] here (omega arith) i (omega arith) (omega arith);
      chain = λ i h. chains rows ts 0 0 [] here i (omega arith) (omega arith);
    }

-- the trees' own rows, which name no parent, are as many as the trees: the first is row 0, each other one stands as many rows further on as the former has, and the last one's count ends with the last row
pub roots : (ts : Trees) → ChainIn (frames ts 0 0) 0 0 (count ts) (length (frames ts 0 0))
roots ts =
    let rows = frames ts 0 0 in
    let here : drop 0 rows ≡ rows ++ [] = sym (append-nil rows) in
    let l : 0 + size ts ≡ length rows = omega (arith, length-frames ts 0 0) in
    rw l at (siblings rows ts 0 0 [] here)

pub root_count : (ts : Trees) → naming (parent_of (frames ts 0 0)) 0 0 (length (frames ts 0 0)) ≡ count ts
root_count ts = naming-tally (frames ts 0 0) 0 0 (frames ts 0 0) refl ∙ own_children ts 0 0 (omega arith)
