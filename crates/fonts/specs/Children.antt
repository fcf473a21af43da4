-- A font's children by their rows in the words: where each stands, and how many rows it has. Assumes nothing.
use Rattle.std.specs.Prelude.{◌≡◌, ℕ, zero, suc, ◌+◌, ◌^◌, ◌<◌, List, [], ◌∷◌, ◌++◌, length, drop, replicate, slice_index_or}
use Rattle.std.proofs.Math.Path.{refl, sym, ap}
use Rattle.std.proofs.Common.{◌∙◌, inl, inr, arith}
use mathlib.Core.List.{append_assoc, append-nil}
use Rattle.layout.specs.Target.{Target, fixed, char, list, Serves, same as serves_same}
use Rattle.layout.specs.Tree.{Trees, none, tree, count, size, kind_at, children_at}
use Rattle.layout.specs.Slot.{Slot, raw, object, slot_of, Plan, stop, put, each}
use Rattle.layout.specs.Head.{Head, Counted}
use Rattle.layout.specs.Layout.{Value, Lays}
use Rattle.layout.specs.Rows.{row, raw_rows, value_rows, noted_rows}
use Rattle.reading.specs.Reads.{seam}
use Rattle.reading.specs.Bounds.{rows-length}
use Rattle.reading.specs.Drafts.{Draft, value_drafts, drafts_of}
use Rattle.table.specs.declared.Grid.{Grid}
use Rattle.fonts.specs.FontWords.{word_at}
use Rattle.fonts.specs.Held.{HoldsDrafts, holds_left, holds_right, holds_row}

-- the row of child i, where the first child's row is n
unfoldable pub child_row : ℕ → Trees → ℕ → ℕ
child_row i none n = n
child_row zero (tree k d own cs rest) n = n
child_row (suc i) (tree k d own cs rest) n = child_row i rest (n + suc (size cs))

-- a child's row comes after all that is below the child before it
pub row_next : (i : ℕ) (ts : Trees) (n : ℕ) → i < count ts → child_row (suc i) ts n ≡ child_row i ts n + suc (size (children_at i ts))
unfolding child_row children_at count
row_next i none n h = absurd (omega arith)
row_next zero (tree k d own cs none) n h = refl
row_next zero (tree k d own cs (tree k' d' own' cs' rest)) n h = refl
row_next (suc i) (tree k d own cs rest) n h = row_next i rest (n + suc (size cs)) (omega arith)

-- the reader of a list, and what stands below a list
pub only-list : {t u : Target} → Serves (list t) u → u ≡ list t
only-list serves_same = refl

pub list-plan : (t u : Target) (own : List ℕ) (plan : Plan) (b : List ℕ) → u ≡ list t → Head u own plan b → (n : ℕ) × (plan ≡ each (replicate n (slot_of t)))
unfolding Head Counted
list-plan t u own plan b e w = let h : Head (list t) own plan b = rw e at w in (h.0, h.4)

module _ (readers : List Target) (refers : ℕ → ℕ → Type 0) where
  pub lays_count : (slots : List Slot) (ts : Trees) (bs : List ℕ) → Lays readers refers (each slots) ts bs → count ts ≡ length slots
  unfolding Lays each count
  lays_count [] none bs w = refl
  lays_count [] (tree k i own cs rest) bs w = absurd w
  lays_count (x ∷ slots) none bs w = absurd w
  lays_count (x ∷ slots) (tree k i own cs rest) bs w = ap suc (lays_count slots rest w.1 w.4)

  -- a slot whose values have no children
  abbrev Childless : Slot → Type 0
  Childless x = (k i : ℕ) (own : List ℕ) (cs : Trees) (b : List ℕ) → Value readers refers (λ plan b. Lays readers refers plan cs b) x k i own cs b → cs ≡ none

  nothing_below : (cs : Trees) (b : List ℕ) → Lays readers refers stop cs b → cs ≡ none
  unfolding Lays
  nothing_below none b w = refl
  nothing_below (tree k i own cs rest) b w = absurd w

  stopped : (plan : Plan) (cs : Trees) (b : List ℕ) → plan ≡ stop → Lays readers refers plan cs b → cs ≡ none
  stopped plan cs b e w = nothing_below cs b (rw e at w)

  pub fixed_childless : (t : ℕ) → Childless (raw (fixed t))
  unfolding Value Head
  fixed_childless t k i own cs b w = stopped w.1.plan cs w.1.children w.1.headed.2 w.1.laid

  pub char_childless : Childless (raw char)
  unfolding Value Head
  char_childless k i own cs b w = stopped w.1.plan cs w.1.children w.1.headed.2 w.1.laid

  -- the rows of a value in a slot
  abbrev pub rows_at : (x : Slot) (k i : ℕ) (own : List ℕ) (cs : Trees) (b : List ℕ) → Value readers refers (λ plan b. Lays readers refers plan cs b) x k i own cs b → (at number parent : ℕ) → List Draft
  rows_at x k i own cs b v at number parent =
      value_drafts readers refers (λ plan b. Lays readers refers plan cs b) (λ plan b v a n p. drafts_of readers refers plan cs b v a n p) x k i own cs b v at number parent

  pub value-length : (x : Slot) (k i : ℕ) (own : List ℕ) (cs : Trees) (b : List ℕ) (v : Value readers refers (λ plan b. Lays readers refers plan cs b) x k i own cs b) (at number parent : ℕ)
      → length (rows_at x k i own cs b v at number parent) ≡ suc (size cs)
  unfolding Lays noted_rows size
  value-length x k i own cs b v at number parent =
      let r : length (rows_at x k i own cs b v at number parent ++ []) ≡ suc (size cs) + 0
      = rows-length readers refers (put x (λ o. stop)) (tree k i own cs none) b (b, [], sym (append-nil b), v, refl) at number parent in
      omega (arith, rw append-nil at r)

-- where bytes stand in the file
abbrev pub There : (file : List ℕ) → ℕ → List ℕ → Type 0
There file at bs = (rest : List ℕ) × (drop at file ≡ bs ++ rest)

pub there_left : (file : List ℕ) (at : ℕ) (bs b₁ b₂ : List ℕ) → bs ≡ b₁ ++ b₂ → There file at bs → There file at b₁
there_left file at bs b₁ b₂ e t = (b₂ ++ t.0, t.1 ∙ ap (λ (l : List ℕ). l ++ t.0) e ∙ append_assoc b₁ b₂ t.0)

pub there_right : (file : List ℕ) (at : ℕ) (bs b₁ b₂ : List ℕ) → bs ≡ b₁ ++ b₂ → There file at bs → There file (at + length b₁) b₂
there_right file at bs b₁ b₂ e t = (t.0, seam file at b₁ b₂ t.0 (t.1 ∙ ap (λ (l : List ℕ). l ++ t.0) e))

module _ (g : Grid) (file words : List ℕ) (readers : List Target) (refers : ℕ → ℕ → Type 0) where
  -- a value in a slot, whose rows stand in the words from row n on
  pub record Placed (x : Slot) (kind : ℕ) (cs : Trees) (n : ℕ) : Type 0 where
    pub id : ℕ
    pub own : List ℕ
    pub bytes : List ℕ
    pub value : Value readers refers (λ plan b. Lays readers refers plan cs b) x kind id own cs bytes
    pub at : ℕ
    pub number : ℕ
    pub parent : ℕ
    pub there : There file at bytes
    pub stands : HoldsDrafts g words n (rows_at readers refers x kind id own cs bytes value at number parent)
    pub few : n < 2 ^ 32

  -- a child of the values that a list of slots has laid down
  pub placed_at : (i : ℕ) (slots : List Slot) (x : Slot) (ts : Trees) (bs : List ℕ) (w : Lays readers refers (each slots) ts bs) (at number parent n : ℕ)
      → There file at bs → HoldsDrafts g words n (drafts_of readers refers (each slots) ts bs w at number parent)
      → i < length slots → slice_index_or slots i x ≡ x → Placed x (kind_at i ts) (children_at i ts) (child_row i ts n)
  unfolding Lays each kind_at children_at child_row noted_rows
  placed_at i [] x ts bs w at number parent n t s h e = absurd (omega arith)
  placed_at i (y ∷ slots) x none bs w at number parent n t s h e = absurd w
  placed_at zero (y ∷ slots) x (tree k d own cs rest) bs w at number parent n t s h e =
      let first : Placed y k cs n = record {
        id = d;
        own = own;
        bytes = w.0;
        value = w.3;
        at = at;
        number = number;
        parent = parent;
        there = there_left file at bs w.0 w.1 w.2 t;
        stands = holds_left g words n _ _ s;
        few = omega (arith, s.fits);
      } in
      rw e at first
  placed_at (suc i) (y ∷ slots) x (tree k d own cs rest) bs w at number parent n t s h e =
      let v = rows_at readers refers y k d own cs w.0 w.3 at number parent in
      let l : length v ≡ suc (size cs) = value-length readers refers y k d own cs w.0 w.3 at number parent in
      placed_at i slots x rest w.1 w.4 (at + length w.0) (number + suc (size cs)) parent (n + suc (size cs))
      (there_right file at bs w.0 w.1 w.2 t) (rw l at (holds_right g words n v _ s)) (omega arith) e

  -- the kind and the number of children of a value, and how many rows it has with all below it
  object_words : (t : Target) (k i : ℕ) (own : List ℕ) (cs : Trees) (b : List ℕ) (v : Value readers refers (λ plan b. Lays readers refers plan cs b) (object t) k i own cs b) (at number parent n : ℕ)
      → HoldsDrafts g words n (rows_at readers refers (object t) k i own cs b v at number parent) → (word_at g words n 0 ≡ k) × (word_at g words n 3 ≡ count cs) × (word_at g words n 6 ≡ suc (size cs))
  unfolding Value value_rows raw_rows count size
  object_words t k i own cs b (inl v) at number parent n s =
      let r = holds_row g words n (row 0 at (length b) 0 parent 0 1) [] s in
      (r.0 ∙ sym v.kind_of_lem, r.2 ∙ sym (ap count v.childless), r.3 ∙ sym (ap (λ (ts : Trees). suc (size ts)) v.childless))
  object_words t k i own cs b (inr v) at number parent n s =
      let r = holds_row g words n (row k at (length b) (count cs) parent i (suc (size cs))) _ s in
      (r.0, r.2, r.3)

  pub object-row : {t : Target} {k n : ℕ} {cs : Trees} → Placed (object t) k cs n → (word_at g words n 0 ≡ k) × (word_at g words n 3 ≡ count cs) × (word_at g words n 6 ≡ suc (size cs))
  object-row {t} {k} {n} {cs} p = object_words t k p.id p.own cs p.bytes p.value p.at p.number p.parent n p.stands
