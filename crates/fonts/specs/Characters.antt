-- A font's characters by their rows in the words: they rise there if they rise in the trees. Assumes nothing.
use Rattle.std.specs.Prelude.{◌≡◌, ℕ, zero, suc, ◌+◌, List, [], ◌∷◌, ◌++◌, length, replicate}
use Rattle.std.proofs.Math.Path.{refl, ap}
use Rattle.std.proofs.Common.{◌∙◌, inl, inr, arith}
use Rattle.std.proofs.Math.Numerals.{add-one}
use Rattle.layout.specs.Target.{Target, char, list, is_value}
use Rattle.layout.specs.Tree.{Trees, none, tree, count, size}
use Rattle.layout.specs.Slot.{raw, object, slot_of, raw_or_object, Plan, each}
use Rattle.layout.specs.Head.{Head}
use Rattle.layout.specs.Layout.{Value, Lays}
use Rattle.layout.specs.Rows.{row, raw_rows, value_rows, noted_rows}
use Rattle.reading.specs.Drafts.{drafted, drafts_of}
use Rattle.reading.specs.Font.{above, rising}
use Rattle.reading.specs.Utf8.{char_reads}
use Rattle.reading.specs.Walk.{value_or, point, point_is}
use Rattle.table.specs.declared.Grid.{Grid}
use Rattle.fonts.specs.FontWords.{beyond, beyond_is, code_at, next_above, rising_rows}
use Rattle.fonts.specs.Held.{HoldsDrafts, holds_left, holds_right, holds_row}
use Rattle.fonts.specs.Children.{There, there_left, there_right, rows_at, value-length, Placed, char_childless, list-plan, only-list}

module _ (g : Grid) (file words : List ℕ) (readers : List Target) (refers : ℕ → ℕ → Type 0) where
  -- the character at a row's first byte is the tree's
  char_code : (k i : ℕ) (own : List ℕ) (cs : Trees) (b : List ℕ) (v : Value readers refers (λ plan b. Lays readers refers plan cs b) (raw char) k i own cs b) (at number parent n : ℕ)
      → There file at b → HoldsDrafts g words n (rows_at readers refers (raw char) k i own cs b v at number parent) → code_at g file words n ≡ point own
  unfolding Value Head value_rows raw_rows code_at value_or
  char_code k i own cs b v at number parent n t s =
      let h = v.1.headed in
      let r = holds_row g words n (row k at (length b) (count cs) parent 0 (suc (size cs))) _ s in
      let e : b ≡ own ++ v.1.children = v.1.parts ∙ ap (λ (l : List ℕ). l ++ v.1.children) h.0 in
      let o = there_left file at b own v.1.children e t in
      let c = h.1 in
      rw (r.1, (char_reads file).complete c.0 own o.0 at c.1 o.1, point_is c.0 own c.1)

  first_code : (m k i : ℕ) (own : List ℕ) (cs rest : Trees) (bs : List ℕ) (w : Lays readers refers (each (replicate m (raw char))) (tree k i own cs rest) bs) (at number parent n : ℕ)
      → There file at bs → HoldsDrafts g words n (drafts_of readers refers (each (replicate m (raw char))) (tree k i own cs rest) bs w at number parent) → code_at g file words n ≡ point own
  unfolding Lays each noted_rows
  first_code zero k i own cs rest bs w at number parent n t s = absurd w
  first_code (suc m) k i own cs rest bs w at number parent n t s =
      char_code k i own cs w.0 w.3 at number parent n (there_left file at bs w.0 w.1 w.2 t) (holds_left g words n _ _ s)

  above_next : (own : List ℕ) (n : ℕ) → code_at g file words n ≡ point own → (m : ℕ) (ts : Trees) (bs : List ℕ) (w : Lays readers refers (each (replicate m (raw char))) ts bs) (at number parent : ℕ)
      → There file at bs → HoldsDrafts g words (suc n) (drafts_of readers refers (each (replicate m (raw char))) ts bs w at number parent) → above point own ts ≡ next_above g file words (count ts) n
  unfolding above next_above count
  above_next own n e m none bs w at number parent t s = refl
  above_next own n e m (tree k i own' cs rest) bs w at number parent t s =
      let b : beyond n 1 ≡ suc n = beyond_is n 1 (omega (arith, s.fits)) ∙ add-one n in
      rw (b, e, first_code m k i own' cs rest bs w at number parent (suc n) t s)

  rising_rows_lem : (m : ℕ) (ts : Trees) (bs : List ℕ) (w : Lays readers refers (each (replicate m (raw char))) ts bs) (at number parent n : ℕ)
      → There file at bs → HoldsDrafts g words n (drafts_of readers refers (each (replicate m (raw char))) ts bs w at number parent) → rising point ts ≡ rising_rows g file words (count ts) n
  unfolding Lays each noted_rows rising rising_rows count size
  rising_rows_lem zero none bs w at number parent n t s = refl
  rising_rows_lem zero (tree k i own cs rest) bs w at number parent n t s = absurd w
  rising_rows_lem (suc m) none bs w at number parent n t s = absurd w
  rising_rows_lem (suc m) (tree k i own cs rest) bs w at number parent n t s =
      let v = rows_at readers refers (raw char) k i own cs w.0 w.3 at number parent in
      let z : size cs ≡ 0 = ap size (char_childless readers refers k i own cs w.0 w.3) in
      let l : n + length v ≡ suc n = omega (arith, value-length readers refers (raw char) k i own cs w.0 w.3 at number parent) in
      let t' = there_right file at bs w.0 w.1 w.2 t in
      let s' : HoldsDrafts g words (suc n) (drafts_of readers refers (each (replicate m (raw char))) rest w.1 w.4 (at + length w.0) (number + suc (size cs)) parent) = rw l at (holds_right g words n v _ s) in
      let c = char_code k i own cs w.0 w.3 at number parent n (there_left file at bs w.0 w.1 w.2 t) (holds_left g words n v _ s) in
      let b : beyond n 1 ≡ suc n = beyond_is n 1 (omega (arith, s'.fits)) ∙ add-one n in
      rw (
        b,
        above_next own n c m rest w.1 w.4 (at + length w.0) (number + suc (size cs)) parent t' s',
        rising_rows_lem m rest w.1 w.4 (at + length w.0) (number + suc (size cs)) parent (suc n) t' s',
      )

  plan_rows : (m : ℕ) (plan : Plan) → plan ≡ each (replicate m (raw char)) → (ts : Trees) (bs : List ℕ) (w : Lays readers refers plan ts bs) (at number parent n : ℕ)
      → There file at bs → HoldsDrafts g words n (drafts_of readers refers plan ts bs w at number parent) → rising point ts ≡ rising_rows g file words (count ts) n
  plan_rows m plan e = rw e (rising_rows_lem m)

  map_rows : (k i : ℕ) (own : List ℕ) (cs : Trees) (b : List ℕ) (v : Value readers refers (λ plan b. Lays readers refers plan cs b) (object (list char)) k i own cs b) (at number parent n : ℕ)
      → There file at b → HoldsDrafts g words n (rows_at readers refers (object (list char)) k i own cs b v at number parent) → rising point cs ≡ rising_rows g file words (count cs) (suc n)
  unfolding Value value_rows raw_rows count rising rising_rows slot_of is_value raw_or_object
  map_rows k i own cs b (inl v) at number parent n t s = rw v.childless
  map_rows k i own cs b (inr v) at number parent n t s =
      let x = v.laid in
      let p = list-plan char v.target own x.plan x.head (only-list v.serves) x.headed in
      let t₁ = there_right file at b v.number v.value v.parts t in
      let t₂ = there_right file (at + length v.number) v.value x.head x.children x.parts t₁ in
      let s' = holds_right g words n (drafted (row k at (length b) (count cs) parent i (suc (size cs))) ∷ []) _ s in
      plan_rows p.0 x.plan p.1 cs x.children x.laid (at + length v.number + length x.head) (suc number) (suc number) (suc n) t₂ (rw (add-one n) at s')

  -- a font's character map rises in the words as it does in the trees
  pub map-rising : {k n : ℕ} {cs : Trees} → Placed g file words readers refers (object (list char)) k cs n → rising point cs ≡ rising_rows g file words (count cs) (suc n)
  map-rising {k} {n} {cs} p = map_rows k p.id p.own cs p.bytes p.value p.at p.number p.parent n p.there p.stands
