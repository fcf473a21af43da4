-- The lookups of a row in two files that differ in typed text alone. Assumes nothing.
use Rattle.std.specs.Prelude.{Err, Ok, Result, ℤ}
use mathlib.Core.Path.{◌≡◌, refl, sym, ap, ◌∙◌}
use mathlib.Core.Bool.{Bool, true, false, cond, ◌||◌}
use mathlib.Core.List.{List}
use mathlib.Core.Logic.{◌⊎◌, inl, inr}
use Prim.Native.Nat.{ℕ, ◌+◌, ◌<◌, ◌≤◌}
use native.Mathlib.Omega.{arith}
use lib.Dec.{eqb, ltb, leb}
use borrow.Author.Tests.{ltb-true}
use lib.ListN.{length, get_or, take, drop, length-take, length-drop}
use Rattle.laws.specs.Small.{differ}
use Rattle.layout.specs.Rows.{Row, words}
use Rattle.layout.specs.EnumList.{EnumEntry}
use Rattle.layout.specs.Table.{room_of, shape_of}
use Rattle.enums.specs.Judge.{enums_at, lawful}
use Rattle.enums.specs.Lists.{Bytes}
use Rattle.reading.specs.Reads.{Small}
use Rattle.reading.specs.File.{table_in}
use Rattle.readers.specs.Judged.{judged_name, judges}
use Rattle.table.specs.declared.Grid.{Grid}
use Rattle.table.specs.Grids.{grid_of}
use Rattle.table.specs.Same.{SameRows}
use Rattle.load.specs.Under.{load_under}
use Rattle.lookups.specs.Same as same
use Rattle.lookups.specs.Parts.{or_refused, kind_of, first_of, length_of, part_of, in_part, lookup}
use Rattle.lookups.specs.Texts.{text_in, text_of}
use Rattle.lookups.specs.Signs.{last_bytes, signed_in, signed_of}
use Rattle.lookups.specs.Times.{as_time, time_of}
use Rattle.branches.specs.Next.{next_of, same_next}
use Rattle.lookups.specs.declared.Span as lookups
use Rattle.retyped.specs.Texts.{Span, FileText, InText}
use Rattle.retyped.specs.Parts.{each_both, Encloses, is_signed, PartAlike}
use Rattle.retyped.proofs.Parts.{parts_same}
use Rattle.retyped.specs.Boxed.{Boxed, strings_boxed}
use Rattle.two_runs.specs.Texts.{SameButTexts}
use Rattle.two_runs.specs.Alike.{lookups_of, LookupsAre, PartByte}
use Rattle.theorems.specs.declared.columned.Lookups.{Lookups}
use Rattle.two_runs.proofs.Counting.{same_count, text_by}
use Rattle.two_runs.proofs.Laws.{texts, same_rows, row_there, read-text, table-length}
use Rattle.answers.specs.Refusals.{refusal as refusal_at}
use Rattle.answers.specs.declared.Refusal.{Refusal}
use Rattle.lookups.specs.Parts.{span, refuses}

abbrev no_span : (row : ℕ) → Result lookups.Span Refusal
no_span row = Err (refusal_at 23 row)

no_part : (grid : Grid) (file v : List ℕ) (row : ℕ) → ltb row grid.room ≡ false → part_of grid file v row ≡ Err (refusal_at 23 row)
unfolding part_of or_refused
no_part grid file v row e = rw e

no_bytes : (grid : Grid) (file v : List ℕ) (row : ℕ) → ltb 0 (length_of grid v row) ≡ false → part_of grid file v row ≡ Err (refusal_at 23 row)
unfolding part_of or_refused
no_bytes grid file v row e = rw e (go (ltb row grid.room)) where
  go : (b : Bool) → cond b (no_span row) (no_span row) ≡ no_span row
  go true = refl
  go false = refl

-- a part that was found has its row's two words
found_words : (b c d : Bool) (row a k first size : ℕ) → or_refused b 23 row (or_refused c 23 row (or_refused d 23 row (Ok (span a k)))) ≡ Ok (span first size) → (a ≡ first) × (k ≡ size)
unfolding or_refused
found_words true true true row a k first size e =
    let h : span a k ≡ span first size = cc in
    (ap (λ (s : lookups.Span). s.first) h, ap (λ (s : lookups.Span). s.length) h)
found_words true true false row a k first size e = differ cc
found_words true false d row a k first size e = differ cc
found_words false c d row a k first size e = differ cc

part-words : (grid : Grid) (file v : List ℕ) (row first size : ℕ) → part_of grid file v row ≡ Ok (span first size) → (first_of grid v row ≡ first) × (length_of grid v row ≡ size)
unfolding part_of
part-words grid file v row first size e =
    found_words (ltb row grid.room) (ltb 0 (length_of grid v row)) (leb (first_of grid v row + length_of grid v row) (length file)) row (first_of grid v row) (length_of grid v row) first size e

-- a lookup goes by the part and, where it is found, by what its bytes give
lookup_file : {A : Type 0} (refuse : ℕ → ℕ → A) (found : List ℕ → ℕ → ℕ → A) (grid : Grid) (f g v : List ℕ) (row : ℕ) → part_of grid f v row ≡ part_of grid g v row
    → ((first size : ℕ) → part_of grid f v row ≡ Ok (span first size) → found (take size (drop first f)) first (kind_of grid v row) ≡ found (take size (drop first g)) first (kind_of grid v row))
    → lookup refuse found grid f v row ≡ lookup refuse found grid g v row
unfolding lookup in_part
lookup_file {A} refuse found grid f g v row e h = go (part_of grid f v row) refl ∙ ap (λ (s : Result lookups.Span Refusal). by g s) e where
  by : List ℕ → Result lookups.Span Refusal → A
  by file s = in_part refuse s (λ first size. found (take size (drop first file)) first (kind_of grid v row))

  go : (s : Result lookups.Span Refusal) → part_of grid f v row ≡ s → by f s ≡ by g s
  go (Err e) q = refl
  go (Ok r) q = h r.first r.length q

-- a signed lookup goes by the bytes of a signed kind alone
signed_by : (a b : List ℕ) (kind row : ℕ) → (is_signed kind ≡ true → a ≡ b) → signed_in a kind row ≡ signed_in b kind row
unfolding signed_in is_signed
signed_by a b kind row h = go (eqb kind 2) (eqb kind 3) (eqb kind 5) (eqb kind 7) (eqb kind 20) h where
  told : List ℕ → (two three five seven twenty : Bool) → Result ℤ Refusal
  told l two three five seven twenty =
      cond two (last_bytes l 1 row) (cond three (last_bytes l 2 row) (cond five (last_bytes l 4 row) (cond seven (last_bytes l 8 row) (cond twenty (last_bytes l 8 row) (Err (refusal_at 24 row))))))

  go : (two three five seven twenty : Bool) → ((two || (three || (five || (seven || twenty)))) ≡ true → a ≡ b) → told a two three five seven twenty ≡ told b two three five seven twenty
  go true c d e x h = ap (λ (l : List ℕ). last_bytes l 1 row) (h refl)
  go false true d e x h = ap (λ (l : List ℕ). last_bytes l 2 row) (h refl)
  go false false true e x h = ap (λ (l : List ℕ). last_bytes l 4 row) (h refl)
  go false false false true x h = ap (λ (l : List ℕ). last_bytes l 8 row) (h refl)
  go false false false false true h = ap (λ (l : List ℕ). last_bytes l 8 row) (h refl)
  go false false false false false h = refl

-- parts of files that are as long are as long
as_long : (f g : List ℕ) → length f ≡ length g → (first size : ℕ) → length (take size (drop first f)) ≡ length (take size (drop first g))
as_long f g e first size = rw (length-take size (drop first f), length-take size (drop first g), length-drop first f, length-drop first g, e)

-- the lookups over the words that a load left, whose grid goes by how many these are
pub looked_up : (columns : Bool) (enums f : List ℕ) (n : ℕ) → Small f → {v : List ℕ} → v ≡ table_in (shape_of columns) (load_under enums f n) n
    → (row : ℕ) {x : Lookups} → x ≡ lookups_of (grid_of (length v) columns) f v row → LookupsAre columns enums f n row x
looked_up columns enums f n small p row e =
    let words = table_in (shape_of columns) (load_under enums f n) n in
    e ∙ ap (λ (l : List ℕ). lookups_of (grid_of (length l) columns) f l row) p ∙ ap (λ (k : ℕ). lookups_of (grid_of k columns) f words row) (table-length columns enums f n small)

module _ (columns : Bool) (enums f g : List ℕ) (n m : ℕ) (bytes : Bytes enums) (small : Small f) (small' : Small g) (r : SameButTexts enums (room_of n) f g) (room : room_of n ≡ room_of m) {v w : List ℕ}
    (p : v ≡ table_in (shape_of columns) (load_under enums f n) n) (q : w ≡ table_in (shape_of columns) (load_under enums g m) m) where
  abbrev grid : Grid
  grid = grid_of n columns

  -- a row of an accepted file, or one without a part in either file
  data At (row : ℕ) : Type 0 where
    none : part_of grid f v row ≡ Err (refusal_at 23 row) → part_of grid g v row ≡ Err (refusal_at 23 row) → At row
    there : (es : List EnumEntry) → enums_at enums ≡ lawful es → (x : Row) → PartAlike (judged_name es) f g (room_of n) x → Boxed x → length f ≡ length g
        → kind_of grid v row ≡ x.kind → first_of grid v row ≡ x.first → length_of grid v row ≡ x.bytes → At row

  at_row : (row : ℕ) → At row
  unfolding kind_of first_of length_of words
  at_row row = go (ltb row (room_of n)) refl (ltb 0 (length_of grid v row)) refl where
    go : (b : Bool) → ltb row (room_of n) ≡ b → (c : Bool) → ltb 0 (length_of grid v row) ≡ c → At row
    go false e c d = none (no_part grid f v row e) (no_part grid g v row e)
    go true e false d = none (no_bytes grid f v row d) (no_bytes grid g v row d)
    go true e true d =
        let u = row_there columns enums f n bytes small p (λ es x. PartAlike (judged_name es) f g (room_of n) x × Boxed x × (length f ≡ length g))
        (λ es l rows readers shared z. let t = texts enums bytes (room_of n) f g r es l in
        each_both rows (λ x a b. (a, b, t.as_long)) (parts_same (judged_name es) f g n small t rows readers shared z) (strings_boxed es (judged_name es) (judges es) f n small rows readers shared z)) row 2 (ltb-true row (room_of n) e) (omega arith) (ltb-true 0 (length_of grid v row) d) in
        there u.0 u.2 u.1 u.3.0 u.3.1 u.3.2 (u.4 0 (omega arith)) (u.4 1 (omega arith)) (u.4 2 (omega arith))

  -- the part in the other file by the same words
  part_file : (row : ℕ) → part_of grid f v row ≡ part_of grid g v row
  unfolding part_of
  part_file row = go (at_row row) where
    by : length f ≡ length g → part_of grid f v row ≡ part_of grid g v row
    by e = rw e

    go : At row → part_of grid f v row ≡ part_of grid g v row
    go (none a b) = a ∙ sym b
    go (there es l x a b e k i j) = by e

  signed_file : (row : ℕ) → signed_of grid f v row ≡ signed_of grid g v row
  unfolding signed_of
  signed_file row =
      lookup_file refuses (λ bs first kind. signed_in bs kind row) grid f g v row (part_file row) (λ first size h. signed_by (take size (drop first f)) (take size (drop first g)) (kind_of grid v row) row (same first size h (at_row row))) where
        same : (first size : ℕ) → part_of grid f v row ≡ Ok (span first size) → At row → is_signed (kind_of grid v row) ≡ true → take size (drop first f) ≡ take size (drop first g)
        same first size h (none a b) k = differ (cc (sym a ∙ h))
        same first size h (there es l x a o e kind i j) k =
            let b = part-words grid f v row first size h in
            let i' : x.first ≡ first = sym i ∙ b.0 in
            let j' : x.bytes ≡ size = sym j ∙ b.1 in
            rw (← i', ← j') (a.signed (rw kind at k))

  text_file : (row : ℕ) → text_of grid f v row ≡ text_of grid g v row
  unfolding text_of
  text_file row =
      lookup_file refuses (λ bs first kind. text_in bs first kind row) grid f g v row (part_file row) (λ first size h. same first size h (at_row row)) where
        same : (first size : ℕ) → part_of grid f v row ≡ Ok (span first size) → At row
            → text_in (take size (drop first f)) first (kind_of grid v row) row ≡ text_in (take size (drop first g)) first (kind_of grid v row) row
        same first size h (none a b) = differ (cc (sym a ∙ h))
        same first size h (there es l x a o e kind i j) =
            let b = part-words grid f v row first size h in
            let i' : x.first ≡ first = sym i ∙ b.0 in
            let j' : x.bytes ≡ size = sym j ∙ b.1 in
            text_by (take size (drop first f)) (take size (drop first g)) first (kind_of grid v row) row (as_long f g e first size)
            (λ k. let k' : x.kind ≡ 13 = sym kind ∙ k in rw (← i', ← j') (same_count f g small e x (a.text k' (o k'))))

  time_file : (row : ℕ) → time_of grid f v row ≡ time_of grid g v row
  unfolding time_of
  time_file row = ap (λ (x : Result ℤ Refusal). as_time row x (eqb (kind_of grid v row) 20)) (signed_file row)

  -- the lookups over both tables
  rows : SameRows grid (grid_of m columns) v w
  rows = same_rows columns enums f g n m bytes small small' r room p q

  abbrev grid' : Grid
  grid' = grid_of m columns

  part_same : (row : ℕ) → part_of grid f v row ≡ part_of grid' g w row
  part_same row = part_file row ∙ same.same_part rows g row

  text_same : (row : ℕ) → text_of grid f v row ≡ text_of grid' g w row
  text_same row = text_file row ∙ same.same_text rows g row

  signed_same : (row : ℕ) → signed_of grid f v row ≡ signed_of grid' g w row
  signed_same row = signed_file row ∙ same.same_signed rows g row

  time_same : (row : ℕ) → time_of grid f v row ≡ time_of grid' g w row
  time_same row = time_file row ∙ same.same_time rows g row

  next_same : (row : ℕ) → next_of grid v row ≡ next_of grid' w row
  next_same row = same_next rows row

  -- "the same bytes except where it encloses such a text"
  part_bytes : (row first size : ℕ) → part_of grid f v row ≡ Ok (span first size) → (i : ℕ) → first ≤ i → i < first + size → PartByte enums (room_of n) f g first size i
  part_bytes row first size h i l k = go (at_row row) where
    by : (es : List EnumEntry) → enums_at enums ≡ lawful es → (x : Row) → x.first ≡ first → x.bytes ≡ size
        → (get_or f i 0 ≡ get_or g i 0) ⊎ ((t : InText (FileText (judged_name es) (room_of n)) f g i) × Encloses x t.span) → PartByte enums (room_of n) f g first size i
    by es j x a b (inl z) = inl z
    by es j x a b (inr c) =
        let t = c.0 in
        inr (record { span = t.span; inside = t.inside; typed = read-text enums bytes (room_of n) f t.span es j t.typed; valid = t.valid }, omega (arith, c.1.0), omega (arith, c.1.1))

    go : At row → PartByte enums (room_of n) f g first size i
    go (none a b) = differ (cc (sym a ∙ h))
    go (there es j x a o e kind c d) =
        let b = part-words grid f v row first size h in
        let c' : x.first ≡ first = sym c ∙ b.0 in
        let d' : x.bytes ≡ size = sym d ∙ b.1 in
        by es j x c' d' (a.bytes i (omega arith) (omega arith))

  -- all lookups
  lookups_same : (row : ℕ) → lookups_of grid f v row ≡ lookups_of grid' g w row
  lookups_same row =
      let part = part_same row in
      let text = text_same row in
      let signed = signed_same row in
      let time = time_same row in
      let next = next_same row in
      λ i. record { part = part i; text = text i; signed = signed i; time = time i; next = next i }

  -- the code's grids go by the words that are left, which are as many as were lent
  left : length v ≡ n
  left = ap length p ∙ table-length columns enums f n small

  pub lookups_alike : (row : ℕ) {x y : Lookups} → x ≡ lookups_of (grid_of (length v) columns) f v row → y ≡ lookups_of (grid_of (length w) columns) g w row
      → (x ≡ y) × ((first size : ℕ) → x.part ≡ Ok (span first size) → (i : ℕ) → first ≤ i → i < first + size → PartByte enums (room_of n) f g first size i)
  lookups_alike row {x} {y} c d =
      let a : x ≡ lookups_of grid f v row = c ∙ ap (λ (k : ℕ). lookups_of (grid_of k columns) f v row) left in
      let b : y ≡ lookups_of grid' g w row = d ∙ ap (λ (k : ℕ). lookups_of (grid_of k columns) g w row) (ap length q ∙ table-length columns enums g m small') in
      (a ∙ lookups_same row ∙ sym b, λ first size h. part_bytes row first size (sym (ap (λ (l : Lookups). l.part) a) ∙ h))
