-- From what is proved of reading two files to what is demanded of the code. Assumes nothing.
use mathlib.Core.Path.{◌≡◌, refl, sym, ap, ◌∙◌}
use mathlib.Core.Bool.{Bool, true, false}
use mathlib.Core.List.{List, [], ◌∷◌}
use mathlib.Core.Logic.{inl, inr}
use Prim.Native.Nat.{ℕ, zero, suc, ◌+◌, ◌*◌, ◌-◌, ◌<◌, ◌≤◌}
use native.Mathlib.Omega.{arith}
use lib.ListN.{length, get_or, replicate, length-append, length-replicate}
use Rattle.layout.specs.Rows.{Row, words, width}
use Rattle.layout.specs.EnumList.{EnumEntry}
use Rattle.layout.specs.Table.{room_of, cell, columns_of, shape_of}
use Rattle.enums.specs.Judge.{Judgement, enums_at, lawful}
use Rattle.enums.specs.Judge.{refused as list-refused}
use Rattle.enums.specs.Lists.{Bytes, enums-sound}
use Rattle.reading.specs.Reads.{Small}
use Rattle.reading.specs.File.{Load, refusal, accepted, load_of, table_of, table_in}
use Rattle.reading.specs.Theorems as R
use Rattle.reading.proofs.Theorems as R-laws
use Rattle.reading.specs.Output.{Rewritten}
use Rattle.shortest.specs.Rewrite.{rewrite_of}
use Rattle.readers.specs.Judged.{judged_name, judges}
use Rattle.table.specs.Cells.{row_word, seven_columns, length_columns}
use Rattle.table.specs.Words.{zero_word, row_word_lem, column-word}
use Rattle.table.specs.Grids.{cell_of, grid_of}
use Rattle.table.specs.Same.{SameRows}
use Rattle.load.specs.Under.{load_under, load_lawful, load_refused-list, accepted-list}
use Rattle.load.specs.Loads.{answer_of}
use Rattle.builder.specs.Packed.{packed}
use Rattle.rewrite.specs.Whole.{rewrite_under}
use Rattle.rewrite.specs.Loaded.{rewrite_lawful, rewrite_refused_list}
use Rattle.rewrite.specs.Contract as rewriting
use Rattle.reading.specs.References.{length-flat}
use Rattle.retyped.specs.Texts.{Span, FileText, Retyped}
use Rattle.retyped.proofs.Files.{never_steers}
use Rattle.retyped.specs.Short.{AsLong, both_refuse, both_write}
use Rattle.retyped.proofs.Short.{rewrites-alike, padding_same}
use Rattle.retyped.specs.Parts.{Each}
use Rattle.retyped.specs.Strings.{TextOf}
use Rattle.retyped.proofs.Strings.{every_string}
use Rattle.two_runs.specs.Texts.{Read, SameButTexts, plain}
use Rattle.answers.specs.declared.Refusal.{Refusal}
use Rattle.std.specs.Prelude.{Result}
use Rattle.load.specs.declared.Loaded.{Loaded}
use Rattle.load.specs.Loads.{Loading, loaded}
use Rattle.std.specs.Prelude.{Ok}

-- ---- Under the lent list of enum types

-- under a list that is judged lawful the files differ in typed text alone
pub texts : (enums : List ℕ) → Bytes enums → (room : ℕ) (f g : List ℕ) → SameButTexts enums room f g → (es : List EnumEntry) → enums_at enums ≡ lawful es → Retyped (FileText (judged_name es) room) f g
texts enums bytes room f g (inl r) es e = plain enums es e room f g r
texts enums bytes room f g (inr u) es e = let s = rw e at (enums-sound enums bytes) in absurd (u es s.0 s.1)

-- "answer, place, rows"
pub same_load : (enums f g : List ℕ) (n m : ℕ) → Bytes enums → Small f → SameButTexts enums (room_of n) f g → room_of n ≡ room_of m → load_under enums f n ≡ load_under enums g m
same_load enums f g n m bytes small r room = go (enums_at enums) refl where
  go : (j : Judgement) → enums_at enums ≡ j → load_under enums f n ≡ load_under enums g m
  go (list-refused k i) e = load_refused-list enums f n e ∙ sym (load_refused-list enums g m e)
  go (lawful es) e =
      load_lawful enums f n es e ∙ never_steers (judged_name es) f g n m small room (texts enums bytes (room_of n) f g r es e) ∙ sym (load_lawful enums g m es e)

abbrev answer : Loaded → Loading
answer r = Ok r

-- the answer with its padding
pub same_answer : (enums f g : List ℕ) (n m : ℕ) → Bytes enums → Small f → Small g → SameButTexts enums (room_of n) f g → room_of n ≡ room_of m
    → answer_of f (load_under enums f n) ≡ answer_of g (load_under enums g m)
same_answer enums f g n m bytes small small' r room =
    go (load_under enums f n) refl ∙ ap (answer_of g) (same_load enums f g n m bytes small r room) where
      go : (x : Load) → load_under enums f n ≡ x → answer_of f x ≡ answer_of g x
      go (refusal k p) e = refl
      go (accepted rows readers shared) e =
          let d = accepted-list enums f n rows readers shared e in
          let es = d.0 in
          let q : load_of (judged_name es) f n ≡ accepted rows readers shared = sym (load_lawful enums f n es d.1) ∙ e in
          ap (λ (p : ℕ). answer (loaded (length rows) readers shared p)) (padding_same es (judged_name es) (judges es) f g n small small' (texts enums bytes (room_of n) f g r es d.1) rows readers shared q)

-- "the rewritten length"
same_rewrite : (enums f g : List ℕ) (n m out : ℕ) → Bytes enums → Small f → SameButTexts enums (room_of n) f g → room_of n ≡ room_of m
    → rewriting.answer_of (rewrite_under enums f n out) ≡ rewriting.answer_of (rewrite_under enums g m out)
same_rewrite enums f g n m out bytes small r room = go (enums_at enums) refl where
  by : (x y : Rewritten) → AsLong x y → rewriting.answer_of x ≡ rewriting.answer_of y
  by x y both_refuse = refl
  by x y (both_write l) = rw l

  go : (j : Judgement) → enums_at enums ≡ j → rewriting.answer_of (rewrite_under enums f n out) ≡ rewriting.answer_of (rewrite_under enums g m out)
  go (list-refused k i) e = ap rewriting.answer_of (rewrite_refused_list enums f n out e ∙ sym (rewrite_refused_list enums g m out e))
  go (lawful es) e =
      ap rewriting.answer_of (rewrite_lawful enums f n out es e)
      ∙ by (rewrite_of (judged_name es) f n out) (rewrite_of (judged_name es) g m out) (rewrites-alike (judged_name es) f g n m out small room (texts enums bytes (room_of n) f g r es e))
      ∙ sym (ap rewriting.answer_of (rewrite_lawful enums g m out es e))

pub rewritten-alike : (enums f g : List ℕ) (n m out other : ℕ) → Bytes enums → Small f → SameButTexts enums (room_of n) f g → room_of n ≡ room_of m → out ≡ other → {x y : Result ℕ Refusal}
    → x ≡ rewriting.answer_of (rewrite_under enums f n out) → y ≡ rewriting.answer_of (rewrite_under enums g m other) → x ≡ y
rewritten-alike enums f g n m out other bytes small r room e p q =
    p ∙ same_rewrite enums f g n m out bytes small r room ∙ ap (λ (k : ℕ). rewriting.answer_of (rewrite_under enums g m k)) e ∙ sym q

-- ---- The words of rows

-- a word of a table, by what the load answered
unfoldable word_at : Load → (i j : ℕ) → ℕ
word_at (refusal k p) i j = 0
word_at (accepted rows readers shared) i j = row_word rows i j

-- the rows fit the room
unfoldable Fits : (room : ℕ) → Load → Type 0
Fits room (refusal k p) = Unit {0}
Fits room (accepted rows readers shared) = length rows ≤ room

table-word : (columns : Bool) (x : Load) (n i j : ℕ) → Fits (room_of n) x → i < room_of n → j < width → get_or (table_in (shape_of columns) x n) (cell_of (grid_of n columns) i j) 0 ≡ word_at x i j
unfolding cell table_in word_at Fits
table-word false (refusal k p) n i j fits h l = zero_word n (width * i + j)
table-word true (refusal k p) n i j fits h l = zero_word n (i + room_of n * j)
table-word false (accepted rows readers shared) n i j fits h l = row_word_lem rows (n - width * length rows) i j l
table-word true (accepted rows readers shared) n i j fits h l = column-word (room_of n) rows fits (replicate (n - width * room_of n) 0) i j h l

fits_room : (enums f : List ℕ) (n : ℕ) → Small f → Fits (room_of n) (load_under enums f n)
unfolding Fits
fits_room enums f n small = go (load_under enums f n) refl where
  go : (x : Load) → load_under enums f n ≡ x → Fits (room_of n) x
  go (refusal k p) e = tt
  go (accepted rows readers shared) e =
      let d = accepted-list enums f n rows readers shared e in
      let es = d.0 in
      let a = R-laws.accepted_is es (judged_name es) (judges es) f n small rows readers shared (sym (load_lawful enums f n es d.1) ∙ e) in
      let s = (R.rows_fit es (judged_name es) (judges es) f n a.0).0 in
      omega (arith, ap length a.1, a.0.room)

-- every word of every row
pub same_rows : (columns : Bool) (enums f g : List ℕ) (n m : ℕ) → Bytes enums → Small f → Small g → SameButTexts enums (room_of n) f g → room_of n ≡ room_of m → {v w : List ℕ}
    → v ≡ table_in (shape_of columns) (load_under enums f n) n → w ≡ table_in (shape_of columns) (load_under enums g m) m → SameRows (grid_of n columns) (grid_of m columns) v w
same_rows columns enums f g n m bytes small small' r room {v} {w} p q = record {
  room = room;
  rows = λ i j h k. ap (λ (l : List ℕ). get_or l (cell_of (grid_of n columns) i j) 0) p
      ∙ table-word columns (load_under enums f n) n i j (fits_room enums f n small) h k
      ∙ ap (λ (x : Load). word_at x i j) (same_load enums f g n m bytes small r room)
      ∙ sym (ap (λ (l : List ℕ). get_or l (cell_of (grid_of m columns) i j) 0) q
      ∙ table-word columns (load_under enums g m) m i j (fits_room enums g m small') (omega arith) k);
}

pub same_words : (columns : Bool) (enums f g : List ℕ) (n m : ℕ) → Bytes enums → Small f → SameButTexts enums (room_of n) f g → {v w : List ℕ}
    → v ≡ table_in (shape_of columns) (load_under enums f n) n → w ≡ table_in (shape_of columns) (load_under enums g m) m → n ≡ m → v ≡ w
same_words columns enums f g n m bytes small r p q e =
    p ∙ ap (λ (x : Load). table_in (shape_of columns) x n) (same_load enums f g n m bytes small r (ap room_of e)) ∙ ap (table_in (shape_of columns) (load_under enums g m)) e ∙ sym q

-- ---- Rows

-- a row that is there: some word of it is not 0
each_row : (P : Row → Type 0) (rows : List Row) (i j : ℕ) → Each P rows → 0 < row_word rows i j → (r : Row) × P r × ((k : ℕ) → row_word rows i k ≡ get_or (words r) k 0)
unfolding Each
each_row P [] i j w h = absurd (omega arith)
each_row P (r ∷ rows) zero j w h = (r, w.0, λ k. refl)
each_row P (r ∷ rows) (suc i) j w h = each_row P rows i j w.1 h

no_rows : (columns : Bool) (words number place : ℕ) → length (table_in (shape_of columns) (refusal number place) words) ≡ words
unfolding table_in
no_rows false words number place = length-replicate words 0
no_rows true words number place = length-replicate words 0

rows-length : (columns : Bool) (rows : List Row) (readers shared n : ℕ) → length rows ≤ room_of n → length (table_in (shape_of columns) (accepted rows readers shared) n) ≡ n
unfolding table_in room_of
rows-length false rows readers shared n h = rw (length-append, length-flat rows, length-replicate) (omega arith)
rows-length true rows readers shared n h =
    length-append (columns_of (room_of n) rows) (replicate (n - width * room_of n) 0)
    ∙ omega (arith, ap length (seven_columns (room_of n) rows), length_columns (room_of n) rows h 0 width, length-replicate {A = ℕ} (n - width * room_of n) 0)

-- as many words are left as were lent
pub table-length : (columns : Bool) (enums f : List ℕ) (n : ℕ) → Small f → length (table_in (shape_of columns) (load_under enums f n) n) ≡ n
unfolding Fits
table-length columns enums f n small = go (load_under enums f n) (fits_room enums f n small) where
  go : (x : Load) → Fits (room_of n) x → length (table_in (shape_of columns) x n) ≡ n
  go (refusal k p) h = no_rows columns n k p
  go (accepted rows readers shared) h = rows-length columns rows readers shared n h

-- a text that the walk under a judged list reads
pub read-text : (enums : List ℕ) → Bytes enums → (room : ℕ) (file : List ℕ) (x : Span) (es : List EnumEntry) → enums_at enums ≡ lawful es → FileText (judged_name es) room file x → Read enums room file x
read-text enums bytes room file x es e t = let s = rw e at (enums-sound enums bytes) in record { es = es; lawful = s.0; listed = s.1; text = t }

module _ (columns : Bool) (enums f : List ℕ) (n : ℕ) (bytes : Bytes enums) (small : Small f) {v : List ℕ} (p : v ≡ table_in (shape_of columns) (load_under enums f n) n) where
  abbrev word_in : (row j : ℕ) → ℕ
  word_in row j = get_or v (cell_of (grid_of n columns) row j) 0

  word : (x : Load) → load_under enums f n ≡ x → (row j : ℕ) → row < room_of n → j < width → word_in row j ≡ word_at x row j
  word x z row j h k =
      ap (λ (l : List ℕ). get_or l (cell_of (grid_of n columns) row j) 0) p
      ∙ table-word columns (load_under enums f n) n row j (fits_room enums f n small) h k ∙ ap (λ (y : Load). word_at y row j) z

  -- a row in the table is one of an accepted file
  pub row_there : (P : List EnumEntry → Row → Type 0)
      → ((es : List EnumEntry) → enums_at enums ≡ lawful es → (rows : List Row) (readers shared : ℕ) → load_of (judged_name es) f n ≡ accepted rows readers shared → Each (P es) rows)
      → (row j : ℕ) → row < room_of n → j < width → 0 < word_in row j
      → (es : List EnumEntry) × (x : Row) × (enums_at enums ≡ lawful es) × P es x × ((k : ℕ) → k < width → word_in row k ≡ get_or (words x) k 0)
  unfolding word_at
  row_there P each row j h k some = go (load_under enums f n) refl where
    go : (x : Load) → load_under enums f n ≡ x → (es : List EnumEntry) × (x : Row) × (enums_at enums ≡ lawful es) × P es x × ((k : ℕ) → k < width → word_in row k ≡ get_or (words x) k 0)
    go (refusal a b) z = absurd (omega (arith, word (refusal a b) z row j h k))
    go (accepted rows readers shared) z =
        let d = accepted-list enums f n rows readers shared z in
        let es = d.0 in
        let e = each es d.1 rows readers shared (sym (load_lawful enums f n es d.1) ∙ z) in
        let u = each_row (P es) rows row j e (omega (arith, word (accepted rows readers shared) z row j h k)) in
        (es, u.0, d.1, u.1, λ i l. word (accepted rows readers shared) z row i h l ∙ u.2 i)

  -- every String row has its text
  pub each-string : (i : ℕ) → i < room_of n → word_in i 0 ≡ 13 → (x : Span) × Read enums (room_of n) f x × (word_in i 1 ≤ x.0) × (x.0 + x.1 ≡ word_in i 1 + word_in i 2)
  unfolding words
  each-string i h k =
      let u = row_there (λ es r. r.kind ≡ 13 → TextOf (FileText (judged_name es) (room_of n) f) r)
      (λ es e rows readers shared z. every_string (judged_name es) f n small rows readers shared z) i 0 h (omega arith) (omega arith) in
      let kind : word_in i 0 ≡ u.1.kind = u.4 0 (omega arith) in
      let first : word_in i 1 ≡ u.1.first = u.4 1 (omega arith) in
      let size : word_in i 2 ≡ u.1.bytes = u.4 2 (omega arith) in
      let t = u.3 (sym kind ∙ k) in
      (t.0, read-text enums bytes (room_of n) f t.0 u.0 u.2 t.1, omega (arith, t.2), omega (arith, t.3))

-- ---- The builder's number

no_types : Bytes []
no_types i h = absurd (omega arith)

pub same_number : (f g : List ℕ) → Small f → SameButTexts [] 1024 f g → {x y : ℕ} → x ≡ packed (load_under [] f (1024 * width)) → y ≡ packed (load_under [] g (1024 * width)) → x ≡ y
unfolding room_of
same_number f g small r c d = c ∙ ap packed (same_load [] f g (1024 * width) (1024 * width) no_types small r refl) ∙ sym d
