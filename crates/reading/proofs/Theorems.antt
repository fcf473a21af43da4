-- What is promised of reading and loading, over the layout alone. Document 01 and the demands are quoted; `es` is the list of enum types, and `name_of` reads the names of readers under it. Assumes nothing.
use Rattle.std.specs.Prelude.{◌≡◌, ◌↔◌, ℕ, ◌+◌, ◌*◌, ◌-◌, ◌≤◌, take, drop}
use Rattle.std.proofs.Math.Path.{refl, sym, ap}
use Rattle.std.proofs.Common.{◌∙◌, arith, length-append}
use mathlib.Core.List.{List, [], ◌∷◌, ◌++◌, append-nil}
use Rattle.std.proofs.Math.ListN.{length, replicate, length-replicate}
use Rattle.std.proofs.Math.Seq.{take-append_seam, take-length}
use Rattle.layout.specs.EnumList.{EnumEntry}
use Rattle.layout.specs.Number.{little, value_of}
use Rattle.layout.specs.Text.{ascii}
use Rattle.layout.specs.Target.{Target}
use Rattle.layout.specs.Tree.{Trees, count, size}
use Rattle.layout.specs.Slot.{Slot, each}
use Rattle.layout.specs.Layout.{Lays}
use Rattle.layout.specs.Resource.{Within}
use Rattle.layout.specs.File.{FileTree, shared_of, header, FileLays, file_rows}
use Rattle.layout.specs.Rows.{Row, flat, width}
use Rattle.layout.specs.Table.{room_of}
use Rattle.layout.specs.Fits.{FittingTree, rows_in}
use Rattle.reading.specs.Answer.{Answer, refused, read, Ok}
use Rattle.reading.specs.Reads.{Small}
use Rattle.reading.specs.Little.{value-little}
use Rattle.reading.proofs.Unique.{unique}
use Rattle.reading.specs.File.{Named, Judges, Loaded, file_at, Load, refusal, accepted, to_load, load_of, table_of, table_in}
use Rattle.reading.specs.References.{length-flat}
use Rattle.reading.specs.Accepts.{loaded_of, rows-count, IsFile, file_bare}
use Rattle.reading.proofs.Accepts.{file_complete, file_sound}
use Rattle.reading.specs.Drafts.{bare}
use Rattle.reading.specs.Theorems.{Accepts, refusal_clears, rows_fit}

-- ---- Unique reading of trees

-- Of any two trees, of any depth, under one reader list, one shared count and one way of standing (raw, as an object of a declared type, or as a reference):
-- where bytes of the one equal or begin bytes of the other, the trees are the same and so are the bytes.
pub unique-tree : (readers : List Target) (shared : ℕ) (x : Slot) (t₁ t₂ : Trees) (b₁ b₂ rest : List ℕ)
    → Lays readers (Within shared) (each (x ∷ [])) t₁ b₁ → Lays readers (Within shared) (each (x ∷ [])) t₂ b₂ → b₁ ++ rest ≡ b₂ → (t₁ ≡ t₂) × (b₁ ≡ b₂)
unique-tree readers shared x t₁ t₂ b₁ b₂ rest w₁ w₂ e = unique readers shared (each (x ∷ [])) t₁ t₂ b₁ b₂ rest w₁ w₂ e

module _ (es : List EnumEntry) (name_of : ℕ → List ℕ → Named) (judges : Judges es name_of) where
  -- ---- Acceptance: for every file and every number of words lent

  module _ (file : List ℕ) (words : ℕ) where
    -- where a file tree fits, loading accepts, and "the rows are exactly those of its values as they stand in the file"
    pub rows_are : (f : FittingTree es file words)
        → load_of name_of file words ≡ accepted (rows_in f) (length f.tree.names) (count (shared_of f.tree.objects))
    unfolding load_of to_load
    rows_are f = rw (file_complete es name_of judges file (room_of words) f.tree f.lays f.room, file_bare es f.tree file f.lays)

    fitting : (x : Answer Loaded) → Ok (IsFile es file (room_of words)) x → Accepts (to_load x) → FittingTree es file words
    unfolding Accepts to_load
    fitting (refused number place) o a = absurd a
    fitting (read l e) o a = let v = o.got refl in record { tree = l.tree; lays = v.lays; room = v.room_left }

    -- "the loader accepts the file exactly when some file tree, as 01 has it, may have it as its bytes and the table has room for a row for each value in that tree"
    pub accepts : Small file → Accepts (load_of name_of file words) ↔ FittingTree es file words
    unfolding load_of Accepts
    accepts small = (λ a. fitting (file_at name_of file (room_of words)) (file_sound es name_of judges file (room_of words) small) a, λ f. rw (rows_are f) tt)

    -- what was accepted is what a file tree that fits gives
    pub accepted_is : Small file → (rows : List Row) (readers shared : ℕ) → load_of name_of file words ≡ accepted rows readers shared
        → (f : FittingTree es file words) × (rows ≡ rows_in f) × (readers ≡ length f.tree.names) × (shared ≡ count (shared_of f.tree.objects))
    unfolding Accepts
    accepted_is small rows readers shared e =
        let f : FittingTree es file words = (accepts small).0 (rw e tt) in
        let q : accepted rows readers shared ≡ accepted (rows_in f) (length f.tree.names) (count (shared_of f.tree.objects)) = sym e ∙ rows_are f in
        (f, cc, cc, cc)

  -- ---- One file tree

  -- "There is then only one such file tree", and its rows in the file are the same however the file is taken apart
  pub one_file_tree : (file : List ℕ) (f₁ f₂ : FileTree) (w₁ : FileLays es f₁ file) (w₂ : FileLays es f₂ file)
      → (f₁ ≡ f₂) × (file_rows es f₁ file w₁ ≡ file_rows es f₂ file w₂)
  one_file_tree file f₁ f₂ w₁ w₂ =
      let room = size f₁.objects + size f₂.objects in
      let p : read (loaded_of es f₁ file w₁) (length file) ≡ read (loaded_of es f₂ file w₂) (length file)
      = sym (file_complete es name_of judges file room f₁ w₁ (omega arith)) ∙ file_complete es name_of judges file room f₂ w₂ (omega arith) in
      let q : loaded_of es f₁ file w₁ ≡ loaded_of es f₂ file w₂ = cc in
      (ap (λ (l : Loaded). l.tree) q, sym (file_bare es f₁ file w₁) ∙ ap (λ (l : Loaded). bare l.rows) q ∙ file_bare es f₂ file w₂)

  -- four bytes of the header say how long the bytes of a file tree are
  says_length : (f : FileTree) (bs rest : List ℕ) → FileLays es f bs → value_of (take 4 (drop 6 (bs ++ rest))) ≡ length bs
  unfolding header ascii little
  says_length f bs rest w =
      ap (λ (l : List ℕ). value_of (take 4 (drop 6 (l ++ rest)))) w.parts ∙ value-little 4 (length bs) (omega (arith, w.short))

  -- Of any two file trees: where bytes of the one equal or begin bytes of the other, the file trees are the same and so are the bytes.
  pub unique_file : (f₁ f₂ : FileTree) (b₁ b₂ rest : List ℕ) → FileLays es f₁ b₁ → FileLays es f₂ b₂ → b₁ ++ rest ≡ b₂ → (f₁ ≡ f₂) × (b₁ ≡ b₂)
  unique_file f₁ f₂ b₁ b₂ rest w₁ w₂ e =
      let n : length b₁ ≡ length b₂
      = sym (says_length f₁ b₁ rest w₁) ∙ ap (λ (l : List ℕ). value_of (take 4 (drop 6 l))) (e ∙ sym (append-nil b₂)) ∙ says_length f₂ b₂ [] w₂ in
      let b : b₁ ≡ b₂ = sym (take-append_seam b₁ rest) ∙ ap (take (length b₁)) e ∙ ap (λ (k : ℕ). take k b₂) n ∙ take-length b₂ in
      ((one_file_tree b₂ f₁ f₂ (rw b at w₁) w₂).0, b)

  -- ---- The table: for every file and every number of words lent

  module _ (file : List ℕ) (words : ℕ) where
    -- and the table is the rows' words, and then, 01: "Every word not in a used row is zero"
    pub table_is : (f : FittingTree es file words) → table_of (load_of name_of file words) words ≡ flat (rows_in f) ++ replicate (words - width * length (rows_in f)) 0
    unfolding table_in
    table_is f = rw (rows_are file words f)

    -- where no file tree fits, the answer is one refusal's number and place, and the table is all zero
    pub refuses : Small file → (FittingTree es file words → ⊥)
        → (number : ℕ) × (place : ℕ) × (load_of name_of file words ≡ refusal number place) × (table_of (load_of name_of file words) words ≡ replicate words 0)
    unfolding Accepts
    refuses small none = go (load_of name_of file words) refl where
      go : (x : Load) → load_of name_of file words ≡ x
          → (number : ℕ) × (place : ℕ) × (load_of name_of file words ≡ refusal number place) × (table_of (load_of name_of file words) words ≡ replicate words 0)
      go (refusal number place) e = (number, place, e, (refusal_clears es name_of judges file words) number place e)
      go (accepted rows readers shared) e = absurd (none ((accepts file words small).0 (rw e tt)))

    -- the table always has as many words as were lent
    pub table-length : Small file → length (table_of (load_of name_of file words) words) ≡ words
    unfolding table_in
    table-length small = go (load_of name_of file words) refl where
      go : (x : Load) → load_of name_of file words ≡ x → length (table_of x words) ≡ words
      go (refusal number place) e = length-replicate words 0
      go (accepted rows readers shared) e =
          let a = accepted_is file words small rows readers shared e in
          let k : length rows ≡ length (rows_in a.0) = ap length a.1 in
          rw (length-append, length-flat rows, length-replicate) (omega (arith, (rows_fit es name_of judges file words a.0).1))
