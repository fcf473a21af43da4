-- Two files that differ in typed text alone are rewritten alike: the same refusal, or as many bytes; and they have the same padding (02, Req 12). Assumes
-- nothing.
use Rattle.std.specs.Prelude.{◌≡◌, refl, Bool, true, false, cond, ◌||◌, List, ◌++◌, ℕ, ◌+◌, ◌/◌, eqb, leb, length}
use Rattle.std.proofs.Common.{sym, ap, ◌∙◌, arith, length-append}
use Rattle.layout.specs.EnumList.{EnumEntry}
use Rattle.layout.specs.Number.{little}
use Rattle.layout.specs.Tree.{Trees, none, tree, count}
use Rattle.layout.specs.File.{shared_of}
use Rattle.layout.specs.Rows.{Row}
use Rattle.layout.specs.Table.{room_of}
use Rattle.layout.specs.Shortest.{shortest, id_bytes, body, short, short_lists, short_body, short_file}
use Rattle.reading.specs.Answer.{Answer, read}
use Rattle.reading.specs.Reads.{Small}
use Rattle.reading.specs.File.{Named, Judges, Loaded, file_at, accepted, load_of}
use Rattle.reading.specs.Accepts.{loaded_of}
use Rattle.reading.proofs.Accepts.{file_complete}
use Rattle.layout.specs.Fits.{FittingTree, rows_in}
use Rattle.reading.proofs.Theorems.{accepted_is}
use Rattle.reading.specs.Output.{Rewritten, refusal, written, fitted}
use Rattle.places.specs.Padding.{file_padding}
use Rattle.shortest.specs.File.{length_file}
use Rattle.shortest.specs.Rewrite.{by_load, rewrite_of}
use Rattle.shortest.specs.Theorems.{padding_is}
use Rattle.retyped.specs.Texts.{FileText, Retyped}
use Rattle.retyped.specs.Twin.{SameBy, both_refused, both_read}
use Rattle.retyped.specs.Alike.{Alike, count-alike}
use Rattle.retyped.specs.Files.{LoadedAlike}
use Rattle.retyped.proofs.Files.{files-alike, never_steers}
use Rattle.retyped.specs.Short.{AsLong, both_refuse, both_write, file_long}

-- "the rewritten length [is] the same", and so is every refusal of a rewrite, 21 with the bytes needed among them
pub rewrites-alike : (name_of : ℕ → List ℕ → Named) (f g : List ℕ) (n m out : ℕ) → Small f → room_of n ≡ room_of m → Retyped (FileText name_of (room_of n)) f g
    → AsLong (rewrite_of name_of f n out) (rewrite_of name_of g m out)
unfolding rewrite_of by_load fitted
rewrites-alike name_of f g n m out small room r =
    rw (← room) (go (file_at name_of f (room_of n)) (file_at name_of g (room_of n)) (files-alike name_of f g (room_of n) small r)) where
      two : (x y : List ℕ) (k : ℕ) → length x ≡ k → length y ≡ k → (b : Bool) → AsLong (cond b (written x) (refusal 21 k)) (cond b (written y) (refusal 21 k))
      two x y k p q true = both_write (p ∙ sym q)
      two x y k p q false = both_refuse

      go : (o o' : Answer Loaded) → SameBy LoadedAlike o o' → AsLong (by_load o out) (by_load o' out)
      go o o' both_refused = both_refuse
      go o o' (both_read {a = a} {a' = b} w) =
          let l = file_long a b w in
          rw (l) (two (short_file a.tree) (short_file b.tree) (length (short_file b.tree)) l refl (leb (length (short_file b.tree)) out))

-- 02, Req 06, "the file's total": the padding that a load tells is the same too
module _ (es : List EnumEntry) (name_of : ℕ → List ℕ → Named) (judges : Judges es name_of) where
  -- of file trees that fit and are read alike
  padded : (f g : List ℕ) (words : ℕ) (a : FittingTree es f words) (b : FittingTree es g words) → length f ≡ length g
      → SameBy LoadedAlike (file_at name_of f (room_of words)) (file_at name_of g (room_of words))
      → file_padding f (length a.tree.names) (rows_in a) ≡ file_padding g (length b.tree.names) (rows_in b)
  padded f g words a b equal s =
      let x = loaded_of es a.tree f a.lays in
      let y = loaded_of es b.tree g b.lays in
      let t : SameBy LoadedAlike (read x (length f)) (read y (length g))
      = rw (file_complete es name_of judges f (room_of words) a.tree a.lays a.room, file_complete es name_of judges g (room_of words) b.tree b.lays b.room) at s in
      omega (arith, file_long x y (alike_of x y (length f) (length g) t), padding_is es name_of judges f words a, padding_is es name_of judges g words b) where
        alike_of : (x y : Loaded) (m n : ℕ) → SameBy LoadedAlike (read x m) (read y n) → LoadedAlike x y
        alike_of x y m n (both_read w) = w

  pub padding_same : (f g : List ℕ) (words : ℕ) → Small f → Small g → Retyped (FileText name_of (room_of words)) f g → (rows : List Row) (readers shared : ℕ)
      → load_of name_of f words ≡ accepted rows readers shared → file_padding f readers rows ≡ file_padding g readers rows
  padding_same f g words small small' r rows readers shared q =
      let a = accepted_is es name_of judges f words small rows readers shared q in
      let b = accepted_is es name_of judges g words small' rows readers shared (sym (never_steers name_of f g words words small refl r) ∙ q) in
      ap (λ (k : ℕ). file_padding f k rows) a.2 ∙ ap (file_padding f (length a.0.tree.names)) a.1
      ∙ padded f g words a.0 b.0 r.as_long (files-alike name_of f g (room_of words) small r)
      ∙ sym (ap (λ (k : ℕ). file_padding g k rows) b.2 ∙ ap (file_padding g (length b.0.tree.names)) b.1)
