-- What is promised of reading and of rewriting under a list of readers' names, for a file tree that fits under a lent list of enum types. Assumes nothing.
use Rattle.std.specs.Prelude.{◌≡◌, refl, List, ◌++◌, ℕ, ◌+◌, ◌*◌, ◌-◌, ◌≤◌, length, replicate}
use Rattle.std.proofs.Common.{sym, ap, ◌∙◌, arith}
use Rattle.std.proofs.lemmas.List.{length-replicate}
use Rattle.layout.specs.EnumList.{EnumEntry}
use Rattle.layout.specs.Tree.{count}
use Rattle.layout.specs.Rows.{flat, width}
use Rattle.layout.specs.File.{FileTree, shared_of, FileLays}
use Rattle.layout.specs.Table.{room_of}
use Rattle.layout.specs.Shortest.{Shortens, short_file}
use Rattle.places.specs.Padding.{file_padding}
use Rattle.reading.specs.Reads.{Small}
use Rattle.reading.specs.File.{Load, refusal, accepted, load_of, table_of, table_in}
use Rattle.reading.specs.Theorems as T
use Rattle.reading.proofs.Theorems as T-laws
use Rattle.reading.specs.Output.{fitted}
use Rattle.shortest.specs.Theorems as S
use Rattle.readers.specs.Judged.{judged_name, judges}
use Rattle.enums.specs.Judge.{lawful, enums_at}
use Rattle.enums.specs.Lists.{judged-list}
use Rattle.load.specs.Under.{load_under, load_lawful, accepted-list}
use Rattle.rewrite.specs.Whole.{rewrite_under}
use Rattle.rewrite.specs.Loaded.{rewrite_lawful}
use Rattle.layout.specs.Fits.{Fitting, rows_in}

module _ {enums file : List ℕ} {words : ℕ} (f : Fitting enums file words) where
  list_is : enums_at enums ≡ lawful f.es
  list_is = judged-list enums f.es f.lawful f.listed

  pub load_is : load_under enums file words ≡ load_of (judged_name f.es) file words
  load_is = load_lawful enums file words f.es list_is

  pub rows_are : load_under enums file words ≡ accepted (rows_in f.fits) (length f.fits.tree.names) (count (shared_of f.fits.tree.objects))
  rows_are = load_is ∙ T-laws.rows_are f.es (judged_name f.es) (judges f.es) file words f.fits

  pub table_is : table_of (load_under enums file words) words ≡ flat (rows_in f.fits) ++ replicate (words - width * length (rows_in f.fits)) 0
  table_is = ap (λ (x : Load). table_of x words) load_is ∙ T-laws.table_is f.es (judged_name f.es) (judges f.es) file words f.fits

  pub rows_room : length (rows_in f.fits) ≤ room_of words
  rows_room = omega (arith, (T.rows_fit f.es (judged_name f.es) (judges f.es) file words f.fits).0, f.fits.room)

  pub rewrite_is : (out : ℕ) → rewrite_under enums file words out ≡ fitted (short_file f.fits.tree) out
  rewrite_is out = rewrite_lawful enums file words out f.es list_is ∙ S.rewrite_is f.es (judged_name f.es) (judges f.es) file words out f.fits

  pub least : (bs : List ℕ) → FileLays f.es f.fits.tree bs → Shortens (FileLays f.es f.fits.tree) (short_file f.fits.tree) bs
  least bs w = S.least f.es (judged_name f.es) (judges f.es) file words f.fits bs w

  abbrev pub again : Fitting enums (short_file f.fits.tree) words
  again = record { es = f.es; lawful = f.lawful; listed = f.listed; fits = record { tree = f.fits.tree; lays = (least file f.fits.lays).form; room = f.fits.room } }

  pub stays : length file ≡ length (short_file f.fits.tree) → short_file f.fits.tree ≡ file
  stays e = S.stays f.es (judged_name f.es) (judges f.es) file words f.fits e

  pub padding_is : length file ≡ length (short_file f.fits.tree) + file_padding file (length f.fits.tree.names) (rows_in f.fits)
  padding_is = S.padding_is f.es (judged_name f.es) (judges f.es) file words f.fits

-- there is one list and one file tree
same_list : {enums file : List ℕ} {words : ℕ} (f g : Fitting enums file words) → f.es ≡ g.es
same_list f g =
    let a = list_is f in
    let b = list_is g in
    cc

one_tree : (file : List ℕ) (es fs : List EnumEntry) (t u : FileTree) → es ≡ fs → FileLays es t file → FileLays fs u file → t ≡ u
one_tree file es fs t u e v w = (T-laws.one_file_tree es (judged_name es) (judges es) file t u v (rw e w)).0

pub same_tree : {enums file : List ℕ} {words : ℕ} (f g : Fitting enums file words) → f.fits.tree ≡ g.fits.tree
same_tree {enums} {file} f g = one_tree file f.es g.es f.fits.tree g.fits.tree (same_list f g) f.fits.lays g.fits.lays

no_rows : (words number place : ℕ) → length (table_of (refusal number place) words) ≡ words
unfolding table_in
no_rows words number place = length-replicate words 0

-- as many words are left as were lent
pub table-length : (enums file : List ℕ) (words : ℕ) → Small file → length (table_of (load_under enums file words) words) ≡ words
table-length enums file words small = go (load_under enums file words) refl where
  go : (x : Load) → load_under enums file words ≡ x → length (table_of x words) ≡ words
  go (refusal number place) e = no_rows words number place
  go (accepted rows readers shared) e =
      let l = accepted-list enums file words rows readers shared e in
      let q : load_of (judged_name l.0) file words ≡ accepted rows readers shared = sym (load_lawful enums file words l.0 l.1) ∙ e in
      rw (← q) (T-laws.table-length l.0 (judged_name l.0) (judges l.0) file words small)
