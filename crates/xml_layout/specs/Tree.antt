-- The file tree of a list of texts (Req 13). Assumes nothing.
use Rattle.std.specs.Prelude.{◌≡◌, List, [], ◌∷◌, ◌⊎◌, ℕ, zero, suc, ◌<◌}
use Rattle.layout.specs.EnumList.{EnumEntry}
use Rattle.layout.specs.Text.{ascii}
use Rattle.layout.specs.Target.{string, array}
use Rattle.layout.specs.Tree.{Trees, none, tree, count, kind_at}
use Rattle.layout.specs.Layout.{Reader}
use Rattle.layout.specs.File.{FileTree, FileLays}
use Rattle.xml_layout.specs.Xml.{Writable}

-- Req 13: "two readers, ArrayReader of `System.String` then StringReader"
unfoldable pub array_name : List ℕ
array_name = ascii "Microsoft.Xna.Framework.Content.ArrayReader`1[[System.String]]"

unfoldable pub string_name : List ℕ
string_name = ascii "Microsoft.Xna.Framework.Content.StringReader"

-- a String for each text, read by the second reader
unfoldable pub text_trees : List (List ℕ) → Trees
text_trees [] = none
text_trees (t ∷ ts) = tree 13 2 t none (text_trees ts)

-- Req 13: "platform `w`, flags 00", an Array of String read by the first reader, no shared objects
unfoldable pub tree_of : List (List ℕ) → FileTree
tree_of ts = record { platform = 0x77; flags = 0; names = array_name ∷ string_name ∷ []; objects = tree 17 1 [] (text_trees ts) none }

-- trees that are Strings with these texts, one after the other; a null is none
unfoldable pub Strings : List (List ℕ) → Trees → Type 0
Strings [] none = Unit {0}
Strings [] (tree kind id own cs rest) = ⊥
Strings (t ∷ ts) none = ⊥
Strings (t ∷ ts) (tree kind id own cs rest) = (kind ≡ 13) × (own ≡ t) × Strings ts rest

-- Req 13: "a file whose primary object is an Array of String, with no shared objects", and whose texts are these: the primary's reader has this target, whatever else the file lists
pub record TextFile (es : List EnumEntry) (ts : List (List ℕ)) (file : List ℕ) : Type 0 where
  pub tree_of_lem : FileTree
  pub lays : FileLays es tree_of_lem file
  pub id : ℕ
  pub own : List ℕ
  pub children : Trees
  pub objects : tree_of_lem.objects ≡ tree 17 id own children none
  pub reader : Reader lays.readers id (array string)
  pub strings : Strings ts children

-- Req 13: "a file whose primary object is an Array of String, with no shared objects", whatever stands in its places for texts
pub record TextArray (es : List EnumEntry) (ft : FileTree) {file : List ℕ} (w : FileLays es ft file) : Type 0 where
  pub id : ℕ
  pub own : List ℕ
  pub children : Trees
  pub objects : ft.objects ≡ tree 17 id own children none
  pub reader : Reader w.readers id (array string)

-- the own bytes of the tree at a position, counted from 0
unfoldable pub own_at : ℕ → Trees → List ℕ
own_at i none = []
own_at zero (tree k d own cs rest) = own
own_at (suc i) (tree k d own cs rest) = own_at i rest

-- Req 13: "62 for a null text, 63 for a character below 20 hex or U+FFFE or U+FFFF, the first such text decides": the tree at position j is the first such, and the number is its
pub record FirstFault (cs : Trees) (number j : ℕ) : Type 0 where
  pub inside : j < count cs
  pub fault : ((number ≡ 62) × (kind_at j cs ≡ 0)) ⊎ ((number ≡ 63) × (kind_at j cs ≡ 13) × (Writable (own_at j cs) → ⊥))
  pub first : (k : ℕ) → k < j → (kind_at k cs ≡ 13) × Writable (own_at k cs)
