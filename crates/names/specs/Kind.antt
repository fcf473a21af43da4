-- The heads of a name as codes: a word for each, as the code has them. Assumes nothing.
use Rattle.std.specs.Prelude.{Bool, true, false, cond, List, [], ◌∷◌, ℕ, ◌+◌, ◌*◌, eqb}
use Rattle.layout.specs.Kind.{readers, targets, lookup, KindEntry}
use Rattle.layout.specs.EnumList.{EnumEntry, size_in}
use Rattle.names.specs.Heading.{Heading, heading}

-- the reader's own head is looked up among the readers, every other one among the targets
unfoldable pub listed : (own : Bool) → List KindEntry
listed true = readers
listed false = targets

-- the kind of an enum type's code by its size, 02: "sizes 1, 2, 4 or 8"; 0 for every other number
unfoldable pub enum_kind : (size : ℕ) → ℕ
enum_kind z = cond (eqb z 1) 60 (cond (eqb z 2) 61 (cond (eqb z 4) 62 (cond (eqb z 8) 63 0)))

-- the kind of a head with n arguments: the one that it names, or that of a listed enum type, which takes no argument; 0 if it is neither
unfoldable pub kind_in : List EnumEntry → (own : Bool) (h : List ℕ) (n : ℕ) → ℕ
kind_in es true h n = lookup h readers
kind_in es false h n = cond (eqb (lookup h targets) 0) (cond (eqb n 0) (enum_kind (size_in es h)) 0) (lookup h targets)

-- a kind and a number of arguments
abbrev pub node : ℕ → ℕ → ℕ
node k n = k + 64 * n

-- a kind, a number of arguments and a place as one word
abbrev pub word : (k n place : ℕ) → ℕ
word k n place = node k n + 256 * place

-- the codes of heads in order, under a list of enum types: a word for each
unfoldable pub codes : List EnumEntry → (own : Bool) → List Heading → List ℕ
codes es own [] = []
codes es own (heading h n place ∷ hs) = word (kind_in es own h n) n place ∷ codes es false hs
