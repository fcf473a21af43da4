-- A file behind its header as pieces: bytes as they are, and seven-bit numbers, which may stand in any accepted form. Assumes nothing.
use Rattle.std.specs.Prelude.{◌≡◌, cond, List, [], ◌∷◌, ◌++◌, ℕ, ◌+◌, eqb, length, drop}
use Rattle.layout.specs.Number.{Seven, little}
use Rattle.layout.specs.Tree.{Trees, none, tree, count}
use Rattle.layout.specs.File.{FileTree, shared_of}
use Rattle.layout.specs.Shortest.{numbered, body}

pub data Piece : Type 0 where
  plain : List ℕ → Piece
  number : ℕ → Piece

-- the bytes that pieces may have
unfoldable pub Written : List Piece → List ℕ → Type 0
Written [] bs = bs ≡ []
Written (plain b ∷ pieces) bs = (rest : List ℕ) × (bs ≡ b ++ rest) × Written pieces rest
Written (number n ∷ pieces) bs = (b : List ℕ) × (rest : List ℕ) × (bs ≡ b ++ rest) × Seven n b × Written pieces rest

-- a value's type id or resource id, if it has one, and what stands between it and the children: a text has a count before its bytes
unfoldable pub id_pieces : (kind id : ℕ) → List Piece
id_pieces kind id = cond (numbered kind id) (number id ∷ []) []

unfoldable pub body_pieces : (kind : ℕ) (own : List ℕ) (children : ℕ) → List Piece
body_pieces kind own n = cond (eqb kind 13) (number (length own) ∷ plain own ∷ []) (plain (body kind own n) ∷ [])

unfoldable pub tree_pieces : Trees → List Piece
tree_pieces none = []
tree_pieces (tree kind id own cs rest) = (id_pieces kind id ++ (body_pieces kind own (count cs) ++ tree_pieces cs)) ++ tree_pieces rest

-- readers: the length of a name, the name and the version
unfoldable pub entries_pieces : List (List ℕ) → List Piece
entries_pieces [] = []
entries_pieces (name ∷ names) = number (length name) ∷ plain (name ++ little 4 0) ∷ entries_pieces names

-- the reader count, the readers, the shared count and the objects
unfoldable pub file_pieces : FileTree → List Piece
file_pieces ft = number (length ft.names) ∷ (entries_pieces ft.names ++ (number (count (shared_of ft.objects)) ∷ tree_pieces ft.objects))

-- of a file, these pieces stand behind the header, and end at a place
unfoldable pub EndsAt : (file : List ℕ) → List Piece → (place : ℕ) → Type 0
EndsAt file pieces place = (b : List ℕ) × (rest : List ℕ) × (drop 10 file ≡ b ++ rest) × Written pieces b × (place ≡ 10 + length b)
