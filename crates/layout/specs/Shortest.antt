-- The shortest bytes of numbers, of trees and of a file tree (01, "Seven-bit numbers": "The rewriter changes only these numbers, each to its shortest form, and the header's length"): from a tree to bytes, with no file in it. Assumes nothing.
use Rattle.std.specs.Prelude.{◌≡◌, Bool, true, cond, ◌||◌, List, [], ◌∷◌, ◌++◌, ℕ, zero, suc, ◌+◌, ◌/◌, ◌%◌, ◌≤◌, eqb, ltb, length}
use Rattle.layout.specs.Number.{little}
use Rattle.layout.specs.Tree.{Trees, none, tree, count}
use Rattle.layout.specs.File.{FileTree, shared_of, header}

-- n in as few groups as it takes, at most k
unfoldable pub fewest : (k n : ℕ) → List ℕ
fewest zero n = []
fewest (suc k) n = cond (ltb n 128) (n ∷ []) ((n % 128 + 128) ∷ fewest k (n / 128))

unfoldable pub shortest : ℕ → List ℕ
shortest n = fewest 5 n

-- how a form of a number compares with the shortest: the shortest is a form too, is no longer, and as long only if it is the same
pub record Shortens (P : List ℕ → Type 0) (s b : List ℕ) : Type 0 where
  pub form : P s
  pub no_longer : length s ≤ length b
  pub same : length s ≡ length b → s ≡ b

-- a value of a kind with such an id starts with a type id or a resource id: null, a shared reference, or an object
unfoldable pub numbered : (kind id : ℕ) → Bool
numbered kind zero = eqb kind 0 || eqb kind 36
numbered kind (suc i) = true

-- the id of a value that starts with one
unfoldable pub id_bytes : (kind id : ℕ) → List ℕ
id_bytes kind id = cond (numbered kind id) (shortest id) []

-- what a value of a kind has between its id and its n children: its own bytes, with a text's count, a level's size, or a count of children
unfoldable pub body : (kind : ℕ) (own : List ℕ) (n : ℕ) → List ℕ
body kind own n =
    cond (eqb kind 13) (shortest (length own) ++ own)
    (cond (eqb kind 35) (little 4 (length own) ++ own)
    (cond (eqb kind 17 || eqb kind 18) (little 4 n)
    (cond (eqb kind 19) (little 4 (n / 2))
    (cond (eqb kind 32) (own ++ little 4 n) own))))

-- the shortest bytes of trees one after the other
unfoldable pub short : Trees → List ℕ
short none = []
short (tree kind id own cs rest) = (id_bytes kind id ++ (body kind own (count cs) ++ short cs)) ++ short rest

-- a reader: the length of its name, the name, and the version 0
unfoldable pub short_entry : List ℕ → List ℕ
short_entry name = shortest (length name) ++ (name ++ little 4 0)

unfoldable pub short_entries : List (List ℕ) → List ℕ
short_entries [] = []
short_entries (name ∷ names) = short_entry name ++ short_entries names

-- the reader count, the readers and the shared count
unfoldable pub short_lists : (names : List (List ℕ)) (shared : ℕ) → List ℕ
short_lists names shared = shortest (length names) ++ (short_entries names ++ shortest shared)

-- all behind the header
unfoldable pub short_body : FileTree → List ℕ
short_body ft = short_lists ft.names (count (shared_of ft.objects)) ++ short ft.objects

-- the header, with the length of these bytes, and all behind it
unfoldable pub short_file : FileTree → List ℕ
short_file ft = header ft.platform ft.flags (10 + length (short_body ft)) ++ short_body ft
