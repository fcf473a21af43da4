-- Which codes of a well-formed name's heads are complained of, from left to right. Assumes nothing.
use Rattle.std.specs.Prelude.{Bool, true, false, ◌||◌, cond, Option, Some, None, List, [], ◌∷◌, ◌++◌, ℕ, ◌/◌, ◌%◌, eqb, ltb}
use Rattle.layout.specs.Number.{between}
use Rattle.layout.specs.Named.{plain}
use Rattle.layout.specs.Complaint.{is_known, unless}
use Rattle.names.specs.Kind.{node}

-- a listed enum type's kind, with no argument
unfoldable pub listed_kind : ℕ → Bool
listed_kind b = between 60 63 b

-- an argument's head: a kind with no argument, a listed enum type, Nullable or List with one, Dictionary with two
unfoldable pub head_ok : ℕ → Bool
head_ok b =
    cond (ltb b 60) (is_known (plain b)) (cond (listed_kind b) true (cond (eqb b (node 16 1)) true (cond (eqb b (node 18 1)) true (eqb b (node 19 2)))))

-- 01: "a value type other than Nullable", among arguments
unfoldable pub value_ok : ℕ → Bool
value_ok b = cond (between 1 11 b || between 20 30 b) true (cond (listed_kind b) true (eqb b 12))

-- the places of the heads of arguments that are complained of; `nullable` says that the head before was Nullable
unfoldable pub bad_arguments : (nullable : Bool) → List ℕ → List ℕ
bad_arguments nullable [] = []
bad_arguments nullable (w ∷ s) = unless (cond nullable (value_ok (w % 256)) (head_ok (w % 256))) (w / 256) ++ bad_arguments (eqb (w % 256) (node 16 1)) s

-- Enum's own argument is listed or has no target's head, and has no arguments
unfoldable pub bad_enum : List ℕ → List ℕ
bad_enum [] = []
bad_enum (w ∷ s) = unless (eqb (w % 256) 0 || listed_kind (w % 256)) (w / 256)

-- the places of the heads of a reader's name that are complained of
unfoldable pub bad_reader : List ℕ → List ℕ
bad_reader [] = []
bad_reader (w ∷ s) =
    cond (eqb (w % 256) (node 15 1)) (bad_enum s)
    (cond (eqb (w % 256) (node 17 1)) (bad_arguments false s) (unless (head_ok (w % 256)) (w / 256) ++ bad_arguments (eqb (w % 256) (node 16 1)) s))

-- the leftmost complaint, if there is one
abbrev pub complaint : List ℕ → Option ℕ
complaint [] = None
complaint (p ∷ ps) = Some p
