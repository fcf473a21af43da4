-- The heads of a name in the order in which they stand, as the parser meets them, and how many bytes a name has. Assumes nothing.
use Rattle.std.specs.Prelude.{List, [], ◌∷◌, ◌++◌, ℕ, ◌+◌, length}
use Rattle.layout.specs.Name.{Name, simple, one, two, long}

-- a head, how many arguments it has, and the place of its first byte
pub data Heading : Type 0 where
  heading : (head : List ℕ) (arguments place : ℕ) → Heading

-- the heads of a name that starts at a place, in the order in which they stand
unfoldable pub headings : (at : ℕ) → Name → List Heading
headings at (simple h t) = heading h 0 at ∷ []
headings at (one h a t) = heading h 1 at ∷ headings (at + (length h + 4)) a
headings at (two h a b t) = heading h 2 at ∷ (headings (at + (length h + 4)) a ++ headings (at + (length h + 4 + long a + 3)) b)
