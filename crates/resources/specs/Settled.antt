-- What the last pass over the rows answers and leaves (01, refusal 17: "resource of the wrong type (a null resource fits)", "17 last, in row order", at the reference). Assumes nothing.
use Rattle.std.specs.Prelude.{◌≡◌, refl, Bool, true, false, List, [], ◌∷◌, map, ℕ, ◌*◌, ◌≤◌, length, Option, Some, None}
use Rattle.layout.specs.Rows.{width, words}
use Rattle.layout.specs.Table.{shape_of}
use Rattle.reading.specs.Answer.{Answer, refused, check}
use Rattle.reading.specs.Resource.{suits}
use Rattle.reading.specs.Drafts.{Draft, bare}
use Rattle.reading.specs.File.{root_kinds, judged}
use Rattle.table.specs.declared.Grid.{Grid}
use Rattle.table.specs.Stores.{written_rows}
use Rattle.walked.specs.Written.{written}
use Rattle.resources.specs.Marked.{Marked}

-- a row that does not suit is the answer; else the rows after it say
abbrev pub or_wrong : Bool → (first : ℕ) → Option ℕ → Option ℕ
or_wrong true first rest = rest
or_wrong false first rest = Some first

-- the first byte of the first row whose resource does not suit it, where the shared objects have these kinds
unfoldable pub settled_of : (shared : List ℕ) → List Draft → Option ℕ
settled_of shared [] = None
settled_of shared (d ∷ ds) = or_wrong (suits shared d.wants d.row.detail) d.row.first (settled_of shared ds)

-- 01's number and place for each case
abbrev pub answered : {A : Type 0} → Option ℕ → Answer A → Answer A
answered None x = x
answered (Some first) x = refused 17 first

-- it is what judging the rows says
pub judged_is : {A : Type 0} (shared : List ℕ) (ds : List Draft) (x : Answer A) → judged shared ds x ≡ answered (settled_of shared ds) x
unfolding judged settled_of check
judged_is shared [] x = refl
judged_is shared (d ∷ ds) x = go (suits shared d.wants d.row.detail) (judged_is shared ds x) where
  go : (b : Bool) → judged shared ds x ≡ answered (settled_of shared ds) x → check b 17 d.row.first (judged shared ds x) ≡ answered (or_wrong b d.row.first (settled_of shared ds)) x
  go true e = e
  go false e = refl

-- the first `used` rows of the words are drafts, as reading leaves them, stored over the words w; 01: "shared count (0 to 256)"
pub record Drafted (g : Grid) (entry : List ℕ) (used : ℕ) (ds : List Draft) (w : List ℕ) : Type 0 where
  pub stand : entry ≡ written g w 0 ds
  pub count : used ≡ length ds
  pub fits : length ds ≤ g.room
  pub long : width * g.room ≤ length w
  pub marked : Marked ds
  pub few : length (root_kinds ds) ≤ 257

-- the rows of 01, stored over the words w
unfoldable pub settled : Grid → (w : List ℕ) → List Draft → List ℕ
settled g w ds = written_rows (shape_of g.columns) g.room w 0 (map words (bare ds))

-- what is left in the words: the rows without marks, or anything after a refusal
abbrev pub left_of : Option ℕ → (exit cleared : List ℕ) → List ℕ
left_of None exit cleared = cleared
left_of (Some first) exit cleared = exit

-- rows are judged, and their marks are cleared
pub record Settles (shared : List ℕ) (ds : List Draft) (exit cleared : List ℕ) (r : Option ℕ) : Type 0 where
  pub answers : r ≡ settled_of shared ds
  pub leaves : exit ≡ left_of r exit cleared
