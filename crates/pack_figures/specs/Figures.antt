-- The figures of files, of packs and of a list of packs (02, Req 14). Assumes nothing.
use Rattle.std.specs.Prelude.{◌≡◌, Bool, cond, ℕ, ◌+◌, eqb, length, take}
use mathlib.Core.List.{List, [], ◌∷◌, ◌++◌}
use native.Mathlib.Omega.{arith}
use Rattle.layout.specs.Text.{ascii}
use Rattle.layout.specs.Tree.{Trees, none, tree}
use Rattle.reading.specs.Answer.{Answer, refused, read}
use Rattle.reading.specs.File.{Loaded}
use Rattle.reading.specs.Same.{same}
use Rattle.pack_layout.specs.Pack.{Stored, plain}
use Rattle.pack_reading.specs.Pack.{Pack, refusal, accepted, pack_of}

-- Req 14: "files, XNB files accepted, refusals by number (32 too), rows by kind, text and image bytes (without counts and sizes)"
pub data Figure : Type 0 where
  files loaded text_bytes image_bytes : Figure
  refusals rows : ℕ → Figure

-- 1 where a test holds
unfoldable pub one : Bool → ℕ
one t = cond t 1 0

-- the values of a kind; 01: "each tree in it is one row"
unfoldable pub of_kind : ℕ → Trees → ℕ
of_kind k none = 0
of_kind k (tree kind id own cs rest) = one (eqb kind k) + (of_kind k cs + of_kind k rest)

-- the own bytes that the values of a kind have together; 01: a tree's own bytes are "its children and its 7-bit numbers, count or size left out"
unfoldable pub bytes_of_kind : ℕ → Trees → ℕ
bytes_of_kind k none = 0
bytes_of_kind k (tree kind id own cs rest) = cond (eqb kind k) (length own) 0 + (bytes_of_kind k cs + bytes_of_kind k rest)

-- a file that is no XNB file: Req 14, "counts as a file only"
unfoldable pub of_other : Figure → ℕ
of_other files = 1
of_other loaded = 0
of_other text_bytes = 0
of_other image_bytes = 0
of_other (refusals n) = 0
of_other (rows k) = 0

-- an XNB file that is refused with a number: Req 14, "refusals by number (32 too)"
unfoldable pub of_refusal : (number : ℕ) → Figure → ℕ
of_refusal number files = 1
of_refusal number loaded = 0
of_refusal number text_bytes = 0
of_refusal number image_bytes = 0
of_refusal number (refusals n) = one (eqb number n)
of_refusal number (rows k) = 0

-- an XNB file that is accepted, by its objects; texts are kind 13, image levels kind 35
unfoldable pub of_objects : Trees → Figure → ℕ
of_objects ts files = 1
of_objects ts loaded = 1
of_objects ts text_bytes = bytes_of_kind 13 ts
of_objects ts image_bytes = bytes_of_kind 35 ts
of_objects ts (refusals n) = 0
of_objects ts (rows k) = of_kind k ts

-- an XNB file, by what loading it answers
unfoldable pub of_load : Answer Loaded → Figure → ℕ
of_load (refused number place) = of_refusal number
of_load (read a e) = of_objects a.tree.objects

-- what loading a file answers, under one list of enum types and, Req 14, "with room for 65,536 rows" (`opened` of crates/load_part)
module _ (opened : List ℕ → Answer Loaded) where
  -- Req 14: "A file not starting with `XNB` counts as a file only"
  unfoldable pub of_content : List ℕ → Figure → ℕ
  of_content content f = cond (same (take 3 content) (ascii "XNB")) (of_load (opened content) f) (of_other f)

  unfoldable pub of_files : List Stored → Figure → ℕ
  of_files [] f = 0
  of_files (s ∷ fs) f = of_content s.content f + of_files fs f

  -- Req 14: "A refused pack changes no figure"
  unfoldable pub of_pack : Pack → Figure → ℕ
  of_pack (refusal number place) f = 0
  of_pack (accepted fs) f = of_files fs f

  -- Req 14: "Each figure is defined from the list of packs seen", "with one enum list and one size of pack table throughout"
  unfoldable pub season : (words : ℕ) → List (List ℕ) → Figure → ℕ
  season words [] f = 0
  season words (pack ∷ packs) f = of_pack (pack_of plain pack words) f + season words packs f

  -- Req 14: "the same however the list is split between two runs whose reports are added"
  pub split : (words : ℕ) (packs more : List (List ℕ)) (f : Figure) → season words (packs ++ more) f ≡ season words packs f + season words more f
  unfolding season
  split words [] more f = omega arith
  split words (pack ∷ packs) more f = omega (arith, split words packs more f)
