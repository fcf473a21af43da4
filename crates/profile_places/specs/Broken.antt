-- Where a file breaks the driver's profile (02, Req 07: "each at the first offence in file order: the byte, number, reader name (the later of two), later key, object or reference"), over its file tree and where its values stand. Assumes nothing.
use Rattle.std.specs.Prelude.{◌≡◌, List, [], ◌∷◌, ◌++◌, ◌⊎◌, ℕ, zero, suc, ◌*◌, ◌<◌, ◌≤◌, length, take, drop, get_or}
use Prim.Native.Char.{code}
use Rattle.layout.specs.Number.{Seven}
use Rattle.layout.specs.Target.{Target, object}
use Rattle.layout.specs.Tree.{Trees, none, tree, size, kind_at}
use Rattle.layout.specs.Rows.{Row}
use Rattle.layout.specs.File.{FileTree}
use Rattle.layout.specs.Shortest.{shortest}
use Rattle.profile.specs.Profile.{Some, id_at, own_at, ReadBy, first_of}
use Rattle.profile_places.specs.Pieces.{Piece, number, entries_pieces, file_pieces, EndsAt}

-- ---- Values, and where they stand by their rows, of which each value has one before those of its children

-- the first byte of the j-th of some trees
unfoldable pub place_at : ℕ → Trees → List Row → ℕ
place_at j none rows = 0
place_at zero (tree k i own cs rest) rows = first_of rows
place_at (suc j) (tree k i own cs rest) rows = place_at j rest (drop (suc (size cs)) rows)

-- what is said of a value: by its kind, its children and the rows behind its own, of which the first are those of its children
abbrev pub Placing : Type 1
Placing = (kind : ℕ) (children : Trees) (below : List Row) → Type 0

-- it holds of some value
unfoldable pub Somewhere : Placing → Trees → List Row → Type 0
Somewhere P none rows = ⊥
Somewhere P (tree k i own cs rest) rows = P k cs (drop 1 rows) ⊎ (Somewhere P cs (drop 1 rows) ⊎ Somewhere P rest (drop (suc (size cs)) rows))

-- a dictionary whose key j, which stands at a place, is a String with the bytes of key i before it
abbrev pub LaterKey : (place : ℕ) → Placing
LaterKey place kind cs below =
    (kind ≡ 19) × (i : ℕ) × (j : ℕ) × (i < j) × (kind_at (2 * i) cs ≡ 13) × (kind_at (2 * j) cs ≡ 13) × (own_at (2 * i) cs ≡ own_at (2 * j) cs) × (place_at (2 * j) cs below ≡ place)

-- a page whose next, which stands at a place, has resource id 0
abbrev pub NoNext : (place : ℕ) → Placing
NoNext place kind cs below = (kind ≡ 34) × (id_at 3 cs ≡ 0) × (place_at 3 cs below ≡ place)

-- the rules, and their refusals "in the order named"
pub data Rule : Type 0 where
  platform numbers used distinct keys page nexts : Rule

unfoldable pub refusal_of : Rule → ℕ
refusal_of platform = 41
refusal_of numbers = 42
refusal_of used = 43
refusal_of distinct = 44
refusal_of keys = 45
refusal_of page = 46
refusal_of nexts = 47

-- ---- A file tree, the targets of its readers, its bytes and the rows of its values

module _ (ft : FileTree) (readers : List Target) (file : List ℕ) (rows : List Row) where
  -- the name of reader i starts at a place: behind the reader count, the readers before it, and its length
  abbrev pub NameAt : (i place : ℕ) → Type 0
  NameAt i place = EndsAt file (number (length ft.names) ∷ (entries_pieces (take i ft.names) ++ (number (length (get_or ft.names i [])) ∷ []))) place

  -- 41: "platform `w`": the header's byte 3
  abbrev pub PlatformAt : ℕ → Type 0
  PlatformAt place = (place ≡ 3) × (ft.platform ≡ code "w" → ⊥)

  -- 42: "every 7-bit number shortest": a number of the file that is longer
  abbrev pub PaddedAt : ℕ → Type 0
  PaddedAt place =
      (before : List Piece) × (n : ℕ) × (after : List Piece) × (file_pieces ft ≡ before ++ (number n ∷ after)) × EndsAt file before place
      × (b : List ℕ) × (rest : List ℕ) × (drop place file ≡ b ++ rest) × Seven n b × (length (shortest n) < length b)

  -- 43: "every listed reader used by some type id"
  abbrev pub UnusedAt : ℕ → Type 0
  UnusedAt place = (i : ℕ) × (i < length readers) × (Some (ReadBy i) ft.objects → ⊥) × NameAt i place

  -- 44: "no two readers with equal targets": "the later of two"
  abbrev pub DoubledAt : ℕ → Type 0
  DoubledAt place = (i : ℕ) × (j : ℕ) × (i < j) × (j < length readers) × (get_or readers i object ≡ get_or readers j object) × NameAt j place

  -- 45: "no two String keys of equal bytes in one dictionary": "later key"
  abbrev pub RepeatedAt : ℕ → Type 0
  RepeatedAt place = Somewhere (LaterKey place) ft.objects rows

  -- 46: "a first object that is a Page"
  abbrev pub NoPageAt : ℕ → Type 0
  NoPageAt place = (kind_at 0 ft.objects ≡ 34 → ⊥) × (place_at 0 ft.objects rows ≡ place)

  -- 47: "no page whose next has resource id 0": the reference, a page's fourth child
  abbrev pub NextlessAt : ℕ → Type 0
  NextlessAt place = Somewhere (NoNext place) ft.objects rows

  unfoldable pub BrokenAt : Rule → (place : ℕ) → Type 0
  BrokenAt platform place = PlatformAt place
  BrokenAt numbers place = PaddedAt place
  BrokenAt used place = UnusedAt place
  BrokenAt distinct place = DoubledAt place
  BrokenAt keys place = RepeatedAt place
  BrokenAt page place = NoPageAt place
  BrokenAt nexts place = NextlessAt place

  -- "41 to 47 in the order named, each at the first offence in file order": the rules before this one are kept, it is broken at the place, and nowhere before
  pub record FirstBroken (refusal place : ℕ) : Type 0 where
    pub rule : Rule
    pub refusal_is : refusal ≡ refusal_of rule
    pub kept : (earlier : Rule) → refusal_of earlier < refusal → (q : ℕ) → BrokenAt earlier q → ⊥
    pub broken : BrokenAt rule place
    pub first : (q : ℕ) → BrokenAt rule q → place ≤ q
