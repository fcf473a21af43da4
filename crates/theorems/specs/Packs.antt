-- Req 01 of the code: what is demanded of reading a pack, of finding a file by its path, and of loading its data. Each record is the contract of a function that calls the code. Assumes nothing.
use Rattle.std.specs.Prelude.{◌≡◌, Bool, List, ◌∷◌, ◌++◌, ◌↔◌, ℕ, ◌*◌, ◌-◌, ◌≤◌, length, take, drop, replicate, Err, None, Ok, Some, Result, Option}
use Rattle.layout.specs.Table.{by_rows}
use Rattle.load.specs.Written.{Loading}
use Rattle.pack_layout.specs.Pack.{Stored, Each, mark_of}
use Rattle.pack_layout.specs.Numbers.{PackNumber}
use Rattle.pack_layout.specs.Table.{flat, wholes, entries, Fitting}
use Rattle.pack_layout.specs.Parts.{Part, Names}
use Rattle.pack_layout.specs.Lookup.{lowered, NoMatch, FirstMatch}
use Rattle.theorems.specs.Loading.{Loads}
use Rattle.answers.specs.Refusals.{refusal as refusal_at}
use Rattle.answers.specs.declared.Refusal.{Refusal}
use Rattle.pack_lookup.specs.declared.Part as code
use Rattle.pack_lookup.specs.Written.{part}

-- ---- Reading a pack

-- the answer is no refusal
abbrev pub IsRead : Result ℕ Refusal → Type 0
IsRead (Err e) = ⊥
IsRead (Ok files) = Unit {0}

-- For the form, the pack, the number of words lent, the words as they are left and the answer. No reading is in it.
pub record Reads (marked : Bool) (pack : List ℕ) (words : ℕ) (left : List ℕ) (r : Result ℕ Refusal) : Type 0 where
  -- a pack is accepted exactly when some files may have these bytes and the table has room for them
  pub accepts : IsRead r ↔ Fitting (mark_of marked) pack words
  -- "path start, path length, data start, data length, four 64-bit words a file"; "Unused words .. are zero"; and each entry names its file's path and data
  pub files : (f : Fitting (mark_of marked) pack words)
      → (r ≡ Ok (length f.files))
      × (left ≡ flat (entries (mark_of marked) 4 f.files) ++ replicate (words - 4 * length f.files) 0)
      × Names pack (entries (mark_of marked) 4 f.files) f.files
  -- "Unused words, and all on refusal, are zero"
  pub refuses : (Fitting (mark_of marked) pack words → ⊥) → (number : ℕ) × (place : ℕ) × (r ≡ Err (refusal_at number place)) × (left ≡ replicate words 0)
  -- a refusal's number is one of Req 01's and Req 10's for a pack, and its place is in the pack
  pub inside : (number place : ℕ) → r ≡ Err (refusal_at number place) → PackNumber marked number × (place ≤ length pack)

-- ---- Finding a file, by a table of any words

pub record Finds (pack table path : List ℕ) (r : Option code.Part) : Type 0 where
  -- ""absent" exactly if no path matches"
  pub absent : (r ≡ None) ↔ NoMatch pack path (wholes table)
  -- "gives the first match's data"
  pub first : (a n : ℕ) → r ≡ Some (part a n) → FirstMatch pack path (wholes table) a n

-- ---- Loading a file of a pack

-- what the loader answers for the data, in the answers of a file of a pack
abbrev pub opened_as : Loading → Option Loading
opened_as l = Some l

-- For a lent list of enum types, a pack, a table of any words, a path, the number of words lent, the words as they are left and the answer.
pub record Opens (enums pack table path : List ℕ) (words : ℕ) (left : List ℕ) (r : Option Loading) : Type 0 where
  pub absent : (r ≡ None) ↔ NoMatch pack path (wholes table)
  pub zeros : r ≡ None → left ≡ replicate words 0
  -- "The XNB loader takes the data as a part of the pack; demands 2 and 3 then hold of that part, with places counted from its start", under the lent list
  pub part : (a n : ℕ) → FirstMatch pack path (wholes table) a n → (l : Loading) × (r ≡ opened_as l) × Loads by_rows enums (take n (drop a pack)) words left l

-- ---- Finding in the table that reading left: over the pack's own files

-- a file has this path: "compares after lowering ASCII letters"
abbrev pub Named : (path : List ℕ) → Stored → Type 0
Named path g = lowered g.path ≡ lowered path

abbrev pub NotNamed : (path : List ℕ) → Stored → Type 0
NotNamed path g = Named path g → ⊥

-- the first of some files that has this path
pub record FirstNamed (path : List ℕ) (fs : List Stored) (g : Stored) : Type 0 where
  pub before : List Stored
  pub after : List Stored
  pub split : fs ≡ before ++ g ∷ after
  pub named : Named path g
  pub earlier : Each (NotNamed path) before

-- For the form, a pack, the number of words lent for its table, a path, and what a lookup in the table that reading the pack left answers.
pub record Gives (marked : Bool) (pack : List ℕ) (words : ℕ) (path : List ℕ) (r : Option code.Part) : Type 0 where
  -- ""absent" exactly if no path matches": no file of the pack has this path
  pub absent : (f : Fitting (mark_of marked) pack words) → (r ≡ None) ↔ Each (NotNamed path) f.files
  -- "gives the first match's data": that of the pack's first file of this path, as it stands in the pack
  pub first : (f : Fitting (mark_of marked) pack words) (a n : ℕ) → r ≡ Some (part a n) → (g : Stored) × FirstNamed path f.files g × Part pack a n g.content
