-- File trees, and which bytes a file tree may have (01, "File header" and "The row table"; 000, "XNB Container Format"). Assumes nothing.
use Rattle.std.specs.Prelude.{◌≡◌, List, [], ◌∷◌, ◌++◌, ◌⊎◌, ℕ, suc, ◌+◌, ◌≤◌, length, replicate}
use Prim.Native.Char.{code}
use Rattle.layout.specs.Number.{Seven, little}
use Rattle.layout.specs.Text.{ascii}
use Rattle.layout.specs.EnumList.{EnumEntry}
use Rattle.layout.specs.Named.{named}
use Rattle.layout.specs.Target.{Target, object as anything}
use Rattle.layout.specs.Tree.{Trees, none, tree, count, depth}
use Rattle.layout.specs.Slot.{object, Plan, each}
use Rattle.layout.specs.Layout.{Lays}
use Rattle.layout.specs.Resource.{Resource}
use Rattle.layout.specs.Rows.{Row, rows_of}

-- 01: "A file tree is header bytes 3 and 5, the reader names and the trees of the primary and shared objects"
pub record FileTree : Type 0 where
  -- header byte 3
  pub platform : ℕ
  -- header byte 5
  pub flags : ℕ
  -- the bytes of each reader's name, in order
  pub names : List (List ℕ)
  -- the primary object's tree, then those of the shared objects
  pub objects : Trees

-- the trees after the first one: of a file's objects, the shared
unfoldable pub shared_of : Trees → Trees
shared_of none = none
shared_of (tree k i own cs rest) = rest

-- 01, header byte 3: "`w`, `m` or `x`"
unfoldable pub Platform : ℕ → Type 0
Platform b = (b ≡ code "w") ⊎ ((b ≡ code "m") ⊎ (b ≡ code "x"))

-- 01, "File header": `XNB`, the platform, 5, the flags, and four bytes that say the file's length
unfoldable pub header : (platform flags size : ℕ) → List ℕ
header platform flags size = ascii "XNB" ++ (platform ∷ 5 ∷ flags ∷ little 4 size)

-- 01: "The primary and shared objects are declared Object"
unfoldable pub objects_plan : (shared : ℕ) → Plan
objects_plan shared = each (replicate (suc shared) (object anything))

-- a reader of t as the file lists it; 01: "Each reader is a name (7-bit length 1 to 1,024, then bytes) and a 4-byte version, which must be 0"
pub record Entry (es : List EnumEntry) (name : List ℕ) (t : Target) (bs : List ℕ) : Type 0 where
  -- the bytes of the name's length
  pub number : List ℕ
  pub parts : bs ≡ number ++ (name ++ little 4 0)
  pub numbered : Seven (length name) number
  pub not_empty : 1 ≤ length name
  pub not_long : length name ≤ 1024
  pub lawful : named es name t

-- readers one after the other, by their names and their targets
unfoldable pub Entries : List EnumEntry → (names : List (List ℕ)) (readers : List Target) (bs : List ℕ) → Type 0
Entries es [] [] bs = bs ≡ []
Entries es [] (t ∷ readers) bs = ⊥
Entries es (name ∷ names) [] bs = ⊥
Entries es (name ∷ names) (t ∷ readers) bs =
    (b₁ : List ℕ) × (b₂ : List ℕ) × (bs ≡ b₁ ++ b₂) × Entry es name t b₁ × Entries es names readers b₂

-- what stands before the objects; 01: "From byte 10: reader count (0 to 64), the readers, shared count (0 to 256)"
pub record Lists (es : List EnumEntry) (names : List (List ℕ)) (readers : List Target) (shared : ℕ) (bs : List ℕ) : Type 0 where
  -- the bytes of the reader count, of the readers and of the shared count
  pub number : List ℕ
  pub entries : List ℕ
  pub shared_number : List ℕ
  pub parts : bs ≡ number ++ (entries ++ shared_number)
  pub numbered : Seven (length names) number
  pub not_many : length names ≤ 64
  pub listed : Entries es names readers entries
  pub shared_numbered : Seven shared shared_number
  pub shared_not_many : shared ≤ 256

-- the bytes that a file tree may have; 01: "within every limit, resource types included"
pub record FileLays (es : List EnumEntry) (ft : FileTree) (bs : List ℕ) : Type 0 where
  -- 01, offset 3: "`w`, `m` or `x`"
  pub platform : Platform ft.platform
  -- 01, offset 5: "00 or 01"
  pub flags : (ft.flags ≡ 0) ⊎ (ft.flags ≡ 1)
  -- 01: "longer than 16,777,216 bytes is 9 at 0"; "its bytes, padding included, keep the limit on the file's length"
  pub short : length bs ≤ 16777216
  -- the target of each reader, and the bytes before the objects and of the objects
  pub readers : List Target
  pub before : List ℕ
  pub values : List ℕ
  -- 01, offset 6: "equals the file's length"; after the shared objects "nothing more"
  pub parts : bs ≡ header ft.platform ft.flags (length bs) ++ (before ++ values)
  -- 01: "reader count (0 to 64), the readers, shared count (0 to 256)"
  pub lists : Lists es ft.names readers (count (shared_of ft.objects)) before
  -- 01: "the primary object, the shared objects", the references among them by 16 and 17
  pub laid : Lays readers (Resource (shared_of ft.objects)) (objects_plan (count (shared_of ft.objects))) ft.objects values
  -- 01: "to depth 32, the primary and each shared object being depth 1"
  pub deep : depth ft.objects ≤ 32

-- the rows of a file tree as it stands in its bytes; 01: "Rows stand in file order", "parent's row number plus 1, or 0"
unfoldable pub file_rows : (es : List EnumEntry) (ft : FileTree) (bs : List ℕ) → FileLays es ft bs → List Row
file_rows es ft bs w =
    rows_of w.readers (Resource (shared_of ft.objects)) (objects_plan (count (shared_of ft.objects))) ft.objects w.values w.laid
    (10 + length w.before) 0 0
