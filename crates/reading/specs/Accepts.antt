-- A file is read exactly when it is the bytes of a file tree and there is room for its rows. Assumes nothing.
use Rattle.std.specs.Prelude.{◌≡◌, true, eqb, replicate}
use Rattle.std.proofs.Math.Path.{refl, sym, ap}
use Rattle.std.proofs.Common.{◌∙◌, arith}
use mathlib.Core.List.{List, [], ◌∷◌, ◌++◌, append-nil}
use Prim.Native.Nat.{ℕ, suc, ◌+◌, ◌≤◌}
use Rattle.std.proofs.Math.ListN.{length, drop, length-append}
use Rattle.std.proofs.lemmas.List.{length-replicate}
use Rattle.std.proofs.Math.Seq.{drop-length}
use borrow.Author.Tests.{eqb-true, eq-eqb}
use Rattle.layout.specs.EnumList.{EnumEntry}
use Rattle.layout.specs.Number.{little}
use Rattle.layout.specs.Text.{ascii}
use Rattle.layout.specs.Target.{Target, object as anything}
use Rattle.layout.specs.Tree.{Trees, none, tree, count, size}
use Rattle.layout.specs.Slot.{object}
use Rattle.layout.specs.Layout.{Lays}
use Rattle.layout.specs.Resource.{Within, Resource}
use Rattle.layout.specs.File.{FileTree, shared_of, header, objects_plan, Entries, Lists, FileLays, file_rows}
use Rattle.reading.specs.Answer.{read, bind, check, Ok, is_read, ok_bind, ok_check}
use Rattle.reading.specs.Reads.{Small, seam}
use Rattle.reading.specs.Resource.{kinds, suits, resource-sound, resource-complete}
use Rattle.reading.specs.Walk.{Taken}
use Rattle.reading.specs.Sound.{Read}
use Rattle.reading.specs.File.{Named, Judges, root_kinds, Loaded, objects_at, finished, file_at}
use Rattle.reading.specs.Front.{Headed, header-complete, header-sound, lists_reads}
use Rattle.reading.specs.References.{Every, judged-complete, judged-sound, change, every_row, roots_are, rows-length, slots-count}
use Rattle.reading.specs.Drafts.{Draft, nothing, drafts_of, bare, length-bare, drafts-bare}

count_after : (ts : Trees) (s : ℕ) → count ts ≡ suc s → count (shared_of ts) ≡ s
unfolding count shared_of
count_after none s q = absurd (omega arith)
count_after (tree k i own cs rest) s q = omega arith

-- the shared objects are as many as the shared count says
pub shared_count : (readers : List Target) (refers : ℕ → ℕ → Type 0) (s : ℕ) (ts : Trees) (bs : List ℕ)
    → Lays readers refers (objects_plan s) ts bs → count (shared_of ts) ≡ s
unfolding objects_plan
shared_count readers refers s ts bs w =
    count_after ts s (slots-count readers refers (replicate (suc s) (object anything)) ts bs w ∙ length-replicate (suc s) (object anything))

module _ (es : List EnumEntry) where
  -- there is a target for each name
  pub entries-length : (names : List (List ℕ)) (readers : List Target) (bs : List ℕ) → Entries es names readers bs → length readers ≡ length names
  unfolding Entries
  entries-length [] [] bs w = refl
  entries-length [] (t ∷ readers) bs w = absurd w
  entries-length (name ∷ names) [] bs w = absurd w
  entries-length (name ∷ names) (t ∷ readers) bs w = ap suc (entries-length names readers w.1 w.4)

  -- the header of a file tree's bytes, and what stands behind it
  pub behind_header_lem : (ft : FileTree) (file : List ℕ) (w : FileLays es ft file) → drop 10 file ≡ w.before ++ w.values
  unfolding header ascii little
  behind_header_lem ft file w = ap (drop 10) w.parts

  pub headed : (ft : FileTree) (file : List ℕ) → FileLays es ft file → Headed file ft.platform ft.flags
  headed ft file w = record {
    platform_is = w.platform;
    flags_are = w.flags;
    short = w.short;
    parts = rw (behind_header_lem ft file w) w.parts;
  }

  -- the drafts of a file tree as it stands in its bytes
  unfoldable pub file_drafts : (ft : FileTree) (bs : List ℕ) → FileLays es ft bs → List Draft
  file_drafts ft bs w =
      drafts_of w.readers (Resource (shared_of ft.objects)) (objects_plan (count (shared_of ft.objects))) ft.objects w.values w.laid
      (10 + length w.before) 0 0

  pub file_bare : (ft : FileTree) (bs : List ℕ) (w : FileLays es ft bs) → bare (file_drafts ft bs w) ≡ file_rows es ft bs w
  unfolding file_drafts file_rows
  file_bare ft bs w =
      drafts-bare w.readers (Resource (shared_of ft.objects)) ft.objects (objects_plan (count (shared_of ft.objects))) w.values w.laid (10 + length w.before) 0 0

  -- a row for each value in the file tree
  pub rows-count : (ft : FileTree) (file : List ℕ) (w : FileLays es ft file) → length (file_rows es ft file w) ≡ size ft.objects
  unfolding file_drafts
  rows-count ft file w =
      sym (ap length (file_bare ft file w)) ∙ length-bare (file_drafts ft file w) ∙ rows-length w.readers (Resource (shared_of ft.objects)) (objects_plan (count (shared_of ft.objects))) ft.objects w.values w.laid (10 + length w.before) 0 0

  -- what is read of a file tree that stands in a file
  abbrev pub loaded_of : (ft : FileTree) (file : List ℕ) → FileLays es ft file → Loaded
  loaded_of ft file w = record { tree = ft; rows = file_drafts ft file w; readers = length ft.names; shared = count (shared_of ft.objects) }

  -- the file is the bytes of the file tree, the rows are its rows, and there is room for them
  pub record IsFile (file : List ℕ) (room : ℕ) (a : Loaded) (e : ℕ) : Type 0 where
    pub lays : FileLays es a.tree file
    pub rows_are : a.rows ≡ file_drafts a.tree file lays
    pub readers_are : a.readers ≡ length a.tree.names
    pub shared_are : a.shared ≡ count (shared_of a.tree.objects)
    pub room_left : size a.tree.objects ≤ room
