-- Unique reading (demand 3): which trees, files, packs and lists may have the same bytes. The statements are of the layout alone; their proofs go by reading. Assumes nothing.
use Rattle.std.specs.Prelude.{◌≡◌, Bool, List, [], ◌∷◌, ◌++◌, ℕ}
use Rattle.std.proofs.Common.{sym, ap, ◌∙◌}
use Rattle.layout.specs.Target.{Target}
use Rattle.layout.specs.Tree.{Trees}
use Rattle.layout.specs.Slot.{Slot, each}
use Rattle.layout.specs.Layout.{Lays}
use Rattle.layout.specs.Resource.{Within}
use Rattle.layout.specs.File.{FileTree, FileLays, file_rows}
use Rattle.layout.specs.EnumList.{EnumEntry, write_enums}
use Rattle.names.specs.Entries.{entries_of}
use Rattle.names.specs.EntryLaws.{entries-written}
use Rattle.reading.proofs.Theorems as T
use Rattle.readers.specs.Judged.{judged_name, judges}
use Rattle.pack_layout.specs.Pack.{Stored, PackLays, mark_of}
use Rattle.pack_reading.proofs.Theorems as P

-- "Take any two trees, of any depth, under one reader list, one shared count, one declared type and one way of standing. If bytes that one may have equal or begin bytes that the other may have, the two trees are the same and so are the bytes."
-- 02, Req 05: "image levels, data bytes and bone references have no declared type, so demand 3 takes them only inside their owner": the slot of such a leaf has its size and its rule, which its owner alone gives.
pub unique-tree : (readers : List Target) (shared : ℕ) (x : Slot) (t₁ t₂ : Trees) (b₁ b₂ rest : List ℕ)
    → Lays readers (Within shared) (each (x ∷ [])) t₁ b₁ → Lays readers (Within shared) (each (x ∷ [])) t₂ b₂ → b₁ ++ rest ≡ b₂ → (t₁ ≡ t₂) × (b₁ ≡ b₂)
unique-tree readers shared x t₁ t₂ b₁ b₂ rest w₁ w₂ e = T.unique-tree readers shared x t₁ t₂ b₁ b₂ rest w₁ w₂ e

-- the same of file trees, under one list of enum types
pub unique_file : (es : List EnumEntry) (f₁ f₂ : FileTree) (b₁ b₂ rest : List ℕ) → FileLays es f₁ b₁ → FileLays es f₂ b₂ → b₁ ++ rest ≡ b₂ → (f₁ ≡ f₂) × (b₁ ≡ b₂)
unique_file es f₁ f₂ b₁ b₂ rest w₁ w₂ e = T.unique_file es (judged_name es) (judges es) f₁ f₂ b₁ b₂ rest w₁ w₂ e

-- "There is then only one such file tree", and its rows in the file are the same however the file is taken apart
pub one_file_tree : (es : List EnumEntry) (file : List ℕ) (f₁ f₂ : FileTree) (w₁ : FileLays es f₁ file) (w₂ : FileLays es f₂ file)
    → (f₁ ≡ f₂) × (file_rows es f₁ file w₁ ≡ file_rows es f₂ file w₂)
one_file_tree es file f₁ f₂ w₁ w₂ = T.one_file_tree es (judged_name es) (judges es) file f₁ f₂ w₁ w₂

-- 02, Req 02: lent bytes are those of one list of enum types only
pub one_list : (es fs : List EnumEntry) → write_enums es ≡ write_enums fs → es ≡ fs
one_list es fs e = sym (entries-written es) ∙ ap entries_of e ∙ entries-written fs

-- of any two packs of one form: where bytes of the one equal or begin bytes of the other, the packs are the same, and so are the bytes
pub unique_pack : (marked : Bool) (fs gs : List Stored) (bs cs rest : List ℕ) → PackLays (mark_of marked) fs bs → PackLays (mark_of marked) gs cs → bs ++ rest ≡ cs → (fs ≡ gs) × (bs ≡ cs)
unique_pack marked fs gs bs cs rest v w e = P.unique_pack (mark_of marked) fs gs bs cs rest v w e
