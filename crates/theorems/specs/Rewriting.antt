-- What is demanded of the code of `rewrite`, which is the contract of `rewrite_exact`. `short_file` goes from a file tree to its shortest bytes, with no file in it. Assumes nothing.
use Rattle.std.specs.Prelude.{◌≡◌, List, ◌++◌, ◌⊎◌, ℕ, suc, ◌<◌, ◌≤◌, length, take, drop, replicate, Err, Ok, Result}
use Rattle.layout.specs.Tree.{count}
use Rattle.layout.specs.File.{shared_of, FileLays}
use Rattle.layout.specs.EnumList.{EnumEntry, write_enums, Enums, FirstBad, Unlawful}
use Rattle.layout.specs.Refusals.{LoadNumber}
use Rattle.layout.specs.Table.{room_of, by_rows, table}
use Rattle.layout.specs.Branches.{TableSkips, TableRoots}
use Rattle.layout.specs.Shortest.{Shortens, short_file}
use Rattle.load.specs.Written.{Loading}
use Rattle.layout.specs.Fits.{Fitting, rows_in}
use Rattle.load.specs.Written.{loaded}
use Rattle.answers.specs.Refusals.{refusal as refusal_at}
use Rattle.answers.specs.declared.Refusal.{Refusal}

-- The bytes written, `new`, for a file that a file tree fits.
pub record Written {enums file : List ℕ} {words : ℕ} (f : Fitting enums file words) (new : List ℕ) : Type 0 where
  -- they are laid down for the same file tree, "no bytes of that file tree are shorter, and bytes of equal length are equal"
  pub shortest : (bs : List ℕ) → FileLays f.es f.fits.tree bs → Shortens (FileLays f.es f.fits.tree) new bs
  -- "reading it gives those objects again": the same file tree fits them
  pub again : (g : Fitting enums new words) × (g.fits.tree ≡ f.fits.tree)
  -- "a file already shortest comes out byte for byte"
  pub stays : length file ≡ length new → new ≡ file

-- For the lent list of enum types, a file, the number of words lent, the words as they are left, the output as it was lent and as it is left, and the answer. No reading is in it.
pub record Rewrites (enums file : List ℕ) (words : ℕ) (left out end : List ℕ) (r : Result ℕ Refusal) : Type 0 where
  -- where a file tree fits and the output has room, the shortest bytes of the tree: "out's bytes past it unchanged, the words as the load of the input left them, the answer its length"
  pub rewrites : (f : Fitting enums file words) → length (short_file f.fits.tree) ≤ length out
      → (r ≡ Ok (length (short_file f.fits.tree))) × (end ≡ short_file f.fits.tree ++ drop (length (short_file f.fits.tree)) out) × (left ≡ table by_rows (rows_in f.fits) words)
  -- where the output has no room, "21 with the bytes needed, words zero, out untouched"
  pub too_small : (f : Fitting enums file words) → length out < length (short_file f.fits.tree)
      → (r ≡ Err (refusal_at 21 (length (short_file f.fits.tree)))) × (end ≡ out) × (left ≡ replicate words 0)
  -- where none fits, one refusal's number and place, "A refused rewrite leaves its output buffer unchanged", and every word is zero
  pub refuses : (Fitting enums file words → ⊥)
      → (number : ℕ) × (place : ℕ) × (r ≡ Err (refusal_at number place)) × (end ≡ out) × (left ≡ replicate words 0)
  -- 02, Req 02: 32 "before all else"
  pub list : Unlawful enums → (place : ℕ) × (r ≡ Err (refusal_at 32 place)) × FirstBad enums place
  -- under a lawful list a refusal's number is one of those for a load or 21, and its place is in the file or the bytes needed, which are no more than the file's
  pub inside : (es : List EnumEntry) → Enums es → enums ≡ write_enums es → (number place : ℕ) → r ≡ Err (refusal_at number place) → (LoadNumber number ⊎ (number ≡ 21)) × (place ≤ length file)
  -- 02, Req 09: "It must hold of every table we leave": the rule of the seventh word
  pub skips : (n : ℕ) → r ≡ Ok n → (f : Fitting enums file words) → TableSkips by_rows (room_of words) left (length (rows_in f.fits))
  pub roots : (n : ℕ) → r ≡ Ok n → (f : Fitting enums file words) → TableRoots by_rows (room_of words) left (length (rows_in f.fits)) (suc (count (shared_of f.fits.tree.objects)))
  -- what is rewritten is a file tree's bytes, and the output then begins with bytes of which the above holds
  pub written : (n : ℕ) → r ≡ Ok n → (f : Fitting enums file words) × (n ≤ length end) × Written f (take n end)

-- For the lent list of enum types and a file that is rewritten and then loaded: the number of words lent, the words as they are left, the number of bytes lent for the output, and the answer.
pub record LoadsAgain (enums file : List ℕ) (words : ℕ) (left : List ℕ) (out : ℕ) (r : Loading) : Type 0 where
  -- "reading it gives those objects again": the answer and the rows are those of the same file tree, as its values stand in the rewritten file, which has no padding
  pub reads : (f : Fitting enums file words) → length (short_file f.fits.tree) ≤ out
      → (g : Fitting enums (short_file f.fits.tree) words) × (g.fits.tree ≡ f.fits.tree)
      × (r ≡ Ok (loaded (length (rows_in g.fits)) (length g.fits.tree.names) (count (shared_of g.fits.tree.objects)) 0)) × (left ≡ table by_rows (rows_in g.fits) words)

-- For the lent list of enum types and a file that is rewritten and then rewritten again: the number of words lent, the number of bytes lent for the first output, the second as it was lent and as it is left, and the second answer.
pub record RewritesTwice (enums file : List ℕ) (words out : ℕ) (second end : List ℕ) (r : Result ℕ Refusal) : Type 0 where
  -- "rewriting twice is rewriting once": the second answer and output are those of a rewrite of the file
  pub same : (f : Fitting enums file words) → length (short_file f.fits.tree) ≤ out → length (short_file f.fits.tree) ≤ length second
      → (r ≡ Ok (length (short_file f.fits.tree))) × (end ≡ short_file f.fits.tree ++ drop (length (short_file f.fits.tree)) second)
  -- also where the second output has no room
  pub same_refusal : (f : Fitting enums file words) → length (short_file f.fits.tree) ≤ out → length second < length (short_file f.fits.tree)
      → (r ≡ Err (refusal_at 21 (length (short_file f.fits.tree)))) × (end ≡ second)
