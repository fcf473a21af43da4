-- What is demanded of the padding that a load tells (02, Req 06), beside what a rewrite of the same file saves: the contract of `load_and_rewrite`. `counted` alone has a reading in it. Assumes nothing.
use Rattle.std.specs.Prelude.{◌≡◌, Bool, List, ◌↔◌, ℕ, ◌+◌, ◌-◌, ◌≤◌, length, Err, Ok}
use Rattle.layout.specs.File.{FileLays}
use Rattle.layout.specs.Table.{shape_of}
use Rattle.layout.specs.Shortest.{short_file}
use Rattle.places.specs.Padding.{file_padding}
use Rattle.layout.specs.Fits.{Fitting, rows_in}
use Rattle.theorems.specs.Loading.{Loads}
use Rattle.theorems.specs.Rewriting.{Rewrites}
use Rattle.theorems.specs.declared.padded.Saved.{Saved}
use Rattle.load.specs.Loads.{loaded}
use Rattle.answers.specs.Refusals.{refusal as refusal_at}

-- the file is already shortest: no bytes that its file tree may have are shorter
abbrev pub Shortest : (enums file : List ℕ) (words : ℕ) → Type 0
Shortest enums file words = (f : Fitting enums file words) (bs : List ℕ) → FileLays f.es f.fits.tree bs → length file ≤ length bs

-- For a load by rows or in columns: the lent list of enum types, a file, the number of words lent to the load and to the rewrite, the words as the rewrite leaves them, the output as it was lent and as it is left, and both answers.
pub record Saves (columns : Bool) (enums file : List ℕ) (words : ℕ) (left out end : List ℕ) (r : Saved) : Type 0 where
  -- the first answer is a load's, and so are the words that it leaves to the rewrite
  pub between : List ℕ
  pub loads : Loads (shape_of columns) enums file words between r.loaded
  -- the second is a rewrite's
  pub rewrites : Rewrites enums file words left out end r.rewritten
  -- "It is proved equal to the file's length less the rewritten file's length."
  pub total : (rows readers shared padding n : ℕ) → r.loaded ≡ Ok (loaded rows readers shared padding) → r.rewritten ≡ Ok n → (n ≤ length file) × (padding ≡ length file - n)
  -- "length of the input = length of the output + the padding total": over every number in the file, as it is read there, its bytes beyond its shortest form
  pub counted : (f : Fitting enums file words) → length file ≡ length (short_file f.fits.tree) + file_padding file (length f.fits.tree.names) (rows_in f.fits)
  -- where the output is too small for the rewritten file, its length is the place of 21
  pub needed : (rows readers shared padding number place : ℕ) → r.loaded ≡ Ok (loaded rows readers shared padding) → r.rewritten ≡ Err (refusal_at number place)
      → (number ≡ 21) × (place ≤ length file) × (padding ≡ length file - place)
  -- it is 0 exactly if the file is already shortest
  pub none : (rows readers shared padding : ℕ) → r.loaded ≡ Ok (loaded rows readers shared padding) → (padding ≡ 0) ↔ Shortest enums file words
  -- a refused file has no such number, and is refused by both
  pub refused : (number place : ℕ) → r.loaded ≡ Err (refusal_at number place) → r.rewritten ≡ Err (refusal_at number place)
