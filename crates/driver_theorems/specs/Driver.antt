-- What is demanded of the driver's loader (02, Req 07), which is the contract of `load_driver_exact` and, beside the plain loader, of `load_both`. No reading is in it. Assumes nothing.
use Rattle.std.specs.Prelude.{◌≡◌, List, ◌↔◌, ℕ, length, replicate, Ok, Err}
use Rattle.layout.specs.Tree.{count}
use Rattle.layout.specs.File.{shared_of}
use Rattle.layout.specs.Table.{room_of, by_rows, table}
use Rattle.layout.specs.EnumList.{FirstBad, Unlawful}
use Rattle.layout.specs.Branches.{TableSkips}
use Rattle.answers.specs.Refusals.{refusal}
use Rattle.load.specs.Written.{Loading, loaded}
use Rattle.layout.specs.Fits.{Fitting, rows_in}
use Rattle.theorems.specs.Loading.{IsLoaded}
use Rattle.profile.specs.Profile.{Profile}
use Rattle.profile_places.specs.Broken.{FirstBroken}

-- the plain loader accepts the file, by the file tree that fits, and the seven rules hold of it
abbrev pub Passes : (enums file : List ℕ) (words : ℕ) → Type 0
Passes enums file words = (f : Fitting enums file words) × Profile f.fits.tree f.fits.lays.readers file

-- The lent list of enum types, a file, the number of words lent, the words as they are left and the answer.
pub record LoadsForDriver (enums file : List ℕ) (words : ℕ) (left : List ℕ) (r : Loading) : Type 0 where
  -- "A file passes exactly if the plain loader accepts it and these hold"
  pub passes : IsLoaded r ↔ Passes enums file words
  -- "Its rows are then the plain loader's": those of its values as they stand in the file, with zeros behind them; all its numbers are shortest, so its padding is 0
  pub rows : (p : Passes enums file words)
      → (r ≡ Ok (loaded (length (rows_in p.0.fits)) (length p.0.fits.tree.names) (count (shared_of p.0.fits.tree.objects)) 0)) × (left ≡ table by_rows (rows_in p.0.fits) words)
  -- "after any refusal the table is zero"
  pub zero : (number place : ℕ) → r ≡ Err (refusal number place) → left ≡ replicate words 0
  -- "then 41 to 47 in the order named, each at the first offence in file order": of a file that the plain loader accepts, a refusal is of the first rule that is broken, at the first place where it is
  pub refuses : (f : Fitting enums file words) (number place : ℕ) → r ≡ Err (refusal number place) → FirstBroken f.fits.tree f.fits.lays.readers file (rows_in f.fits) number place
  -- Req 02: a list that is not lawful is 32 "placed at the first such entry's number from 0, before all else"
  pub list : Unlawful enums → (place : ℕ) × (r ≡ Err (refusal 32 place)) × FirstBad enums place
  -- Req 09: "It must hold of every table we leave": the rule of the seventh word
  pub skips : (used readers shared padding : ℕ) → r ≡ Ok (loaded used readers shared padding) → TableSkips by_rows (room_of words) left used

-- The plain loader's and the driver's, by how many words were lent to each, the words as they are left and the answers.
pub record Beside (plain_lent lent : ℕ) (plain_left left : List ℕ) (r : Loading × Loading) : Type 0 where
  -- "all of 01's first": what the plain loader refuses is refused so
  pub refusals : plain_lent ≡ lent → (number place : ℕ) → r.0 ≡ Err (refusal number place) → r.1 ≡ Err (refusal number place)
  -- "Its rows are then the plain loader's"
  pub rows : plain_lent ≡ lent → IsLoaded r.1 → (r.1 ≡ r.0) × (left ≡ plain_left)
