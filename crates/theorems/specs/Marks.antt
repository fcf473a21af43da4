-- Req 10 of the code: what is demanded of converting a pack from one form to the other; `marked` is the form of the new pack. Each record is the contract of a function that calls the code. Assumes nothing.
use Rattle.std.specs.Prelude.{◌≡◌, Bool, not, List, ◌++◌, ◌⊎◌, ℕ, ◌<◌, ◌≤◌, length, take, drop, Err, None, Ok, Some, Result, Option}
use Rattle.pack_layout.specs.Pack.{Stored, pack_bytes, PackLays, mark_of}
use Rattle.pack_layout.specs.Numbers.{PackNumber}
use Rattle.pack_layout.specs.Table.{Fitting}
use Rattle.pack_layout.specs.Lookup.{Content, missing, content}
use Rattle.theorems.specs.declared.converted.FoundBoth.{FoundBoth}
use Rattle.theorems.specs.Packs.{Gives}
use Rattle.answers.specs.Refusals.{refusal as refusal_at}
use Rattle.answers.specs.declared.Refusal.{Refusal}
use Rattle.pack_lookup.specs.declared.Part.{Part}

-- the form of the pack given
abbrev pub Given : (marked : Bool) (pack : List ℕ) (words : ℕ) → Type 0
Given marked pack words = Fitting (mark_of (not marked)) pack words

-- the same files, as stored, in the form `marked`: "copying path lengths as found"
abbrev pub in_form : (marked : Bool) → List Stored → List ℕ
in_form marked fs = pack_bytes (mark_of marked) fs

-- For the pack, the output as it was lent and as it is left, and the answer. No reading is in it.
pub record Converts (marked : Bool) (pack out end : List ℕ) (r : Result ℕ Refusal) : Type 0 where
  -- every pack that the reader of the other form accepts, with a table of any size, is converted where the output has room; output bytes past the new pack stay
  pub converts : {words : ℕ} (f : Given marked pack words) → length (in_form marked f.files) ≤ length out
      → (r ≡ Ok (length (in_form marked f.files))) × (end ≡ in_form marked f.files ++ drop (length (in_form marked f.files)) out)
  -- where the output has no room, "21 with the bytes needed"
  pub too_small : {words : ℕ} (f : Given marked pack words) → length out < length (in_form marked f.files) → r ≡ Err (refusal_at 21 (length (in_form marked f.files)))
  -- where no files may have these bytes in the other form, one refusal's number and place
  pub refuses : ((fs : List Stored) → PackLays (mark_of (not marked)) fs pack → ⊥) → (number : ℕ) × (place : ℕ) × (r ≡ Err (refusal_at number place))
  -- a refused conversion leaves its output unchanged; "A conversion lends no table", and so is never refused with 31
  pub unchanged : (number place : ℕ) → r ≡ Err (refusal_at number place) → (end ≡ out) × (number ≡ 31 → ⊥)
  -- a refusal is 21, or its number is one of a pack's of the other form and its place is in the pack
  pub inside : (number place : ℕ) → r ≡ Err (refusal_at number place) → (number ≡ 21) ⊎ (PackNumber (not marked) number × (place ≤ length pack))
  -- what was written is a pack of the form `marked`, and lies in the output
  pub written : (n : ℕ) → r ≡ Ok n → (fs : List Stored) × PackLays (mark_of (not marked)) fs pack × (n ≤ length end) × PackLays (mark_of marked) fs (take n end)

-- For a pack that is converted and then back: the number of bytes lent for the first output, the second as it was lent and as it is left, and the second answer.
pub record ConvertsBack (marked : Bool) (pack : List ℕ) (out : ℕ) (second end : List ℕ) (r : Result ℕ Refusal) : Type 0 where
  -- "Both ways round give the original bytes, for every pack the reader of that form accepts"
  pub original : {words : ℕ} (f : Given marked pack words) → length (in_form marked f.files) ≤ out → length pack ≤ length second
      → (r ≡ Ok (length pack)) × (end ≡ pack ++ drop (length pack) second)

-- the data of a file where a lookup found it, none where it found none
abbrev pub data_at : (pack : List ℕ) → Option Part → Content
data_at pack None = missing
data_at pack (Some r) = content (take r.count (drop r.first pack))

-- For a path that is looked up in the pack and in the converted one: the numbers of bytes and of words lent, the output as it is left, and the two answers.
pub record FindsSame (marked : Bool) (pack : List ℕ) (out words : ℕ) (path end : List ℕ) (r : FoundBoth) : Type 0 where
  -- the first answer is a lookup's in the pack given
  pub in_given : Gives (not marked) pack words path r.given
  -- where the output has room, the second is a lookup's in the new pack
  pub in_new : (f : Given marked pack words) → length (in_form marked f.files) ≤ out
      → Gives marked (take (length (in_form marked f.files)) end) words path r.new
  -- "lookups give equal data under both"
  pub same : (f : Given marked pack words) → length (in_form marked f.files) ≤ out
      → data_at pack r.given ≡ data_at (take (length (in_form marked f.files)) end) r.new
