-- What is answered where a value begins, for every input. Assumes nothing.
use Rattle.std.specs.Prelude.{Ok, Err, Option, None, Some, cond, List, ℕ, leb, eqb}
use Rattle.ids.specs.Position.{position_of, type_id}
use Rattle.reading.specs.Answer.{Answer, refused, read}
use Rattle.reading.specs.Seven.{seven_at}
use Rattle.numbers.specs.Padded.{pad_of}
use Rattle.targets.specs.Place.{kind_at, fits_at}
use Rattle.heads.specs.declared.slot.Slot.{Slot}
use Rattle.heads.specs.declared.slot.Slot.TheVariants.{Simple, Object}
use Rattle.heads.specs.declared.slot.Slot.TheVariants.{Raw as RawSlot}
use Rattle.answers.specs.declared.Rule.TheVariants.{NoReader, NotDeclared}
use Rattle.answers.specs.Refusals.{number_of}
use Rattle.objects.specs.declared.start.Started.TheVariants.{Raw, Plain}
use Rattle.objects.specs.declared.start.Started.TheVariants.{Null as NullValue}
use Rattle.objects.specs.Beginnings.{Identified, Starting, refusing}

-- a reader of the type at `place`: 13 if it is never invoked, then 14 unless it serves
unfoldable pub place_as : (file codes : List ℕ) (declared place : ℕ) → Identified
place_as file codes declared place =
    cond (eqb (kind_at codes place) 14) (Err NoReader)
    (cond (eqb (kind_at codes place) 31) (Err NoReader) (cond (fits_at file codes declared place) (Ok (Some place)) (Err NotDeclared)))

-- reader i of a list of so many readers, whose type is at `target`: 13 past its end
unfoldable pub reader_as : (file codes : List ℕ) (count target declared i : ℕ) → Identified
reader_as file codes count target declared i = cond (leb count i) (Err NoReader) (cond (leb 64 i) (Err NoReader) (place_as file codes declared target))

abbrev pub identify_as : (file codes : List ℕ) (count target declared : ℕ) → Option ℕ → Identified
identify_as file codes count target declared None = Ok None
identify_as file codes count target declared (Some i) = reader_as file codes count target declared i

-- an object, by its type id, which has this padding
abbrev pub id_as : (at next id padding : ℕ) → Identified → Starting
id_as at next id padding (Ok None) = Ok (NullValue next padding)
id_as at next id padding (Ok (Some place)) = Ok (Raw place next (type_id id) padding)
id_as at next id padding (Err r) = refusing (number_of r) at

abbrev pub object_as : (file codes : List ℕ) (count target declared at : ℕ) → Answer ℕ → Starting
object_as file codes count target declared at (refused n p) = refusing n p
object_as file codes count target declared at (read id next) = id_as at next id (pad_of (read id next) at) (identify_as file codes count target declared (position_of id))

-- the value in a slot: 18, then 19, then its type id if it is an object
abbrev pub start_as : (file codes : List ℕ) (count target room : ℕ) → Slot → (at used depth : ℕ) → Starting
start_as file codes count target room (Simple p) at used depth = Ok (Plain p)
start_as file codes count target room (RawSlot place) at used depth = cond (eqb depth 0) (refusing 18 at) (cond (leb room used) (refusing 19 at) (Ok (Raw place at (type_id 0) 0)))
start_as file codes count target room (Object d) at used depth =
    cond (eqb depth 0) (refusing 18 at) (cond (leb room used) (refusing 19 at) (object_as file codes count target d at (seven_at file at)))
