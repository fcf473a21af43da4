-- What the functions of this crate answer, for every input. Assumes nothing.
use Rattle.std.specs.Prelude.{ℕ, ◌+◌, max, cond, List, length, ◌==◌, nat_le}
use Rattle.layout.specs.Number.{between}
use Rattle.layout.specs.Image.{digits}
use Rattle.reading.specs.Answer.{Answer, refused, read}
use Rattle.reading.specs.Seven.{seven_at}
use Rattle.reading.specs.Little.{little_at}
use Rattle.numbers.specs.Padded.{pad_of, beside}
use Rattle.reading.specs.Utf8.{char_at}
use Rattle.reading.specs.Fixed.{fixed_at, sized}
use Rattle.reading.specs.Heads.{text_at}
use Rattle.targets.specs.Place.{kind_at, place_after}
use Rattle.leaves.specs.declared.run.Run.TheVariants.{Same, Turns, Levels}
use Rattle.leaves.specs.Text.{own_size}
use Rattle.heads.specs.declared.slot.Slot.{Slot}
use Rattle.heads.specs.declared.slot.Slot.TheVariants.{Simple, Raw, Object}
use Rattle.heads.specs.declared.nest.Nest.TheVariants.{Each, Pairs, Font, Page, Mesh}
use Rattle.heads.specs.declared.nest.Below.{Below}
use Rattle.heads.specs.declared.nest.Below.TheVariants.{Nothing, Nested}
use Rattle.heads.specs.declared.nest.Below.TheVariants.{Simple as SimpleRun}
use Rattle.heads.specs.Placed.{bytes_of, raw_of, slot_by}
use Rattle.heads.specs.Opens.{Headed, headed, refusing, ranged_at}

-- a raw value, and an element or a field, of the type at a place
abbrev pub raw_as : (codes : List ℕ) (a : ℕ) → Slot
raw_as codes a = raw_of (kind_at codes a) a

abbrev pub slot_as : (codes : List ℕ) (a : ℕ) → Slot
slot_as codes a = slot_by (kind_at codes a) a

-- n values that stand alike, and n keys and values in turn
abbrev pub each_as : Slot → ℕ → Below
each_as (Simple p) n = SimpleRun (Same p n)
each_as (Raw a) n = Nested (Each (Raw a) n)
each_as (Object a) n = Nested (Each (Object a) n)

abbrev pub pairs_as : Slot → Slot → ℕ → Below
pairs_as (Simple p) (Simple q) n = SimpleRun (Turns p q n)
pairs_as (Simple p) (Raw b) n = Nested (Pairs (Simple p) (Raw b) n)
pairs_as (Simple p) (Object b) n = Nested (Pairs (Simple p) (Object b) n)
pairs_as (Raw a) y n = Nested (Pairs (Raw a) y n)
pairs_as (Object a) y n = Nested (Pairs (Object a) y n)

-- a value without children, and its bytes by its kind, with the padding of a text's count
abbrev pub alone_as : Answer (ℕ × ℕ) → Headed
alone_as (refused n p) = refusing n p
alone_as (read a next) = headed next (Nothing a.1)

unfoldable pub leaf_as : (file : List ℕ) (kind at : ℕ) → Answer (ℕ × ℕ)
leaf_as file kind at =
    cond (kind == 12) (beside 0 (char_at file at))
    (cond (kind == 13) (beside (pad_of (seven_at file at) at) (own_size (text_at file at))) (beside 0 (sized (fixed_at file kind (bytes_of kind) at))))

-- a nullable, by its first byte; a list and a dictionary, by their counts
abbrev pub flag_as : (codes : List ℕ) (a at : ℕ) → Answer ℕ → Headed
flag_as codes a at (refused n p) = refusing n p
flag_as codes a at (read f next) = cond (f == 0) (headed next (Nothing 0)) (cond (f == 1) (headed next (each_as (raw_as codes a) 1)) (refusing 15 at))

abbrev pub list_as : (codes : List ℕ) (a : ℕ) → Answer ℕ → Headed
list_as codes a (refused n p) = refusing n p
list_as codes a (read n next) = headed next (each_as (slot_as codes a) n)

abbrev pub dictionary_as : (codes : List ℕ) (a b : ℕ) → Answer ℕ → Headed
dictionary_as codes a b (refused n p) = refusing n p
dictionary_as codes a b (read n next) = headed next (pairs_as (slot_as codes a) (slot_as codes b) n)

-- an image, by its four fields
abbrev pub levels_as : (f w h : ℕ) → Answer ℕ → Headed
levels_as f w h (refused n p) = refusing n p
levels_as f w h (read n e) = headed e (SimpleRun (Levels f w h n))

abbrev pub height_as : (file : List ℕ) (f w : ℕ) → Answer ℕ → Headed
height_as file f w (refused n p) = refusing n p
height_as file f w (read h e) = levels_as f w h (ranged_at file 1 (digits 32 (max w h)) e)

abbrev pub width_as : (file : List ℕ) (f : ℕ) → Answer ℕ → Headed
width_as file f (refused n p) = refusing n p
width_as file f (read w e) = height_as file f w (ranged_at file 1 4096 e)

abbrev pub image_as : (file : List ℕ) → Answer ℕ → Headed
image_as file (refused n p) = refusing n p
image_as file (read f e) = width_as file f (ranged_at file 1 4096 e)

-- a raw value of a kind, whose type's arguments stand from `a` on
unfoldable pub kind_as : (file codes : List ℕ) (kind a at : ℕ) → Headed
kind_as file codes kind a at =
    cond (kind == 14) (refusing 13 at)
    (cond (kind == 16) (flag_as codes a at (little_at file 1 at at))
    (cond (kind == 17) (list_as codes a (little_at file 4 at at))
    (cond (kind == 18) (list_as codes a (little_at file 4 at at))
    (cond (kind == 19) (dictionary_as codes a (place_after codes a) (little_at file 4 at at))
    (cond (kind == 31) (refusing 13 at)
    (cond (kind == 32) (image_as file (ranged_at file 0 18 at))
    (cond (kind == 33) (headed at (Nested Font))
    (cond (kind == 34) (headed at (Nested Page))
    (cond (between 37 40 kind) (headed at (Nested (Mesh kind))) (alone_as (leaf_as file kind at)))))))))))

unfoldable pub open_as : (file codes : List ℕ) (t at : ℕ) → Headed
open_as file codes t at = cond (nat_le (length codes) t) (refusing 13 at) (kind_as file codes (kind_at codes t) (t + 1) at)
