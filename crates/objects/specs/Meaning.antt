-- What starting a value means: the walk that it begins. It holds for every reader list that has so many readers and the type of the reader that a type id names at a place. Assumes nothing.
use Rattle.std.specs.Prelude.{◌≡◌, Ok, Err, None, Some, Bool, cond, List, ℕ, zero, suc, ◌≤◌, length}
use Rattle.std.proofs.Math.Path.{refl}
use Rattle.std.proofs.Common.{sym, ap, subst, inl, inr, leb-true, leb-false, eqb-true}
use Rattle.std.proofs.Math.Bool.{true, false}
use Rattle.std.proofs.Math.Dec.{leb, eqb}
use Rattle.std.proofs.lemmas.Bool.{eqb-false}
use Rattle.layout.specs.Target.{Target}
use Rattle.layout.specs.Slot as L
use Rattle.layout.specs.Slot.{object}
use Rattle.reading.specs.Answer.{Answer, refused, read}
use Rattle.reading.specs.Reads.{Small}
use Rattle.reading.specs.Seven.{seven_at}
use Rattle.numbers.specs.Padded.{pad_of}
use Rattle.ids.specs.Position.{position_of, type_id}
use Rattle.targets.specs.Code.{Stands}
use Rattle.targets.specs.Place.{kind_at, fits_at}
use Rattle.readers.specs.declared.Readers.{Readers}
use Rattle.readers.specs.Listed.{Listed}
use Rattle.heads.specs.declared.slot.Slot.{Slot}
use Rattle.heads.specs.declared.slot.Slot.TheVariants.{Simple, Object}
use Rattle.heads.specs.declared.slot.Slot.TheVariants.{Raw as RawSlot}
use Rattle.heads.specs.Placed.{SlotIs}
use Rattle.answers.specs.declared.Rule.TheVariants.{NoReader, NotDeclared}
use Rattle.objects.specs.declared.start.Started.TheVariants.{Raw}
use Rattle.objects.specs.Beginnings.{Identified, refusing, Has, position_in, position_at, Identifies, ObjectStarts, Starts}
use Rattle.objects.specs.Start.{beyond-list, beyond-most, never_called, called_by, has_named, no_number, null_starts, read-starts, unread, too_deep, no_row, raw-starts, object-starts}
use Rattle.objects.specs.Total.{reader_as, place_as, identify_as, id_as, object_as, start_as}

module _ (file codes : List ℕ) (count target : ℕ) (rd : Readers) (readers : List Target) (l : Listed file codes rd readers) where
  -- a reader, a type id and an object, for an object declared as the type at `declared`
  module _ (declared : ℕ) (d : Target) (s : Stands file codes declared d) where
    reader_named : (i : ℕ) → Has rd count (position_in (suc i)) target → Identifies file codes readers d (suc i) (reader_as file codes count target declared i)
    unfolding reader_as place_as
    reader_named i h =
        go (leb count i) (leb 64 i) (eqb (kind_at codes target) 14) (eqb (kind_at codes target) 31) (fits_at file codes declared target) refl refl refl refl refl where
          go : (a b c e f : Bool) → leb count i ≡ a → leb 64 i ≡ b → eqb (kind_at codes target) 14 ≡ c → eqb (kind_at codes target) 31 ≡ e → fits_at file codes declared target ≡ f
              → Identifies file codes readers d (suc i) (cond a (Err NoReader) (cond b (Err NoReader) (cond c (Err NoReader) (cond e (Err NoReader) (cond f (Ok (Some target)) (Err NotDeclared))))))
          go true b c e f p q r t u = beyond-list h l s (leb-true count i p)
          go false true c e f p q r t u = beyond-most h l s (leb-true 64 i q)
          go false false true e f p q r t u = never_called h l s (leb-false count i p) refl (inl (eqb-true _ 14 r))
          go false false false true f p q r t u = never_called h l s (leb-false count i p) refl (inr (eqb-true _ 31 t))
          go false false false false true p q r t u = called_by h l s (leb-false count i p) refl (eqb-false _ 14 r) (eqb-false _ 31 t) true u
          go false false false false false p q r t u = called_by h l s (leb-false count i p) refl (eqb-false _ 14 r) (eqb-false _ 31 t) false u

    id_named : (id : ℕ) → Has rd count (position_in id) target → Identifies file codes readers d id (identify_as file codes count target declared (position_of id))
    id_named zero h = refl
    id_named (suc i) h = reader_named i h

    object_named : Small file → (at : ℕ) → Has rd count (position_at file at) target → (x : Answer ℕ) → seven_at file at ≡ x
        → ObjectStarts file codes readers (object d) at (object_as file codes count target declared at x)
    object_named small at h (refused n p) e = no_number file codes readers d at e
    object_named small at h (read id next) e = go (identify_as file codes count target declared (position_of id)) (id_named id (has_named file at e h)) where
      pads : pad_of (read id next) at ≡ pad_of (seven_at file at) at
      pads = ap (λ y. pad_of y at) (sym e)

      go : (y : Identified) → Identifies file codes readers d id y → ObjectStarts file codes readers (object d) at (id_as at next id (pad_of (read id next) at) y)
      go (Ok None) w = null_starts file codes readers d at small e pads w
      go (Ok (Some place)) w = read-starts file codes readers d at small e pads w
      go (Err r) w = unread file codes readers d at small e pads w

  -- what `start` answers is the walk of the value in a slot
  pub starts_as : Small file → (room : ℕ) (slot : Slot) (at used depth : ℕ) (x : L.Slot) → Has rd count (position_at file at) target → SlotIs file codes slot x → at ≤ length file
      → Starts file codes readers room depth x at used (start_as file codes count target room slot at used depth)
  starts_as small room (Simple p) at used depth x h s i = s
  starts_as small room (RawSlot place) at used depth x h s i = go (eqb depth 0) (leb room used) refl refl where
    go : (b c : Bool) → eqb depth 0 ≡ b → leb room used ≡ c
        → Starts file codes readers room depth x at used (cond b (refusing 18 at) (cond c (refusing 19 at) (Ok (Raw place at (type_id 0) 0))))
    go true c p q = too_deep file codes readers room x at used (eqb-true depth 0 p)
    go false true p q = no_row file codes readers room x at used (eqb-false depth 0 p) (leb-true room used q)
    go false false p q = raw-starts file codes readers room x at used (eqb-false depth 0 p) (leb-false room used q) i s.type s.is s.stands
  starts_as small room (Object declared) at used depth x h s i = go (eqb depth 0) (leb room used) refl refl where
    go : (b c : Bool) → eqb depth 0 ≡ b → leb room used ≡ c
        → Starts file codes readers room depth x at used (cond b (refusing 18 at) (cond c (refusing 19 at) (object_as file codes count target declared at (seven_at file at))))
    go true c p q = too_deep file codes readers room x at used (eqb-true depth 0 p)
    go false true p q = no_row file codes readers room x at used (eqb-false depth 0 p) (leb-true room used q)
    go false false p q =
        object-starts file codes readers room x at used (eqb-false depth 0 p) (leb-false room used q) (object_as file codes count target declared at (seven_at file at))
        (subst (λ y. ObjectStarts file codes readers y at (object_as file codes count target declared at (seven_at file at))) (sym s.is) (object_named declared s.type s.stands small at h (seven_at file at) refl))
