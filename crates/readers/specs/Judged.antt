-- What a reader's name is judged to be (01, "Reader names"; 02, Req 04). Assumes nothing.
use Rattle.std.specs.Prelude.{Result, ◌≡◌, Bool, List, [], ◌⊎◌, ℕ, ◌+◌, ◌≤◌, leb}
use Rattle.std.proofs.Math.Path.{refl, sym, ap}
use Rattle.std.proofs.Common.{◌∙◌, inl, inr, arith}
use Rattle.std.proofs.Math.Bool.{true, false, cond}
use Rattle.std.proofs.Math.ListN.{length}
use Rattle.laws.specs.Small.{differ}
use Rattle.layout.specs.Target.{Target}
use Rattle.layout.specs.Name.{Name, text, Formed}
use Rattle.layout.specs.EnumList.{EnumEntry}
use Rattle.layout.specs.Named.{Typed, unknown as no_type, known as has_type, reader_of, named}
use Rattle.layout.specs.Complaint.{reader_faults, leftmost}
use Rattle.names.specs.Parse.{Read, broken, name, name_of}
use Rattle.names.specs.Complete.{length-write}
use Rattle.names.specs.Laws.{text-is_read, read_is_text}
use Rattle.names.specs.Faults.{faults, fault_number_lem}
use Rattle.names.specs.Heading.{headings}
use Rattle.names.specs.Contract as N
use Rattle.names.specs.Contract.{placed, ending}
use Rattle.targets.specs.declared.Unresolved.{Unresolved}
use Rattle.targets.specs.Complaints.{leftmost-within}
use Rattle.targets.specs.Contract.{told, judged, resolution, Resolves}
use Rattle.reading.specs.File.{Named, unknown, known, Judges}
use Rattle.reading.specs.Refusals.{WithinName}

-- 01: "A head that is not listed, or a wrong argument count: 11"; 02: "placed at the leftmost head it complains of"
unfoldable pub typed_name : (faults : List ℕ) → Typed → Named
typed_name faults no_type = unknown 11 (leftmost faults)
typed_name faults (has_type t) = known t

-- 33 to 38, which are judged before heads
unfoldable pub read_name : List EnumEntry → (first : ℕ) → Read → Named
read_name es first (broken number place hs) = unknown number place
read_name es first (name n k) = typed_name (reader_faults es first n) (reader_of es n)

-- what the bytes of a reader's name whose first byte is at a place are judged to be, under a list of enum types
unfoldable pub judged_name : List EnumEntry → (first : ℕ) → List ℕ → Named
judged_name es first s = read_name es first (name_of first s)

module _ (es : List EnumEntry) where
  -- the target of a formed name's text
  pub known_name : (first : ℕ) (s : List ℕ) (n : Name) (t : Target) → Formed 8 n → s ≡ text n → reader_of es n ≡ has_type t → judged_name es first s ≡ known t
  unfolding judged_name read_name typed_name
  known_name first s n t f q e = rw (q, text-is_read first n f, e)

  typed_sound : (n : Name) (t : Target) (faults : List ℕ) (k : Typed) → reader_of es n ≡ k → typed_name faults k ≡ known t → reader_of es n ≡ has_type t
  unfolding typed_name
  typed_sound n t faults no_type e q = differ cc
  typed_sound n t faults (has_type u) e q = let z : u ≡ t = cc in e ∙ ap has_type z

  read-sound : (first : ℕ) (s : List ℕ) (t : Target) (r : Read) → name_of first s ≡ r → read_name es first r ≡ known t → named es s t
  unfolding read_name named
  read-sound first s t (broken m p hs) e q = differ cc
  read-sound first s t (name n k) e q = let g = read_is_text first s n k e in (n, g.0, sym g.1, typed_sound n t (reader_faults es first n) (reader_of es n) refl q)

  -- the judgement says just what is written
  pub judges : Judges es (judged_name es)
  unfolding judged_name named
  judges = record {
    known_sound = λ first s t e. read-sound first s t (name_of first s) refl e;
    known_complete = λ first s t w. known_name first s w.0 t w.1 (sym w.2) w.3;
  }

  -- what `resolve` refuses is what the judgement says
  typed_refused : (used number place : ℕ) (faults : List ℕ) (r : Typed) → N.refused number place ≡ judged used faults r → typed_name faults r ≡ unknown number place
  unfolding typed_name judged
  typed_refused used number place faults no_type q = let x : number ≡ 11 = cc in let y : place ≡ leftmost faults = cc in rw (x, y)
  typed_refused used number place faults (has_type t) q = differ cc

  refused_as : (first : ℕ) (s : List ℕ) (room used number place : ℕ) (b : Bool) (r : Read) → name_of first s ≡ r → N.refused number place ≡ resolution es b room first used r
      → judged_name es first s ≡ unknown number place
  unfolding judged_name read_name resolution ending
  refused_as first s room used number place false r e q = differ cc
  refused_as first s room used number place true (broken m p hs) e q =
      let x : number ≡ m = cc in
      let y : place ≡ p = cc in
      rw (e, x, y)
  refused_as first s room used number place true (name n k) e q = rw e (by_room (leb (used + length (headings first n)) room) q) where
    by_room : (b : Bool) → N.refused number place ≡ cond b (judged used (reader_faults es first n) (reader_of es n)) N.no_room → typed_name (reader_faults es first n) (reader_of es n) ≡ unknown number place
    by_room true q = typed_refused used number place (reader_faults es first n) (reader_of es n) q
    by_room false q = differ cc

  pub refused-name : (first : ℕ) (s c c' : List ℕ) (used number place : ℕ) {r : Result ℕ Unresolved} → Resolves es s first c c' used r → told r ≡ N.refused number place → judged_name es first s ≡ unknown number place
  refused-name first s c c' used number place p e = refused_as first s (length c) used number place (placed s first used) (name_of first s) refl (sym e ∙ p.answers)

  -- a name that is not known is refused with 11, or with 33 to 38, within the name or at its end
  typed_within : (first : ℕ) (s : List ℕ) (number place : ℕ) (n : Name) (k : ℕ) → name_of first s ≡ name n k → (r : Typed) → typed_name (reader_faults es first n) r ≡ unknown number place
      → ((number ≡ 11) ⊎ ((33 ≤ number) × (number ≤ 38))) × (place ≤ first + length s)
  unfolding typed_name
  typed_within first s number place n k i no_type q =
      let x : number ≡ 11 = cc in
      let y : leftmost (reader_faults es first n) ≡ place = cc in
      let g = read_is_text first s n k i in
      (inl x, omega (arith, leftmost-within es n first, ap length g.1, length-write n []))
  typed_within first s number place n k i (has_type t) q = differ cc

  pub within-name : WithinName (judged_name es)
  unfolding judged_name read_name
  within-name first s number place e = go (name_of first s) refl e where
    go : (r : Read) → name_of first s ≡ r → read_name es first r ≡ unknown number place → ((number ≡ 11) ⊎ ((33 ≤ number) × (number ≤ 38))) × (place ≤ first + length s)
    go (broken m p hs) i q =
        let x : m ≡ number = cc in
        let y : p ≡ place = cc in
        let f = faults first s m p hs i in
        (inr (rw x at (fault_number_lem f.2)), omega (arith, f.1, f.2.inside))
    go (name n k) i q = typed_within first s number place n k i (reader_of es n) q
