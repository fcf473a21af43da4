-- Nullables that follow each other are walked: how their rows are put at once is what the walk answers. Assumes nothing.
use Rattle.std.specs.Prelude.{◌≡◌, Ok, Option, None, Some, true, List, [], ◌∷◌, length, replicate}
use Rattle.std.proofs.Math.Path.{refl, ap, subst}
use Rattle.std.proofs.Common.{sym, ◌∙◌, add-one, drop-cons, lt-ltb}
use Prim.Native.Nat.{ℕ, zero, suc, ◌+◌, ◌*◌, ◌-◌, ◌≤◌, ◌<◌}
use native.Mathlib.Omega.{arith}
use Rattle.std.proofs.lemmas.List.{length-replicate}
use Rattle.std.proofs.Math.ListN.{length-drop}
use Rattle.laws.specs.Small.{differ}
use Rattle.layout.specs.Target.{Target, fixed, char, string, object as anything, texture, texture_2d, sprite_font, page, index_buffer, vertex_declaration, vertex_buffer, model, mesh, mesh_kind, enum, nullable, array, list, dictionary, kind_of}
use Rattle.layout.specs.Fixed.{sizes}
use Rattle.layout.specs.Number.{value_of}
use Rattle.layout.specs.Tree.{count}
use Rattle.layout.specs.Named.{Lawful, fixed_kind}
use Rattle.layout.specs.Slot.{Slot, raw, Plan, each}
use Rattle.reading.specs.Answer.{read, check}
use Rattle.reading.specs.Reads.{Small}
use Rattle.reading.specs.Little.{little_at, little_there}
use Rattle.reading.specs.Heads.{head_at}
use Rattle.reading.specs.Walk.{Taken, Outcome, sequence, raw_at, value_at, walk}
use Rattle.reading.proofs.Bounds.{walk_bounds, walk_single}
use Rattle.targets.specs.Word.{enum_kind_lem}
use Rattle.targets.specs.Code.{Stands, code_kind}
use Rattle.targets.specs.Laws.{kind_is, nullable-argument}
use Rattle.targets.specs.Place.{kind_at}
use Rattle.table.specs.Word.{in_word, in_word_lem}
use Rattle.places.specs.Places.{count_places}
use Rattle.places.specs.Padding.{padding, without_count, id_end, id_pad}
use Rattle.table.specs.declared.Grid.{Grid}
use Rattle.walked.specs.declared.Reached.{Reached}
use Rattle.walked.specs.Contract.{seen, reaching, padded, Walked}
use Rattle.walked.specs.Written.{written}
use Rattle.table.specs.Runs.{put_run}
use Rattle.walked.specs.Loop.{Reading, start, turn, ended, got, reading, counted-read}
use Rattle.leaves.specs.declared.plain.Plain.{Plain}
use Rattle.leaves.specs.declared.run.Run.TheVariants.{Same}
use Rattle.leaves.specs.Plain.{plain_slot, head_of, Begin}
use Rattle.leaves.specs.Plain.{Lawful as LawfulPlain}
use Rattle.leaves.specs.Like.{Like, like_walk, alike-each, alike-sequence}
use Rattle.leaves.specs.Run.{begin_on}
use Rattle.leaves.proofs.RunLaws.{run_walked}
use Rattle.leaves.specs.Same.{Uniform}
use Rattle.leaves.proofs.SameLaws.{same_run}
use Rattle.heads.specs.declared.slot.Slot.TheVariants.{Simple}
use Rattle.heads.specs.Placed.{SlotIs, raw_of}
use Rattle.heads.specs.Slots.{raw_is}
use Rattle.heads.specs.Below.{flag_zero, flag_one}
use Rattle.objects.specs.Beginnings.{Ided, under}
use Rattle.objects.specs.Endings.{keeps}
use Rattle.objects.specs.Close.{raw-closed, slots-counted}
use Rattle.nullables.specs.Placed.{flag_at, place_of, row_of, Fits, AllFit, ListedAre, kind_in, size_in, uniform_in, put_nullable, put_all, row_below, place-more, row_more, put-more}

-- n values of the type at a place of the codes are walked with the row before theirs as parent; or nothing is read
abbrev pub ListWalks : Grid → (file codes : List ℕ) (a n at used depth : ℕ) → (entry exit : List ℕ) → Option Reached → Type 0
ListWalks g file codes a n at used depth entry exit (Some r) =
    (readers : List Target) (shared : ℕ) (t : Target) → Begin file entry g at used → Stands file codes a t
    → Walked g file entry exit used (seen (sequence (λ y b v. walk file readers shared g.room depth y b v used) (each (replicate n (raw t))) at used)) (Ok r)
ListWalks g file codes a n at used depth entry exit None = exit ≡ entry

-- a nullable's first byte, and the slots below it
module _ (file : List ℕ) (t : Target) (place : ℕ) (there : place < length file) where
  flag_read : little_at file 1 place place ≡ read (flag_at file place) (place + 1)
  unfolding value_of
  flag_read =
      let z : flag_at file place + 256 * 0 ≡ flag_at file place = omega arith in
      little_there file 1 place place (omega (arith, length-drop place file)) ∙ rw (drop-cons file place 0 there, z)

  flag_opens : (flag : ℕ) → flag_at file place ≡ flag → flag ≤ 1 → head_at file (nullable t) place ≡ read (flag ∷ [], each (replicate flag (raw t))) (place + 1)
  flag_opens zero e h = flag_zero file place t flag_read e
  flag_opens (suc zero) e h = flag_one file place t flag_read e
  flag_opens (suc (suc f)) e h = absurd (omega arith)

module _ (g : Grid) (file : List ℕ) (small : Small file) (readers : List Target) (shared d parent : ℕ) (t : Target) (lawful : Lawful t)
    (p : Plain) (plain : LawfulPlain p) (like : Like (raw t) (plain_slot p)) (kind size : ℕ) (uniform : Uniform p kind size) where
  -- one nullable
  module _ (place number : ℕ) (w : List ℕ) (begin : Begin file w g place number) (fit : Fits file kind size place) (room : number + 1 + flag_at file place ≤ g.room) where
    abbrev flag : ℕ
    flag = flag_at file place

    abbrev end : ℕ
    end = place + 1 + flag * size

    abbrev last : ℕ
    last = number + 1 + flag

    abbrev values : (m : ℕ) → Outcome
    values m = sequence (λ y b v. walk file readers shared g.room (suc d) y b v m) (each (replicate flag (raw t))) (place + 1) m

    abbrev rows : List ℕ
    rows = put_run g (number + 1) kind (place + 1) size (number + 1) w flag

    run : Walked g file w rows (number + 1) (seen (values (number + 1))) (reaching last 0 end)
    run =
        let b : Begin file w g (place + 1) (number + 1) = record { long = begin.long; few = begin.few; rows = omega (arith, room); place = omega (arith, fit.there); short = begin.short } in
        let r = run_walked g file small shared (Same p flag) plain readers (suc d) (number + 1) w (place + 1) (number + 1) b in
        let s = same_run g file shared (suc d) (number + 1) p kind size flag (place + 1) (number + 1) w uniform fit.kept room begin.few (omega arith) in
        rw (alike-sequence _ (λ y z q b u. like_walk file readers shared g.room (suc d) q b u (number + 1)) (alike-each flag like) (place + 1) (number + 1)) (rw s at r)

    run_suc : Walked g file w rows (suc number) (seen (values (suc number))) (reaching last 0 end)
    run_suc = subst (λ m. Walked g file w rows m (seen (values m)) (reaching last 0 end)) (add-one number) run

    own : Ided file place place 0 0
    unfolding id_end id_pad
    own = record { behind = refl; pads = refl }

    uncounted : padding file (count_places file 16 place) ≡ 0
    uncounted = without_count file 16 place refl

    how_many : (a : Taken) (e : ℕ) → values (suc number) ≡ read a e → flag ≡ count a.2
    how_many a e q = sym ((slots-counted g file small readers shared (suc d) (replicate flag (raw t)) (place + 1) (suc number) (suc number) a e q).0 ∙ length-replicate flag (raw t))

    closed : Walked g file w (put_nullable g kind size parent w place number flag) number (seen (raw_at file readers shared g.room (under file readers shared g.room (suc d) number) (nullable t) place place number parent 0)) (reaching last 0 end)
    unfolding keeps kind_of Lawful
    closed =
        let branch : last - number ≡ 1 + flag = omega arith in
        let bytes : end - place ≡ 1 + flag * size = omega arith in
        let none : in_word (0 + 0) ≡ 0 = in_word_lem 0 (omega arith) in
        let c = raw-closed g file small readers shared (suc d) (nullable t) lawful (head_of number place parent 0 0) place w begin.long begin.few (omega (arith, room)) own uncounted
        (flag_opens file t place fit.there flag refl fit.flagged) (each (replicate flag (raw t))) refl rows flag (reaching last 0 end) (omega arith, omega (arith, fit.inside, begin.short)) how_many run_suc in
        rw (branch, bytes, none) at c

    one : Walked g file w (put_nullable g kind size parent w place number flag) number (seen (walk file readers shared g.room (suc (suc d)) (raw (nullable t)) place number parent)) (reaching last 0 end)
    unfolding walk value_at check
    one = rw (lt-ltb number g.room (omega (arith, room))) closed

  -- n of them
  module _ (n at used : ℕ) (w₀ : List ℕ) (begin : Begin file w₀ g at used) (fit : AllFit file kind size at n) (room : row_of file size at used n ≤ g.room) where
    abbrev slot : Slot
    slot = raw (nullable t)

    abbrev step : Slot → ℕ → ℕ → Outcome
    step = λ x a u. walk file readers shared g.room (suc (suc d)) x a u parent

    abbrev plan : Plan
    plan = each (replicate n slot)

    abbrev place : (i : ℕ) → ℕ
    place i = place_of file size at i

    abbrev number : (i : ℕ) → ℕ
    number i = row_of file size at used i

    abbrev words : (i : ℕ) → List ℕ
    words i = put_all g file kind size parent at used w₀ i

    abbrev Read : (k i : ℕ) → Type 0
    Read k i = Reading g file step plan w₀ at used (words i) (each (replicate k slot)) (place i) (number i) 0 i

    room_of : (i : ℕ) → i < n → number i + 1 + flag_at file (place i) ≤ g.room
    room_of i h = omega (arith, row_below file size at used n i h, room)

    on : (k i : ℕ) → i < n → Read (suc k) i → Read k (i + 1)
    unfolding each
    on k i h r =
        let b = begin_on begin r in
        let y = got (one (place i) (number i) (words i) b (fit i h) (room_of i h)) refl in
        let s = turn g file step plan w₀ at used slot (λ m. each (replicate k slot)) r y
        (walk_single file readers shared g.room small (suc (suc d)) slot (place i) (number i) parent y.taken _ y.is)
        (walk_bounds file readers shared g.room small (suc (suc d)) slot (place i) (number i) parent y.taken _ y.is) in
        let none : in_word (0 + 0) ≡ 0 = in_word_lem 0 (omega arith) in
        rw (place-more file size at used i, row_more file size at used i, put-more g file kind size parent at used i w₀) (rw none at s)

    whole : (k i : ℕ) → k + i ≡ n → Read k i → Walked g file w₀ (words n) used (seen (sequence step plan at used)) (reaching (number n) 0 (place n))
    unfolding each
    whole zero i e r =
        let z : i ≡ n = omega arith in
        let v = subst (λ m. Reading g file step plan w₀ at used (words m) (each []) (place m) (number m) 0 m) z r in
        let f = ended g file step plan w₀ at used v in
        let c = counted-read _ f.0 in
        reading c.0 c.1 (sym c.2) (f.2 ∙ ap (padded file) (sym c.3)) (f.1 ∙ ap (written g w₀ used) (sym c.3))
    whole (suc k) i e r = whole k (i + 1) (omega arith) (on k i (omega arith) r)

    begins : Read n 0
    unfolding place_of row_of put_all
    begins = start g file step plan w₀ at used

    pub all_walked : Walked g file w₀ (words n) used (seen (sequence step plan at used)) (reaching (number n) 0 (place n))
    all_walked = whole n 0 (omega arith) begins

-- a type of kind 16 is a nullable
nullable_of : (t : Target) → Lawful t → code_kind t ≡ 16 → (u : Target) × (t ≡ nullable u)
unfolding Lawful code_kind fixed_kind sizes mesh_kind
nullable_of (fixed k) l e = let q : fixed_kind 16 ≡ true = rw e at l in differ cc
nullable_of char l e = absurd (omega arith)
nullable_of string l e = absurd (omega arith)
nullable_of anything l e = absurd (omega arith)
nullable_of (enum name z) l e = absurd (omega (arith, e, (enum_kind_lem z l).0))
nullable_of (nullable u) l e = (u, refl)
nullable_of (array u) l e = absurd (omega arith)
nullable_of (list u) l e = absurd (omega arith)
nullable_of (dictionary k v) l e = absurd (omega arith)
nullable_of texture l e = absurd (omega arith)
nullable_of texture_2d l e = absurd (omega arith)
nullable_of sprite_font l e = absurd (omega arith)
nullable_of page l e = absurd (omega arith)
nullable_of (mesh index_buffer) l e = absurd (omega arith)
nullable_of (mesh vertex_declaration) l e = absurd (omega arith)
nullable_of (mesh vertex_buffer) l e = absurd (omega arith)
nullable_of (mesh model) l e = absurd (omega arith)

-- what was put is what the walk answers for the type at a place
pub list_walked : (g : Grid) (file codes : List ℕ) (small : Small file) (a n at used depth : ℕ) (p : Plain) (entry exit : List ℕ) (r : Option Reached) → kind_at codes a ≡ 16 → 2 ≤ depth → raw_of (kind_at codes (a + 1)) (a + 1) ≡ Simple p
    → ListedAre g file (kind_in p) (size_in p) n at used entry exit r → ListWalks g file codes a n at used depth entry exit r
list_walked g file codes small a n at used depth p entry exit None k h s l = l
list_walked g file codes small a n at used depth p entry exit (Some r) k h s l = λ readers shared t b i.
    let v = nullable_of t i.lawful (sym (kind_is i) ∙ k) in
    let j : Stands file codes a (nullable v.0) = subst (λ x. Stands file codes a x) v.1 i in
    let o = nullable-argument j in
    let q : SlotIs file codes (Simple p) (raw v.0) = rw s at (raw_is v.0 o) in
    let z : depth ≡ suc (suc (depth - 2)) = omega arith in
    let w = all_walked g file small readers shared (depth - 2) used v.0 o.lawful p q.1 q.0 (kind_in p) (size_in p) (uniform_in p l.0) n at used entry b l.1 l.2 in
    rw (v.1, l.3, l.4, z) w
