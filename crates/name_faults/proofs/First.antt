-- From a load that answers 11 or 33 to 38 to the first reader whose name is not lawful. Assumes nothing.
use mathlib.Core.Path.{◌≡◌, refl, sym, ap, ◌∙◌}
use mathlib.Core.Bool.{Bool, true, false, cond}
use mathlib.Core.List.{List, [], ◌∷◌, ◌++◌, append_assoc}
use mathlib.Core.Logic.{◌⊎◌, inl, inr}
use Prim.Native.Nat.{ℕ, zero, suc, ◌+◌, ◌<◌, ◌≤◌}
use native.Mathlib.Omega.{arith}
use lib.Dec.{eqb, leb}
use lib.ListN.{length, drop, length-append}
use borrow.Author.Tests.{leb-true, le-leb, ne_eqb}
use Rattle.laws.specs.Small.{differ}
use Rattle.layout.specs.Number.{Seven}
use Rattle.layout.specs.Target.{Target}
use Rattle.layout.specs.Name.{Name}
use Rattle.layout.specs.File.{Entry, Entries}
use Rattle.layout.specs.EnumList.{EnumEntry}
use Rattle.layout.specs.Named.{Typed, unknown as no_type, known as has_type, reader_of}
use Rattle.layout.specs.Fault.{Fault}
use Rattle.layout.specs.Complaint.{reader_faults, leftmost}
use Rattle.names.specs.Parse.{Read, broken, name, name_of}
use Rattle.names.specs.Laws.{read_is_text}
use Rattle.names.specs.Faults.{faults}
use Rattle.targets.specs.Complaints.{unknown-placed}
use Rattle.reading.specs.Answer.{Answer, refused, read, bind, check, within, within-true, several}
use Rattle.reading.specs.Reads.{Small, Spans, some, some_reads}
use Rattle.reading.specs.Seven.{seven_at, seven_reads}
use Rattle.reading.specs.Little.{little_at}
use Rattle.reading.specs.Front.{header-sound, reader_reads}
use Rattle.reading.specs.File.{Named, unknown, known, judge, header_at, reader_at, readers_at, lists_at, objects_at, finished, file_at}
use Rattle.readers.specs.Judged.{typed_name, read_name, judged_name, judges}
use Rattle.name_faults.specs.Names.{FirstName, Complained}
use Rattle.name_faults.proofs.Others.{is_name, Other, of_read, other_bind, other_check, seven_other, some_other, little_other, objects_other, finished_other, header_other}
use Rattle.name_faults.proofs.Leftmost.{first_leftmost}

-- a refusal behind a value that was read, or before
refused-bind : {A B : Type 0} (x : Answer A) {k : A → ℕ → Answer B} {n p : ℕ} → bind x k ≡ refused n p
    → (x ≡ refused n p) ⊎ ((a : A) × (e : ℕ) × (x ≡ read a e) × (k a e ≡ refused n p))
unfolding bind
refused-bind (refused m q) {k} {n} {p} e =
    let z : m ≡ n = cc in
    let y : q ≡ p = cc in
    inl (rw (z, y))
refused-bind (read a e) q = inr (a, e, refl, q)

-- a refusal behind a test of another number
past-check : {A : Type 0} (b : Bool) (m q : ℕ) {x : Answer A} {n p : ℕ} → is_name m ≡ false → is_name n ≡ true → check b m q x ≡ refused n p → (b ≡ true) × (x ≡ refused n p)
unfolding check
past-check true m q o i e = (refl, e)
past-check false m q {n = n} o i e =
    let z : m ≡ n = cc in
    let y : is_name n ≡ false = rw z at o in
    differ cc

-- a name's number is no other part's
not_other : {A : Type 0} {x : Answer A} {n p : ℕ} {B : Type 0} → is_name n ≡ true → Other x → x ≡ refused n p → B
not_other {n = n} {p = p} i o e =
    let z = o n p e in
    differ cc

past-bind : {A B : Type 0} (x : Answer A) {k : A → ℕ → Answer B} {n p : ℕ} → is_name n ≡ true → Other x → bind x k ≡ refused n p → (a : A) × (e : ℕ) × (x ≡ read a e) × (k a e ≡ refused n p)
past-bind x {k} {n} {p} i o e = go (refused-bind x e) where
  go : (x ≡ refused n p) ⊎ ((a : _) × (e : ℕ) × (x ≡ read a e) × (k a e ≡ refused n p)) → (a : _) × (e : ℕ) × (x ≡ read a e) × (k a e ≡ refused n p)
  go (inl q) = not_other i o q
  go (inr w) = w

module _ (es : List EnumEntry) where
  -- what a name is refused for: 33 to 38 for a fault of it, 11 for a head of it
  abbrev pub Wrong : (number place : ℕ) (s : List ℕ) (first : ℕ) → Type 0
  Wrong number place s first = ((i : ℕ) × (place ≡ first + i) × Fault s number i) ⊎ ((number ≡ 11) × Complained es s first place)

  typed_wrong : (first : ℕ) (s : List ℕ) (number place : ℕ) (n : Name) (k : ℕ) → name_of first s ≡ name n k → (t : Typed) → reader_of es n ≡ t
      → typed_name (reader_faults es first n) t ≡ unknown number place → Wrong number place s first
  unfolding typed_name
  typed_wrong first s number place n k q no_type e w =
      let a : number ≡ 11 = cc in
      let b : leftmost (reader_faults es first n) ≡ place = cc in
      let u = unknown-placed es n first e in
      let g = read_is_text first s n k q in
      let h : reader_faults es first n ≡ place ∷ u.0 = rw b at u.1 in
      inr (a, record { n = n; formed = g.0; written = g.1; no_reader = e; others = u.0; heads = h; leftmost = first_leftmost es n first place u.0 h })
  typed_wrong first s number place n k q (has_type t) e w = differ cc

  name_wrong : (first : ℕ) (s : List ℕ) (number place : ℕ) → judged_name es first s ≡ unknown number place → Wrong number place s first
  unfolding judged_name read_name
  name_wrong first s number place e = go (name_of first s) refl e where
    go : (r : Read) → name_of first s ≡ r → read_name es first r ≡ unknown number place → Wrong number place s first
    go (broken m p hs) q w =
        let x : m ≡ number = cc in
        let y : p ≡ place = cc in
        inl (faults first s number place hs (rw (x, y) at q))
    go (name n k) q w = typed_wrong first s number place n k q (reader_of es n) refl w

  judge_wrong : (first at : ℕ) (s : List ℕ) (number place : ℕ) → judge (judged_name es first s) at ≡ refused number place → Wrong number place s first
  unfolding judge
  judge_wrong first at s number place e = name_wrong first s number place (go (judged_name es first s) e) where
    go : (x : Named) → judge x at ≡ refused number place → x ≡ unknown number place
    go (unknown m p) q =
        let x : m ≡ number = cc in
        let y : p ≡ place = cc in
        rw (x, y)
    go (known t) q = differ cc

  -- a reader, among those that stand from a place on, whose name is not lawful
  record Listed (file : List ℕ) (readers at number place : ℕ) : Type 0 where
    before : List ℕ
    size : List ℕ
    name : List ℕ
    rest : List ℕ
    parts : drop at file ≡ before ++ (size ++ (name ++ rest))
    names : List (List ℕ)
    targets : List Target
    listed : Entries es names targets before
    fewer : length names < readers
    numbered : Seven (length name) size
    not_empty : 1 ≤ length name
    not_long : length name ≤ 1024
    wrong : Wrong number place name (at + length before + length size)

  module _ (file : List ℕ) (small : Small file) (number place : ℕ) (i : is_name number ≡ true) where
    entry-wrong : (n at : ℕ) → reader_at (judged_name es) file at ≡ refused number place → Listed file (suc n) at number place
    unfolding reader_at Entries
    entry-wrong n at e =
        let s = past-bind (seven_at file at) i (seven_other file at) e in
        let k = s.0 in
        let first = s.1 in
        let c = past-check (within 1024 k) 9 at refl i s.3 in
        let w = within-true 1024 k c.0 in
        let o = past-bind (some file k at first) i (some_other file k at first) c.1 in
        let nm = o.0 in
        let v = ((seven_reads file).sound small at).got s.2 in
        let u = ((some_reads file k at).sound small first).got o.2 in
        let z : at + length {A = ℕ} [] + length v.0 ≡ first = omega (arith, v.3) in
        let d : drop at file ≡ v.0 ++ (nm ++ drop o.1 file) = v.2 ∙ ap (λ (l : List ℕ). v.0 ++ l) (u.2 ∙ ap (λ (l : List ℕ). l ++ drop o.1 file) u.1.0) in
        record {
          before = [];
          size = v.0;
          name = nm;
          rest = drop o.1 file;
          parts = d;
          names = [];
          targets = [];
          listed = refl;
          fewer = omega arith;
          numbered = rw u.1.1 v.1;
          not_empty = rw u.1.1 w.0;
          not_long = rw u.1.1 w.1;
          wrong = rw z (go k first nm o.1 (refused-bind (judge (judged_name es first nm) o.1) o.3));
        }
      where
        go : (k first : ℕ) (nm : List ℕ) (end : ℕ)
            → (judge (judged_name es first nm) end ≡ refused number place)
            ⊎ ((t : Target) × (version : ℕ) × (judge (judged_name es first nm) end ≡ read t version)
            × (bind {B = List ℕ × Target} (little_at file 4 version version) (λ v next. check (eqb v 0) 12 version (read (nm, t) next)) ≡ refused number place))
            → Wrong number place nm first
        go k first nm end (inl q) = judge_wrong first end nm number place q
        go k first nm end (inr (t, version, q, x)) = not_other i (other_bind _ (little_other file 4 version version) (λ v next. other_check _ 12 version refl of_read)) x

    -- a lawful reader before
    one_more : (n at e : ℕ) (a : List ℕ × Target) → Spans file (λ a bs. Entry es a.0 a.1 bs) at a e → Listed file n e number place → Listed file (suc n) at number place
    unfolding Entries
    one_more n at e a v l =
        let bs = v.0 in
        let z : at + length (bs ++ l.before) + length l.size ≡ e + length l.before + length l.size = omega (arith, length-append bs l.before, v.3) in
        record {
          before = bs ++ l.before;
          size = l.size;
          name = l.name;
          rest = l.rest;
          parts = v.2 ∙ ap (λ (x : List ℕ). bs ++ x) l.parts ∙ sym (append_assoc bs l.before (l.size ++ (l.name ++ l.rest)));
          names = a.0 ∷ l.names;
          targets = a.1 ∷ l.targets;
          listed = (bs, l.before, refl, v.1, l.listed);
          fewer = omega (arith, l.fewer);
          numbered = l.numbered;
          not_empty = l.not_empty;
          not_long = l.not_long;
          wrong = rw z l.wrong;
        }

    readers_wrong : (n at : ℕ) → readers_at (judged_name es) file n at ≡ refused number place → Listed file n at number place
    unfolding readers_at several
    readers_wrong zero at e = differ cc
    readers_wrong (suc n) at e = go (refused-bind (reader_at (judged_name es) file at) e) (readers_wrong n) where
      behind : (a : List ℕ × Target) (f : ℕ) → reader_at (judged_name es) file at ≡ read a f → ((g : ℕ) → readers_at (judged_name es) file n g ≡ refused number place → Listed file n g number place)
          → (readers_at (judged_name es) file n f ≡ refused number place)
          ⊎ ((l : List (List ℕ) × List Target) × (g : ℕ) × (readers_at (judged_name es) file n f ≡ read l g)
          × (◌≡◌ {A = Answer (List (List ℕ) × List Target)} (read (a.0 ∷ l.0, a.1 ∷ l.1) g) (refused number place)))
          → Listed file (suc n) at number place
      behind a f x again (inl q) = one_more n at f a (((reader_reads es (judged_name es) (judges es) file).sound small at).got x) (again f q)
      behind a f x again (inr (l, g, y, q)) = differ cc

      go : (reader_at (judged_name es) file at ≡ refused number place)
          ⊎ ((a : List ℕ × Target) × (f : ℕ) × (reader_at (judged_name es) file at ≡ read a f)
          × (bind {B = List (List ℕ) × List Target} (readers_at (judged_name es) file n f) (λ l g. read (a.0 ∷ l.0, a.1 ∷ l.1) g) ≡ refused number place))
          → ((g : ℕ) → readers_at (judged_name es) file n g ≡ refused number place → Listed file n g number place) → Listed file (suc n) at number place
      go (inl q) again = entry-wrong n at q
      go (inr (a, f, x, q)) again = behind a f x again (refused-bind (readers_at (judged_name es) file n f) q)

    counted : (n e : ℕ) → n ≤ 64 → Spans file Seven 10 n e → Listed file n e number place → FirstName es file (Wrong number place)
    counted n e h v l =
        let z : 10 + length v.0 + length l.before + length l.size ≡ e + length l.before + length l.size = omega (arith, v.3) in
        record {
          count = v.0;
          before = l.before;
          number = l.size;
          name = l.name;
          rest = l.rest;
          parts = v.2 ∙ ap (λ (x : List ℕ). v.0 ++ x) l.parts;
          readers = n;
          counted = v.1;
          not_many = h;
          names = l.names;
          targets = l.targets;
          listed = l.listed;
          fewer = l.fewer;
          numbered = l.numbered;
          not_empty = l.not_empty;
          not_long = l.not_long;
          holds = rw z l.wrong;
        }

    lists_wrong : lists_at (judged_name es) file 10 ≡ refused number place → FirstName es file (Wrong number place)
    unfolding lists_at
    lists_wrong e =
        let s = past-bind (seven_at file 10) i (seven_other file 10) e in
        let c = past-check (leb s.0 64) 9 10 refl i s.3 in
        go s.0 s.1 (leb-true s.0 64 c.0) (((seven_reads file).sound small 10).got s.2) (refused-bind (readers_at (judged_name es) file s.0 s.1) c.1)
      where
        go : (n f : ℕ) → n ≤ 64 → Spans file Seven 10 n f
            → (readers_at (judged_name es) file n f ≡ refused number place)
            ⊎ ((l : List (List ℕ) × List Target) × (shared : ℕ) × (readers_at (judged_name es) file n f ≡ read l shared)
            × (bind {B = List (List ℕ) × List Target × ℕ} (seven_at file shared) (λ s next. check (leb s 256) 9 shared (read (l.0, l.1, s) next)) ≡ refused number place))
            → FirstName es file (Wrong number place)
        go n f h v (inl q) = counted n f h v (readers_wrong n f q)
        go n f h v (inr (l, shared, x, q)) = not_other i (other_bind _ (seven_other file shared) (λ s next. other_check _ 9 shared refl of_read)) q

    pub file_wrong : (room : ℕ) → file_at (judged_name es) file room ≡ refused number place → FirstName es file (Wrong number place)
    unfolding file_at
    file_wrong room e =
        let h = past-bind (header_at file) i (header_other file) e in
        let z : h.1 ≡ 10 = ((header-sound file small).got h.2).0 in
        go h.0.0 h.0.1 (rw z at (refused-bind (lists_at (judged_name es) file h.1) h.3))
      where
        go : (platform flags : ℕ)
            → (lists_at (judged_name es) file 10 ≡ refused number place)
            ⊎ ((l : List (List ℕ) × List Target × ℕ) × (first : ℕ) × (lists_at (judged_name es) file 10 ≡ read l first)
            × (bind (objects_at file room l.1 l.2 first) (λ a e. finished file platform flags l.0 (length l.1) l.2 a e) ≡ refused number place))
            → FirstName es file (Wrong number place)
        go platform flags (inl q) = lists_wrong q
        go platform flags (inr (l, first, x, q)) =
            not_other i (other_bind _ (objects_other file l.1 l.2 room first) (λ a e. finished_other file platform flags l.0 (length l.1) l.2 a e)) q
