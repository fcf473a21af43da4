-- What the parts of a file record say of the whole. Assumes nothing.
use mathlib.Core.Path.{◌≡◌, refl, ap, ◌∙◌}
use mathlib.Core.Bool.{Bool, true, false, ◌&&◌}
use mathlib.Core.List.{List, [], ◌∷◌}
use Prim.Native.Nat.{ℕ, zero, suc, ◌+◌, ◌-◌, ◌<◌, ◌≤◌}
use native.Mathlib.Omega.{arith}
use native.Mathlib.Numerals.{add-one}
use lib.Dec.{leb, eqb}
use lib.ListN.{length, take, drop, get_or, length-drop, length-append}
use lib.Seq.{drop-cons, length-take-le}
use borrow.Author.Tests.{leb-true, le-leb, lt-leb, eq-eqb, ne_eqb}
use Rattle.laws.specs.Small.{differ}
use Rattle.reading.specs.Answer.{Answer, refused, read, bind, check, within, true-within}
use Rattle.reading.specs.Reads.{Small, some, next_of}
use Rattle.reading.specs.Seven.{seven_at, seven_next, some_bytes}
use Rattle.reading.specs.Little.{little_at, little_next}
use Rattle.reading.specs.Utf8.{utf8s}
use Rattle.pack_layout.specs.Pack.{plain, marked}
use Rattle.pack_layout.specs.Table.{entry_of}
use Rattle.reading.specs.Same.{same, with_bytes}
use Rattle.pack_reading.specs.Laws.{path_reads, mark_reads}
use Rattle.pack_reading.specs.Pack.{mark_at, path_at, content_at, record_at}
use Rattle.std.specs.Prelude.{Ok, Err}
use Rattle.answers.specs.declared.Refusal.{Refusal}
use Rattle.answers.specs.Refusals.{refusal}
use Rattle.pack_records.specs.declared.Path.{Path}
use Rattle.pack_records.specs.Records.{started, path_part, stands, pathed, contented, recorded}

-- ---- The mark

module _ (file : List ℕ) (at : ℕ) where
  pub no_mark : Ok at ≡ started (mark_at plain file at)
  unfolding mark_at some same bind check
  no_mark = let z : at + 0 ≡ at = omega arith in rw (le-leb 0 (length (drop at file)) (omega arith), z)

  pub mark-missing : leb 2 (length (drop at file)) ≡ false → Err (refusal 1 at) ≡ started (mark_at marked file at)
  unfolding mark_at some bind check
  mark-missing t = rw t

  pub mark-fits : leb 2 (length (drop at file)) ≡ true → at + 2 ≤ length file
  mark-fits t = omega (arith, leb-true 2 (length (drop at file)) t, length-drop at file)

  two : at + 2 ≤ length file → take 2 (drop at file) ≡ get_or file at 0 ∷ get_or file (at + 1) 0 ∷ []
  two h = rw (drop-cons file at 0 (omega arith), drop-cons file (suc at) 0 (omega arith), add-one at)

  mark_judged : leb 2 (length (drop at file)) ≡ true
      → mark_at marked file at ≡ check (eqb (get_or file at 0) 0xFD && (eqb (get_or file (at + 1) 0) 0xFE && true)) 51 at (read (get_or file at 0 ∷ get_or file (at + 1) 0 ∷ []) (at + 2))
  unfolding mark_at some same bind check
  mark_judged t = rw (t, two (mark-fits t))

  pub first_other : leb 2 (length (drop at file)) ≡ true → (get_or file at 0 ≡ 0xFD → ⊥) → Err (refusal 51 at) ≡ started (mark_at marked file at)
  unfolding bind check
  first_other t h = rw (mark_judged t, ne_eqb (get_or file at 0) 0xFD h)

  pub second_other : leb 2 (length (drop at file)) ≡ true → get_or file at 0 ≡ 0xFD → (get_or file (at + 1) 0 ≡ 0xFE → ⊥) → Err (refusal 51 at) ≡ started (mark_at marked file at)
  unfolding bind check
  second_other t g h = rw (mark_judged t, eq-eqb (get_or file at 0) 0xFD g, ne_eqb (get_or file (at + 1) 0) 0xFE h)

  pub mark_there : leb 2 (length (drop at file)) ≡ true → get_or file at 0 ≡ 0xFD → get_or file (at + 1) 0 ≡ 0xFE → Ok (at + 2) ≡ started (mark_at marked file at)
  unfolding bind check
  mark_there t g h = rw (mark_judged t, eq-eqb (get_or file at 0) 0xFD g, eq-eqb (get_or file (at + 1) 0) 0xFE h)

-- ---- The path

over : (m n : ℕ) → m < n → within m n ≡ false
unfolding within
over m zero h = refl
over m (suc n) h = lt-leb (suc n) m h

module _ (file : List ℕ) (at : ℕ) where
  pub path_refused : {number place : ℕ} → seven_at file at ≡ refused number place → Err (refusal number place) ≡ pathed at (path_at file at)
  unfolding path_at with_bytes bind
  path_refused q = rw q

  module _ {n start : ℕ} (q : seven_at file at ≡ read n start) where
    pub path_empty : n ≡ 0 → Err (refusal 9 at) ≡ pathed at (path_at file at)
    unfolding path_at with_bytes bind check within
    path_empty z = rw (q, z)

    pub path_long : 260 < n → Err (refusal 9 at) ≡ pathed at (path_at file at)
    unfolding path_at with_bytes bind check
    path_long h = rw (q, over 260 n h)

    module _ (some_bytes : n ≡ 0 → ⊥) (few : n ≤ 260) where
      lawful : within 260 n ≡ true
      lawful = true-within 260 n (omega arith) few

      pub path_missing : leb n (length (drop start file)) ≡ false → Err (refusal 1 at) ≡ pathed at (path_at file at)
      unfolding path_at with_bytes bind check some
      path_missing t = rw (q, lawful, t)

      module _ (t : leb n (length (drop start file)) ≡ true) where
        -- the part of the file from `start` to `start + n` is the path's bytes
        judged : {b : Bool} → utf8s (take (start + n - start) (drop start file)) ≡ b → utf8s (take n (drop start file)) ≡ b
        judged u = let e : start + n - start ≡ n = omega arith in rw e at u

        pub path_other : utf8s (take (start + n - start) (drop start file)) ≡ false → Err (refusal 15 at) ≡ pathed at (path_at file at)
        unfolding path_at with_bytes bind check some
        path_other u = rw (q, lawful, t, judged u)

        pub path_there : Small file → utf8s (take (start + n - start) (drop start file)) ≡ true → Ok (path_part start n) ≡ pathed at (path_at file at)
        unfolding path_at with_bytes bind check some
        path_there small u =
            let s = seven_next file small at q in
            let a : length (take (start - at) (drop at file)) ≡ start - at = length-take-le (start - at) (drop at file) (omega (arith, length-drop at file)) in
            let b : length (take n (drop start file)) ≡ n = length-take-le n (drop start file) (leb-true n (length (drop start file)) t) in
            let e : at + (start - at) ≡ start = omega arith in
            rw (q, lawful, t, judged u, a, b, e)

    -- bytes behind a number that was read end inside the file
    pub path_ends : Small file → leb n (length (drop start file)) ≡ true → start + n ≤ length file
    path_ends small t = let s = seven_next file small at q in omega (arith, leb-true n (length (drop start file)) t, length-drop start file)

-- ---- The data

module _ (file : List ℕ) (start size : ℕ) where
  pub content-refused : {number place : ℕ} → little_at file 4 (start + size) (start + size) ≡ refused number place → Err (refusal number place) ≡ contented start size (content_at file (start + size))
  unfolding content_at bind
  content-refused q = rw q

  module _ {n first : ℕ} (q : little_at file 4 (start + size) (start + size) ≡ read n first) where
    pub content-missing : leb n (length (drop first file)) ≡ false → Err (refusal 1 (start + size)) ≡ contented start size (content_at file (start + size))
    unfolding content_at bind check some
    content-missing t = rw (q, t)

    pub content_there : Small file → leb n (length (drop first file)) ≡ true → Ok (stands start size first n) ≡ contented start size (content_at file (start + size))
    unfolding content_at bind check some
    content_there small t =
        let l : length (take n (drop first file)) ≡ n = length-take-le n (drop first file) (leb-true n (length (drop first file)) t) in
        let e : first ≡ start + size + 4 = (little_next file small 4 (start + size) (start + size) (omega arith) q).0 in
        rw (q, t, l, e)

-- ---- The record

-- what a path that was read says of its places
pub record Pathed (file : List ℕ) (from : ℕ) (path : Path) : Type 0 where
  pub parts : List ℕ × List ℕ
  pub is : path_at file from ≡ read parts (path.start + path.size)
  pub starts : path.start ≡ from + length parts.0
  pub sizes : path.size ≡ length parts.1
  pub inside : path.start + path.size ≤ length file

pathed_of : (file : List ℕ) (from : ℕ) {path : Path} → Small file → (x : Answer (List ℕ × List ℕ)) → path_at file from ≡ x → Ok path ≡ pathed from x → Pathed file from path
pathed_of file from small (refused number place) e q = differ cc
pathed_of file from {path} small (read p next) e q =
    let z : path ≡ path_part (from + length p.0) (length p.1) = cc in
    let a : path.start ≡ from + length p.0 = rw z in
    let b : path.size ≡ length p.1 = rw z in
    let w = next_of (path_reads file) small from e in
    let l : length w.form ≡ length p.0 + length p.1 = ap length w.laid.0 ∙ length-append p.0 p.1 in
    let g = some_bytes w.laid.1.1 in
    let n : next ≡ path.start + path.size = omega (arith, w.behind) in
    record { parts = p; is = rw n at e; starts = a; sizes = b; inside = omega (arith, w.within (omega arith)) }

pub pathed_is : (file : List ℕ) (from : ℕ) {path : Path} → Small file → Ok path ≡ pathed from (path_at file from) → Pathed file from path
pathed_is file from small q = pathed_of file from small (path_at file from) refl q

no_path : (from : ℕ) {e : Refusal} (x : Answer (List ℕ × List ℕ)) → Err e ≡ pathed from x → x ≡ refused e.number e.place
no_path from {e} (refused n p) q = let z : e ≡ refusal n p = cc in rw z
no_path from (read p next) q = differ cc

module _ (mark file : List ℕ) (at : ℕ) where
  no_start : {e : Refusal} (x : Answer (List ℕ)) → Err e ≡ started x → x ≡ refused e.number e.place
  no_start {e} (refused n p) q = let z : e ≡ refusal n p = cc in rw z
  no_start (read m e) q = differ cc

  some_start : {from : ℕ} (x : Answer (List ℕ)) → Ok from ≡ started x → (m : List ℕ) × (x ≡ read m from)
  some_start (refused n p) q = differ cc
  some_start {from = from} (read m e) q = let a : e ≡ from = cc in (m, rw a)

  pub record_unmarked : {e : Refusal} → Err e ≡ started (mark_at mark file at) → Err e ≡ recorded mark at (record_at mark file at)
  unfolding record_at bind
  record_unmarked q = rw (no_start (mark_at mark file at) q)

  module _ {from : ℕ} (s : Ok from ≡ started (mark_at mark file at)) where
    pub record_unnamed : {e : Refusal} → Err e ≡ pathed from (path_at file from) → Err e ≡ recorded mark at (record_at mark file at)
    unfolding record_at bind
    record_unnamed q = rw ((some_start (mark_at mark file at) s).1, no_path from (path_at file from) q)

    pub record_there : Small file → {path : Path} → Pathed file from path → contented path.start path.size (content_at file (path.start + path.size)) ≡ recorded mark at (record_at mark file at)
    unfolding record_at bind entry_of
    record_there small {path} w =
        let m = some_start (mark_at mark file at) s in
        let r = next_of (mark_reads mark file) small at m.1 in
        let l : from ≡ at + length mark = r.behind ∙ ap (λ (b : List ℕ). at + length b) r.laid.1 in
        rw (m.1, w.is) (go (content_at file (path.start + path.size)) w.parts l w.starts w.sizes)
      where
        go : {start size : ℕ} (x : Answer (List ℕ)) (p : List ℕ × List ℕ) → from ≡ at + length mark → start ≡ from + length p.0 → size ≡ length p.1
            → contented start size x ≡ recorded mark at (bind x (λ content next. read (record { number = p.0; path = p.1; content = content }) next))
        go (refused number place) p l a b = refl
        go (read content next) p l a b = rw (a, b, l)
