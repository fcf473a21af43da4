-- What the judge of a list says is what the layout says of lists of enum types. Assumes nothing.
use Rattle.std.specs.Prelude.{◌≡◌, Bool, cond, eqb, ltb}
use Rattle.std.proofs.Math.Path.{refl, sym, ap}
use Rattle.std.proofs.Common.{◌∙◌, arith, length-append, get_or-drop}
use Rattle.std.proofs.Math.Bool.{true, false}
use mathlib.Core.List.{List, [], ◌∷◌, ◌++◌, append_assoc, append-nil}
use Prim.Native.Nat.{ℕ, zero, suc, ◌+◌, ◌≤◌, ◌<◌}
use Rattle.std.proofs.Math.ListN.{length, take, drop, get_or, length-drop}
use Rattle.std.proofs.Math.Seq.{length-take-le, split_at}
use borrow.Author.Tests.{lt-ltb, ltb-true, eqb-true}
use Rattle.laws.specs.Small.{differ, both}
use Rattle.layout.specs.Kind.{alike, lookup, targets}
use Rattle.layout.specs.EnumList.{EnumEntry, entry, write_enums, EnumType, Unlisted, Enums, size_in, FirstBad}
use Rattle.layout.specs.Name.{NameHead}
use Rattle.names.specs.Codes.{alike_then, alike_self}
use Rattle.names.specs.Entries.{is_size}
use Rattle.names.specs.EntryLaws.{size-true, true-size, size-some}
use Rattle.enums.specs.Judge.{Judgement, refused, lawful, is_head, is_enum_type, check, enums_from, enums_at}
use Rattle.enums.specs.Laws.{written-parts, write-append}

-- the tests of an entry by itself, both ways
head-true : (h : List ℕ) → NameHead h → is_head h ≡ true
unfolding is_head
head-true [] w = absurd (w.some refl)
head-true (b ∷ h) w = w.bytes

true-head : (h : List ℕ) → is_head h ≡ true → NameHead h
unfolding is_head
true-head [] b = differ cc
true-head (c ∷ h) b = record { some = λ q. differ cc; bytes = b }

type_true : (name : List ℕ) (size : ℕ) → EnumType name size → is_enum_type name size ≡ true
unfolding is_enum_type
type_true name size w = rw (size-true size w.sized, head-true name w.head, w.untaken)

true_type : (name : List ℕ) (size : ℕ) → length name ≤ 255 → is_enum_type name size ≡ true → EnumType name size
unfolding is_enum_type
true_type name size h b =
    let p = both (is_size size) _ b in
    let q = both (is_head name) _ p.1 in
    record { sized = true-size size p.0; short = h; head = true-head name q.0; untaken = eqb-true (lookup name targets) 0 q.1 }

-- a name that is not listed has no size in the list; one without a size in a lawful list is not listed
unlisted_size : (h : List ℕ) (es : List EnumEntry) → Unlisted h es → size_in es h ≡ 0
unfolding Unlisted size_in
unlisted_size h [] u = refl
unlisted_size h (entry name size ∷ es) u = go (unlisted_size h es u.1) (alike h name) refl where
  go : size_in es h ≡ 0 → (b : Bool) → alike h name ≡ b → cond b size (size_in es h) ≡ 0
  go r true q = absurd (u.0 (alike_then h name q))
  go r false q = r

size_unlisted : (h : List ℕ) (es : List EnumEntry) → Enums es → size_in es h ≡ 0 → Unlisted h es
unfolding Unlisted size_in Enums
size_unlisted h [] w q = tt
size_unlisted h (entry name size ∷ es) w q = go (size_unlisted h es w.2) (alike h name) refl q where
  go : (size_in es h ≡ 0 → Unlisted h es) → (b : Bool) → alike h name ≡ b → cond b size (size_in es h) ≡ 0 → (h ≡ name → ⊥) × Unlisted h es
  go f true e q = absurd (size-some size w.0.sized q)
  go f false e q = (λ r. let y : alike h name ≡ true = rw r (alike_self name) in differ cc, f q)

-- one entry more at the end
unlisted_more : (h name : List ℕ) (size : ℕ) (es : List EnumEntry) → Unlisted h es → (h ≡ name → ⊥) → Unlisted h (es ++ (entry name size ∷ []))
unfolding Unlisted
unlisted_more h name size [] u f = (f, tt)
unlisted_more h name size (entry n z ∷ es) u f = (u.0, unlisted_more h name size es u.1 f)

enums-more : (es : List EnumEntry) (name : List ℕ) (size : ℕ) → Enums es → EnumType name size → Unlisted name es → Enums (es ++ (entry name size ∷ []))
unfolding Enums Unlisted
enums-more [] name size w t u = (t, tt, tt)
enums-more (entry n z ∷ es) name size w t u = (w.0, unlisted_more n name size es w.1 (λ q. u.0 (sym q)), enums-more es name size w.2 t u.1)

unlisted_last : (h name : List ℕ) (size : ℕ) (es : List EnumEntry) → Unlisted h (es ++ (entry name size ∷ [])) → h ≡ name → ⊥
unfolding Unlisted
unlisted_last h name size [] u = u.0
unlisted_last h name size (entry n z ∷ es) u = unlisted_last h name size es u.1

enums_last : (es : List EnumEntry) (name : List ℕ) (size : ℕ) → Enums (es ++ (entry name size ∷ [])) → EnumType name size × Unlisted name es
unfolding Enums Unlisted
enums_last [] name size w = (w.0, tt)
enums_last (entry n z ∷ es) name size w =
    let r = enums_last es name size w.2 in
    (r.0, (λ q. unlisted_last n name size es w.1 (sym q), r.1))

-- no entry of the second list has the name of one of the first
abbrev Apart : List EnumEntry → List EnumEntry → Type 0
Apart earlier [] = Unit {0}
Apart earlier (entry name size ∷ es) = Unlisted name earlier × Apart earlier es

apart_none : (es : List EnumEntry) → Apart [] es
unfolding Unlisted
apart_none [] = tt
apart_none (entry name size ∷ es) = (tt, apart_none es)

apart_more : (earlier : List EnumEntry) (name : List ℕ) (size : ℕ) (es : List EnumEntry) → Apart earlier es → Unlisted name es → Apart (earlier ++ (entry name size ∷ [])) es
unfolding Unlisted
apart_more earlier name size [] a u = tt
apart_more earlier name size (entry n z ∷ es) a u = (unlisted_more n name size earlier a.0 (λ q. u.0 (sym q)), apart_more earlier name size es a.1 u.1)

-- what is left of a list that keeps the rules, behind earlier entries
complete_from : (k : ℕ) (earlier es : List EnumEntry) → length (write_enums es) ≤ k → Enums es → Apart earlier es → enums_from k earlier (write_enums es) ≡ lawful (earlier ++ es)
unfolding enums_from write_enums Enums check
complete_from zero earlier [] l w a = ap lawful (sym (append-nil earlier))
complete_from (suc k) earlier [] l w a = ap lawful (sym (append-nil earlier))
complete_from zero earlier (entry name size ∷ es) l w a = absurd (omega arith)
complete_from (suc k) earlier (entry name size ∷ es) l w a =
    let p = written-parts name size (write_enums es) in
    let z = length-append name (size ∷ write_enums es) in
    rw (lt-ltb (length name) (length (name ++ (size ∷ write_enums es))) p.0, p.1, p.2, p.3, type_true name size w.0, unlisted_size name earlier a.0)
    (complete_from k (earlier ++ (entry name size ∷ [])) es (omega arith) w.2 (apart_more earlier name size es a.1 w.1)
    ∙ ap lawful (append_assoc earlier (entry name size ∷ []) es))

-- a list that keeps the rules is lawful, from its bytes
pub enums-complete : (es : List EnumEntry) → Enums es → enums_at (write_enums es) ≡ lawful es
unfolding enums_at
enums-complete es w = complete_from (length (write_enums es)) [] es (omega arith) w (apart_none es)

-- so the bytes of a lawful list are judged to be that list
pub judged-list : (s : List ℕ) (es : List EnumEntry) → Enums es → s ≡ write_enums es → enums_at s ≡ lawful es
judged-list s es w e = ap enums_at e ∙ enums-complete es w

-- each of some numbers is a byte
abbrev pub Bytes : List ℕ → Type 0
Bytes s = (i : ℕ) → i < length s → get_or s i 0 < 256

bytes_behind : (n b : ℕ) (s : List ℕ) → Bytes (b ∷ s) → Bytes (drop n s)
bytes_behind n b s h i l =
    let z = length-drop n s in
    rw (get_or-drop n s i 0) (h (suc (n + i)) (omega arith))

-- an entry that stands first in some bytes, as it is written
pub first_written : (n : ℕ) (s : List ℕ) → n < length s → n ∷ s ≡ write_enums (entry (take n s) (get_or s n 0) ∷ []) ++ drop (suc n) s
unfolding write_enums
first_written n s h =
    let l : length (take n s) ≡ n = length-take-le n s (omega arith) in
    rw l (ap (λ (x : List ℕ). n ∷ x) (split_at s n 0 h ∙ sym (append_assoc (take n s) (get_or s n 0 ∷ []) (drop (suc n) s))))

-- what a judgement says of a list's bytes
abbrev pub Says : List ℕ → Judgement → Type 0
Says s (lawful es) = Enums es × (s ≡ write_enums es)
Says s (refused number place) = (number ≡ 32) × FirstBad s place

-- an entry that stands first and may follow the earlier ones passes each test
first_passes : (earlier : List EnumEntry) (n : ℕ) (s name : List ℕ) (size : ℕ) (more : List ℕ) → n ∷ s ≡ write_enums (entry name size ∷ []) ++ more
    → Enums (earlier ++ (entry name size ∷ []))
    → (ltb n (length s) ≡ true) × (is_enum_type (take n s) (get_or s n 0) ≡ true) × (eqb (size_in earlier (take n s)) 0 ≡ true)
unfolding write_enums
first_passes earlier n s name size more q w =
    let p = written-parts name size more in
    let m : n ≡ length name = cc in
    let r : s ≡ (name ++ (size ∷ [])) ++ more = cc in
    let t : s ≡ name ++ (size ∷ more) = r ∙ append_assoc name (size ∷ []) more in
    let l = enums_last earlier name size w in
    rw (t, m, p.1, p.2, unlisted_size name earlier l.1) (lt-ltb (length name) (length (name ++ (size ∷ more))) p.0, type_true name size l.0, refl)

module _ (whole : List ℕ) where
  says_check : (b : Bool) (i : ℕ) (x : Judgement) → (b ≡ true → Says whole x) → (b ≡ false → FirstBad whole i) → Says whole (check b i x)
  unfolding check
  says_check true i x f g = f refl
  says_check false i x f g = (refl, g refl)

  says_from : (k : ℕ) (earlier : List EnumEntry) (s : List ℕ) → length s ≤ k → Bytes s → Enums earlier → whole ≡ write_enums earlier ++ s → Says whole (enums_from k earlier s)
  unfolding enums_from
  says_from zero earlier [] l b w q = (w, q ∙ append-nil (write_enums earlier))
  says_from zero earlier (n ∷ s) l b w q = absurd (omega arith)
  says_from (suc k) earlier [] l b w q = (w, q ∙ append-nil (write_enums earlier))
  says_from (suc k) earlier (n ∷ s) l b w q =
      let name = take n s in
      let size = get_or s n 0 in
      let rest = drop (suc n) s in
      let d = length-drop (suc n) s in
      let bad : ((nm : List ℕ) (sz : ℕ) (more : List ℕ) → n ∷ s ≡ write_enums (entry nm sz ∷ []) ++ more → Enums (earlier ++ (entry nm sz ∷ [])) → ⊥) → FirstBad whole (length earlier)
      = λ f. record { before = earlier; keeps = w; place_is = refl; rest = n ∷ s; parts = q; some = λ e. differ cc; bad = f } in
      says_check (ltb n (length s)) (length earlier) _
      (λ t. says_check (is_enum_type name size) (length earlier) _
      (λ u. says_check (eqb (size_in earlier name) 0) (length earlier) _
      (λ v.
      let h = ltb-true n (length s) t in
      let z : length name ≡ n = length-take-le n s (omega arith) in
      let m = b 0 (omega arith) in
      says_from k (earlier ++ (entry name size ∷ [])) rest (omega arith) (bytes_behind (suc n) n s b)
      (enums-more earlier name size w (true_type name size (omega arith) u) (size_unlisted name earlier w (eqb-true (size_in earlier name) 0 v)))
      (q ∙ ap (λ (x : List ℕ). write_enums earlier ++ x) (first_written n s h) ∙ sym (append_assoc (write_enums earlier) (write_enums (entry name size ∷ [])) rest)
      ∙ ap (λ (x : List ℕ). x ++ rest) (sym (write-append earlier (entry name size ∷ [])))))
      (λ v. bad (λ nm sz more e o. let y = (first_passes earlier n s nm sz more e o).2 in differ cc)))
      (λ u. bad (λ nm sz more e o. let y = (first_passes earlier n s nm sz more e o).1 in differ cc)))
      (λ t. bad (λ nm sz more e o. let y = (first_passes earlier n s nm sz more e o).0 in differ cc))

-- a list that is not refused is the bytes of a lawful list; one that is refused is so at its first entry that no lawful list has there
pub enums-sound : (s : List ℕ) → Bytes s → Says s (enums_at s)
unfolding enums_at write_enums Enums
enums-sound s b = says_from s (length s) [] s (omega arith) b tt refl

-- every refusal is 32, whatever the list's numbers are
abbrev ThirtyTwo : Judgement → Type 0
ThirtyTwo (refused number place) = number ≡ 32
ThirtyTwo (lawful es) = Unit {0}

check-refuses : (b : Bool) (i : ℕ) (x : Judgement) → ThirtyTwo x → ThirtyTwo (check b i x)
unfolding check
check-refuses true i x w = w
check-refuses false i x w = refl

from_refuses : (k : ℕ) (earlier : List EnumEntry) (s : List ℕ) → ThirtyTwo (enums_from k earlier s)
unfolding enums_from
from_refuses zero earlier [] = tt
from_refuses zero earlier (n ∷ s) = refl
from_refuses (suc k) earlier [] = tt
from_refuses (suc k) earlier (n ∷ s) =
    check-refuses (ltb n (length s)) (length earlier) _
    (check-refuses (is_enum_type (take n s) (get_or s n 0)) (length earlier) _
    (check-refuses (eqb (size_in earlier (take n s)) 0) (length earlier) _ (from_refuses k _ (drop (suc n) s))))

pub list-refusal : (s : List ℕ) {number place : ℕ} → enums_at s ≡ refused number place → number ≡ 32
unfolding enums_at
list-refusal s {number} {place} e = rw e at (from_refuses (length s) [] s)
