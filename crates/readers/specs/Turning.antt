-- A reader more that was read: laws. Assumes nothing.
use Rattle.std.specs.Prelude.{◌≡◌, refl, Bool, true, false, List, [], ◌∷◌, ◌++◌, ◌≢◌, ltb, length, take, get_or, set}
use Rattle.std.proofs.Common.{ap, ◌∙◌, append_assoc, length-set, length-append, get_or-set_same, get_or-set_other, ltb-true, ltb-false}
use Prim.Native.Nat.{ℕ, suc, ◌+◌, ◌-◌, ◌<◌, ◌≤◌}
use native.Mathlib.Omega.{arith}
use Rattle.std.proofs.Math.ListN.{get_or-append}
use Rattle.std.proofs.lemmas.List.Edits.{sets}
use Rattle.std.proofs.Math.Seq.{length-sets}
use Rattle.std.proofs.lemmas.List.{take-set-le, get_or_at}
use Rattle.layout.specs.Target.{Target, object}
use Rattle.layout.specs.EnumList.{EnumEntry}
use Rattle.targets.specs.Code.{prelude_size}
use Rattle.targets.specs.Laws.{kept-stands}
use Rattle.reading.specs.Answer.{Answer, refused, read, bind, several}
use Rattle.reading.specs.Reads.{Small}
use Rattle.reading.specs.Seven.{seven_at}
use Rattle.reading.specs.File.{reader_at, readers_at}
use Rattle.numbers.specs.Padded.{pad_of}
use Rattle.readers.specs.Judged.{judged_name}
use Rattle.readers.specs.Parts.{Ready, Taken}
use Rattle.readers.specs.Left.{codes_for}
use Rattle.readers.specs.Turns.{Entered, after, Reached, Underway}
use Rattle.readers.specs.Room.{codes-enough}
use Rattle.readers.specs.Passing.{none_passed, one_passed}

-- codes that are written further on leave those before
take-sets : (n : ℕ) (l : List ℕ) (i : ℕ) (vs : List ℕ) → n ≤ i → take n (sets l i vs) ≡ take n l
take-sets n l i [] h = refl
take-sets n l i (v ∷ vs) h = take-sets n (set l i v) (suc i) vs (omega arith) ∙ take-set-le n l i v h

after_none : (x : Answer (List (List ℕ) × List Target)) → after [] [] x ≡ x
unfolding bind
after_none (refused k p) = refl
after_none (read l e) = refl

after_one : (names : List (List ℕ)) (readers : List Target) (name : List ℕ) (t : Target) (x : Answer (List (List ℕ) × List Target))
    → after names readers (bind x (λ l e. read (name ∷ l.0, t ∷ l.1) e)) ≡ after (names ++ name ∷ []) (readers ++ t ∷ []) x
unfolding bind
after_one names readers name t (refused k p) = refl
after_one names readers name t (read l e) = rw (append_assoc names (name ∷ []) l.0, append_assoc readers (t ∷ []) l.1)

module _ (es : List EnumEntry) (file codes targets starts : List ℕ) (n at : ℕ) where
  start : Reached es file codes codes targets starts n at 0 prelude_size at
  start =
      let z : n - 0 ≡ n = omega arith in
      record {
        names = [];
        readers = [];
        few = omega arith;
        names_are = refl;
        readers_are = refl;
        answer = rw (z, after_none (readers_at (judged_name es) file n at));
        room = (omega arith, omega arith);
        kept = refl;
        each = λ j h. absurd (omega arith);
      }

module _ {es : List EnumEntry} {file codes codes' targets starts : List ℕ} {n at i used next : ℕ} (r : Reached es file codes codes' targets starts n at i used next) where
  pub refuse : i < n → {k p : ℕ} → reader_at (judged_name es) file next ≡ refused k p → readers_at (judged_name es) file n at ≡ refused k p
  unfolding readers_at several bind
  refuse h q =
      let z : n - i ≡ suc (n - (i + 1)) = omega arith in
      r.answer ∙ rw (z, q)

  module _ {codes'' : List ℕ} {first end behind : ℕ} (w : Taken (reader_at (judged_name es) file next) file codes' codes'' used next first end behind) where
    answers : i < n → readers_at (judged_name es) file n at ≡ after (r.names ++ w.name ∷ []) (r.readers ++ w.t ∷ []) (readers_at (judged_name es) file (n - (i + 1)) behind)
    unfolding readers_at several bind
    answers h =
        let z : n - i ≡ suc (n - (i + 1)) = omega arith in
        r.answer ∙ rw (z, w.answer) (after_one r.names r.readers w.name w.t (readers_at (judged_name es) file (n - (i + 1)) behind))

    new : Entered file codes'' end used first w.name w.t
    new = record { stands = w.stands; ends = omega (arith, w.ends); there = w.there }

    old : {a b : ℕ} {name : List ℕ} {t : Target} → Entered file codes' used a b name t → Entered file codes'' end a b name t
    old {a} {t = t} e = record { stands = rw w.writes (kept-stands file codes' a used w.words e.stands e.ends); ends = omega (arith, w.ends, e.ends); there = e.there }

    module _ (j : ℕ) (in_targets : i < length targets) (in_starts : i < length starts) where
      entered : (b : Bool) → ltb j i ≡ b → j < i + 1
          → Entered file codes'' end (get_or (set targets i used) j 0) (get_or (set starts i first) j 0) (get_or (r.names ++ w.name ∷ []) j []) (get_or (r.readers ++ w.t ∷ []) j object)
      entered true q h =
          let l : j < i = ltb-true j i q in
          let ne : j ≢ i = λ e. omega arith in
          rw (get_or-set_other targets i j used 0 ne, get_or-set_other starts i j first 0 ne, get_or-append r.names (w.name ∷ []) [] j (omega (arith, r.names_are)), get_or-append r.readers (w.t ∷ []) object j (omega (arith, r.readers_are)))
          (old (r.each j l))
      entered false q h =
          let z : j ≡ i = omega (arith, ltb-false j i q) in
          rw (z, get_or-set_same targets i used 0 in_targets, get_or-set_same starts i first 0 in_starts, get_or_at r.names w.name [] [] i r.names_are, get_or_at r.readers w.t [] object i r.readers_are) new

    turn : i < n → i < length targets → i < length starts → Reached es file codes codes'' (set targets i used) (set starts i first) n at (i + 1) end behind
    turn h in_targets in_starts = record {
      names = r.names ++ w.name ∷ [];
      readers = r.readers ++ w.t ∷ [];
      few = omega arith;
      names_are = length-append r.names (w.name ∷ []) ∙ ap (λ (k : ℕ). k + 1) r.names_are;
      readers_are = length-append r.readers (w.t ∷ []) ∙ ap (λ (k : ℕ). k + 1) r.readers_are;
      answer = answers h;
      room = (omega (arith, r.room, w.ends), omega (arith, r.room, w.ends, w.few));
      kept = rw w.writes (take-sets prelude_size codes' used w.words r.room.0) ∙ r.kept;
      each = λ j g. entered j in_targets in_starts (ltb j i) refl g;
    }

-- none of n readers was read yet
pub none_read : (es : List EnumEntry) (file codes targets starts : List ℕ) (n at : ℕ) → length targets ≡ 64 → length starts ≡ 64 → Underway es file codes codes targets starts n at 0 prelude_size at 0
none_read es file codes targets starts n at t s = record { reached = start es file codes targets starts n at; passed = none_passed file n at; codes_size = refl; targets_size = t; starts_size = s }

module _ {es : List EnumEntry} {file codes codes' targets starts : List ℕ} {n at i used next sum : ℕ} (u : Underway es file codes codes' targets starts n at i used next sum) (h : i < n) where
  -- the codes have room for those of one more name
  pub ready : length file ≤ 16777216 → n ≤ 64 → codes_for n ≤ length codes → Ready file used codes'
  ready short few room =
      let e = codes-enough n i h in
      (short, omega (arith, u.reached.room), omega (arith, u.reached.room, u.codes_size))

  pub one_read : Small file → n ≤ 64 → {codes'' : List ℕ} {first end behind : ℕ} → Taken (reader_at (judged_name es) file next) file codes' codes'' used next first end behind
      → Underway es file codes codes'' (set targets i used) (set starts i first) n at (i + 1) end behind (sum + pad_of (seven_at file next) next)
  one_read small few {first = first} w = record {
    reached = turn u.reached w h (omega (arith, u.targets_size)) (omega (arith, u.starts_size));
    passed = one_passed file es n at i next sum small h w.answer u.passed;
    codes_size = ap length w.writes ∙ length-sets codes' used w.words ∙ u.codes_size;
    targets_size = length-set targets i used ∙ u.targets_size;
    starts_size = length-set starts i first ∙ u.starts_size;
  }
