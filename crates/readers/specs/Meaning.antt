-- What reading the reader list means: where the codes have room, what is left is what reading answers, and the targets' codes stand. Assumes nothing.
use Rattle.std.specs.Prelude.{Result, Ok, Err, ◌≡◌, Bool, cond, eqb, length, drop, set}
use Rattle.std.proofs.Math.Path.{refl, ap, subst}
use Rattle.std.proofs.Common.{sym, ◌∙◌, length-drop, take-append-drop, length-take-le}
use Rattle.std.proofs.Math.Bool.{true, false}
use mathlib.Core.List.{List, ◌++◌}
use Prim.Native.Nat.{ℕ, zero, suc, ◌+◌, ◌<◌, ◌≤◌}
use native.Mathlib.Omega.{arith}
use Rattle.std.proofs.Math.Dec.{leb}
use Rattle.std.proofs.Math.ListN.{take}
use borrow.Author.Tests.{leb-true, leb-false, eqb-true, eqb-false, lt-leb}
use Rattle.layout.specs.Target.{Target}
use Rattle.layout.specs.EnumList.{EnumEntry, EnumSize, size_in}
use Rattle.names.specs.Entries.{enums_of}
use Rattle.names.specs.EntryLaws.{enums-sized}
use Rattle.names.specs.Parse.{name_of}
use Rattle.names.specs.Contract as N
use Rattle.names.specs.Contract.{coded, no_room, placed}
use Rattle.targets.specs.Code.{prelude_size}
use Rattle.targets.specs.declared.Unresolved.{Unresolved}
use Rattle.targets.specs.declared.Unresolved.TheVariants.{Broken, NoRoom as Unresolved-no-room}
use Rattle.targets.specs.Contract.{told, resolution, content, Resolves}
use Rattle.targets.specs.Short.{codes_are_few}
use Rattle.targets.specs.Meaning.{HasTarget, target_is, no_room_is}
use Rattle.reading.specs.Answer.{Answer, refused, read, bind, check, within, true-within}
use Rattle.reading.specs.Reads.{Small, some}
use Rattle.reading.specs.Seven.{seven_at, seven_next}
use Rattle.reading.specs.Little.{little_at}
use Rattle.reading.specs.File.{unknown, known, judge, reader_at}
use Rattle.numbers.specs.Padded.{past, pad_of}
use Rattle.places.specs.Padding.{past_few}
use Rattle.answers.specs.declared.Refusal.{Refusal}
use Rattle.answers.specs.Refusals.{refusal}
use Rattle.readers.specs.declared.Reader.{Reader}
use Rattle.readers.specs.declared.Ended.{Ended}
use Rattle.readers.specs.declared.Lists.{Lists}
use Rattle.readers.specs.declared.Unlisted.{Unlisted}
use Rattle.readers.specs.declared.Unlisted.TheVariants.{Refused, NoRoom}
use Rattle.readers.specs.Judged.{judged_name, known_name, refused-name}
use Rattle.readers.specs.Parts.{up_to, version_at, end_of, versioned, named_at, Ready, Taken, Takes}
use Rattle.readers.specs.Left.{Step, after_name, named_left, counted_left, reader_left, Arrays, arrays, Steps, onward, readers_from, readers_left, AllSteps, behind_shared, behind_readers, shared_left, codes_for, enough, behind_count, lists_left, Sized}
use Rattle.readers.specs.Turns.{Underway, EndsAs, Ends}
use Rattle.readers.specs.Contract.{counted_total, ReadsCounted, ReadsListsAt}
use Rattle.readers.specs.Room.{up_to_bound, long-enough, enough_for}
use Rattle.readers.specs.Passing.{all_passed}
use Rattle.readers.specs.Turning.{refuse, none_read, ready, one_read}
use Rattle.readers.specs.Whole.{readers-refused, shared_refused, shared_read, lists_long, lists_refused, lists_counted, total_is}

-- an answer of the code that tells this
abbrev untold : N.Answer → Result ℕ Unresolved
untold (coded end) = Ok end
untold (N.refused number place) = Err (Broken (refusal number place))
untold no_room = Err Unresolved-no-room

told-untold : (x : N.Answer) → told (untold x) ≡ x
told-untold (coded end) = refl
told-untold (N.refused number place) = refl
told-untold no_room = refl

-- a reader's count
module _ (es : List EnumEntry) (file : List ℕ) (at : ℕ) where
  reader_refused : {n p : ℕ} → seven_at file at ≡ refused n p → reader_at (judged_name es) file at ≡ refused n p
  unfolding reader_at bind
  reader_refused q = rw q

  module _ {n e : ℕ} (q : seven_at file at ≡ read n e) where
    reader_empty : n ≡ 0 → reader_at (judged_name es) file at ≡ refused 9 at
    unfolding reader_at bind check within
    reader_empty h = rw (q, h)

    within_false : (n : ℕ) → 1024 < n → within 1024 n ≡ false
    unfolding within
    within_false zero h = absurd (omega arith)
    within_false (suc n) h = lt-leb (suc n) 1024 h

    reader-long : 1024 < n → reader_at (judged_name es) file at ≡ refused 9 at
    unfolding reader_at bind check
    reader-long h = rw (q, within_false n h)

    reader_named : (n ≡ 0 → ⊥) → n ≤ 1024 → reader_at (judged_name es) file at ≡ named_at es file n at e
    unfolding reader_at bind check named_at versioned
    reader_named h g = rw (q, true-within 1024 n (omega arith) g)

-- a name of n bytes from `first` on
module _ (es : List EnumEntry) (file : List ℕ) (n at first : ℕ) where
  named_missing : leb n (length (drop first file)) ≡ false → named_at es file n at first ≡ refused 1 at
  unfolding named_at bind some check
  named_missing t = rw t

  module _ (t : leb n (length (drop first file)) ≡ true) where
    name_refused : {k p : ℕ} → judged_name es first (take n (drop first file)) ≡ unknown k p → named_at es file n at first ≡ refused k p
    unfolding named_at bind some check judge
    name_refused e = rw (t, e)

    name_known : {x : Target} → judged_name es first (take n (drop first file)) ≡ known x → named_at es file n at first ≡ versioned file (take n (drop first file)) x (first + n)
    unfolding named_at bind some check judge
    name_known e = rw (t, e)

    module _ (s c c' : List ℕ) (used : ℕ) (q : s ≡ take n (drop first file)) (few : n ≤ 1024) (room : used + 187 ≤ length c) (below : used ≤ 16777216) (inside : first ≤ length file) (short : length file ≤ 16777216) where
      size : length s ≡ n
      size = ap length q ∙ length-take-le n (drop first file) (leb-true n (length (drop first file)) t)

      -- the name stands in the file
      standing : drop first file ≡ s ++ drop n (drop first file)
      standing = sym (take-append-drop n (drop first file)) ∙ ap (λ (l : List ℕ). l ++ drop n (drop first file)) (sym q)

      fits : first + length s ≤ 16777216
      fits = omega (arith, size, leb-true n (length (drop first file)) t, length-drop first file)

      named_room : {r : Result ℕ Unresolved} → Resolves es s first c c' used r → told r ≡ no_room → ⊥
      named_room p e = omega (arith, no_room_is es s first c c' used p e below fits, size)

      named_refused : (number place : ℕ) {r : Result ℕ Unresolved} → Resolves es s first c c' used r → told r ≡ N.refused number place → named_at es file n at first ≡ refused number place
      named_refused number place p e = name_refused (ap (judged_name es first) (sym q) ∙ refused-name es first s c c' used number place p e)

      module _ (near : first ≤ at + 5) (end : ℕ) (g : HasTarget es s first c c' used end) where
        taken : (next : ℕ) → Taken (read (s, g.t) next) file c c' used at first end next
        taken next = record {
          name = s;
          t = g.t;
          words = g.words;
          answer = refl;
          there = ap (λ (k : ℕ). take k (drop first file)) size ∙ sym q;
          near = near;
          writes = g.content;
          ends = g.ends;
          few = omega (arith, codes_are_few es g.n g.t g.formed g.target, ap length g.writes, size);
          stands = g.stands file (drop n (drop first file)) standing;
        }

        by_test : (b : Bool) (v next : ℕ) → Takes (check b 12 (first + n) (read (s, g.t) next)) file c c' used at (end_of first end (check b 12 (first + n) (read v next)))
        unfolding check
        by_test true v next = taken next
        by_test false v next = refl

        by_version : (x : Answer ℕ) → Takes (bind x (λ v next. check (eqb v 0) 12 (first + n) (read (s, g.t) next))) file c c' used at (end_of first end (bind x (λ v next. check (eqb v 0) 12 (first + n) (read v next))))
        unfolding bind
        by_version (refused k p) = refl
        by_version (read v next) = by_test (eqb v 0) v next

        named_target : Takes (named_at es file n at first) file c c' used at (end_of first end (version_at file (first + n)))
        unfolding version_at versioned
        named_target =
            let e : named_at es file n at first ≡ versioned file s g.t (first + n)
            = name_known (ap (judged_name es first) (sym q) ∙ known_name es first s g.n g.t g.formed g.writes g.target) ∙ ap (λ (l : List ℕ). versioned file l g.t (first + n)) (sym q) in
            rw e (by_version (little_at file 4 (first + n) (first + n)))

-- a step of the code says what reading answers
abbrev TakesStep : Answer (List ℕ × Target) → (file c : List ℕ) (used at : ℕ) → Step → Type 0
TakesStep x file c used at o = Takes x file c o.1 used at o.0

-- the lists' answer and arrays say what reading answers
abbrev CountedStep : (es : List EnumEntry) (file : List ℕ) (n at own : ℕ) (c : List ℕ) → AllSteps → Type 0
CountedStep es file n at own c o = ReadsCounted es file n at own c o.1.codes o.1.targets o.1.starts o.0

abbrev ListsStep : (es : List EnumEntry) (file : List ℕ) (at : ℕ) (c : List ℕ) → AllSteps → Type 0
ListsStep es file at c o = ReadsListsAt es file at c o.1.codes o.1.targets o.1.starts o.0

module _ (es : List EnumEntry) (sized : (h : List ℕ) → (size_in es h ≡ 0 → ⊥) → EnumSize (size_in es h)) (file c : List ℕ) (used at : ℕ) (ready : Ready file used c) where
  module _ (first n : ℕ) (few : n ≤ 1024) (inside : first ≤ length file) (near : first ≤ at + 5) where
    named_means : TakesStep (named_at es file n at first) file c used at (named_left es file c used at first n)
    unfolding named_left
    named_means = by_length (leb n (length (drop first file))) refl where
      s : List ℕ
      s = take n (drop first file)

      codes : List ℕ
      codes = content es (placed s first used) c first used (name_of first s)

      resolves : (x : N.Answer) → resolution es (placed s first used) (length c) first used (name_of first s) ≡ x → Resolves es s first c codes used (untold x)
      resolves x e = record { answers = told-untold x ∙ sym e; writes = refl }

      by_name : leb n (length (drop first file)) ≡ true → (x : N.Answer) → resolution es (placed s first used) (length c) first used (name_of first s) ≡ x
          → Takes (named_at es file n at first) file c codes used at (after_name file at first n x)
      by_name t no_room e = absurd (named_room es file n at first t s c codes used refl few ready.2 ready.1 inside ready.0 (resolves no_room e) refl)
      by_name t (N.refused number place) e = named_refused es file n at first t s c codes used refl few ready.2 ready.1 inside ready.0 number place (resolves (N.refused number place) e) refl
      by_name t (coded end) e =
          let g = target_is es sized s first c codes used end (resolves (coded end) e) refl in
          named_target es file n at first t s c codes used refl few ready.2 ready.1 inside ready.0 near end g

      by_length : (b : Bool) → leb n (length (drop first file)) ≡ b
          → TakesStep (named_at es file n at first) file c used at
          (cond b (after_name file at first n (resolution es (placed s first used) (length c) first used (name_of first s)), codes) (Err (refusal 1 at), c))
      by_length true t = by_name t (resolution es (placed s first used) (length c) first used (name_of first s)) refl
      by_length false t = named_missing es file n at first t

  reader_means : Small file → TakesStep (reader_at (judged_name es) file at) file c used at (reader_left es file c used at)
  unfolding reader_left past
  reader_means small = by_count (seven_at file at) refl where
    by_most : (n first : ℕ) (b : Bool) → seven_at file at ≡ read n first → leb n 1024 ≡ b → (n ≡ 0 → ⊥)
        → TakesStep (reader_at (judged_name es) file at) file c used at (cond b (named_left es file c used at first n) (Err (refusal 9 at), c))
    by_most n first true e l z =
        let few = leb-true n 1024 l in
        rw (reader_named es file at e z few) (named_means first n few (seven_next file small at e).1 (rw e at (past_few file small at)))
    by_most n first false e l z = reader-long es file at e (leb-false n 1024 l)

    by_least : (n first : ℕ) (b : Bool) → seven_at file at ≡ read n first → eqb n 0 ≡ b
        → TakesStep (reader_at (judged_name es) file at) file c used at (cond b (Err (refusal 9 at), c) (cond (leb n 1024) (named_left es file c used at first n) (Err (refusal 9 at), c)))
    by_least n first true e z = reader_empty es file at e (eqb-true n 0 z)
    by_least n first false e z = by_most n first (leb n 1024) e refl (eqb-false n 0 z)

    by_count : (x : Answer ℕ) → seven_at file at ≡ x → TakesStep (reader_at (judged_name es) file at) file c used at (counted_left es file c used at x)
    by_count (refused number place) e = reader_refused es file at e
    by_count (read n first) e = by_least n first (eqb n 0) e refl

  -- a step that is the definition's
  pub reader-takes : Small file → {r : Result Reader Refusal} {c' : List ℕ} → reader_left es file c used at ≡ (r, c') → Takes (reader_at (judged_name es) file at) file c c' used at r
  reader-takes small e = subst (TakesStep (reader_at (judged_name es) file at) file c used at) e (reader_means small)

module _ (es : List EnumEntry) (sized : (h : List ℕ) → (size_in es h ≡ 0 → ⊥) → EnumSize (size_in es h)) (file : List ℕ) (small : Small file) where
  -- n readers, by induction on those that are left
  module _ (n at : ℕ) (c₀ t₀ s₀ : List ℕ) (z : Sized file n c₀ t₀ s₀) where
    module _ {i used next sum : ℕ} {c t s : List ℕ} (u : Underway es file c₀ c t s n at i used next sum) (h : i < n) where
      by_reader : (rest : ℕ → ℕ → List ℕ → List ℕ → List ℕ → Steps)
          → ((first end behind : ℕ) (c' : List ℕ) → Underway es file c₀ c' (set t i used) (set s i first) n at (i + 1) end behind (sum + pad_of (seven_at file next) next)
          → Ends es file c₀ n at (rest end behind c' (set t i used) (set s i first)))
          → (o : Result Reader Refusal) (c' : List ℕ) → Takes (reader_at (judged_name es) file next) file c c' used next o → Ends es file c₀ n at (onward o c' t s i used rest)
      by_reader rest f (Err x) c' w = refuse u.reached h w
      by_reader rest f (Ok r) c' w = f r.name r.end r.next c' (one_read u h small z.1 w)

    from_means : (left i used next sum : ℕ) (c t s : List ℕ) → i + left ≡ n → Underway es file c₀ c t s n at i used next sum → Ends es file c₀ n at (readers_from es file left i used next sum c t s)
    unfolding readers_from
    from_means zero i used next sum c t s e u =
        let q : i ≡ n = omega arith in
        (used, subst (λ k. Underway es file c₀ c t s n at k used next sum) q u)
    from_means (suc left) i used next sum c t s e u =
        let h : i < n = omega arith in
        by_reader u h (λ end after c' t' s'. readers_from es file left (i + 1) end after (sum + pad_of (seven_at file next) next) c' t' s')
        (λ first end behind c' v. from_means left (i + 1) end behind (sum + pad_of (seven_at file next) next) c' (set t i used) (set s i first) (omega arith) v)
        (reader_left es file c used next).0 (reader_left es file c used next).1 (reader_means es sized file c used next (ready u h z.0 z.1 z.2) small)

    readers_mean : Ends es file c₀ n at (readers_left es file n at c₀ t₀ s₀)
    readers_mean = from_means n 0 prelude_size at 0 c₀ t₀ s₀ (omega arith) (none_read es file c₀ t₀ s₀ n at z.3 z.4)

    pub readers-take : {m : Result Ended Refusal} {c t s : List ℕ} → readers_left es file n at c₀ t₀ s₀ ≡ (m, arrays c t s) → EndsAs es file c₀ c t s n at m
    readers-take e = subst (Ends es file c₀ n at) e readers_mean

    -- and the shared count
    module _ (own : ℕ) where
      by_shared : {names end used : ℕ} {c t s : List ℕ} → Underway es file c₀ c t s n at n used end names → (x : Answer ℕ) → up_to 256 file end ≡ x
          → ReadsCounted es file n at own c₀ c t s (behind_shared n (own + names + pad_of (seven_at file end) end) x)
      unfolding counted_total
      by_shared u (refused k p) e = (refl, shared_refused es file n at u e)
      by_shared {names} {end} u (read s next) e =
          let a = all_passed file n at end names u.passed in
          (refl, shared_read es file n at u z.1 e, rw (← a.1, ← a.0))

      by_readers : (m : Result Ended Refusal) (a : Arrays) → EndsAs es file c₀ a.codes a.targets a.starts n at m → ReadsCounted es file n at own c₀ a.codes a.targets a.starts (behind_readers file n own m)
      by_readers (Err x) a e = (refl, readers-refused es file n at e)
      by_readers (Ok r) a e = by_shared e.1 (up_to 256 file r.next) refl

      counted_means : CountedStep es file n at own c₀ (shared_left es file n at own c₀ t₀ s₀)
      unfolding shared_left
      counted_means = by_readers (readers_left es file n at c₀ t₀ s₀).0 (readers_left es file n at c₀ t₀ s₀).1 readers_mean

  -- the lists
  module _ (at : ℕ) (c t s : List ℕ) (targets_size : length t ≡ 64) (starts_size : length s ≡ 64) where
    lists_mean : ListsStep es file at c (lists_left es file at c t s)
    unfolding lists_left
    lists_mean = by_size (leb (length file) 16777216) refl where
      own : ℕ
      own = pad_of (seven_at file at) at

      by_room : length file ≤ 16777216 → {n next : ℕ} → up_to 64 file at ≡ read n next → (b : Bool) → leb (codes_for n) (length c) ≡ b
          → ListsStep es file at c (cond b (shared_left es file n next own c t s) (Err NoRoom, arrays c t s))
      by_room h {n} {next} e true q =
          let r : enough file at (length c) ≡ true = enough_for file at (length c) h true (rw e q) in
          let z : Sized file n c t s = (h, up_to_bound 64 file at e, leb-true (codes_for n) (length c) q, targets_size, starts_size) in
          rw (lists_counted es file at h e, total_is es file at h {own = own} e refl, r) (counted_means n next c t s z own)
      by_room h e false q = enough_for file at (length c) h false (rw e q)

      by_count : length file ≤ 16777216 → (x : Answer ℕ) → up_to 64 file at ≡ x → ListsStep es file at c (behind_count es file own x c t s)
      by_count h (refused k p) e = (enough_for file at (length c) h true (rw e), lists_refused es file at h e)
      by_count h (read n next) e = by_room h e (leb (codes_for n) (length c)) refl

      by_size : (b : Bool) → leb (length file) 16777216 ≡ b → ListsStep es file at c (cond b (behind_count es file own (up_to 64 file at) c t s) (Err (Refused (refusal 9 0)), arrays c t s))
      by_size true q = by_count (leb-true (length file) 16777216 q) (up_to 64 file at) refl
      by_size false q =
          let h = leb-false (length file) 16777216 q in
          (long-enough file at (length c) h, lists_long es file at h)

-- the lists under a lent list of enum types
pub lists_take : (enums file : List ℕ) → Small file → (at : ℕ) (c t s : List ℕ) {c' t' s' : List ℕ} {r : Result Lists Unlisted} → length t ≡ 64 → length s ≡ 64 → lists_left (enums_of enums) file at c t s ≡ (r, arrays c' t' s')
    → ReadsListsAt (enums_of enums) file at c c' t' s' r
lists_take enums file small at c t s p q e = subst (ListsStep (enums_of enums) file at c) e (lists_mean (enums_of enums) (enums-sized enums) file small at c t s p q)
