-- 43 and 44: the loader's places are where the names of readers start, and the first is that of the first reader that offends. Assumes nothing.
use Rattle.std.specs.Prelude.{◌≡◌, Bool, not, ◌||◌, ◌⊎◌, take, get_or}
use Rattle.std.proofs.Math.Path.{refl, sym, ap}
use Rattle.std.proofs.Common.{◌∙◌}
use Rattle.std.proofs.Math.Bool.{true, false}
use mathlib.Core.List.{List, [], ◌∷◌, ◌++◌, append_assoc, append-nil}
use Rattle.std.proofs.Math.Logic.{inl, inr}
use Prim.Native.Nat.{ℕ, zero, suc, ◌+◌, ◌<◌, ◌≤◌}
use native.Mathlib.Omega.{arith}
use Rattle.std.proofs.Math.Dec.{eqb}
use Rattle.std.proofs.Math.ListN.{length, drop, length-append}
use borrow.Author.Tests.{eqb-true, eqb-false}
use Rattle.laws.specs.Small.{differ}
use Rattle.layout.specs.EnumList.{EnumEntry}
use Rattle.layout.specs.Number.{little}
use Rattle.layout.specs.Text.{ascii}
use Rattle.layout.specs.Target.{Target}
use Rattle.layout.specs.Target as target
use Rattle.layout.specs.Tree.{count}
use Rattle.layout.specs.Rows.{Row}
use Rattle.layout.specs.File.{FileTree, shared_of, header, Entries, FileLays}
use Rattle.reading.specs.Answer.{Answer, refused, read}
use Rattle.reading.specs.Reads.{Small}
use Rattle.reading.specs.Seven.{seven_at, seven_next}
use Rattle.reading.specs.Rules as targets
use Rattle.reading.specs.Accepts.{entries-length}
use Rattle.reading.specs.Little.{length-little}
use Rattle.numbers.specs.Padded.{past}
use Rattle.places.specs.Places.{behind_entry, entries_end}
use Rattle.shortest.specs.Places.{number_is, split}
use Rattle.profile.specs.Stand.{Stand}
use Rattle.profile.specs.Offences.{wrong_at, name_start, uses, unused, among, doubled}
use Rattle.profile.specs.Rules.{or_right, uses-some, some-uses}
use Rattle.profile.specs.Passes.{one_used}
use Rattle.fault_places.specs.Places.{first_place, Lowest, Among, among-append, append-among, wrong-among, among-wrong}
use Rattle.number_rules.specs.Entries.{one_more}
use Rattle.profile_places.specs.Pieces.{Piece, plain, number, tree_pieces, entries_pieces, file_pieces, EndsAt}
use Rattle.profile_places.specs.Broken.{NameAt, UnusedAt, DoubledAt}
use Rattle.profile_places.specs.Rising.{Rise, rise_from, rise_least, first_lowest, rise_wrong}
use Rattle.profile_places.specs.Written.{written-split, file_written, end_of, end-append, written-end}
use Rattle.profile_places.specs.Numbers.{past_is, behind_is}

-- ---- Where a name starts

-- the pieces of readers, those before reader i and that reader's first
entries_at : (names : List (List ℕ)) (i : ℕ) → i < length names
    → entries_pieces names ≡ entries_pieces (take i names) ++ (number (length (get_or names i [])) ∷ (plain (get_or names i [] ++ little 4 0) ∷ entries_pieces (drop (suc i) names)))
unfolding entries_pieces
entries_at [] i h = absurd (omega arith)
entries_at (name ∷ names) zero h = refl
entries_at (name ∷ names) (suc i) h = ap (λ (l : List Piece). number (length name) ∷ plain (name ++ little 4 0) ∷ l) (entries_at names i (omega arith))

module _ (file : List ℕ) (es : List EnumEntry) where
  entries_end_lem : (names : List (List ℕ)) (readers : List Target) (bs others : List ℕ) (at i : ℕ) → Entries es names readers bs → drop at file ≡ bs ++ others → i ≤ length names
      → entries_end file i at ≡ end_of file (entries_pieces (take i names)) at
  unfolding Entries entries_end entries_pieces end_of
  entries_end_lem names readers bs others at zero w d h = refl
  entries_end_lem [] readers bs others at (suc i) w d h = absurd (omega arith)
  entries_end_lem (name ∷ names) [] bs others at (suc i) w d h = absurd w
  entries_end_lem (name ∷ names) (t ∷ readers) bs others at (suc i) (b, rest, e, y, w) d h =
      let c = split file at bs b rest others e d in
      let s = split file at b y.number (name ++ little 4 0) (rest ++ others) y.parts c.0 in
      let n = number_is file (length name) at y.number ((name ++ little 4 0) ++ (rest ++ others)) y.numbered s.0 in
      let z : behind_entry (seven_at file at) at ≡ at + length b = behind_is file at (length name) (at + length y.number) n ∙ omega (arith, s.2, length-append name (little 4 0), length-little 4 0) in
      let x : past (seven_at file at) at + length (name ++ little 4 0) ≡ at + length b
      = ap (λ (x : ℕ). x + length (name ++ little 4 0)) (past_is file at (length name) (at + length y.number) n) ∙ sym s.2 in
      ap (entries_end file i) z ∙ entries_end_lem names readers rest others (at + length b) i w c.1 (omega arith) ∙ sym (ap (end_of file (entries_pieces (take i names))) x)

module _ (es : List EnumEntry) (ft : FileTree) (readers : List Target) (file : List ℕ) (rows : List Row) (w : FileLays es ft file) where
  abbrev Named : (i place : ℕ) → Type 0
  Named = NameAt ft readers file rows

  start_is : (i : ℕ) → i < length ft.names → end_of file (number (length ft.names) ∷ (entries_pieces (take i ft.names) ++ (number (length (get_or ft.names i [])) ∷ []))) 10 ≡ name_start file i
  unfolding name_start end_of header ascii little
  start_is i h =
      let l = w.lists in
      let b : drop 10 file ≡ w.before ++ w.values = ap (drop 10) w.parts in
      let c = split file 10 w.before l.number (l.entries ++ l.shared_number) w.values l.parts b in
      let d = split file (10 + length l.number) (l.entries ++ l.shared_number) l.entries l.shared_number w.values refl c.1 in
      let n = past_is file 10 (length ft.names) (10 + length l.number) (number_is file (length ft.names) 10 l.number ((l.entries ++ l.shared_number) ++ w.values) l.numbered c.0) in
      let e = entries_end_lem file es ft.names w.readers l.entries (l.shared_number ++ w.values) (10 + length l.number) i l.listed d.0 (omega arith) in
      end-append file (entries_pieces (take i ft.names)) (number (length (get_or ft.names i [])) ∷ []) (past (seven_at file 10) 10)
      ∙ ap (λ (k : ℕ). past (seven_at file k) k) (ap (end_of file (entries_pieces (take i ft.names))) n ∙ sym e ∙ ap (entries_end file i) (sym n))

  pub starts : (i p : ℕ) → i < length ft.names → Named i p → name_start file i ≡ p
  unfolding EndsAt
  starts i p h (a, c, d, v, e) = sym (start_is i h) ∙ written-end file _ a c 10 v d ∙ sym e

  pub named_at : (i : ℕ) → i < length ft.names → Named i (name_start file i)
  unfolding EndsAt file_pieces
  named_at i h =
      let before = entries_pieces (take i ft.names) in
      let n = number (length (get_or ft.names i [])) in
      let behind = plain (get_or ft.names i [] ++ little 4 0) ∷ entries_pieces (drop (suc i) ft.names) in
      let objects = number (count (shared_of ft.objects)) ∷ tree_pieces ft.objects in
      let e : file_pieces ft ≡ (number (length ft.names) ∷ (before ++ (n ∷ []))) ++ (behind ++ objects)
      = ap (λ (l : List Piece). number (length ft.names) ∷ l)
      (ap (λ (l : List Piece). l ++ objects) (entries_at ft.names i h) ∙ append_assoc before (n ∷ behind) objects ∙ sym (append_assoc before (n ∷ []) (behind ++ objects))) in
      let s = written-split (number (length ft.names) ∷ (before ++ (n ∷ []))) (behind ++ objects) (drop 10 file) (rw e at (file_written es ft file w)) in
      (s.0, s.1, s.2, s.3, sym (start_is i h) ∙ written-end file _ s.0 s.1 10 s.3 s.2)

-- ---- Names rise

module _ (file : List ℕ) (small : Small file) where
  past_least : (at : ℕ) → at ≤ past (seven_at file at) at
  unfolding past
  past_least at = go (seven_at file at) refl where
    go : (x : Answer ℕ) → seven_at file at ≡ x → at ≤ past x at
    go (refused k p) e = omega arith
    go (read n next) e = let b = (seven_next file small at e).0 in omega arith

  behind_least : (x : Answer ℕ) (at : ℕ) → past x at ≤ behind_entry x at
  unfolding behind_entry
  behind_least x at = omega arith

  names_rise : (i : ℕ) → name_start file i ≤ name_start file (suc i)
  unfolding name_start
  names_rise i =
      let start = past (seven_at file 10) 10 in
      let at = entries_end file i start in
      let next = entries_end file (suc i) start in
      omega (arith, behind_least (seven_at file at) at, one_more file i start, past_least next)

  -- ---- 43

  unused_rise : (rows : List Row) (n i : ℕ) → Rise (name_start file i) (unused file rows n i)
  unfolding unused Rise
  unused_rise rows zero i = tt
  unused_rise rows (suc n) i =
      rise_wrong (not (uses (suc i) rows)) (name_start file i) (name_start file i) (unused file rows n (suc i)) (omega arith)
      (rise_from (name_start file i) (name_start file (suc i)) (unused file rows n (suc i)) (names_rise i) (unused_rise rows n (suc i)))

  doubled_rise : (seen readers : List Target) (i : ℕ) → Rise (name_start file i) (doubled file seen readers i)
  unfolding doubled Rise
  doubled_rise seen [] i = tt
  doubled_rise seen (t ∷ readers) i =
      rise_wrong (among t seen) (name_start file i) (name_start file i) (doubled file (t ∷ seen) readers (suc i)) (omega arith)
      (rise_from (name_start file i) (name_start file (suc i)) (doubled file (t ∷ seen) readers (suc i)) (names_rise i) (doubled_rise (t ∷ seen) readers (suc i)))

not_true : (b : Bool) → not b ≡ true → b ≡ true → ⊥
not_true true e f = let z : ◌≡◌ {A = ℕ} 0 1 = cc in omega arith
not_true false e f = let z : ◌≡◌ {A = ℕ} 0 1 = cc in omega arith

true_not : (b : Bool) → (b ≡ true → ⊥) → not b ≡ true
true_not true f = absurd (f refl)
true_not false f = refl

module _ (file : List ℕ) (rows : List Row) where
  abbrev UnusedOf : (n from p : ℕ) → Type 0
  UnusedOf n from p = (i : ℕ) × (from ≤ i) × (i < from + n) × (uses (suc i) rows ≡ true → ⊥) × (name_start file i ≡ p)

  among_unused : (n from p : ℕ) → Among p (unused file rows n from) → UnusedOf n from p
  unfolding unused Among
  among_unused zero from p m = absurd m
  among_unused (suc n) from p m = go (among-append p (wrong_at (not (uses (suc from) rows)) (name_start file from)) (unused file rows n (suc from)) m) (λ x. among_unused n (suc from) p x) where
    go : Among p (wrong_at (not (uses (suc from) rows)) (name_start file from)) ⊎ Among p (unused file rows n (suc from)) → (Among p (unused file rows n (suc from)) → UnusedOf n (suc from) p)
        → UnusedOf (suc n) from p
    go (inl x) f = let y = wrong-among (not (uses (suc from) rows)) (name_start file from) p x in (from, omega arith, omega arith, not_true (uses (suc from) rows) y.0, y.1)
    go (inr x) f = let y = f x in (y.0, (let a = y.1 in omega arith), (let b = y.2 in omega arith), y.3, y.4)

  unused_among : (n from p : ℕ) → UnusedOf n from p → Among p (unused file rows n from)
  unfolding unused Among
  unused_among zero from p (i, a, b, u, e) = absurd (omega arith)
  unused_among (suc n) from p (i, a, b, u, e) =
      append-among p (wrong_at (not (uses (suc from) rows)) (name_start file from)) (unused file rows n (suc from))
      (go (eqb i from) refl (λ h. unused_among n (suc from) p (i, h, omega arith, u, e))) where
        go : (t : Bool) → eqb i from ≡ t → (suc from ≤ i → Among p (unused file rows n (suc from)))
            → Among p (wrong_at (not (uses (suc from) rows)) (name_start file from)) ⊎ Among p (unused file rows n (suc from))
        go true q f =
            let z = eqb-true i from q in
            inl (among-wrong (not (uses (suc from) rows)) (name_start file from) p (true_not (uses (suc from) rows) (rw z at u)) (rw z at e))
        go false q f = inr (f (omega (arith, eqb-false i from q)))

module _ (es : List EnumEntry) (ft : FileTree) (file : List ℕ) (small : Small file) (rows : List Row) (w : FileLays es ft file) (stands : Stand file ft.objects rows) where
  names_count : length w.readers ≡ length ft.names
  names_count = entries-length es ft.names w.readers w.lists.entries w.lists.listed

  -- 43
  pub unused-lowest : Lowest (UnusedAt ft w.readers file rows) (first_place (unused file rows (length w.readers) 0))
  unused-lowest = first_lowest (UnusedAt ft w.readers file rows) (unused file rows (length w.readers) 0) (rise_least (name_start file 0) (unused file rows (length w.readers) 0) (unused_rise file small rows (length w.readers) 0))
      (λ p m. to p (among_unused file rows (length w.readers) 0 p m)) (λ p x. unused_among file rows (length w.readers) 0 p (from p x)) where
        to : (p : ℕ) → UnusedOf file rows (length w.readers) 0 p → UnusedAt ft w.readers file rows p
        to p (i, a, b, u, e) = (
          i,
          omega arith,
          (λ s. u (rw (append-nil rows) at (some-uses file i ft.objects rows [] stands s))),
          rw (← e) (named_at es ft w.readers file rows w i (omega (arith, names_count))),
        )

        from : (p : ℕ) → UnusedAt ft w.readers file rows p → UnusedOf file rows (length w.readers) 0 p
        from p (i, h, u, n) = (
          i,
          omega arith,
          omega arith,
          (λ s. u (one_used (suc i) (uses-some file i ft.objects rows [] stands (rw (append-nil rows) s)))),
          starts es ft w.readers file rows w i p (omega (arith, names_count)) n,
        )

-- ---- 44

among_at : (t : Target) (seen : List Target) → among t seen ≡ true → (i : ℕ) × (i < length seen) × (get_or seen i target.object ≡ t)
unfolding among
among_at t [] e = differ cc
among_at t (u ∷ seen) e = go (targets.same u t) refl e (λ f. among_at t seen f) where
  go : (b : Bool) → targets.same u t ≡ b → (b || among t seen) ≡ true → (among t seen ≡ true → (i : ℕ) × (i < length seen) × (get_or seen i target.object ≡ t))
      → (i : ℕ) × (i < suc (length seen)) × (get_or (u ∷ seen) i target.object ≡ t)
  go true q e f = (0, omega arith, targets.same_true u t q)
  go false q e f = let x = f e in (suc x.0, (let h = x.1 in omega arith), x.2)

at_among : (t : Target) (seen : List Target) (i : ℕ) → i < length seen → get_or seen i target.object ≡ t → among t seen ≡ true
unfolding among
at_among t [] i h e = absurd (omega arith)
at_among t (u ∷ seen) zero h e = rw (e, targets.same_refl t)
at_among t (u ∷ seen) (suc i) h e = or_right (targets.same u t) (among t seen) (at_among t seen i (omega arith) e)

-- reader j of some has the target of one of those seen, or of an earlier one
abbrev Earlier : (seen readers : List Target) (j : ℕ) → Type 0
Earlier seen readers j =
    ((i : ℕ) × (i < length seen) × (get_or seen i target.object ≡ get_or readers j target.object)) ⊎ ((i : ℕ) × (i < j) × (get_or readers i target.object ≡ get_or readers j target.object))

module _ (file : List ℕ) where
  abbrev DoubledOf : (seen readers : List Target) (from p : ℕ) → Type 0
  DoubledOf seen readers from p = (j : ℕ) × (j < length readers) × Earlier seen readers j × (name_start file (from + j) ≡ p)

  among_doubled : (seen readers : List Target) (from p : ℕ) → Among p (doubled file seen readers from) → DoubledOf seen readers from p
  unfolding doubled Among
  among_doubled seen [] from p m = absurd m
  among_doubled seen (t ∷ readers) from p m =
      go (among-append p (wrong_at (among t seen) (name_start file from)) (doubled file (t ∷ seen) readers (suc from)) m) (λ x. among_doubled (t ∷ seen) readers (suc from) p x) where
        later : (j : ℕ) → Earlier (t ∷ seen) readers j → Earlier seen (t ∷ readers) (suc j)
        later j (inl (zero, h, e)) = inr (0, omega arith, e)
        later j (inl (suc i, h, e)) = inl (i, omega arith, e)
        later j (inr (i, h, e)) = inr (suc i, omega arith, e)

        go : Among p (wrong_at (among t seen) (name_start file from)) ⊎ Among p (doubled file (t ∷ seen) readers (suc from))
            → (Among p (doubled file (t ∷ seen) readers (suc from)) → DoubledOf (t ∷ seen) readers (suc from) p) → DoubledOf seen (t ∷ readers) from p
        go (inl x) f =
            let y = wrong-among (among t seen) (name_start file from) p x in
            let z : from + 0 ≡ from = omega arith in
            (0, omega arith, inl (among_at t seen y.0), ap (name_start file) z ∙ y.1)
        go (inr x) f =
            let y = f x in
            let z : from + suc y.0 ≡ suc from + y.0 = omega arith in
            (suc y.0, (let h = y.1 in omega arith), later y.0 y.2, ap (name_start file) z ∙ y.3)

  doubled_among : (seen readers : List Target) (from p : ℕ) → DoubledOf seen readers from p → Among p (doubled file seen readers from)
  unfolding doubled Among
  doubled_among seen [] from p (j, h, a, e) = absurd (omega arith)
  doubled_among seen (t ∷ readers) from p (zero, h, a, e) = append-among p (wrong_at (among t seen) (name_start file from)) (doubled file (t ∷ seen) readers (suc from)) (inl (go a)) where
    go : Earlier seen (t ∷ readers) 0 → Among p (wrong_at (among t seen) (name_start file from))
    go (inl (i, l, q)) = let z : from + 0 ≡ from = omega arith in among-wrong (among t seen) (name_start file from) p (at_among t seen i l q) (rw z at e)
    go (inr (i, l, q)) = absurd (omega arith)
  doubled_among seen (t ∷ readers) from p (suc j, h, a, e) =
      let z : from + suc j ≡ suc from + j = omega arith in
      append-among p (wrong_at (among t seen) (name_start file from)) (doubled file (t ∷ seen) readers (suc from)) (inr (doubled_among (t ∷ seen) readers (suc from) p (j, omega arith, later a, rw z at e))) where
        later : Earlier seen (t ∷ readers) (suc j) → Earlier (t ∷ seen) readers j
        later (inl (i, l, q)) = inl (suc i, omega arith, q)
        later (inr (zero, l, q)) = inl (0, omega arith, q)
        later (inr (suc i, l, q)) = inr (i, omega arith, q)

module _ (es : List EnumEntry) (ft : FileTree) (file : List ℕ) (small : Small file) (rows : List Row) (w : FileLays es ft file) where
  -- 44
  pub doubled-lowest : Lowest (DoubledAt ft w.readers file rows) (first_place (doubled file [] w.readers 0))
  doubled-lowest = first_lowest (DoubledAt ft w.readers file rows) (doubled file [] w.readers 0) (rise_least (name_start file 0) (doubled file [] w.readers 0) (doubled_rise file small [] w.readers 0))
      (λ p m. to p (among_doubled file [] w.readers 0 p m)) (λ p x. doubled_among file [] w.readers 0 p (from p x)) where
        names_count : length w.readers ≡ length ft.names
        names_count = entries-length es ft.names w.readers w.lists.entries w.lists.listed

        to : (p : ℕ) → DoubledOf file [] w.readers 0 p → DoubledAt ft w.readers file rows p
        to p (j, h, inl (i, l, q), e) = absurd (omega arith)
        to p (j, h, inr (i, l, q), e) =
            let z : 0 + j ≡ j = omega arith in
            let f : name_start file j ≡ p = ap (name_start file) (sym z) ∙ e in
            (i, j, l, h, q, rw (← f) (named_at es ft w.readers file rows w j (omega (arith, names_count))))

        from : (p : ℕ) → DoubledAt ft w.readers file rows p → DoubledOf file [] w.readers 0 p
        from p (i, j, l, h, q, n) =
            let z : 0 + j ≡ j = omega arith in
            (j, h, inr (i, l, q), ap (name_start file) z ∙ starts es ft w.readers file rows w j p (omega (arith, names_count)) n)
