-- Typed text never steers (02, Req 12): two files that differ in typed text alone are read alike, whether they are accepted or refused. Assumes nothing.
use Rattle.std.specs.Prelude.{◌≡◌, ◌⊎◌, leb, eqb, get_or, drop}
use Rattle.std.proofs.Math.Path.{refl, sym, ap}
use Rattle.std.proofs.Common.{◌∙◌, inl, inr, arith, length-drop}
use mathlib.Core.List.{List, [], ◌∷◌}
use Prim.Native.Nat.{ℕ, zero, suc, ◌+◌, ◌-◌, ◌<◌, min}
use Rattle.std.proofs.Math.ListN.{length, take, length-take}
use Rattle.std.proofs.Math.Seq.{ext_get_or, get_or-drop, get_or-take}
use Rattle.layout.specs.Target.{Target}
use Rattle.layout.specs.File.{objects_plan}
use Rattle.layout.specs.Table.{room_of}
use Rattle.reading.specs.Answer.{Answer, refused, read, bind, check, several, within}
use Rattle.reading.specs.Reads.{Small, some}
use Rattle.reading.specs.Seven.{seven_at}
use Rattle.reading.specs.Little.{little_at}
use Rattle.reading.specs.Resource.{suits}
use Rattle.reading.specs.Drafts.{Draft}
use Rattle.reading.specs.Walk.{Taken, walk}
use Rattle.reading.specs.Front.{header-sound}
use Rattle.reading.specs.File.{header_at, Named, unknown, known, judge, root_kinds, judged, Loaded, objects_at, finished, reader_at, readers_at, lists_at, file_at, to_load, load_of}
use Rattle.retyped.specs.Texts.{Span, SequenceText, WalkText, FileText, In, InText, Retyped, EachRead}
use Rattle.retyped.specs.Twin.{Behind, ends_at, no_end, WasRead, SameBy, both_refused, both_read, same_equal, Covered, typed as covers, behind, InSome, Agree, Overlap, Twin, Wordless, Quiet, wordless, twin-read, twin-refused, twin_then, then_twin, quiet_check, quiet_bind, tail_same, plainly}
use Rattle.retyped.specs.Leaves.{some-twin, seven-twin, little-twin}
use Rattle.retyped.specs.Alike.{Alike, TakenAlike, taken_own}
use Rattle.retyped.specs.Walks.{sequence-twin}
use Rattle.retyped.proofs.Walks.{walk-twin}
use Rattle.retyped.specs.Files.{LoadedAlike}

module _ (f g : List ℕ) (small : Small f) (equal : length f ≡ length g) where
  -- ---- The header

  -- ten bytes that are the same give the same header
  same_header : ((i : ℕ) → i < 10 → get_or f i 0 ≡ get_or g i 0) → header_at f ≡ header_at g
  unfolding header_at
  same_header h =
      let l : length (take 4 (drop 6 f)) ≡ length (take 4 (drop 6 g)) = length-take 4 (drop 6 f) ∙ ap (min 4) (length-drop 6 f ∙ ap (λ (n : ℕ). n - 6) equal ∙ sym (length-drop 6 g)) ∙ sym (length-take 4 (drop 6 g)) in
      let four : take 4 (drop 6 f) ≡ take 4 (drop 6 g) = ext_get_or 0 (take 4 (drop 6 f)) (take 4 (drop 6 g)) l (λ i k.
      let m : i < 4 = omega (arith, length-take 4 (drop 6 f)) in
      get_or-take 4 (drop 6 f) i 0 m ∙ get_or-drop 6 f i 0 ∙ h (6 + i) (omega arith) ∙ sym (get_or-drop 6 g i 0) ∙ sym (get_or-take 4 (drop 6 g) i 0 m)) in
      rw (equal, four, h 0 (omega arith), h 1 (omega arith), h 2 (omega arith), h 3 (omega arith), h 4 (omega arith), h 5 (omega arith))

  header_twin : Quiet f g 0 (header_at f) (header_at g)
  header_twin = wordless f g (λ s b. omega arith) (λ h. same_equal (header_at f) (header_at g) (go (header_at f) refl h)) where
    go : (o : Answer (ℕ × ℕ)) → header_at f ≡ o → Agree f g (λ x. ⊥) (header_at f) 0 → header_at f ≡ header_at g
    go (refused n p) q h = ap header_at (tail_same f g equal 0 (λ i l. plainly f g i (λ x t. t) (λ b. no_end (header_at f) n p q i b) h l))
    go (read a e) q h =
        let ten : e ≡ 10 = ((header-sound f small).got q).0 in
        same_header (λ i l. plainly f g i (λ x t. t) (λ b. omega (arith, ends_at (header_at f) a e q i b)) h (omega arith))

  -- ---- The lists

  module _ (name_of : ℕ → List ℕ → Named) where
    judge_twin : (x : Named) (at : ℕ) → Quiet f g at (judge x at) (judge x at)
    unfolding judge
    judge_twin (unknown n p) at = twin-refused f g
    judge_twin (known t) at = twin-read f g refl

    entry_twin : (at : ℕ) → Quiet f g at (reader_at name_of f at) (reader_at name_of g at)
    unfolding reader_at
    entry_twin at =
        quiet_bind f g (seven_at f at) (seven_at g at) _ _ (seven-twin f g small equal at) (λ n first q. quiet_check f g (within 1024 n) 9 at _ _ (λ b.
        quiet_bind f g (some f n at first) (some g n at first) _ _ (some-twin f g small equal n at first) (λ name end q. quiet_bind f g (judge (name_of first name) end) (judge (name_of first name) end) _ _ (judge_twin (name_of first name) end) (λ t version q.
        quiet_bind f g (little_at f 4 version version) (little_at g 4 version version) (λ v next. check (eqb v 0) 12 version (read (name, t) next)) (λ v next. check (eqb v 0) 12 version (read (name, t) next)) (little-twin f g small equal 4 version version)
        (λ v next q. quiet_check f g (eqb v 0) 12 version (read (name, t) next) (read (name, t) next) (λ b. twin-read f g refl))))))

    entries_twin : (n at : ℕ) → Quiet f g at (readers_at name_of f n at) (readers_at name_of g n at)
    unfolding readers_at several
    entries_twin zero at = twin-read f g refl
    entries_twin (suc n) at =
        quiet_bind f g (reader_at name_of f at) (reader_at name_of g at) _ _ (entry_twin at) (λ a e q.
        quiet_bind f g (readers_at name_of f n e) (readers_at name_of g n e) (λ l next. read (a.0 ∷ l.0, a.1 ∷ l.1) next) (λ l next. read (a.0 ∷ l.0, a.1 ∷ l.1) next) (entries_twin n e) (λ l next q. twin-read f g refl))

    lists_twin : (at : ℕ) → Quiet f g at (lists_at name_of f at) (lists_at name_of g at)
    unfolding lists_at
    lists_twin at =
        quiet_bind f g (seven_at f at) (seven_at g at) _ _ (seven-twin f g small equal at) (λ n e q. quiet_check f g (leb n 64) 9 at _ _ (λ b.
        quiet_bind f g (readers_at name_of f n e) (readers_at name_of g n e) _ _ (entries_twin n e) (λ l shared q.
        quiet_bind f g (seven_at f shared) (seven_at g shared) (λ s next. check (leb s 256) 9 shared (read (l.0, l.1, s) next)) (λ s next. check (leb s 256) 9 shared (read (l.0, l.1, s) next)) (seven-twin f g small equal shared)
        (λ s next q. quiet_check f g (leb s 256) 9 shared (read (l.0, l.1, s) next) (read (l.0, l.1, s) next) (λ b. twin-read f g refl)))))

    -- ---- The objects, and the end

    objects_twin : (room : ℕ) (readers : List Target) (shared at : ℕ)
        → Twin f g TakenAlike (SequenceText (λ y a u. walk f readers shared room 32 y a u 0) (λ y a u z. WalkText f readers shared room 32 y a u z) (objects_plan shared) at 0)
        (SequenceText (λ y a u. walk g readers shared room 32 y a u 0) (λ y a u z. WalkText g readers shared room 32 y a u z) (objects_plan shared) at 0) at
        (objects_at f room readers shared at) (objects_at g room readers shared at)
    unfolding objects_at
    objects_twin room readers shared at =
        sequence-twin f g (λ y a u. walk f readers shared room 32 y a u 0) (λ y a u. walk g readers shared room 32 y a u 0) (λ y a u z. WalkText f readers shared room 32 y a u z) (λ y a u z. WalkText g readers shared room 32 y a u z)
        (λ y a u. walk-twin f g small equal readers shared room 32 y a u 0) (objects_plan shared) at 0

    judged_twin : {A : Type 0} {R : A → A → Type 0} {at : ℕ} (kinds : List ℕ) (rows : List Draft) (o o' : Answer A) → Wordless f g R at o o' → Wordless f g R at (judged kinds rows o) (judged kinds rows o')
    unfolding judged
    judged_twin kinds [] o o' h = h
    judged_twin kinds (d ∷ rows) o o' h =
        quiet_check f g (suits kinds d.wants d.row.detail) 17 d.row.first (judged kinds rows o) (judged kinds rows o') (λ b. judged_twin kinds rows o o' h)

    abbrev loaded : (platform flags : ℕ) (names : List (List ℕ)) (readers shared : ℕ) → Taken → Loaded
    loaded platform flags names readers shared a =
        record { tree = record { platform = platform; flags = flags; names = names; objects = a.2 }; rows = a.1; readers = readers; shared = shared }

    finished_twin : (platform flags : ℕ) (names : List (List ℕ)) (readers shared : ℕ) (a a' : Taken) (e : ℕ) → TakenAlike a a'
        → Wordless f g LoadedAlike e (finished f platform flags names readers shared a e) (finished g platform flags names readers shared a' e)
    unfolding finished
    finished_twin platform flags names readers shared a a' e w =
        rw (← equal, ← w.1) (quiet_check f g (eqb e (length f)) 20 e _ _ (λ b.
        judged_twin (drop 1 (root_kinds a.1)) a.1 (read (loaded platform flags names readers shared a) e) (read (loaded platform flags names readers shared (a.0, a.1, a'.2)) e)
        (twin-read f g {a = loaded platform flags names readers shared a} {a' = loaded platform flags names readers shared (a.0, a.1, a'.2)}
        (record { rows = refl; readers = refl; shared = refl; platform = refl; flags = refl; names = refl; objects = w.2 }))))

    -- ---- The whole file

    -- the texts among the objects, once the lists were read, and behind the header
    abbrev ObjectsText : List ℕ → (room : ℕ) (l : List (List ℕ) × List Target × ℕ) (first : ℕ) → Span → Type 0
    ObjectsText file room l first x =
        SequenceText (λ y a u. walk file l.1 l.2 room 32 y a u 0) (λ y a u z. WalkText file l.1 l.2 room 32 y a u z) (objects_plan l.2) first 0 x

    abbrev ListsText : List ℕ → (room at : ℕ) → Span → Type 0
    ListsText file room at x = (l : List (List ℕ) × List Target × ℕ) × (first : ℕ) × (lists_at name_of file at ≡ read l first) × ObjectsText file room l first x

    abbrev behind_lists : List ℕ → (room : ℕ) (h : ℕ × ℕ) (l : List (List ℕ) × List Target × ℕ) (first : ℕ) → Answer Loaded
    behind_lists file room h l first = bind (objects_at file room l.1 l.2 first) (λ a e. finished file h.0 h.1 l.0 (length l.1) l.2 a e)

    abbrev behind_header : List ℕ → (room : ℕ) (h : ℕ × ℕ) (at : ℕ) → Answer Loaded
    behind_header file room h at = bind (lists_at name_of file at) (behind_lists file room h)

    behind_lists_lem : (room : ℕ) (h : ℕ × ℕ) (l : List (List ℕ) × List Target × ℕ) (first : ℕ)
        → Twin f g LoadedAlike (ObjectsText f room l first) (ObjectsText g room l first) first (behind_lists f room h l first) (behind_lists g room h l first)
    behind_lists_lem room h l first =
        twin_then f g (ObjectsText f room l first) (ObjectsText g room l first) (objects_at f room l.1 l.2 first) (objects_at g room l.1 l.2 first)
        (λ a e. finished f h.0 h.1 l.0 (length l.1) l.2 a e) (λ a e. finished g h.0 h.1 l.0 (length l.1) l.2 a e) taken_own (objects_twin room l.1 l.2 first)
        (λ a a' e q w. finished_twin h.0 h.1 l.0 (length l.1) l.2 a a' e w)

    behind_header_lem : (room : ℕ) (h : ℕ × ℕ) (at : ℕ) → Twin f g LoadedAlike (ListsText f room at) (ListsText g room at) at (behind_header f room h at) (behind_header g room h at)
    behind_header_lem room h at =
        then_twin f g (ObjectsText f room) (ObjectsText g room) (lists_at name_of f at) (lists_at name_of g at) (behind_lists f room h) (behind_lists g room h) (lists_twin at)
        (λ l first q. behind_lists_lem room h l first)

    pub file_twin : (room : ℕ) → Twin f g LoadedAlike (FileText name_of room f) (FileText name_of room g) 0 (file_at name_of f room) (file_at name_of g room)
    unfolding file_at FileText
    file_twin room =
        then_twin f g (λ h at. ListsText f room at) (λ h at. ListsText g room at) (header_at f) (header_at g) (behind_header f room) (behind_header g room) header_twin
        (λ h at q. behind_header_lem room h at)

module _ (name_of : ℕ → List ℕ → Named) (f g : List ℕ) (room : ℕ) (small : Small f) (r : Retyped (FileText name_of room) f g) where
  agree : Agree f g (FileText name_of room f) (file_at name_of f room) 0
  agree i l = go (r.elsewhere i) where
    go : (get_or f i 0 ≡ get_or g i 0) ⊎ InText (FileText name_of room) f g i → (get_or f i 0 ≡ get_or g i 0) ⊎ Covered g (FileText name_of room f) (file_at name_of f room) i
    go (inl e) = inl e
    go (inr c) = inr (covers c.span c.inside c.typed c.valid)

  -- the same fault with the same number and place, or the same rows with trees that are alike
  pub files-alike : SameBy LoadedAlike (file_at name_of f room) (file_at name_of g room)
  files-alike = (file_twin f g small r.as_long name_of room).same agree

  -- the second walk reads the same texts
  pub texts-kept : (x : Span) → FileText name_of room f x → FileText name_of room g x
  texts-kept = (file_twin f g small r.as_long name_of room).kept agree

  -- and no other
  pub texts_same : (x : Span) → FileText name_of room g x → FileText name_of room f x
  texts_same = (file_twin f g small r.as_long name_of room).back agree

  -- "counts .. equal": where a text of the first walk and a text of the second have a byte in common, they are one text
  pub one_text : (i : ℕ) (x y : Span) → In i x → In i y → FileText name_of room f x → FileText name_of room g y → x ≡ y
  one_text i x y j k t u = (file_twin f g small r.as_long name_of room).single i x y j k t (texts_same y u)

-- 02's widest reading is enough: where a byte that differs stands in a text of each walk, the second file has valid text where the first walk reads it
module _ (name_of : ℕ → List ℕ → Named) (f g : List ℕ) (room : ℕ) (small : Small f) (r : EachRead (FileText name_of room) f g) where
  overlap : Overlap f g (FileText name_of room f) (FileText name_of room g) (file_at name_of f room) (file_at name_of g room) 0
  overlap i l = go (r.elsewhere i) where
    go : (get_or f i 0 ≡ get_or g i 0) ⊎ (InSome (FileText name_of room f) i × InSome (FileText name_of room g) i)
        → (get_or f i 0 ≡ get_or g i 0) ⊎ ((InSome (FileText name_of room f) i ⊎ Behind (file_at name_of f room) i) × (InSome (FileText name_of room g) i ⊎ WasRead (file_at name_of g room)))
    go (inl e) = inl e
    go (inr w) = inr (inl w.0, inl w.1)

  pub each_read : Retyped (FileText name_of room) f g
  each_read = record { as_long = r.as_long; elsewhere = λ i. go i (r.elsewhere i) ((file_twin f g small r.as_long name_of room).agreed overlap i (omega arith)) } where
    go : (i : ℕ) → (get_or f i 0 ≡ get_or g i 0) ⊎ (InSome (FileText name_of room f) i × InSome (FileText name_of room g) i)
        → (get_or f i 0 ≡ get_or g i 0) ⊎ Covered g (FileText name_of room f) (file_at name_of f room) i → (get_or f i 0 ≡ get_or g i 0) ⊎ InText (FileText name_of room) f g i
    go i (inl e) c = inl e
    go i (inr w) (inl e) = inl e
    go i (inr w) (inr (covers x j t v)) = inr (record { span = x; inside = j; typed = t; valid = v })
    go i (inr w) (inr (behind b)) =
        let x = w.0 in
        absurd (omega (arith, ((file_twin f g small r.as_long name_of room).lies x.0 x.2).1 i b, x.1.1))

-- "answer, place, rows .. are the same", for every number of words lent that gives this room
pub never_steers : (name_of : ℕ → List ℕ → Named) (f g : List ℕ) (n m : ℕ) → Small f → room_of n ≡ room_of m → Retyped (FileText name_of (room_of n)) f g → load_of name_of f n ≡ load_of name_of g m
unfolding load_of to_load
never_steers name_of f g n m small room r =
    rw (← room) (go (file_at name_of f (room_of n)) (file_at name_of g (room_of n)) (files-alike name_of f g (room_of n) small r)) where
      go : (o o' : Answer Loaded) → SameBy LoadedAlike o o' → to_load o ≡ to_load o'
      go o o' both_refused = refl
      go o o' (both_read w) = rw (w.rows, w.readers, w.shared)
