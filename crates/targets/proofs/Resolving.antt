-- What `resolve` returns. Assumes nothing.
use mathlib.Core.Path.{◌≡◌, refl, sym, ap, ◌∙◌}
use mathlib.Core.Bool.{Bool, true, false, cond}
use mathlib.Core.List.{List, [], ◌∷◌, ◌++◌, append_assoc}
use Prim.Native.Nat.{ℕ, suc, ◌+◌, ◌-◌, ◌%◌, ◌≤◌, ◌<◌}
use native.Mathlib.Omega.{arith}
use lib.Dec.{eqb, leb}
use lib.ListN.{length, take, drop, get_or, set, replicate, length-replicate}
use lib.Seq.{sets, sets-eq, length-sets, length-take-le, drop-append_seam, take-append_seam, get_or-drop, set-set, set_comm}
use borrow.Author.Tests.{leb-true, le-leb, lt-leb}
use Rattle.laws.specs.Small.{differ, both}
use Rattle.layout.specs.Name.{Name, simple, one, two, write}
use Rattle.layout.specs.EnumList.{EnumEntry, EnumSize, size_in}
use Rattle.layout.specs.Named.{Typed, unknown, known, reader_of}
use Rattle.layout.specs.Complaint.{is_known, reader_faults, leftmost}
use Rattle.std.specs.Prelude.{Ok as Result-ok, Err, Some, None}
use Rattle.answers.specs.Refusals.{refusal}
use Rattle.names.specs.declared.parse.Unnamed.{Unnamed}
use Rattle.names.specs.declared.parse.Unnamed.TheVariants.{Broken as Unnamed-broken, NoRoom as Unnamed-no-room}
use Rattle.names.specs.Parse.{Read, broken, name, name_of}
use Rattle.names.specs.Laws.{read_is_text}
use Rattle.names.specs.Contract.{coded, refused, no_room, placed, ending, answer_of, content_of, ReadsName}
use Rattle.names.specs.Codes.{codes-length}
use Rattle.names.specs.Heading.{headings}
use Rattle.names.specs.Kind.{codes}
use Rattle.targets.specs.declared.Unresolved.TheVariants.{Broken, Unknown, NoRoom}
use Rattle.targets.specs.Code.{code_size}
use Rattle.targets.specs.Coded.{Ok, Leaves, reader-coded}
use Rattle.targets.specs.Extent.{code_size_lem}
use Rattle.targets.specs.Judge.{bad_reader, complaint}
use Rattle.targets.specs.Complaints.{fine, reader-fine}
use Rattle.targets.specs.Contract.{judged, unresolved, resolution, enum_word, settled, settled_size, left, content, Resolves}
use Rattle.targets.specs.Settling.{is_enums, Settles}
use Rattle.targets.proofs.Judging.{reader-judged}

-- the part of a list that was just written
behind : (c ws : List ℕ) (used : ℕ) → used + length ws ≤ length c → drop used (sets c used ws) ≡ ws ++ drop (used + length ws) c
behind c ws used h =
    let l : length (take used c) ≡ used = length-take-le used c (omega arith) in
    let r = drop (used + length ws) c in
    let e : sets c used ws ≡ take used c ++ (ws ++ r) = sets-eq ws c used h ∙ append_assoc (take used c) ws r in
    ap (drop used) e ∙ ap (λ (k : ℕ). drop k (take used c ++ (ws ++ r))) (sym l) ∙ drop-append_seam (take used c) (ws ++ r)

part_is : (c ws : List ℕ) (used : ℕ) → used + length ws ≤ length c → take (length ws) (drop used (sets c used ws)) ≡ ws
part_is c ws used h = ap (take (length ws)) (behind c ws used h) ∙ take-append_seam ws (drop (used + length ws) c)

-- a store before a run of stores
sets_before : (c ws : List ℕ) (i j x : ℕ) → i < j → set (sets c j ws) i x ≡ sets (set c i x) j ws
sets_before c [] i j x h = refl
sets_before c (w ∷ ws) i j x h = sets_before (set c j w) ws i (suc j) x (omega arith) ∙ ap (λ (l : List ℕ). sets l (suc j) ws) (set_comm c j i w x (λ q. omega arith))

-- the first of a run of stores anew
sets_first : (c ws : List ℕ) (i w x : ℕ) → set (sets c i (w ∷ ws)) i x ≡ sets c i (x ∷ ws)
sets_first c ws i w x = sets_before (set c i w) ws i (suc i) x (omega arith) ∙ ap (λ (l : List ℕ). sets l (suc i) ws) (set-set c i w x)

-- what stands in a run of stores
stored : (c ws : List ℕ) (used j : ℕ) → used + length ws ≤ length c → get_or (sets c used ws) (used + j) 0 ≡ get_or (ws ++ drop (used + length ws) c) j 0
stored c ws used j h = sym (get_or-drop used (sets c used ws) j 0) ∙ ap (λ (l : List ℕ). get_or l j 0) (behind c ws used h)

-- the target's codes are put in their place
settle_is : (c c' c'' ws : List ℕ) (used end r : ℕ) → c' ≡ sets c used ws → used + length ws ≤ length c → end ≡ used + length ws → Settles c' c'' used end r
    → (c'' ≡ sets c used (settled ws)) × (r ≡ used + settled_size ws)
unfolding is_enums settled settled_size
settle_is c c' c'' [] used end r w h e s =
    let b = lt-leb (used + 2) end (omega arith) in
    let z : end ≡ used + 0 = e in
    (s.writes ∙ rw b w, s.ends ∙ rw b e)
settle_is c c' c'' (x ∷ []) used end r w h e s =
    let b = lt-leb (used + 2) end (omega arith) in
    (s.writes ∙ rw b w, s.ends ∙ rw b e)
settle_is c c' c'' (x ∷ v ∷ ws) used end r w h e s =
    let b = le-leb (used + 2) end (omega arith) in
    let us = x ∷ v ∷ ws in
    let p : get_or c' used 0 ≡ x = ap (λ (k : ℕ). get_or c' k 0) (let z : used ≡ used + 0 = omega arith in z) ∙ ap (λ (l : List ℕ). get_or l (used + 0) 0) w ∙ stored c us used 0 h in
    let q : get_or c' (used + 1) 0 ≡ v = ap (λ (l : List ℕ). get_or l (used + 1) 0) w ∙ stored c us used 1 h in
    go (eqb (x % 256) 79) (s.writes ∙ rw (b, p, q)) (s.ends ∙ rw (b, p)) where
      go : (y : Bool) → c'' ≡ cond y (set c' used (enum_word v)) c' → r ≡ cond y (used + 1) end
          → (c'' ≡ sets c used (cond y (enum_word v ∷ v ∷ ws) (x ∷ v ∷ ws))) × (r ≡ used + cond y 1 (2 + length ws))
      go true i j = (i ∙ ap (λ (l : List ℕ). set l used (enum_word v)) w ∙ sets_first c (v ∷ ws) used x (enum_word v), j)
      go false i j = (i ∙ w, j ∙ e ∙ (let z : used + suc (suc (length ws)) ≡ used + (2 + length ws) = omega arith in z))

some_heads : (at : ℕ) (n : Name) → 1 ≤ length (headings at n)
unfolding headings
some_heads at (simple h t) = omega arith
some_heads at (one h a t) = omega arith
some_heads at (two h a b t) = omega arith

module _ (es : List EnumEntry) (sized : (h : List ℕ) → (size_in es h ≡ 0 → ⊥) → EnumSize (size_in es h)) (s : List ℕ) (at : ℕ) (c c' : List ℕ) (used : ℕ) where
  no_room_as : (b : Bool) (r : Read) → placed s at used ≡ b → name_of at s ≡ r → no_room ≡ answer_of b (length c) at used r → c' ≡ content_of b es c at used r → Resolves es s at c c' used (Err NoRoom)
  unfolding answer_of content_of resolution content ending
  no_room_as false r q i a w = record { answers = rw q; writes = w ∙ rw q }
  no_room_as true (broken m p hs) q i a w = differ cc
  no_room_as true (name n k) q i a w = go (leb (used + length (headings at n)) (length c)) refl a where
    go : (b : Bool) → leb (used + length (headings at n)) (length c) ≡ b → no_room ≡ cond b (coded (used + length (headings at n))) no_room → Resolves es s at c c' used (Err NoRoom)
    go true d a = differ cc
    go false d a = record { answers = rw (q, i, d); writes = w ∙ rw (q, i, d) }

  broken_as : (number place : ℕ) (b : Bool) (r : Read) → placed s at used ≡ b → name_of at s ≡ r → refused number place ≡ answer_of b (length c) at used r → c' ≡ content_of b es c at used r
      → Resolves es s at c c' used (Err (Broken (refusal number place)))
  unfolding answer_of content_of resolution content ending
  broken_as number place false r q i a w = differ cc
  broken_as number place true (broken m p hs) q i a w =
      let x : number ≡ m = cc in
      let y : place ≡ p = cc in
      record { answers = rw (q, i, x, y); writes = w ∙ rw (q, i) }
  broken_as number place true (name n k) q i a w = go (leb (used + length (headings at n)) (length c)) a where
    go : (b : Bool) → refused number place ≡ cond b (coded (used + length (headings at n))) no_room → Resolves es s at c c' used (Err (Broken (refusal number place)))
    go true a = differ cc
    go false a = differ cc

  -- a whole name was read
  pub record Got (end : ℕ) : Type 0 where
    pub n : Name
    pub k : ℕ
    pub there : placed s at used ≡ true
    pub is : name_of at s ≡ name n k
    pub ends : end ≡ used + length (headings at n)
    pub room : end ≤ length c
    pub writes : c' ≡ sets c used (codes es true (headings at n))
    pub within : end ≤ length c'
    pub part : take (end - used) (drop used c') ≡ codes es true (headings at n)

  got_as : (end : ℕ) (b : Bool) (r : Read) → placed s at used ≡ b → name_of at s ≡ r → coded end ≡ answer_of b (length c) at used r → c' ≡ content_of b es c at used r → Got end
  unfolding answer_of content_of ending
  got_as end false r q i a w = differ cc
  got_as end true (broken m p hs) q i a w = differ cc
  got_as end true (name n k) q i a w = go (leb (used + length (headings at n)) (length c)) refl a where
    go : (b : Bool) → leb (used + length (headings at n)) (length c) ≡ b → coded end ≡ cond b (coded (used + length (headings at n))) no_room → Got end
    go false d a = differ cc
    go true d a =
        let ws = codes es true (headings at n) in
        let e : end ≡ used + length (headings at n) = cc in
        let l : length ws ≡ length (headings at n) = codes-length es true (headings at n) in
        let h = leb-true (used + length (headings at n)) (length c) d in
        let z : end - used ≡ length ws = omega arith in
        record {
          n = n;
          k = k;
          there = q;
          is = i;
          ends = e;
          room = omega arith;
          writes = w;
          within = omega (arith, ap length w, length-sets c used ws);
          part = ap (λ (j : ℕ). take j (drop used c')) z ∙ ap (λ (x : List ℕ). take (length ws) (drop used x)) w ∙ part_is c ws used (omega arith);
        }

  pub used-small : {end : ℕ} → Got end → used ≤ 16777216
  unfolding placed
  used-small g = leb-true used 16777216 (both (leb used 16777216) (leb (at + length s) 16777216) g.there).0

  -- there is room for its codes
  fits : {end : ℕ} (g : Got end) → leb (used + length (headings at g.n)) (length c) ≡ true
  fits g = le-leb (used + length (headings at g.n)) (length c) (omega (arith, g.ends, g.room))

  unknown_as : {end : ℕ} (g : Got end) (place : ℕ) (r : Typed) → reader_of es g.n ≡ r → is_known r ≡ false → place ≡ leftmost (reader_faults es at g.n) → Resolves es s at c c' used (Err (Unknown place))
  unfolding resolution content judged left is_known ending
  unknown_as g place unknown q e l = record { answers = rw (g.there, g.is, fits g, q, l); writes = g.writes ∙ rw (g.there, g.is, fits g, q) }
  unknown_as g place (known t) q e l = differ cc

  known_as : {end : ℕ} (g : Got end) (c'' : List ℕ) (r : ℕ) → Settles c' c'' used end r → (x : Typed) → reader_of es g.n ≡ x
      → (file : List ℕ) → Ok (Leaves file (codes es true (headings at g.n))) x → is_known x ≡ true → Resolves es s at c c'' used (Result-ok r)
  unfolding resolution content judged left is_known ending
  known_as g c'' r v unknown q file o e = differ cc
  known_as {end} g c'' r v (known t) q file o e =
      let ws = codes es true (headings at g.n) in
      let p = o.got refl in
      let l = codes-length es true (headings at g.n) in
      let m = settle_is c c' c'' ws used end r g.writes (omega (arith, g.ends, g.room)) (omega (arith, g.ends)) v in
      let z : r ≡ used + code_size t = m.1 ∙ ap (λ (k : ℕ). used + k) (sym p.sized ∙ code_size_lem file t p.words p.coded) in
      record { answers = rw (g.there, g.is, fits g, q, z); writes = m.0 ∙ rw (g.there, g.is, fits g, q) }

  pub unnamed_is : (e : Unnamed) → ReadsName es s at c c' used (Err e) → Resolves es s at c c' used (Err (unresolved e))
  unnamed_is (Unnamed-broken x) p = broken_as x.number x.place (placed s at used) (name_of at s) refl refl p.answers p.writes
  unnamed_is Unnamed-no-room p = no_room_as (placed s at used) (name_of at s) refl refl p.answers p.writes

  pub got_is : {end : ℕ} → ReadsName es s at c c' used (Result-ok end) → Got end
  got_is {end} p = got_as end (placed s at used) (name_of at s) refl refl p.answers p.writes

  -- a file in which the name stands there
  standing : {end : ℕ} (g : Got end) → drop at (replicate at 0 ++ s) ≡ write g.n []
  standing g = ap (λ (k : ℕ). drop k (replicate at 0 ++ s)) (sym (length-replicate at 0)) ∙ drop-append_seam (replicate at 0) s ∙ (read_is_text at s g.n g.k g.is).1

  -- what the judge says of the codes that were written
  judge_is : {end : ℕ} (g : Got end) → complaint (bad_reader (take (end - used) (drop used c'))) ≡ complaint (reader_faults es at g.n)
  judge_is g = ap (λ (l : List ℕ). complaint (bad_reader l)) g.part ∙ ap complaint (reader-judged es sized g.n at)

  by_complaint : (ps : List ℕ) (place : ℕ) → complaint ps ≡ Some place → (fine ps ≡ false) × (place ≡ leftmost ps)
  unfolding fine leftmost
  by_complaint [] place e = differ cc
  by_complaint (p ∷ ps) place e = (refl, cc)

  no_complaint : (ps : List ℕ) → complaint ps ≡ None → fine ps ≡ true
  unfolding fine
  no_complaint [] e = refl
  no_complaint (p ∷ ps) e = differ cc

  pub unknown_is : {end : ℕ} → Got end → (place : ℕ) → complaint (bad_reader (take (end - used) (drop used c'))) ≡ Some place → Resolves es s at c c' used (Err (Unknown place))
  unknown_is g place e =
      let x = by_complaint (reader_faults es at g.n) place (sym (judge_is g) ∙ e) in
      unknown_as g place (reader_of es g.n) refl (sym (reader-fine es g.n at) ∙ x.0) x.1

  pub known_is : {end : ℕ} → Got end → complaint (bad_reader (take (end - used) (drop used c'))) ≡ None → {c'' : List ℕ} {r : ℕ} → Settles c' c'' used end r → Resolves es s at c c'' used (Result-ok r)
  known_is g e {c''} {r} v =
      let file = replicate at 0 ++ s in
      known_as g c'' r v (reader_of es g.n) refl file (reader-coded file es sized 8 at g.n [] (read_is_text at s g.n g.k g.is).0 (standing g))
      (sym (reader-fine es g.n at) ∙ no_complaint (reader_faults es at g.n) (sym (judge_is g) ∙ e))

  -- a name has a code
  pub some-codes : {end : ℕ} → Got end → used < end
  some-codes {end} g = omega (arith, g.ends, some_heads at g.n)
