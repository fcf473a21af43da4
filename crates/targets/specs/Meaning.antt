-- What an answer of `resolve` says of the name: exactly which names are refused and why, and what stands in the codes otherwise. Assumes nothing.
use Rattle.std.specs.Prelude.{◌≡◌, Result, Bool, ◌&&◌, cond, ◌⊎◌, ℕ, ◌+◌, ◌*◌, ◌%◌, ◌≤◌, ◌<◌, eqb, drop}
use Rattle.std.proofs.Math.Path.{refl, ap}
use Rattle.std.proofs.Common.{sym, ◌∙◌, inl, inr, arith}
use Rattle.std.proofs.Math.Bool.{true, false}
use mathlib.Core.List.{List, [], ◌∷◌, ◌++◌}
use Rattle.std.proofs.Math.Dec.{leb}
use Rattle.std.proofs.Math.ListN.{length}
use Rattle.std.proofs.lemmas.List.Edits.{sets}
use borrow.Author.Tests.{leb-true, leb-false, le-leb}
use Rattle.laws.specs.Small.{differ}
use Rattle.layout.specs.Target.{Target}
use Rattle.layout.specs.Name.{Name, text, Formed, long}
use Rattle.layout.specs.EnumList.{EnumEntry, EnumSize, size_in}
use Rattle.layout.specs.Named.{Typed, unknown, known, reader_of}
use Rattle.layout.specs.Fault.{Fault}
use Rattle.layout.specs.Complaint.{reader_faults, leftmost}
use Rattle.names.specs.Parse.{Read, broken, name, name_of}
use Rattle.names.specs.Complete.{write-append, length-write}
use Rattle.names.specs.Laws.{read_is_text, broken_is_no_text}
use Rattle.names.specs.Faults.{faults, fault_number_lem}
use Rattle.names.specs.Codes.{read_is_few, codes-length}
use Rattle.names.specs.Contract.{coded, refused, no_room, placed, ending}
use Rattle.names.specs.Heading.{headings}
use Rattle.names.specs.Kind.{codes}
use Rattle.targets.specs.declared.Unresolved.{Unresolved}
use Rattle.targets.specs.Code.{code_size, Stands}
use Rattle.targets.specs.Coded.{reader-coded}
use Rattle.targets.specs.Laws.{written_stands}
use Rattle.targets.specs.Complaints.{leftmost-within}
use Rattle.targets.specs.Contract.{told, judged, resolution, enum_word, settled, left, content, Resolves}

pub settled-length : (ws : List ℕ) → length (settled ws) ≡ length ws
unfolding settled
settled-length [] = refl
settled-length (w ∷ []) = refl
settled-length (w ∷ v ∷ ws) = go (eqb (w % 256) 79) (enum_word v) where
  go : (b : Bool) (x : ℕ) → length (cond b (x ∷ v ∷ ws) (w ∷ v ∷ ws)) ≡ length (w ∷ v ∷ ws)
  go true x = refl
  go false x = refl

-- a lawful name with a target: its text is s, and where it stands in a file at `at`, its target's codes stand from `used` to `end`
pub record HasTarget (es : List EnumEntry) (s : List ℕ) (at : ℕ) (c c' : List ℕ) (used end : ℕ) : Type 0 where
  pub n : Name
  pub t : Target
  pub words : List ℕ
  pub formed : Formed 8 n
  pub writes : s ≡ text n
  pub target : reader_of es n ≡ known t
  pub ends : end ≡ used + code_size t
  pub content : c' ≡ sets c used words
  pub stands : (file rest : List ℕ) → drop at file ≡ s ++ rest → Stands file c' used t

module _ (es : List EnumEntry) (sized : (h : List ℕ) → (size_in es h ≡ 0 → ⊥) → EnumSize (size_in es h)) (s : List ℕ) (at : ℕ) (c c' : List ℕ) (used : ℕ) where
  known_as : (end : ℕ) (n : Name) (j : ℕ) → name_of at s ≡ name n j → used + length (headings at n) ≤ length c → (k : Typed) → reader_of es n ≡ k → coded end ≡ judged used (reader_faults es at n) k
      → c' ≡ sets c used (left k (codes es true (headings at n))) → HasTarget es s at c c' used end
  unfolding judged left
  known_as end n j i h unknown e a w = differ cc
  known_as end n j i h (known t) e a w =
      let g = read_is_text at s n j i in
      let cs = codes es true (headings at n) in
      let z : end ≡ used + code_size t = cc in
      let l : used + length (settled cs) ≤ length c = omega (arith, settled-length cs, codes-length es true (headings at n)) in
      record {
        n = n;
        t = t;
        words = settled cs;
        formed = g.0;
        writes = g.1;
        target = e;
        ends = z;
        content = w;
        stands = λ file rest q. rw w (written_stands file c used cs t ((reader-coded file es sized 8 at n rest g.0 (q ∙ ap (λ (l : List ℕ). l ++ rest) g.1 ∙ write-append n [] rest)).got e) l);
      }

  -- by the room for the codes
  roomy_as : (end : ℕ) (n : Name) (j : ℕ) (b : Bool) → name_of at s ≡ name n j → leb (used + length (headings at n)) (length c) ≡ b → coded end ≡ cond b (judged used (reader_faults es at n) (reader_of es n)) no_room
      → c' ≡ cond b (sets c used (left (reader_of es n) (codes es true (headings at n)))) (sets c used (codes es true (headings at n))) → HasTarget es s at c c' used end
  roomy_as end n j true i q a w = known_as end n j i (leb-true (used + length (headings at n)) (length c) q) (reader_of es n) refl a w
  roomy_as end n j false i q a w = differ cc

  named_as : (end : ℕ) (b : Bool) (r : Read) → name_of at s ≡ r → coded end ≡ resolution es b (length c) at used r → c' ≡ content es b c at used r → HasTarget es s at c c' used end
  unfolding resolution content ending
  named_as end false r i a w = differ cc
  named_as end true (broken m p hs) i a w = differ cc
  named_as end true (name n j) i a w = roomy_as end n j (leb (used + length (headings at n)) (length c)) i refl a w

  -- an answer with codes: the name is lawful and has a target, whose codes were written
  pub target_is : {r : Result ℕ Unresolved} (end : ℕ) → Resolves es s at c c' used r → told r ≡ coded end → HasTarget es s at c c' used end
  target_is end p e = named_as end (placed s at used) (name_of at s) refl (sym e ∙ p.answers) p.writes

-- what a refusal says of the name s that starts at a place
pub data Refusal (es : List EnumEntry) (s : List ℕ) (at number place : ℕ) : Type 0 where
  -- 33 to 38: no lawful name has this text, and 02 says so of this place in it
  broken_name : (i : ℕ) → place ≡ at + i → Fault s number i → ((n : Name) → Formed 8 n → s ≡ text n → ⊥) → Refusal es s at number place
  -- 11: the name is lawful and has no target, and this is the leftmost head that is complained of
  no_target : (n : Name) → Formed 8 n → s ≡ text n → reader_of es n ≡ unknown → number ≡ 11 → place ≡ leftmost (reader_faults es at n) → Refusal es s at number place

-- a refusal's number is 11 or one of 33 to 38, and its place is in the name or at its end
pub refusal_bounds : {es : List EnumEntry} {s : List ℕ} {at number place : ℕ} → Refusal es s at number place → ((number ≡ 11) ⊎ ((33 ≤ number) × (number ≤ 38))) × (place ≤ at + length s)
refusal_bounds (broken_name i e f _) = (inr (fault_number_lem f), omega (arith, e, f.inside))
refusal_bounds {es} {s} {at} (no_target n f e t k l) =
    let z : length s ≡ long n = ap length e ∙ length-write n [] ∙ omega arith in
    (inl k, omega (arith, l, leftmost-within es n at))

module _ (es : List EnumEntry) (s : List ℕ) (at : ℕ) (c c' : List ℕ) (used : ℕ) where
  unknown_as : (number place : ℕ) (n : Name) (j : ℕ) → name_of at s ≡ name n j → (b : Bool) (k : Typed) → reader_of es n ≡ k → refused number place ≡ cond b (judged used (reader_faults es at n) k) no_room
      → Refusal es s at number place
  unfolding judged
  unknown_as number place n j i true unknown e a =
      let g = read_is_text at s n j i in
      let x : number ≡ 11 = cc in
      let y : place ≡ leftmost (reader_faults es at n) = cc in
      no_target n g.0 g.1 e x y
  unknown_as number place n j i true (known t) e a = differ cc
  unknown_as number place n j i false k e a = differ cc

  refused_as : (number place : ℕ) (b : Bool) (r : Read) → name_of at s ≡ r → refused number place ≡ resolution es b (length c) at used r → Refusal es s at number place
  unfolding resolution ending
  refused_as number place false r i a = differ cc
  refused_as number place true (broken m p hs) i a =
      let x : number ≡ m = cc in
      let y : place ≡ p = cc in
      let e : name_of at s ≡ broken number place hs = i ∙ rw (x, y) in
      let g = faults at s number place hs e in
      broken_name g.0 g.1 g.2 (broken_is_no_text at s number place hs e)
  refused_as number place true (name n j) i a = unknown_as number place n j i (leb (used + length (headings at n)) (length c)) (reader_of es n) refl a

  -- what a refusal's number and place say
  pub refused_is : {r : Result ℕ Unresolved} (number place : ℕ) → Resolves es s at c c' used r → told r ≡ refused number place → Refusal es s at number place
  refused_is number place p e = refused_as number place (placed s at used) (name_of at s) refl (sym e ∙ p.answers)

  -- by the room for the codes: a name of so many bytes has few
  full_as : (n : Name) (j : ℕ) → name_of at s ≡ name n j → (b : Bool) (k : Typed) → leb (used + length (headings at n)) (length c) ≡ b → no_room ≡ cond b (judged used (reader_faults es at n) k) no_room
      → 11 * length c < 11 * used + 2 * length s + 9
  unfolding judged
  full_as n j i true unknown q a = differ cc
  full_as n j i true (known t) q a = differ cc
  full_as n j i false k q a = omega (arith, leb-false (used + length (headings at n)) (length c) q, read_is_few at s n j i)

  no_room_as : (b : Bool) (r : Read) → placed s at used ≡ b → name_of at s ≡ r → no_room ≡ resolution es b (length c) at used r → used ≤ 16777216 → at + length s ≤ 16777216
      → 11 * length c < 11 * used + 2 * length s + 9
  unfolding placed resolution ending
  no_room_as false r q i a u h = absurd (let z : (leb used 16777216 && leb (at + length s) 16777216) ≡ true = rw (le-leb used 16777216 u, le-leb (at + length s) 16777216 h) in differ cc)
  no_room_as true (broken m p hs) q i a u h = differ cc
  no_room_as true (name n j) q i a u h = full_as n j i (leb (used + length (headings at n)) (length c)) (reader_of es n) refl a

  -- no room, though the places fit: there are fewer codes from `used` on than 2 for each 11 bytes of the name
  pub no_room_is : {r : Result ℕ Unresolved} → Resolves es s at c c' used r → told r ≡ no_room → used ≤ 16777216 → at + length s ≤ 16777216 → 11 * length c < 11 * used + 2 * length s + 9
  no_room_is p e = no_room_as (placed s at used) (name_of at s) refl refl (sym e ∙ p.answers)
