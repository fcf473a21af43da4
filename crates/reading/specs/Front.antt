-- What stands before the objects, the header and the lists: what is laid down is read, and what is read is laid down. Assumes nothing.
use Rattle.std.specs.Prelude.{◌≡◌, Bool, true, false, ◌||◌, ◌⊎◌, ltb, leb, eqb}
use Rattle.std.proofs.Math.Path.{refl, sym, ap}
use Rattle.std.proofs.Common.{◌∙◌, inl, inr, drop-cons, drop-drop}
use mathlib.Core.List.{List, [], ◌∷◌, ◌++◌, append-nil}
use Prim.Native.Nat.{ℕ, zero, suc, ◌≤◌}
use native.Mathlib.Omega.{arith}
use Rattle.std.proofs.Math.ListN.{length, take, drop, get_or, length-drop, take-append-drop}
use Rattle.std.proofs.Math.Seq.{length-take-le}
use borrow.Author.Tests.{leb-true, le-leb, lt-ltb, eqb-true, eq-eqb}
use Rattle.laws.specs.Small.{differ}
use Rattle.layout.specs.EnumList.{EnumEntry}
use Rattle.layout.specs.Named.{named}
use Rattle.layout.specs.Number.{little, value_of}
use Rattle.layout.specs.Text.{ascii}
use Rattle.layout.specs.Target.{Target}
use Rattle.layout.specs.File.{Platform, header, Entry, Entries, Lists}
use Rattle.reading.specs.Answer.{read, check, Ok, not_read, is_read, ok_check, within, within-true, true-within, several}
use Rattle.reading.specs.Reads.{Small, small-drop, small_left, Reads, pure_reads, bind_reads, check_reads, here_reads, convert, some_reads}
use Rattle.reading.specs.Seven.{seven_reads}
use Rattle.reading.specs.Little.{little_reads, little-value, value-little}
use Rattle.reading.specs.File.{is_platform, header_at, Named, unknown, known, Judges, judge, reader_at, readers_at, lists_at}

-- ---- the header

platform-sound : (b : ℕ) → is_platform b ≡ true → Platform b
unfolding is_platform Platform
platform-sound b t = go (eqb b 0x77) (eqb b 0x6D) (eqb b 0x78) refl refl refl t where
  go : (p q r : Bool) → eqb b 0x77 ≡ p → eqb b 0x6D ≡ q → eqb b 0x78 ≡ r → (p || (q || r)) ≡ true → Platform b
  go true q r ep eq er e = inl (eqb-true b 0x77 ep)
  go false true r ep eq er e = inr (inl (eqb-true b 0x6D eq))
  go false false true ep eq er e = inr (inr (eqb-true b 0x78 er))
  go false false false ep eq er e = differ cc

platform-complete : (b : ℕ) → Platform b → is_platform b ≡ true
unfolding is_platform Platform
platform-complete b (inl e) = rw e
platform-complete b (inr (inl e)) = rw e
platform-complete b (inr (inr e)) = rw e

flags_sound : (b : ℕ) → b ≤ 1 → (b ≡ 0) ⊎ (b ≡ 1)
flags_sound zero h = inl refl
flags_sound (suc zero) h = inr refl
flags_sound (suc (suc b)) h = absurd (omega arith)

flags_complete : (b : ℕ) → (b ≡ 0) ⊎ (b ≡ 1) → b ≤ 1
flags_complete b (inl e) = omega arith
flags_complete b (inr e) = omega arith

-- a file that begins with a header, of these header bytes 3 and 5, that says the file's length
pub record Headed (file : List ℕ) (platform flags : ℕ) : Type 0 where
  pub platform_is : Platform platform
  pub flags_are : (flags ≡ 0) ⊎ (flags ≡ 1)
  pub short : length file ≤ 16777216
  pub parts : file ≡ header platform flags (length file) ++ drop 10 file

module _ (file : List ℕ) where
  -- the first ten bytes, and the rest
  ten : 10 ≤ length file
      → file ≡ get_or file 0 0 ∷ get_or file 1 0 ∷ get_or file 2 0 ∷ get_or file 3 0 ∷ get_or file 4 0 ∷ get_or file 5 0 ∷ (take 4 (drop 6 file) ++ drop 10 file)
  ten h =
      let six : drop 6 file ≡ take 4 (drop 6 file) ++ drop 10 file = rw (← drop-drop 4 6 file) (sym (take-append-drop 4 (drop 6 file))) in
      drop-cons file 0 0 (omega arith)
      ∙ rw (drop-cons file 1 0 (omega arith), drop-cons file 2 0 (omega arith), drop-cons file 3 0 (omega arith), drop-cons file 4 0 (omega arith), drop-cons file 5 0 (omega arith), ← six)

  pub header-complete : (platform flags : ℕ) → Headed file platform flags → header_at file ≡ read (platform, flags) 10
  unfolding header_at check header ascii little
  header-complete p f w =
      let n = length file in
      let e = w.parts in
      let at : (i : ℕ) → get_or file i 0 ≡ get_or (header p f n ++ drop 10 file) i 0 = λ i. ap (λ (l : List ℕ). get_or l i 0) e in
      let v : value_of (take 4 (drop 6 file)) ≡ n = ap (λ (l : List ℕ). value_of (take 4 (drop 6 l))) e ∙ value-little 4 n (omega (arith, w.short)) in
      let l : 10 ≤ n = omega (arith, ap length e) in
      let k : f ≤ 1 = flags_complete f w.flags_are in
      rw (
        le-leb n 16777216 w.short,
        le-leb 10 n l,
        at 0,
        at 1,
        at 2,
        at 3,
        platform-complete p w.platform_is,
        at 4,
        at 5,
        lt-ltb f 0x80 (omega arith),
        le-leb f 1 k,
        v,
        eq-eqb n n refl,
      )

  pub header-sound : Small file → Ok (λ h e. (e ≡ 10) × Headed file h.0 h.1) (header_at file)
  unfolding header_at header ascii
  header-sound small =
      ok_check (leb (length file) 16777216) 9 0 _ (λ a.
      ok_check (leb 10 (length file)) 1 0 _ (λ b.
      ok_check (eqb (get_or file 0 0) 0x58) 2 0 _ (λ c₀.
      ok_check (eqb (get_or file 1 0) 0x4E) 2 0 _ (λ c₁.
      ok_check (eqb (get_or file 2 0) 0x42) 2 0 _ (λ c₂.
      ok_check (is_platform (get_or file 3 0)) 3 3 _ (λ c₃.
      ok_check (eqb (get_or file 4 0) 5) 4 4 _ (λ c₄.
      ok_check (ltb (get_or file 5 0) 0x80) 5 5 _ (λ c₅.
      ok_check (leb (get_or file 5 0) 1) 6 5 _ (λ c₆.
      ok_check (eqb (value_of (take 4 (drop 6 file))) (length file)) 7 6 _ (λ c₇.
      let long : 10 ≤ length file = leb-true 10 (length file) b in
      let four : length (take 4 (drop 6 file)) ≡ 4 = length-take-le 4 (drop 6 file) (rw length-drop (omega arith)) in
      let tiny : Small (take 4 (drop 6 file)) = small_left (take 4 (drop 6 file)) (drop 4 (drop 6 file)) (rw take-append-drop (small-drop 6 file small)) in
      let v : take 4 (drop 6 file) ≡ little 4 (length file)
      = sym (rw four at (little-value (take 4 (drop 6 file)) tiny)) ∙ ap (λ (n : ℕ). little 4 n) (eqb-true (value_of (take 4 (drop 6 file))) (length file) c₇) in
      let e : file ≡ header (get_or file 3 0) (get_or file 5 0) (length file) ++ drop 10 file
      = ten long ∙ rw (v, eqb-true (get_or file 0 0) 0x58 c₀, eqb-true (get_or file 1 0) 0x4E c₁, eqb-true (get_or file 2 0) 0x42 c₂, eqb-true (get_or file 4 0) 5 c₄) in
      is_read {a = (get_or file 3 0, get_or file 5 0)} (
        refl,
        record {
          platform_is = platform-sound (get_or file 3 0) c₃;
          flags_are = flags_sound (get_or file 5 0) (leb-true (get_or file 5 0) 1 c₆);
          short = leb-true (length file) 16777216 a;
          parts = e;
        },
      )))))))))))

-- ---- the readers and the shared count

module _ (es : List EnumEntry) (name_of : ℕ → List ℕ → Named) (judges : Judges es name_of) (file : List ℕ) where
  pub judge_reads : (x : Named) → Reads file (λ t bs. (x ≡ known t) × (bs ≡ [])) (judge x)
  unfolding judge
  judge_reads (unknown n p) = record {
    complete = λ t bs rest at w q. differ (cc w.0);
    sound = λ h at. not_read;
  }
  judge_reads (known u) =
      convert file (pure_reads file u)
      (λ t bs s w. (ap known (sym w.0), w.1))
      (λ t bs w. let e : t ≡ u = cc w.0 in (e, w.1))

  -- wherever a name stands
  name_reads : (name : List ℕ) (first : ℕ) → Reads file (λ t bs. named es name t × (bs ≡ [])) (judge (name_of first name))
  name_reads name first =
      convert file (judge_reads (name_of first name))
      (λ t bs s w. (judges.known_sound first name t w.0, w.1))
      (λ t bs w. (judges.known_complete first name t w.0, w.1))

  pub reader_reads : Reads file (λ a bs. Entry es a.0 a.1 bs) (reader_at name_of file)
  unfolding reader_at
  reader_reads =
      convert file
      (bind_reads file (seven_reads file) (λ n at. check_reads file (within 1024 n) 9 at
      (bind_reads file (some_reads file n at) (λ name e. bind_reads file (name_reads name e) (λ t v.
      bind_reads file (here_reads file (λ p. little_reads file 4 p)) (λ version v. check_reads file (eqb version 0) 12 v (pure_reads file (name, t))))))))
      (λ a bs s w.
      let u = w.5.1 in
      let j = u.5 in
      let v = j.5 in
      let same : a ≡ (u.0, j.0) = v.5.1.0 in
      let r = within-true 1024 w.0 w.5.0 in
      let z : u.2 ≡ little 4 0
      = rw (j.3, j.4.1, v.3, v.5.1.1, v.4.1, eqb-true v.0 0 v.5.0) (append-nil (little 4 0)) in
      let b : bs ≡ w.1 ++ (u.0 ++ little 4 0) = rw (w.3, u.3, u.4.0, z) in
      rw same (record {
        number = w.1;
        parts = b;
        numbered = rw u.4.1 w.4;
        not_empty = rw u.4.1 r.0;
        not_long = rw u.4.1 r.1;
        lawful = j.4.0;
      }))
      (λ a bs w.
      let name = a.0 in
      let version : List ℕ = little 4 0 ++ [] in
      let b : bs ≡ w.number ++ (name ++ ([] ++ version)) = rw append-nil w.parts in (
        length name,
        w.number,
        name ++ ([] ++ version),
        b,
        w.numbered,
        (
          true-within 1024 (length name) w.not_empty w.not_long,
          (
            name,
            name,
            [] ++ version,
            refl,
            (refl, refl),
            (
              a.1,
              [],
              version,
              refl,
              (w.lawful, refl),
              (0, little 4 0, [], refl, (omega arith, refl), (refl, (refl, refl))),
            ),
          ),
        ),
      ))

  -- what no readers, and what a reader before others, may have as names, targets and bytes
  no_entries : (names : List (List ℕ)) (readers : List Target) (bs : List ℕ) → length names ≡ 0 → Entries es names readers bs
      → (◌≡◌ {A = List (List ℕ) × List Target} (names, readers) ([], [])) × (bs ≡ [])
  unfolding Entries
  no_entries [] [] bs k w = (refl, w)
  no_entries [] (t ∷ readers) bs k w = absurd w
  no_entries (name ∷ names) readers bs k w = absurd (omega arith)

  first_entry : (n : ℕ) (names : List (List ℕ)) (readers : List Target) (bs : List ℕ) → length names ≡ suc n → Entries es names readers bs
      → (a : List ℕ × Target) × (b₁ : List ℕ) × (b₂ : List ℕ) × (bs ≡ b₁ ++ b₂) × Entry es a.0 a.1 b₁
      × ((l : List (List ℕ) × List Target) × (c₁ : List ℕ) × (c₂ : List ℕ) × (b₂ ≡ c₁ ++ c₂) × ((length l.0 ≡ n) × Entries es l.0 l.1 c₁)
      × ((◌≡◌ {A = List (List ℕ) × List Target} (names, readers) (a.0 ∷ l.0, a.1 ∷ l.1)) × (c₂ ≡ [])))
  unfolding Entries
  first_entry n [] readers bs k w = absurd (omega arith)
  first_entry n (name ∷ names) [] bs k w = absurd w
  first_entry n (name ∷ names) (t ∷ readers) bs k w =
      let m : length names ≡ n = omega arith in
      ((name, t), w.0, w.1, w.2, w.3, ((names, readers), w.1, [], sym (append-nil w.1), (m, w.4), (refl, refl)))

  pub readers_reads : (n : ℕ) → Reads file (λ l bs. (length l.0 ≡ n) × Entries es l.0 l.1 bs) (readers_at name_of file n)
  unfolding readers_at several Entries
  readers_reads zero =
      convert file (pure_reads file ([], []))
      (λ l bs s w. rw w.0 (refl, w.1))
      (λ l bs w. no_entries l.0 l.1 bs w.0 w.1)
  readers_reads (suc n) =
      convert file (bind_reads file reader_reads (λ a at. bind_reads file (readers_reads n) (λ l e. pure_reads file (a.0 ∷ l.0, a.1 ∷ l.1))))
      (λ l bs s w.
      let v = w.5 in
      let b : bs ≡ w.1 ++ v.1 = rw (w.3, v.3, v.5.1) (rw append-nil) in
      rw v.5.0 (ap suc v.4.0, (w.1, v.1, b, w.4, v.4.1)))
      (λ l bs w. first_entry n l.0 l.1 bs w.0 w.1)

  pub lists_reads : Reads file (λ l bs. Lists es l.0 l.1 l.2 bs) (lists_at name_of file)
  unfolding lists_at
  lists_reads =
      convert file
      (bind_reads file (seven_reads file) (λ n at. check_reads file (leb n 64) 9 at
      (bind_reads file (readers_reads n) (λ l e. bind_reads file (seven_reads file) (λ s e. check_reads file (leb s 256) 9 e (pure_reads file (l.0, l.1, s)))))))
      (λ l bs s w.
      let u = w.5.1 in
      let v = u.5 in
      let z : u.2 ≡ v.1 = rw (v.3, v.5.1.1) (append-nil v.1) in
      let b : bs ≡ w.1 ++ (u.1 ++ v.1) = rw (w.3, u.3, z) in
      rw v.5.1.0 (record {
        number = w.1;
        entries = u.1;
        shared_number = v.1;
        parts = b;
        numbered = rw u.4.0 w.4;
        not_many = rw u.4.0 (leb-true w.0 64 w.5.0);
        listed = u.4.1;
        shared_numbered = v.4;
        shared_not_many = leb-true v.0 256 v.5.0;
      }))
      (λ l bs w.
      let b : bs ≡ w.number ++ (w.entries ++ (w.shared_number ++ [])) = rw append-nil w.parts in (
        length l.0,
        w.number,
        w.entries ++ (w.shared_number ++ []),
        b,
        w.numbered,
        (
          le-leb (length l.0) 64 w.not_many,
          (
            (l.0, l.1),
            w.entries,
            w.shared_number ++ [],
            refl,
            (refl, w.listed),
            (l.2, w.shared_number, [], refl, w.shared_numbered, (le-leb l.2 256 w.shared_not_many, (refl, refl))),
          ),
        ),
      ))
