-- Readers of packs and their two laws: what is laid down is read, and what is read is laid down. Assumes nothing.
use Rattle.std.specs.Prelude.{◌≡◌, leb}
use Rattle.std.proofs.Math.Path.{refl, sym}
use Rattle.std.proofs.Common.{ap, ◌∙◌}
use mathlib.Core.List.{List, [], ◌∷◌, ◌++◌, append-nil, append_assoc}
use Prim.Native.Nat.{ℕ, zero, suc, ◌≤◌, ◌<◌, ◌^◌, min}
use native.Mathlib.Omega.{arith}
use Rattle.std.proofs.Math.ListN.{length}
use borrow.Author.Tests.{leb-true, le-leb}
use Rattle.layout.specs.Number.{Seven, little}
use Rattle.layout.specs.Text.{Utf8s}
use Rattle.reading.specs.Answer.{several, within, within-true, true-within}
use Rattle.reading.specs.Reads.{Reads, pure_reads, bind_reads, check_reads, here_reads, convert, some_reads}
use Rattle.reading.specs.Seven.{seven_reads}
use Rattle.reading.specs.Little.{little_reads}
use Rattle.reading.specs.Utf8.{utf8s, utf8s-sound, utf8s-complete}
use Rattle.pack_layout.specs.Pack.{Stored, Lawful, record_bytes, records_bytes, pack_bytes, Each, PackLays}
use Rattle.reading.specs.Same.{same, same_sound, same_complete, with_bytes_reads}
use Rattle.pack_reading.specs.Pack.{path_at, content_at, mark_at, record_at, records_at, files_at}

module _ (file : List ℕ) where
  pub path_reads : Reads file (λ p bs. (bs ≡ p.0 ++ p.1) × Seven (length p.1) p.0 × (1 ≤ length p.1) × (length p.1 ≤ 260) × Utf8s p.1) (path_at file)
  unfolding path_at
  path_reads =
      convert file
      (bind_reads file (with_bytes_reads file (seven_reads file)) (λ n at. check_reads file (within 260 n.0) 9 at
      (bind_reads file (some_reads file n.0 at) (λ path e. check_reads file (utf8s path) 15 at (pure_reads file (n.1, path))))))
      (λ p bs s w.
      let u = w.5.1 in
      let same : p ≡ (w.0.1, u.0) = u.5.1.0 in
      let l : length u.0 ≡ w.0.0 = u.4.1 in
      let r = within-true 260 w.0.0 w.5.0 in
      let z : u.2 ≡ [] = u.5.1.1 in
      let b : bs ≡ w.0.1 ++ u.0 = rw (w.3, w.4.0, u.3, u.4.0, z) (rw append-nil) in
      let n : Seven (length u.0) w.0.1 = rw (l, ← w.4.0) w.4.1 in
      rw same (b, n, omega arith, omega arith, utf8s-sound u.0 u.5.0))
      (λ p bs w.
      let b : bs ≡ p.0 ++ (p.1 ++ []) = rw append-nil w.0 in (
        (length p.1, p.0),
        p.0,
        p.1 ++ [],
        b,
        (refl, w.1),
        (true-within 260 (length p.1) w.2 w.3, (p.1, p.1, [], refl, (refl, refl), (utf8s-complete p.1 w.4, (refl, refl)))),
      ))

  content_reads : Reads file (λ c bs. (bs ≡ little 4 (length c) ++ c) × (length c < 256 ^ 4)) (content_at file)
  unfolding content_at
  content_reads =
      convert file (bind_reads file (here_reads file (λ p. little_reads file 4 p)) (λ n at. some_reads file n at))
      (λ c bs s w.
      let l : length c ≡ w.0 = w.5.1 in
      (rw (w.3, w.4.1, w.5.0, ← l), rw l w.4.0))
      (λ c bs w. (length c, little 4 (length c), c, w.0, (w.1, refl), (refl, refl)))

module _ (mark file : List ℕ) where
  pub mark_reads : Reads file (λ m bs. (m ≡ mark) × (bs ≡ mark)) (mark_at mark file)
  unfolding mark_at
  mark_reads =
      convert file
      (bind_reads file (here_reads file (λ p. some_reads file (length mark) p)) (λ m at. check_reads file (same m mark) 51 at (pure_reads file m)))
      (λ m bs s w.
      let e : w.0 ≡ mark = same_sound w.0 mark w.5.0 in
      (w.5.1.0 ∙ e, rw (w.3, w.4.0, w.5.1.1) (append-nil w.0 ∙ e)))
      (λ m bs w. (mark, mark, [], w.1 ∙ sym (append-nil mark), (refl, refl), (same_complete mark, (w.0, refl))))

  -- a record's parts, as they are read one after the other
  parts : (f : Stored) → record_bytes mark f ≡ mark ++ ((f.number ++ f.path) ++ ((little 4 (length f.content) ++ f.content) ++ []))
  unfolding record_bytes
  parts f = rw (append-nil, append_assoc)

  pub record_reads : Reads file (λ f bs. Lawful f × (bs ≡ record_bytes mark f)) (record_at mark file)
  unfolding record_at
  record_reads =
      convert file
      (bind_reads file mark_reads (λ m at. bind_reads file (path_reads file) (λ p size. bind_reads file (content_reads file) (λ content e.
      pure_reads file (record { number = p.0; path = p.1; content = content })))))
      (λ f bs s w.
      let u = w.5 in
      let v = u.5 in
      let p = u.4 in
      rw v.5.0 (
        record { numbered = p.1; not_empty = p.2; not_long = p.3; text = p.4; sized = v.4.1 },
        rw (parts (record { number = u.0.0; path = u.0.1; content = v.0 }), w.3, w.4.1, u.3, p.0, v.3, v.4.0, v.5.1),
      ))
      (λ f bs w.
      let g = w.0 in
      let path : List ℕ = f.number ++ f.path in
      let content : List ℕ = little 4 (length f.content) ++ f.content in (
        mark,
        mark,
        path ++ (content ++ []),
        w.1 ∙ parts f,
        (refl, refl),
        (
          (f.number, f.path),
          path,
          content ++ [],
          refl,
          (refl, g.numbered, g.not_empty, g.not_long, g.text),
          (f.content, content, [], refl, (refl, g.sized), (refl, refl)),
        ),
      ))

  -- what no files, and what a file before others, may have as bytes
  no_files : (fs : List Stored) (bs : List ℕ) → length fs ≡ 0 → bs ≡ records_bytes mark fs → (fs ≡ []) × (bs ≡ [])
  unfolding records_bytes
  no_files [] bs k w = (refl, w)
  no_files (f ∷ fs) bs k w = absurd (omega arith)

  first_file : (n : ℕ) (fs : List Stored) (bs : List ℕ) → length fs ≡ suc n → Each Lawful fs → bs ≡ records_bytes mark fs
      → (f : Stored) × (b₁ : List ℕ) × (b₂ : List ℕ) × (bs ≡ b₁ ++ b₂) × (Lawful f × (b₁ ≡ record_bytes mark f))
      × ((gs : List Stored) × (c₁ : List ℕ) × (c₂ : List ℕ) × (b₂ ≡ c₁ ++ c₂) × ((length gs ≡ n) × Each Lawful gs × (c₁ ≡ records_bytes mark gs))
      × ((fs ≡ f ∷ gs) × (c₂ ≡ [])))
  unfolding records_bytes Each
  first_file n [] bs k l w = absurd (omega arith)
  first_file n (f ∷ fs) bs k l w =
      let m : length fs ≡ n = omega arith in
      (f, record_bytes mark f, records_bytes mark fs, w, (l.0, refl), (fs, records_bytes mark fs, [], sym (append-nil (records_bytes mark fs)), (m, l.1, refl), (refl, refl)))

  several_reads : (n : ℕ) → Reads file (λ fs bs. (length fs ≡ n) × Each Lawful fs × (bs ≡ records_bytes mark fs)) (several [] ◌∷◌ (record_at mark file) n)
  unfolding several records_bytes Each
  several_reads zero =
      convert file (pure_reads file [])
      (λ fs bs s w. rw w.0 (refl, tt, w.1))
      (λ fs bs w. no_files fs bs w.0 w.2)
  several_reads (suc n) =
      convert file (bind_reads file record_reads (λ f at. bind_reads file (several_reads n) (λ fs e. pure_reads file (f ∷ fs))))
      (λ fs bs s w.
      let u = w.5 in
      let b : bs ≡ record_bytes mark w.0 ++ records_bytes mark u.0 = rw (w.3, w.4.1, u.3, u.4.2, u.5.1) (rw append-nil) in
      rw u.5.0 (ap suc u.4.0, (w.4.0, u.4.1), b))
      (λ fs bs w. first_file n fs bs w.0 w.1 w.2)

  pub records_reads : (n room : ℕ) → Reads file (λ fs bs. (length fs ≡ n) × (n ≤ room) × Each Lawful fs × (bs ≡ records_bytes mark fs)) (records_at mark file n room)
  unfolding records_at
  records_reads n room =
      convert file (bind_reads file (several_reads (min n room)) (λ fs at. here_reads file (λ p. check_reads file (leb n room) 31 p (pure_reads file fs))))
      (λ fs bs s w.
      let u = w.5 in
      let l : n ≤ room = leb-true n room u.0 in
      let b : bs ≡ records_bytes mark w.0 = rw (w.3, w.4.2, u.1.1) (rw append-nil) in
      rw u.1.0 (omega (arith, w.4.0), l, w.4.1, b))
      (λ fs bs w.
      let m : length fs ≡ min n room = omega (arith, w.0, w.1) in
      (fs, records_bytes mark fs, [], w.3 ∙ sym (append-nil (records_bytes mark fs)), (m, w.2, refl), (le-leb n room w.1, (refl, refl))))
