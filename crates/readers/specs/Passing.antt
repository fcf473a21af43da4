-- Where the readers that were passed end, and the padding of their names' lengths: laws. Assumes nothing.
use Rattle.std.specs.Prelude.{◌≡◌, eqb, leb, length, drop}
use Rattle.std.proofs.Math.Path.{refl}
use Rattle.std.proofs.Common.{ap}
use mathlib.Core.List.{List}
use Prim.Native.Nat.{ℕ, suc, ◌+◌, ◌-◌, ◌<◌, ◌≤◌}
use native.Mathlib.Omega.{arith}
use Rattle.layout.specs.Target.{Target}
use Rattle.layout.specs.EnumList.{EnumEntry}
use Rattle.reading.specs.Answer.{Answer, refused, read, bind, check, within, within-true, Ok, not_read, is_read, ok_bind, ok_check}
use Rattle.reading.specs.Reads.{Small, some}
use Rattle.reading.specs.Seven.{seven_at}
use Rattle.reading.specs.Little.{little_at}
use Rattle.reading.specs.File.{Named, unknown, known, judge, reader_at}
use Rattle.numbers.specs.Padded.{number_of, past, pad_of}
use Rattle.places.specs.Places.{behind_entry, entries_places, entries_end, lists_places}
use Rattle.places.specs.Padding.{padding, past_few, pad_few, lists_padding}
use Rattle.readers.specs.Judged.{judged_name}
use Rattle.readers.specs.Turns.{Passed}

module _ (file : List ℕ) where
  -- where a reader that was read ends
  some_ends : (n at first : ℕ) → Ok (λ name end. end ≡ first + n) (some file n at first)
  unfolding some
  some_ends n at first = ok_check (leb n (length (drop first file))) 1 at _ (λ t. is_read refl)

  judge_ends : (x : Named) (end : ℕ) → Ok {A = Target} (λ t version. version ≡ end) (judge x end)
  unfolding judge
  judge_ends (unknown k p) end = not_read
  judge_ends (known t) end = is_read refl

  little_ends : (at : ℕ) → Ok (λ v next. next ≡ at + 4) (little_at file 4 at at)
  unfolding little_at
  little_ends at = ok_bind (some_ends 4 at at) (λ bs e q. is_read q)

  reader_ends : (es : List EnumEntry) (at : ℕ) → Ok (λ a e. (e ≡ behind_entry (seven_at file at) at) × (number_of (seven_at file at) ≤ 1024)) (reader_at (judged_name es) file at)
  unfolding reader_at behind_entry past number_of bind
  reader_ends es at = go (seven_at file at) where
    go : (x : Answer ℕ) → Ok {A = List ℕ × Target} (λ a e. (e ≡ past x at + number_of x + 4) × (number_of x ≤ 1024)) (bind x (λ n first. check (within 1024 n) 9 at
        (bind (some file n at first) (λ name end. bind (judge (judged_name es first name) end) (λ t version.
        bind (little_at file 4 version version) (λ v next. check (eqb v 0) 12 version (read (name, t) next)))))))
    go (refused n p) = not_read
    go (read n first) =
        ok_check (within 1024 n) 9 at _ (λ z. ok_bind (some_ends n at first) (λ name end e. ok_bind (judge_ends (judged_name es first name) end) (λ t version f.
        ok_bind (little_ends version) (λ v next g. ok_check (eqb v 0) 12 version _ (λ y. is_read (omega arith, (within-true 1024 n z).1))))))

  pub none_passed : (n at : ℕ) → Passed file n at 0 at 0
  none_passed n at =
      let z : n - 0 ≡ n = omega arith in
      record { ends = ap (λ (k : ℕ). entries_end file k at) z; adds = omega (arith, ap (λ (k : ℕ). padding file (entries_places file k at)) z); few = omega arith; near = omega arith }

  pub one_passed : (es : List EnumEntry) (n at i next sum : ℕ) {behind : ℕ} {x : List ℕ × Target} → Small file → i < n → reader_at (judged_name es) file next ≡ read x behind → Passed file n at i next sum
      → Passed file n at (i + 1) behind (sum + pad_of (seven_at file next) next)
  unfolding entries_places entries_end padding behind_entry
  one_passed es n at i next sum {behind} small h q p =
      let z : n - i ≡ suc (n - (i + 1)) = omega arith in
      let r = (reader_ends es next).got q in
      let e : behind ≡ behind_entry (seven_at file next) next = r.0 in
      let a = rw z at p.ends in
      let b = rw z at p.adds in
      rw e (record { ends = a; adds = omega (arith, b); few = omega (arith, p.few, pad_few file small next); near = omega (arith, p.near, r.1, past_few file small next) })

  pub all_passed : (n at next sum : ℕ) → Passed file n at n next sum → (next ≡ entries_end file n at) × (sum ≡ padding file (entries_places file n at))
  unfolding entries_places entries_end padding
  all_passed n at next sum p =
      let z : n - n ≡ 0 = omega arith in
      let a = rw z at p.ends in
      let b = rw z at p.adds in
      (a, omega (arith, b))

  -- the numbers of the lists: the reader count, the names' lengths and the shared count
  pub lists_total_lem : (n at first own total : ℕ) → own ≡ pad_of (seven_at file at) at → first ≡ past (seven_at file at) at
      → total ≡ own + padding file (entries_places file n first) + pad_of (seven_at file (entries_end file n first)) (entries_end file n first) → total ≡ padding file (lists_places file n at)
  lists_total_lem n at first own total o f t = omega (arith, lists_padding file n at, rw f at t)
