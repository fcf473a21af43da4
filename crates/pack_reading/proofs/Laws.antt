-- Readers of packs and their two laws: what is laid down is read, and what is read is laid down. Assumes nothing.
use Rattle.std.specs.Prelude.{◌≡◌, leb}
use Rattle.std.proofs.Math.Path.{refl, sym}
use Rattle.std.proofs.Common.{ap, ◌∙◌}
use mathlib.Core.List.{List, [], ◌∷◌, ◌++◌, append-nil, append_assoc}
use Prim.Native.Nat.{ℕ, zero, suc, ◌≤◌, ◌<◌, ◌^◌, min}
use native.Mathlib.Omega.{arith}
use Rattle.std.proofs.Math.ListN.{length}
use borrow.Author.Tests.{leb-true, le-leb}
use Rattle.layout.specs.Number.{Seven, little}
use Rattle.layout.specs.Text.{Utf8s}
use Rattle.reading.specs.Answer.{several, within, within-true, true-within}
use Rattle.reading.specs.Reads.{Reads, pure_reads, bind_reads, check_reads, here_reads, convert, some_reads}
use Rattle.reading.specs.Seven.{seven_reads}
use Rattle.reading.specs.Little.{little_reads}
use Rattle.reading.specs.Utf8.{utf8s, utf8s-sound, utf8s-complete}
use Rattle.pack_layout.specs.Pack.{Stored, Lawful, record_bytes, records_bytes, pack_bytes, Each, PackLays}
use Rattle.reading.specs.Same.{same, same_sound, same_complete, with_bytes_reads}
use Rattle.pack_reading.specs.Pack.{path_at, content_at, mark_at, record_at, records_at, files_at}
use Rattle.pack_reading.specs.Laws.{records_reads}

module _ (mark file : List ℕ) where
  pub files_reads : (room : ℕ) → Reads file (λ fs bs. (length fs ≤ room) × PackLays mark fs bs) (files_at mark file room)
  unfolding files_at pack_bytes
  files_reads room =
      convert file
      (bind_reads file (here_reads file (λ p. little_reads file 4 p)) (λ n at. check_reads file (leb n 4096) 9 at (records_reads mark file n room)))
      (λ fs bs s w.
      let u = w.5.1 in
      let l = leb-true w.0 4096 w.5.0 in (
        omega (arith, u.0, u.1),
        record {
          lawful = u.2;
          not_many = omega (arith, u.0);
          parts = rw (w.3, w.4.1, u.3, u.0);
        },
      ))
      (λ fs bs w.
      let p = w.1 in
      let small : length fs < 256 ^ 4 = omega (arith, p.not_many) in (
        length fs,
        little 4 (length fs),
        records_bytes mark fs,
        p.parts,
        (small, refl),
        (le-leb (length fs) 4096 p.not_many, (refl, w.0, p.lawful, refl)),
      ))
