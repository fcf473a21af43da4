-- Which refusals reading a pack can give, and where: those of Req 01, 31 only where there may be no room, and 51 only where there is a mark; all in the pack. Assumes nothing.
use Rattle.std.specs.Prelude.{◌≡◌, Bool, ltb, leb, eqb, length, drop}
use Rattle.std.proofs.Math.Path.{refl}
use Rattle.std.proofs.Math.Bool.{true, false}
use mathlib.Core.List.{List, [], ◌∷◌}
use Rattle.std.proofs.Common.{inl, inr, arith}
use Prim.Native.Nat.{ℕ, zero, suc, ◌+◌, ◌-◌, ◌≤◌, ◌^◌, min}
use Rattle.std.proofs.Math.ListN.{take, length-drop}
use borrow.Author.Tests.{leb-true, leb-false, le-leb}
use Rattle.reading.specs.Answer.{Answer, refused, read, bind, check, several, within}
use Rattle.reading.specs.Reads.{some}
use Rattle.reading.specs.Seven.{group, groups, seven_at}
use Rattle.reading.specs.Little.{little_at}
use Rattle.reading.specs.Utf8.{utf8s}
use Rattle.pack_layout.specs.Pack.{plain, marked}
use Rattle.pack_layout.specs.Numbers.{PackNumber}
use Rattle.reading.specs.Same.{same, with_bytes}
use Rattle.pack_reading.specs.Pack.{path_at, content_at, mark_at, record_at, records_at, files_at, pack_at}

-- if it is a refusal, its number keeps R, and its place is no further than `end`; if it was read, neither is the next byte
unfoldable pub Keeps : (R : ℕ → Type 0) (end : ℕ) {A : Type 0} → Answer A → Type 0
Keeps R end (refused number place) = R number × (place ≤ end)
Keeps R end (read a next) = next ≤ end
