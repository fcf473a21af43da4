-- A file that is loaded, and a row that is skipped with all below it. Assumes nothing.
use Rattle.std.specs.Prelude.{Ok}
use mathlib.Core.Path.{◌≡◌, sym, ap, ◌∙◌}
use mathlib.Core.Bool.{true}
use mathlib.Core.List.{List}
use Prim.Native.Nat.{ℕ, ◌+◌, ◌<◌, ◌≤◌}
use native.Mathlib.Omega.{arith}
use lib.Dec.{ltb, leb}
use lib.ListN.{length, get_or}
use borrow.Author.Tests.{lt-ltb, le-leb}
use Rattle.layout.specs.Table.{room_of, by_rows, cell}
use Rattle.branches.specs.Rule.{branch_ends}
use Rattle.branches.specs.Next.{branch_in, next_of, rows_next}
use Rattle.load.specs.Loads.{Loading}
use Rattle.layout.specs.Fits.{rows_in}
use Rattle.theorems.specs.Loading.{Loads}
use Rattle.theorems.specs.Fitted.{rows_room}
use Rattle.load.specs.Loads.{loaded}
use Rattle.load.specs.declared.Loaded as load_code

injected : {a b : load_code.Loaded} → ◌≡◌ {A = Loading} (Ok a) (Ok b) → a ≡ b
injected e = cc

module _ {enums file : List ℕ} {words : ℕ} {left : List ℕ} {l : Loading} (x : Loads by_rows enums file words left l) {used readers shared padding : ℕ} (e : l ≡ Ok (loaded used readers shared padding)) where
  used_room : used ≤ room_of words
  used_room =
      let f = x.accepts.0 (rw e tt) in
      let k = sym (x.rows f).0 ∙ e in
      let z = injected k in
      let u : used ≡ length (rows_in f.fits) = sym (ap (λ (y : load_code.Loaded). y.rows) z) in
      omega (arith, rows_room f, u)

  pub next_is : (row : ℕ) {next : ℕ} → length left ≡ words → next ≡ rows_next left row → row < used → (next ≡ row + get_or left (cell by_rows (room_of words) row 6) 0) × (next ≤ used)
  unfolding next_of branch_in
  next_is row {next} n q h =
      let branch = get_or left (cell by_rows (room_of words) row 6) 0 in
      let b = branch_ends (x.skips used readers shared padding e) row h in
      let a₁ : ltb row (room_of words) ≡ true = lt-ltb row (room_of words) (omega (arith, used_room)) in
      let a₂ : ltb 0 branch ≡ true = lt-ltb 0 branch (omega (arith, b.0)) in
      let a₃ : leb (row + branch) (room_of words) ≡ true = le-leb (row + branch) (room_of words) (omega (arith, b.1, used_room)) in
      let z : next ≡ row + branch = (rw n at q) ∙ rw (a₁, a₂, a₃) in
      (z, omega (arith, z, b.1))
