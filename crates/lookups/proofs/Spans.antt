-- The spans that are found lie in the file, and their bytes. Assumes nothing.
use mathlib.Core.Path.{◌≡◌, subst}
use mathlib.Core.List.{List, []}
use Prim.Native.Nat.{ℕ, ◌+◌, ◌-◌, ◌≤◌}
use native.Mathlib.Omega.{arith}
use lib.ListN.{length, take, drop}
use Rattle.reading.specs.Reads.{Small}
use Rattle.table.specs.declared.Grid.{Grid}
use Rattle.lookups.specs.declared.Span.{Span}
use Rattle.std.specs.Prelude.{Result, Ok, Err}
use Rattle.answers.specs.declared.Refusal.{Refusal}
use Rattle.lookups.specs.Parts.{part_of, in_part, Lies, spanned}
use Rattle.lookups.specs.Texts.{text_of}
use Rattle.lookups.specs.Spans.{inside, text-inside}

pub lies_found : {n : ℕ} {f : Span} {s : Result Span Refusal} → Lies n s → s ≡ Ok f → f.first + f.length ≤ n
lies_found {n} h e = subst (Lies n) e h

pub no_bytes : (file : List ℕ) {r : Refusal} {s : Result Span Refusal} → s ≡ Err r → [] ≡ spanned file s
unfolding spanned in_part
no_bytes file e = rw e

pub found_bytes : (file : List ℕ) {f : Span} {s : Result Span Refusal} → s ≡ Ok f → take (f.first + f.length - f.first) (drop f.first file) ≡ spanned file s
unfolding spanned in_part
found_bytes file {f} e =
    let z : f.first + f.length - f.first ≡ f.length = omega arith in
    rw (e, z)

module _ (g : Grid) (file words : List ℕ) (row : ℕ) where
  pub part_lies : (s : Result Span Refusal) → s ≡ part_of g file words row → Lies (length file) s
  part_lies (Err r) e = tt
  part_lies (Ok f) e = inside g file words row e

  pub text_lies : Small file → (s : Result Span Refusal) → s ≡ text_of g file words row → Lies (length file) s
  text_lies small (Err r) e = tt
  text_lies small (Ok f) e = text-inside g file words row small e
