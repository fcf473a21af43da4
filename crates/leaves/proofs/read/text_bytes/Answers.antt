use mathlib.Core.Path.{◌≡◌, sym, ◌∙◌}
use mathlib.Core.Bool.{true}
use Prim.Native.Nat.{◌+◌, ◌-◌}
use native.Mathlib.Omega.{arith}
use lib.Dec.{leb}
use lib.ListN.{length, drop}
use Rattle.leaves.specs.Text.{text-missing, text_there, text-broken}
use Rattle.leaves.proofs.read.text_bytes.Goals.{Else-not-has_bytes}
use Rattle.leaves.proofs.read.text_bytes.Goals as goal

there : (c : Else-not-has_bytes) → leb c.args.count (length (drop c.args.start c.args.file.now)) ≡ true
there c = sym c.has_bytes.ensures ∙ c.if-not-has_bytes.false

pub returns-then-not-has_bytes : goal.returns-then-not-has_bytes
returns-then-not-has_bytes c =
    let a = c.args in
    rw c.at.ensures (text-missing a.file.now a.at a.count a.start a.padding (sym c.has_bytes.ensures ∙ c.if-not-has_bytes.true))

pub returns-then-is_text : goal.returns-then-is_text
returns-then-is_text c =
    let a = c.args in
    let e : a.start + a.count - a.start ≡ a.count = omega arith in
    text_there a.file.now a.at a.count a.start a.padding (there (goal.at.returns-then-is_text c).Else-not-has_bytes) (sym (rw e at c.is_text.ensures) ∙ c.if-is_text.true)

pub returns : goal.returns
returns c =
    let a = c.args in
    let e : a.start + a.count - a.start ≡ a.count = omega arith in
    rw c.at-2.ensures (text-broken a.file.now a.at a.count a.start a.padding (there (goal.at.returns c).Else-not-has_bytes) (sym (rw e at c.is_text.ensures) ∙ c.if-is_text.false))
