use borrow.Author.Rules.{rules}
use Prim.Native.Nat.{ℕ}
use mathlib.Core.Path.{ap, ◌∙◌}
use Rattle.builder.proofs.Laws.{load_packed}
use Rattle.builder.proofs.bare.load_bare.Goals as goal

pub returns : goal.returns
returns c = ap (λ (t : ℕ × ℕ × ℕ × ℕ). t.0) c.xnb_load_rows.ensures.padding_after ∙ load_packed _ _
