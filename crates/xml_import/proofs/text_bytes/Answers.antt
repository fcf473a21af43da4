-- `text_bytes` meets its contract: each length has its own number of bytes. Assumes nothing.
use mathlib.Core.Path.{◌≡◌}
use mathlib.Core.Logic.{inl, inr}
use Prim.Native.Nat.{ℕ, ◌+◌, ◌-◌, ◌≤◌, ◌<◌}
use native.Mathlib.Omega.{arith}
use lib.ListN.{length}
use Rattle.layout.specs.Shortest.{shortest}
use Rattle.xml_import.specs.Puts.{TextOf}
use Rattle.xml_import.proofs.Lengths.{Groups, groups}
use Rattle.xml_import.proofs.text_bytes.Goals as goal

by_1 : (n size : ℕ) → n < 129 → n ≡ length (shortest size) + size → Groups size → n - 1 ≡ size
by_1 n size a e (inl g) = omega (arith, g.long, g.from, g.below)
by_1 n size a e (inr (inl g)) = omega (arith, g.long, g.from, g.below)
by_1 n size a e (inr (inr (inl g))) = omega (arith, g.long, g.from, g.below)
by_1 n size a e (inr (inr (inr g))) = omega (arith, g.long, g.from, g.below)

by_2 : (n size : ℕ) → 129 ≤ n → n < 16386 → n ≡ length (shortest size) + size → Groups size → n - 2 ≡ size
by_2 n size a b e (inl g) = omega (arith, g.long, g.from, g.below)
by_2 n size a b e (inr (inl g)) = omega (arith, g.long, g.from, g.below)
by_2 n size a b e (inr (inr (inl g))) = omega (arith, g.long, g.from, g.below)
by_2 n size a b e (inr (inr (inr g))) = omega (arith, g.long, g.from, g.below)

by_3 : (n size : ℕ) → 16386 ≤ n → n < 2097155 → n ≡ length (shortest size) + size → Groups size → n - 3 ≡ size
by_3 n size a b e (inl g) = omega (arith, g.long, g.from, g.below)
by_3 n size a b e (inr (inl g)) = omega (arith, g.long, g.from, g.below)
by_3 n size a b e (inr (inr (inl g))) = omega (arith, g.long, g.from, g.below)
by_3 n size a b e (inr (inr (inr g))) = omega (arith, g.long, g.from, g.below)

by_4 : (n size : ℕ) → 2097155 ≤ n → n ≡ length (shortest size) + size → Groups size → n - 4 ≡ size
by_4 n size a e (inl g) = omega (arith, g.long, g.from, g.below)
by_4 n size a e (inr (inl g)) = omega (arith, g.long, g.from, g.below)
by_4 n size a e (inr (inr (inl g))) = omega (arith, g.long, g.from, g.below)
by_4 n size a e (inr (inr (inr g))) = omega (arith, g.long, g.from, g.below)

pub returns-then-n-lt129 : goal.returns-then-n-lt129
unfolding TextOf
returns-then-n-lt129 c = λ size h e. by_1 _ size (omega arith) e (groups size h)

pub returns-then-n-lt16386 : goal.returns-then-n-lt16386
unfolding TextOf
returns-then-n-lt16386 c = λ size h e. by_2 _ size (omega arith) (omega arith) e (groups size h)

pub returns-then-n-lt2097155 : goal.returns-then-n-lt2097155
unfolding TextOf
returns-then-n-lt2097155 c = λ size h e. by_3 _ size (omega arith) (omega arith) e (groups size h)

pub returns : goal.returns
unfolding TextOf
returns c = λ size h e. by_4 _ size (omega arith) e (groups size h)
