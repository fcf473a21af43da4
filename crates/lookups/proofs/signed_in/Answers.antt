use Rattle.std.proofs.Common.{inl, inr}
use native.Mathlib.Omega.{arith}
use mathlib.Core.Path.{◌∙◌}
use Rattle.lookups.proofs.Signs.{kind2, kind3, kind5, kind8, no_kind}
use Rattle.lookups.proofs.signed_in.Goals as goal

pub returns-in-2 : goal.returns-in-2
returns-in-2 c = c.last_bytes.ensures ∙ kind2 _ _ _ c.in-2.is

pub returns-in-3 : goal.returns-in-3
returns-in-3 c = c.last_bytes-in-3.ensures ∙ kind3 _ _ _ c.in-3.is

pub returns-in-5 : goal.returns-in-5
returns-in-5 c = c.last_bytes-in-5.ensures ∙ kind5 _ _ _ c.in-5.is

pub returns-in-7 : goal.returns-in-7
returns-in-7 c = c.last_bytes-in-7.ensures ∙ kind8 _ _ _ c.in-7.is

pub returns-in_default : goal.returns-in_default
returns-in_default c = rw c.at.ensures (no_kind _ _ _ (λ q. omega arith) (λ q. omega arith) (λ q. omega arith) (λ q. c.in_default.in_default-own.rest.1 (inl q)) (λ q. c.in_default.in_default-own.rest.1 (inr q)))
