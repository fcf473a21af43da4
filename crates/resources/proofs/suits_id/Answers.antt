-- `resources::suits_id` meets its contract: an id that is not 0 is one more than a position, and the primary stands before the shared objects. Assumes nothing.
use mathlib.Core.Path.{◌≡◌, refl, sym, ◌∙◌}
use mathlib.Core.Bool.{true}
use mathlib.Core.List.{List}
use Prim.Native.Nat.{ℕ, zero, suc, ◌+◌}
use native.Mathlib.Omega.{arith}
use lib.ListN.{get_or, drop}
use lib.Seq.{get_or-drop}
use Rattle.laws.specs.Small.{differ}
use Rattle.ids.specs.Position.{position_of}
use Rattle.std.specs.Prelude.{Some, None}
use Rattle.reading.specs.Drafts.{resource}
use Rattle.reading.specs.Resource.{suit, suits}
use Rattle.resources.proofs.suits_id.Goals as goal

null_suits : (kinds : List ℕ) (wanted id : ℕ) → position_of id ≡ None → true ≡ suits (drop 1 kinds) (resource wanted) id
unfolding suits suit
null_suits kinds wanted zero e = refl
null_suits kinds wanted (suc i) e = differ cc

at_suits : (kinds : List ℕ) (wanted id i : ℕ) → position_of id ≡ Some i → suit wanted (get_or kinds (i + 1) 0) ≡ suits (drop 1 kinds) (resource wanted) id
unfolding suits
at_suits kinds wanted zero i e = differ cc
at_suits kinds wanted (suc n) i e =
    let q : n ≡ i = cc in
    let p : i + 1 ≡ 1 + i = omega arith in
    rw (q, p, get_or-drop 1 kinds i 0)

pub returns-in-None : goal.returns-in-None
returns-in-None c =
    let a = c.args in
    null_suits a.kinds.now a.wanted a.id.0 (sym c.position.ensures ∙ c.in-None.is)

pub returns-in-Some : goal.returns-in-Some
returns-in-Some c =
    let a = c.args in
    c.suits_kind.ensures ∙ rw c.kind_at.ensures (at_suits a.kinds.now a.wanted a.id.0 _ (sym c.position.ensures ∙ c.in-Some.is))
