use Rattle.std.proofs.Common.{◌≡◌, sym, ◌∙◌, ◌+◌, arith}
use Rattle.std.proofs.lemmas.Bool.{le-leb, lt-leb}
use Rattle.std.proofs.lemmas.Result.{err_from_is_err_and}
use Rattle.numbers.specs.Steps.{last_group}
use Rattle.numbers.proofs.Found.{Found, cut, found}
use Rattle.numbers.proofs.seven.last_group.Goals.{In_ok-byte}
use Rattle.numbers.proofs.seven.last_group.Goals as goal

there : (c : In_ok-byte) → Found c.args.s.now (c.args.start + 4) c.in_ok-byte.byte
there c = found _ _ _ (sym c.byte_at.ensures ∙ c.in_ok-byte.ensures.ok_part)

pub returns-in_err-byte : goal.returns-in_err-byte
unfolding last_group
returns-in_err-byte c =
    let p = err_from_is_err_and c.from_residual.result c.from_residual.ensures.1 in
    let n = c.in_err-byte.ensures in
    let v = rw n.ok_part at n.value in
    let z : c.in_err-byte.field-0.0 ≡ c.at.result = cc in
    rw (p.1, p.2, z, c.at.ensures, cut _ _ (sym c.byte_at.ensures ∙ n.ok_part))

pub overflow_add-result : goal.overflow_add-result
overflow_add-result c = omega (arith, (there (goal.at.overflow_add-result c).In_ok-byte).inside)

pub returns-then-byte-le15 : goal.returns-then-byte-le15
unfolding last_group
returns-then-byte-le15 c =
    let f = there (goal.at.returns-then-byte-le15 c).In_ok-byte in
    let t = le-leb c.in_ok-byte.byte 15 (omega (arith, c.if-byte-le15.true)) in
    simp (f.not_cut, f.byte, t, c.join.ensures, c.beyond.ensures, c.needed_by-short.ensures)

pub returns : goal.returns
unfolding last_group
returns c =
    let f = there (goal.at.returns c).In_ok-byte in
    let t = lt-leb c.in_ok-byte.byte 15 (omega (arith, c.if-byte-le15.false)) in
    simp (c.at-2.ensures, f.not_cut, f.byte, t)
