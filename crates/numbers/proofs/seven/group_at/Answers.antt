use Rattle.std.proofs.Common.{◌≡◌, sym, ap, ◌∙◌, ℕ, ◌+◌, ◌*◌, ◌%◌, ◌^◌, bit_and, bit_or, arith, lt-ltb, le-ltb}
use Rattle.std.proofs.lemmas.Result.{err_from_is_err_and}
use lib.Bits.{and_mask}
use Rattle.numbers.specs.Steps.{joined, group}
use Rattle.numbers.proofs.Found.{Found, cut, found}
use Rattle.numbers.proofs.seven.group_at.Goals.{In_ok-byte}
use Rattle.numbers.proofs.seven.group_at.Goals as goal

-- the low seven bits of a byte's low seven bits are those
masked : (low bits_read b : ℕ) → joined low bits_read (bit_and b 127) ≡ joined low bits_read b
unfolding joined
masked low bits_read b =
    let r : b % 128 % 128 ≡ b % 128 = omega arith in
    ap (λ (x : ℕ). bit_or low (x % 128 * 2 ^ bits_read)) (and_mask b 7) ∙ rw r

there : (c : In_ok-byte) → Found c.args.s.now (c.args.start + c.args.k) c.in_ok-byte.byte
there c = found _ _ _ (sym c.byte_at.ensures ∙ c.in_ok-byte.ensures.ok_part)

pub returns-in_err-byte : goal.returns-in_err-byte
unfolding group
returns-in_err-byte c =
    let p = err_from_is_err_and c.from_residual.result c.from_residual.ensures.1 in
    let n = c.in_err-byte.ensures in
    let v = rw n.ok_part at n.value in
    let z : c.in_err-byte.field-0.0 ≡ c.at.result = cc in
    rw (p.1, p.2, z, c.at.ensures, cut _ _ (sym c.byte_at.ensures ∙ n.ok_part))

pub overflow_add-result : goal.overflow_add-result
overflow_add-result c = omega (arith, (there (goal.at.overflow_add-result c).In_ok-byte).inside)

pub overflow_add-result-then-byte-lt128 : goal.overflow_add-result-then-byte-lt128
overflow_add-result-then-byte-lt128 c = omega (arith, (there (goal.at.overflow_add-result-then-byte-lt128 c).In_ok-byte).inside)

pub returns-then-byte-lt128 : goal.returns-then-byte-lt128
unfolding group
returns-then-byte-lt128 c =
    let f = there (goal.at.returns-then-byte-lt128 c).In_ok-byte in
    let t = lt-ltb c.in_ok-byte.byte 128 (omega (arith, c.if-byte-lt128.true)) in
    simp (f.not_cut, f.byte, t, c.join.ensures, c.requires.1, c.beyond.ensures, c.needed_by-short.ensures)

pub returns : goal.returns
unfolding group
returns c =
    let a = c.args in
    let f = there (goal.at.returns c).In_ok-byte in
    let t = le-ltb c.in_ok-byte.byte 128 (omega (arith, c.if-byte-lt128.false)) in
    let m = masked a.low a.bits_read c.in_ok-byte.byte in
    simp (f.not_cut, f.byte, t, c.join-2.ensures ∙ m, c.requires.1, c.needed_by-short.ensures)
