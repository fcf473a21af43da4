use Rattle.std.proofs.Common.{◌≡◌, ◌+◌, ◌-◌, ◌≤◌, refl, sym, ◌∙◌, arith, length, get_or, drop, length-drop}
use Rattle.first_values.specs.Looks.{text-short}
use Rattle.first_values.proofs.text_end.Goals as goal

pub returns-then-is_short_utf8 : goal.returns-then-is_short_utf8
returns-then-is_short_utf8 c =
    let a = c.args in
    let s = a.file.now in
    let n = get_or s a.at 0 in
    let l : n ≤ length (drop (a.at + 1) s) = omega (arith, length-drop (a.at + 1) s, c.if-file-start.false) in
    let e : a.at + 1 + n - (a.at + 1) ≡ n = omega arith in
    (n, text-short s a.at n c.if-file-at.false refl c.if-n-ge64.false l (sym (rw e at c.is_short_utf8.ensures) ∙ c.if-is_short_utf8.true))
