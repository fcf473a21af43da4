use Rattle.std.proofs.Common.{◌≡◌, refl, sym, ◌∙◌, ◌+◌, ◌-◌, length, arith}
use Rattle.fill.proofs.Laws.{put_pasted, in_both}
use Rattle.xml_escape.specs.Sizes.{take_whole, whole-put}
use Rattle.xml_export.proofs.escape.put_slice.Goals as goal

pub returns : goal.returns
returns c =
    let a = c.args in
    let b = a.bytes.now in
    let n = length b in
    let k : a.to + n - a.to ≡ n = omega arith in
    whole-put b b refl refl (put_pasted a.out.now a.to b 0 n k refl (c.copy_from_slice.ensures.after ∙ sym (take_whole b)) ∙ (in_both a.out.now a.to b 0 n c.requires (omega arith)).1)
