use mathlib.Core.Path.{◌≡◌, refl}
use mathlib.Core.List.{◌++◌}
use Prim.Native.Nat.{◌+◌, ◌-◌, ◌<◌, ◌≤◌}
use native.Mathlib.Omega.{arith}
use Rattle.reading.specs.Reads.{small_by_index}
use Rattle.places.specs.Places.{entries_places}
use Rattle.rewrite.specs.Steps.{no_entry}
use Rattle.rewrite.specs.Measured.{none_passed, one_passed, all_passed, end_fits, rest_places}
use borrow.Author.Rules.{rules}
use Rattle.rewrite.proofs.pass_entries.Goals as goal

pub loop-i-init : goal.loop-i-init
loop-i-init c =
    let z : c.args.readers - 0 ≡ c.args.readers = omega arith in
    rw z (refl, λ s. (none_passed c.args.file.now s c.args.readers c.args.at c.ranges.readers.fits c.requires.1, λ base places whole p. p))

pub overflow_add-place : goal.overflow_add-place
overflow_add-place c =
    let a = c.args in
    let s = a.file.now in
    let small = small_by_index s (λ i h. omega (arith, c.type_inv.file i)) in
    omega (arith, end_fits s small a.readers a.at (a.readers - c.loop-i.i) c.loop-i.place c.measure-number.result c.requires.0 c.measure-number.ensures.value (c.loop-i.invariant.1 small).0)

pub overflow_add-place-in-loop-i : goal.overflow_add-place-in-loop-i
overflow_add-place-in-loop-i c =
    let a = c.args in
    let s = a.file.now in
    let small = small_by_index s (λ i h. omega (arith, c.type_inv.file i)) in
    omega (arith, end_fits s small a.readers a.at (a.readers - c.loop-i.i) c.loop-i.place c.measure-number.result c.requires.0 c.measure-number.ensures.value (c.loop-i.invariant.1 small).0)

pub loop-i-preserved : goal.loop-i-preserved
loop-i-preserved c =
    let a = c.args in
    let n = c.measure-number.result in
    let left = a.readers - c.loop-i.i in
    let h : 0 < left = omega (arith, c.loop-i-test.true) in
    let z : a.readers - (c.loop-i.i + 1) ≡ left - 1 = omega arith in
    rw z (
      search rules,
      λ s. let v = c.loop-i.invariant.1 s in
          let r = rest_places a.file.now s a.readers a.at left c.loop-i.place n c.requires.0 c.measure-number.ensures.value v.0 h in (
            one_passed a.file.now s a.readers a.at left c.loop-i.place n c.requires.0 c.measure-number.ensures.value v.0 h,
            λ base places whole p. c.pass-done.ensures base (entries_places a.file.now (left - 1) (n.next + n.value + 4) ++ places) whole c.measure-number.ensures.value (rw r at (v.1 base places whole p)),
          ),
    )

pub returns : goal.returns
returns c =
    let s = c.args.file.now in
    let small = small_by_index s (λ i h. omega (arith, c.type_inv.file i)) in
    let v = c.loop-i.invariant.1 small in
    let left = c.args.readers - c.loop-i.i in
    let h : left ≤ 0 = omega (arith, c.loop-i-test.false) in (
      all_passed s small c.args.readers c.args.at left c.loop-i.place h v.0,
      λ base places whole p. rw (no_entry s left c.loop-i.place h).0 at (v.1 base places whole p),
    )
