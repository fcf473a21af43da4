use Rattle.std.proofs.Common.{◌≡◌, ℕ, ◌+◌, ◌*◌, ◌≤◌, refl, ap, ◌∙◌, arith}
use Rattle.nullables.specs.Placed.{flag_at, fit_at, Fits, row_of, place_of, put_next, put_all}
use Rattle.nullables.proofs.put_all.Goals.{After-wide-flag, After-value_bytes-bytes}
use Rattle.nullables.proofs.put_all.Goals as goal

pub loop-i-init : goal.loop-i-init
unfolding place_of row_of put_all
loop-i-init c = (refl, refl, refl)

pub bounds-file-next : goal.bounds-file-next
bounds-file-next c =
    let a = c.args in
    (fit_at a.file.now a.s.kind a.s.size a.s.first a.s.parent a.s.count c.loop-i._i c.loop-i.next c.loop-i.number c.requires.1 c.loop-i-test.true c.loop-i.invariant.0 c.loop-i.invariant.1).0.there

-- the nullable is there, and its rows are among those of the list
fit : (c : After-wide-flag) → Fits c.args.file.now c.args.s.kind c.args.s.size c.loop-i.next
    × (c.loop-i.number + 1 + flag_at c.args.file.now c.loop-i.next ≤ row_of c.args.file.now c.args.s.size c.args.s.first c.args.s.parent c.args.s.count)
fit c =
    let a = c.args in
    fit_at a.file.now a.s.kind a.s.size a.s.first a.s.parent a.s.count c.loop-i._i c.loop-i.next c.loop-i.number c.requires.1 c.loop-i-test.true c.loop-i.invariant.0 c.loop-i.invariant.1

-- its value's bytes are those that its first byte says
size : (c : After-value_bytes-bytes) → c.value_bytes-bytes.result ≡ flag_at c.args.file.now c.loop-i.next * c.args.s.size
size c = c.value_bytes-bytes.ensures.0 ∙ ap (λ (k : ℕ). k * c.args.s.size) c.wide-flag.ensures.0

pub value_bytes-bytes-requires : goal.value_bytes-bytes-requires
value_bytes-bytes-requires c =
    let f = fit (goal.at.value_bytes-bytes-requires c).After-wide-flag in
    (omega (arith, f.0.flagged), c.requires.0)

pub overflow_add-value : goal.overflow_add-value
overflow_add-value c =
    let f = fit (goal.at.overflow_add-value c).After-wide-flag in
    omega (arith, f.0.inside)

pub overflow_add-below : goal.overflow_add-below
overflow_add-below c =
    let f = fit (goal.at.overflow_add-below c).After-wide-flag in
    omega arith

pub put_value-requires : goal.put_value-requires
put_value-requires c =
    let f = fit (goal.at.put_value-requires c).After-wide-flag in
    omega (arith, f.0.flagged)

pub overflow_add-whole : goal.overflow_add-whole
overflow_add-whole c =
    let f = fit (goal.at.overflow_add-whole c).After-wide-flag in
    omega (arith, f.0.inside, size (goal.at.overflow_add-whole c).After-value_bytes-bytes)

pub overflow_add-next : goal.overflow_add-next
overflow_add-next c =
    let f = fit (goal.at.overflow_add-next c).After-wide-flag in
    omega (arith, f.0.inside, size (goal.at.overflow_add-next c).After-value_bytes-bytes)

pub overflow_add-number : goal.overflow_add-number
overflow_add-number c =
    let f = fit (goal.at.overflow_add-number c).After-wide-flag in
    omega arith

pub loop-i-preserved : goal.loop-i-preserved
loop-i-preserved c =
    let a = c.args in
    put_next a.grid a.file.now a.s.kind a.s.size a.s.first a.s.parent c.loop-i._i c.loop-i.next c.loop-i.number _ c.value_bytes-bytes.result a.words.now c.loop-i.words _ _ _ _ c.loop-i.invariant.0 c.loop-i.invariant.1
    c.wide-flag.ensures.0 c.value_bytes-bytes.ensures.0 c.loop-i.invariant.2
    c.put_value.ensures c.word.ensures c.word-in-loop-i.ensures c.put_row.ensures
