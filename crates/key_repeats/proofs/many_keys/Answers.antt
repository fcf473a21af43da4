use Rattle.std.proofs.Common.{◌≡◌, ℕ, min, length, take, replicate, arith, length-take-le}
use Rattle.std.proofs.lemmas.List.{length-replicate}
use Rattle.key_repeats.specs.Gathered.{gathered-lowest}
use Rattle.key_repeats.specs.Steps.{order_lowest}
use Rattle.key_repeats.proofs.many_keys.Goals as goal

pub returns : goal.returns
returns g c =
    let a = c.args in
    let t = a.rows.table in
    let z : min (length {A = ℕ} (take c.gather-m.result (replicate g.row.N 0))) 65536 ≡ c.gather-m.result = omega (arith, length-take-le {A = ℕ}, length-replicate {A = ℕ}) in
    gathered-lowest a.file.now t.grid t.words.now a.rows.used a.n a.first _ _ c.gather-m.ensures.0 c.neighbours.result
    (order_lowest a.file.now t.grid t.words.now c.gather-m.new.keys c.sort.new.order c.gather-m.result c.neighbours.result (rw z at c.sort.ensures) c.neighbours.ensures)
