use native.Mathlib.Omega.{arith}
use Rattle.leaves.specs.Same.{all_free, all_booleans, all_chars}
use Rattle.leaves.proofs.run.all_kept.Goals as goal

pub returns-then-s-eq1 : goal.returns-then-s-eq1
returns-then-s-eq1 c =
    let s = c.args.s in
    let there = c.all_there.ensures c.if-not-all_there.false in
    λ e. (all_booleans c.args.file.now s.kind s.size s.first s.count there c.in-11.is c.if-s-eq1.true (c.all_at_most.ensures e), there)

pub returns-then-s-eq1-2 : goal.returns-then-s-eq1-2
returns-then-s-eq1-2 c =
    let s = c.args.s in
    let there = c.all_there.ensures c.if-not-all_there.false in
    λ e. (all_chars c.args.file.now s.kind s.size s.first s.count there c.in-12.is c.if-s-eq1-2.true (c.all_at_most-then-s-eq1-2.ensures e), there)

pub returns-in_default : goal.returns-in_default
returns-in_default c =
    let s = c.args.s in
    let there = c.all_there.ensures c.if-not-all_there.false in
    λ e. (all_free c.args.file.now s.kind s.size s.first s.count there (λ q. omega arith) (λ q. omega arith) (λ q. omega arith) (λ q. omega arith), there)

pub returns-in_default-2 : goal.returns-in_default-2
returns-in_default-2 c =
    let s = c.args.s in
    let there = c.all_there.ensures c.if-not-all_there.false in
    λ e. (all_free c.args.file.now s.kind s.size s.first s.count there (λ q. omega arith) (λ q. omega arith) (λ q. omega arith) (λ q. omega arith), there)
