use Rattle.std.proofs.Common.{ℕ, refl, sym, subst, add-one}
use Rattle.first_values.specs.Took.{Took}
use Rattle.first_values.proofs.take.Goals as goal

pub loop-taken-init : goal.loop-taken-init
unfolding Took
loop-taken-init c = (refl, refl, refl)

pub loop-taken-preserved : goal.loop-taken-preserved
unfolding Took
loop-taken-preserved c =
    let a = c.args in
    subst (λ (k : ℕ). Took a.grid a.file.now a.codes.now a.targets.now a.count a.declared a.used a.words.now a.at k c.in-Some.seen.end c.sum-sum.result c.put_row.new.words) (sym (add-one c.loop-taken.taken))
    (record {
      first = c.loop-taken.next;
      had = c.loop-taken.sum;
      old = c.loop-taken.words;
      seen = c.in-Some.seen;
      before = c.loop-taken.invariant;
      free = c.fitting-most.ensures.1 c.loop-taken.taken c.loop-taken-test.true;
      ends = refl;
      sums = c.sum-sum.ensures;
      looked = c.in-Some.ensures a.declared (c.wanted_code-wanted.ensures a.file.now);
      puts = rw (← c.row_words-r.ensures) c.put_row.ensures;
    })
