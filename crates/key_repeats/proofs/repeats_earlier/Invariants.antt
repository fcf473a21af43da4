use Rattle.key_order.specs.Texts.{key_text}
use Rattle.key_repeats.specs.Steps.{NoneOf}
use Rattle.key_repeats.proofs.repeats_earlier.Given as goal

abbrev pub invariant-loop-h : goal.invariant-loop-h
invariant-loop-h l = NoneOf (key_text l.keys.file.now l.keys.table.grid l.keys.table.words.now l.keys.rows.now) l.h l.i
