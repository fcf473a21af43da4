-- `readers::readers_at` meets its contract: before each turn the first `i` readers are in the arrays. Assumes nothing.
use mathlib.Core.Path.{◌≡◌, sym, ap, ◌∙◌}
use Prim.Native.Nat.{◌-◌}
use native.Mathlib.Omega.{arith}
use Rattle.names.specs.Entries.{enums_of}
use Rattle.names.specs.EntryLaws.{enums-sized}
use Rattle.reading.specs.Reads.{small_by_index}
use Rattle.places.specs.Padding.{pad_few}
use Rattle.readers.specs.Left.{readers_from, readers_left}
use Rattle.readers.specs.Turns.{Underway}
use Rattle.readers.specs.Steps.{readers-start, reader-turn, readers-end}
use Rattle.readers.specs.Turning.{none_read, ready, one_read}
use Rattle.readers.specs.Meaning.{reader-takes}
use borrow.Author.Rules.{rules}
use Rattle.readers.proofs.readers_at.Given as goal

abbrev pub invariant-loop-i : goal.invariant-loop-i
invariant-loop-i l =
    Underway (enums_of l.enums) l.file l.initial.codes l.codes l.targets l.starts l.n l.at l.i l.used l.next l.padding
    × (readers_from (enums_of l.enums) l.file (l.n - l.i) l.i l.used l.next l.padding l.codes l.targets l.starts ≡ readers_left (enums_of l.enums) l.file l.n l.at l.initial.codes l.initial.targets l.initial.starts)
