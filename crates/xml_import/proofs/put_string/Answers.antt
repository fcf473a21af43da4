use mathlib.Core.Path.{refl}
use lib.ListN.{length-set}
use native.Mathlib.Omega.{arith}
use Rattle.xml_import.proofs.Lengths.{one}
use Rattle.xml_import.proofs.Strings.{put_small, put-shortest, string-put}
use Rattle.xml_import.proofs.put_string.Goals as goal

pub bounds-out-next : goal.bounds-out-next
bounds-out-next c = simp length-set (omega (arith, c.requires.2, one _ c.if-size-lt128.true))

pub put_taken-requires : goal.put_taken-requires
put_taken-requires c = (c.requires.0, simp length-set (omega (arith, c.requires.2, one _ c.if-size-lt128.true)), c.requires.3)

pub returns-then-size-lt128 : goal.returns-then-size-lt128
returns-then-size-lt128 c =
    string-put _ _ _ _ _ c.requires.0 refl (put_small _ c.if-size-lt128.true refl) (omega (arith, one _ c.if-size-lt128.true)) c.put_taken.ensures

pub returns : goal.returns
returns c =
    string-put _ _ _ _ _ c.requires.0 refl (put-shortest _ c.write_shortest.ensures.1) (omega (arith, c.length_size.ensures)) c.put_taken-2.ensures
