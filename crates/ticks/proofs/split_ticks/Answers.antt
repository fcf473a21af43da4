-- `ticks::split_ticks` meets its contract: the library's quotient and rest are those of the definition, and fit. Assumes nothing.
use Rattle.std.proofs.Common.{◌≡◌, refl, ◌∙◌, arith, ℤ, pos, negsuc}
use Rattle.std.specs.Int.{int_div_euclid, int_rem_euclid}
use mir.Facts.{to_z-of_z}
use mir.Val.{SFits}
use mir.Syntax.{w64}
use Rattle.ticks.specs.Split.{floor_div, floor_mod, split_of}
use Rattle.ticks.proofs.split_ticks.Goals as goal

floors : (t : ℤ) → int_div_euclid t (pos 10000000) ≡ floor_div t 10000000
floors (pos n) = refl
floors (negsuc n) = refl

rests : (t : ℤ) → int_rem_euclid t (pos 10000000) ≡ pos (floor_mod t 10000000)
rests (pos n) = refl
rests (negsuc n) = refl

floor_fits : (t : ℤ) → SFits w64 t → SFits w64 (floor_div t 10000000)
floor_fits (pos a) f = let h = f.sfits in record { sfits = omega arith }
floor_fits (negsuc a) f = let h = f.sfits in record { sfits = omega arith }

rest_fits : (t : ℤ) → SFits w64 (pos (floor_mod t 10000000))
rest_fits (pos a) = record { sfits = omega arith }
rest_fits (negsuc a) = record { sfits = omega arith }

pub returns : goal.returns
unfolding split_of
returns c =
    let t = to_z-of_z c.ranges.t in
    let d = (rw t at c.div_euclid.ensures) ∙ floors c.args.t in
    let m = (rw t at c.rem_euclid.ensures.value) ∙ rests c.args.t in
    simp (d, m, to_z-of_z (floor_fits c.args.t c.ranges.t), to_z-of_z (rest_fits c.args.t))
