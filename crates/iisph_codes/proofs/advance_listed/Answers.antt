-- `iisph_codes::advance_listed` meets its contract: four loads and four stores, in the order of the definition.
-- Assumes nothing.
use mathlib.Core.Path.{refl}
use native.Mathlib.Omega.{arith}
use lib.ListN.{length-set}
use Rattle.iisph_codes.specs.ClockList.{clock_numbers, clock_of}
use Rattle.iisph_codes.proofs.advance_listed.Goals as goal

pub returns : goal.returns
unfolding clock_numbers clock_of
returns c = (c.advance-moved.ensures, refl)

pub bounds-clock-1-2 : goal.bounds-clock-1-2
bounds-clock-1-2 c = simp length-set (omega arith)

pub bounds-clock-2-2 : goal.bounds-clock-2-2
bounds-clock-2-2 c = simp length-set (omega arith)

pub bounds-clock-3-2 : goal.bounds-clock-3-2
bounds-clock-3-2 c = simp length-set (omega arith)
