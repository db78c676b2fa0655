-- `math::magnitude` meets its contract: a zero, a negative and any other double, by the laws of proofs/Doubles.antt.
-- Assumes nothing.
use mathlib.Core.Path.{sym, subst}
use lib.Dec.{T}
use lib.Ieee.{binary64, fits}
use Rattle.math.proofs.Doubles.{magnitude-zero, magnitude_below, magnitude_above}
use Rattle.math.proofs.magnitude.Goals as goal

pub returns-then-x : goal.returns-then-x
returns-then-x c =
    let held : T (fits binary64 c.args.x) = subst T (sym c.well_formed.0.1) tt in
    magnitude-zero c.args.x held c.if-x.true

pub returns-then-x-2 : goal.returns-then-x-2
returns-then-x-2 c = magnitude_below c.args.x c.if-x-2.true

pub returns-else-x-2 : goal.returns-else-x-2
returns-else-x-2 c = magnitude_above c.args.x c.if-x.false c.if-x-2.false
