-- `iisph_lines::lines::put_model` meets its contract. The loop's invariant: the lines of the first i particles are
-- written. Assumes nothing.
use mathlib.Core.Path.{refl}
use native.Mathlib.Omega.{arith}
use Rattle.iisph_lines.proofs.ModelLines.{none_lined, line_fits, line_written}
use Rattle.iisph_lines.proofs.lines.put_model.Goals as goal

pub loop-i-init : goal.loop-i-init
loop-i-init c = none_lined _ _ _ _ _ (omega (arith, c.requires.xs_in_bounds))

pub put_particle-requires-clause-w_in_bounds_2 : goal.put_particle-requires-clause-w_in_bounds_2
put_particle-requires-clause-w_in_bounds_2 c =
    line_fits _ _ _ _ _ c.loop-i.i refl c.loop-i.invariant c.loop-i-test.true c.requires.xs_in_bounds

pub loop-i-preserved : goal.loop-i-preserved
loop-i-preserved c = line_written _ _ _ _ _ c.loop-i.i refl c.loop-i.invariant c.put_particle.ensures
