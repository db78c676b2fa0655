-- `iisph_validation::validate_sized` meets its contract: a list that is too short is 8; else the index of the size that
-- is chosen is long enough. Assumes nothing.
use mathlib.Core.Path.{ap}
use native.Mathlib.Omega.{arith}
use Rattle.iisph_validation.proofs.Validated.{short_validates}
use Rattle.iisph_validation.proofs.validate_sized.Goals as goal

pub returns-then-work-lengths_of : goal.returns-then-work-lengths_of
returns-then-work-lengths_of c =
    short_validates c.args.scene.now c.args.work.now c.requires.walk
    (omega (arith, c.if-work-lengths_of.true, ap (λ n. n.work) c.lengths_of.ensures))
