-- `scene_format::read::summation` meets its contract: by whether the rule has a bit above its lowest. Assumes nothing.
use borrow.Author.Tests.{eq-eqb, ne_eqb}
use Rattle.scene_format.specs.Format.{summation_of}
use Rattle.scene_format.proofs.read.summation.Goals as goal

pub returns-then-rule-eq0 : goal.returns-then-rule-eq0
unfolding summation_of
returns-then-rule-eq0 c = rw (← c.rule.ensures, eq-eqb _ _ c.if-rule-eq0.true)

pub returns-else-rule-eq0 : goal.returns-else-rule-eq0
unfolding summation_of
returns-else-rule-eq0 c = rw (← c.rule.ensures, ne_eqb _ _ c.if-rule-eq0.false)
