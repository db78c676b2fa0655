-- `scene_format::read::criterion` meets its contract: by the lowest bit of the rule. Assumes nothing.
use borrow.Author.Tests.{eq-eqb, ne_eqb}
use Rattle.scene_format.specs.Format.{criterion_of}
use Rattle.scene_format.proofs.read.criterion.Goals as goal

pub returns-then-rule-eq0 : goal.returns-then-rule-eq0
unfolding criterion_of
returns-then-rule-eq0 c = rw (← c.rule.ensures, eq-eqb _ _ c.if-rule-eq0.true)

pub returns-else-rule-eq0 : goal.returns-else-rule-eq0
unfolding criterion_of
returns-else-rule-eq0 c = rw (← c.rule.ensures, ne_eqb _ _ c.if-rule-eq0.false)
