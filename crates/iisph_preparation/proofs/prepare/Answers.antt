-- `iisph_preparation::prepare` meets its contract: the index is filled, and the rows' contract gives the rest. Assumes
-- nothing.
use Rattle.iisph_preparation.proofs.Prepared.{indexed_over, driven}
use Rattle.iisph_preparation.proofs.prepare.Goals as goal

pub prepare_rows-requires-clause-driven_pass : goal.prepare_rows-requires-clause-driven_pass
prepare_rows-requires-clause-driven_pass c =
    let p = c.requires in
    driven (indexed_over p.passed.0 c.axes.ensures.0 _ p.scene_in_bounds.0 c.fill.ensures) p.passed.1

pub returns : goal.returns
returns c =
    let p = c.requires in record {
      indexed = (indexed_over p.passed.0 c.axes.ensures.0 _ p.scene_in_bounds.0 c.fill.ensures).indexed;
      answer = c.prepare_rows.ensures.0;
      list = c.prepare_rows.ensures.1;
    }
