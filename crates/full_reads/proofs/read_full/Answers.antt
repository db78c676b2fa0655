-- `full_reads::read_full` meets its contract: what a read gave stands after what came before. Assumes nothing.
use Rattle.std.proofs.Common.{rules}
use Rattle.full_reads.proofs.Filling.{consumes_more}
use Rattle.full_reads.proofs.read_full.Goals as goal

pub loop-done-preserved : goal.loop-done-preserved
loop-done-preserved g c = (
  search rules,
  consumes_more _ _ _ _ _ _ _ _ c.loop-done.invariant.0 c.in_ok-n.ensures.bound.0 c.loop-done.invariant.1
      c.in_ok-n.ensures.bytes.0,
)
