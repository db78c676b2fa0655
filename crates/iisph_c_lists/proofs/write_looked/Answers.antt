-- `iisph_c_lists::write_looked` meets its contract: one store, and a refusal's. Assumes nothing.
use mathlib.Core.Path.{ap, ◌∙◌}
use lib.ListN.{length, length-set}
use Rattle.iisph_codes.specs.Numbers.{walk_code, walk_counts}
use Rattle.iisph_c_lists.proofs.write_looked.Goals as goal

pub returns-in-Ok : goal.returns-in-Ok
unfolding walk_code walk_counts
returns-in-Ok c = (rw c.in-Ok.is, rw c.in-Ok.is)

pub shape_of-counts-in-Err : goal.shape_of-counts-in-Err
shape_of-counts-in-Err c = ap length c.write_refusal.ensures.1 ∙ simp length-set

pub returns-in-Err : goal.returns-in-Err
unfolding walk_code walk_counts
returns-in-Err c =
    let q = c.in-Err.is in
    (rw q c.write_refusal.ensures.0, rw q c.write_refusal.ensures.1)
