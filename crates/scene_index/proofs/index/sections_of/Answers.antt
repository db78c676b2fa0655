-- `scene_index::index::sections_of` meets its contract: section behind section; models and particles are few. Assumes
-- nothing.
use mathlib.Core.Path.{refl}
use native.Mathlib.Omega.{arith}
use Rattle.scene_index.proofs.Indexes.{CountsFew, counts_few, sections_made}
use Rattle.scene_index.proofs.index.sections_of.Goals as goal

pub overflow_mul-boundary_bases : goal.overflow_mul-boundary_bases
overflow_mul-boundary_bases c = let few : CountsFew c.args.layout = counts_few c.requires in omega arith

pub overflow_add-boundary_bases : goal.overflow_add-boundary_bases
overflow_add-boundary_bases c = let few : CountsFew c.args.layout = counts_few c.requires in omega arith

pub overflow_mul-records : goal.overflow_mul-records
overflow_mul-records c = let few : CountsFew c.args.layout = counts_few c.requires in omega arith

pub overflow_add-records : goal.overflow_add-records
overflow_add-records c = let few : CountsFew c.args.layout = counts_few c.requires in omega arith

pub overflow_add-heads : goal.overflow_add-heads
overflow_add-heads c = let few : CountsFew c.args.layout = counts_few c.requires in omega arith

pub overflow_add-boundary_records : goal.overflow_add-boundary_records
overflow_add-boundary_records c = let few : CountsFew c.args.layout = counts_few c.requires in omega arith

pub overflow_add-end : goal.overflow_add-end
overflow_add-end c = let few : CountsFew c.args.layout = counts_few c.requires in omega arith

pub returns : goal.returns
returns c =
    sections_made c.requires refl refl refl refl refl
