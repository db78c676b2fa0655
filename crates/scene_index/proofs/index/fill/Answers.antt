-- `scene_index::index::fill` meets its contract: section behind section, each of which fits since the whole index does.
-- Assumes nothing.
use native.Mathlib.Omega.{arith}
use Rattle.scene_check.proofs.Records.{size_few}
use Rattle.scene_format.specs.declared.Kind.TheVariants.{Fluid, Boundary}
use Rattle.scene_index.proofs.Indexes.{SectionsAre, sections_are, fluids_within, boundaries_within, fluid_places}
use Rattle.scene_index.proofs.Indexes.{boundary_places, all_filled}
use Rattle.scene_index.proofs.index.fill.Goals as goal
use Rattle.scene_index.proofs.index.fill.Goals.{After-sections_of-sections}

are : (c : After-sections_of-sections) → SectionsAre c.args.scene.now c.sections_of-sections.result
are c = sections_are c.sections_of-sections.ensures

pub fill_bases-requires : goal.fill_bases-requires
fill_bases-requires c =
    let p = c.requires in
    record {
      models_within = fluids_within p.0;
      scene_bound = (size_few _ p.0.walk Fluid, omega (arith, p.1, c.put_starts.auto.index));
    }

pub fill_bases-requires-2 : goal.fill_bases-requires-2
fill_bases-requires-2 c =
    let p = c.requires in
    let begin = are (goal.at.fill_bases-requires-2 c).After-sections_of-sections in
    record {
      models_within = boundaries_within p.0;
      scene_bound = (size_few _ p.0.walk Boundary, omega (arith, p.1, begin.bases));
    }

pub fill_models-requires : goal.fill_models-requires
fill_models-requires c =
    let p = c.requires in
    let begin = are (goal.at.fill_models-requires c).After-sections_of-sections in
    record {
      models_within = fluids_within p.0;
      scene_in_bounds = omega (arith, p.1, fluid_places p.0, begin.records);
    }

pub fill_models-requires-2 : goal.fill_models-requires-2
fill_models-requires-2 c =
    let p = c.requires in
    let begin = are (goal.at.fill_models-requires-2 c).After-sections_of-sections in
    record {
      models_within = fluids_within p.0;
      scene_in_bounds = omega (arith, p.1, fluid_places p.0, begin.heads);
    }

pub fill_models-requires-3 : goal.fill_models-requires-3
fill_models-requires-3 c =
    let p = c.requires in
    let begin = are (goal.at.fill_models-requires-3 c).After-sections_of-sections in
    record {
      models_within = boundaries_within p.0;
      scene_in_bounds = omega (arith, p.1, boundary_places p.0, begin.boundary_records);
    }

pub returns : goal.returns
returns c =
    all_filled c.requires.0 _ (are (goal.at.returns c).After-sections_of-sections) c.put_starts.ensures
    c.fill_bases.ensures c.fill_bases-2.ensures c.fill_models.ensures c.fill_models-2.ensures
    c.fill_models-3.ensures
