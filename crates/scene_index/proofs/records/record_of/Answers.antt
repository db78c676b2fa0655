-- `scene_index::records::record_of` meets its contract: by the kind, whose section begins where the index says. Assumes
-- nothing.
use Prim.Native.Nat.{◌+◌, ◌<◌}
use mathlib.Core.Path.{◌≡◌}
use native.Mathlib.Omega.{arith}
use lib.ListN.{length, get_or}
use Rattle.scene_format.specs.Format.{location_of}
use Rattle.scene_index.proofs.Targets.{fluid_record_found, boundary_record_found}
use Rattle.scene_index.proofs.records.record_of.Goals as goal
use Rattle.scene_index.proofs.records.record_of.Goals.{In-Fluid, In-Boundary}

fluid : (c : In-Fluid)
    → let a = c.args in
    let at = get_or a.index.now 1 0 + a.i in
    (at < length a.index.now) × (get_or a.index.now at 0 ≡ (location_of a.kind a.scene.now a.i).at)
fluid c = fluid_record_found c.requires.0 _ c.requires.1 c.in-Fluid.is

boundary : (c : In-Boundary)
    → let a = c.args in
    let at = get_or a.index.now 3 0 + a.i in
    (at < length a.index.now) × (get_or a.index.now at 0 ≡ (location_of a.kind a.scene.now a.i).at)
boundary c = boundary_record_found c.requires.0 _ c.requires.1 c.in-Boundary.is

pub overflow_add-result : goal.overflow_add-result
overflow_add-result c = omega (arith, (fluid (goal.at.overflow_add-result c).In-Fluid).0)

pub offset_bounds-index-records : goal.offset_bounds-index-records
offset_bounds-index-records c = omega (arith, (fluid (goal.at.offset_bounds-index-records c).In-Fluid).0)

pub bounds-index-records : goal.bounds-index-records
bounds-index-records c = omega (arith, (fluid (goal.at.bounds-index-records c).In-Fluid).0)

pub overflow_add-result-in-Boundary : goal.overflow_add-result-in-Boundary
overflow_add-result-in-Boundary c =
    omega (arith, (boundary (goal.at.overflow_add-result-in-Boundary c).In-Boundary).0)

pub offset_bounds-index-records-in-Boundary : goal.offset_bounds-index-records-in-Boundary
offset_bounds-index-records-in-Boundary c =
    omega (arith, (boundary (goal.at.offset_bounds-index-records-in-Boundary c).In-Boundary).0)

pub bounds-index-records-in-Boundary : goal.bounds-index-records-in-Boundary
bounds-index-records-in-Boundary c =
    omega (arith, (boundary (goal.at.bounds-index-records-in-Boundary c).In-Boundary).0)

pub returns-in-Fluid : goal.returns-in-Fluid
returns-in-Fluid c = (fluid (goal.at.returns-in-Fluid c).In-Fluid).1

pub returns-in-Boundary : goal.returns-in-Boundary
returns-in-Boundary c = (boundary (goal.at.returns-in-Boundary c).In-Boundary).1
