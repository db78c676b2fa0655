-- `scene_index::contacts::target_of` meets its contract: by the kind, the base of the name's block stands in the index,
-- and the particle's number within its block is added. Assumes nothing.
use Prim.Native.Nat.{◌+◌, ◌*◌, ◌/◌, ◌%◌, ◌<◌}
use mathlib.Core.Path.{◌≡◌, sym, ap, ◌∙◌}
use native.Mathlib.Omega.{arith}
use lib.ListN.{length, get_or}
use Rattle.scene_format.specs.Format.{starts_of}
use Rattle.scene_format.specs.SceneOf.{target_at}
use Rattle.scene_format.specs.declared.Kind.TheVariants.{Fluid}
use Rattle.scene_index.specs.Index.{block_size, model_blocks, bases_at}
use Rattle.scene_index.proofs.Sections.{bases_begin}
use Rattle.scene_index.proofs.Targets.{base_found, target_few}
use Rattle.scene_index.proofs.contacts.target_of.Goals as goal
use Rattle.scene_index.proofs.contacts.target_of.Goals.{In-Fluid, In-Boundary}

-- by each kind: the block's base stands in the index, from where the kind's bases begin on
fluid : (c : In-Fluid)
    → let a = c.args in
    let p = c.contact_name-name.result.particle.0 in
    let x = bases_at Fluid a.scene.now + (model_blocks * c.contact_name-name.result.model.0 + p / block_size) in
    (x < length a.index.now)
    × (get_or a.index.now x 0 + p % block_size ≡ target_at (starts_of a.kind a.scene.now) a.scene.now a.at)
fluid c =
    let p = c.requires in
    base_found p.indexed c.args.kind _ c.contact_name-name.ensures p.target_ready.0
    (sym (ap (λ κ. bases_at κ c.args.scene.now) c.in-Fluid.is))

boundary : (c : In-Boundary)
    → let a = c.args in
    let p = c.contact_name-name.result.particle.0 in
    let x = get_or a.index.now 0 0 + (model_blocks * c.contact_name-name.result.model.0 + p / block_size) in
    (x < length a.index.now)
    × (get_or a.index.now x 0 + p % block_size ≡ target_at (starts_of a.kind a.scene.now) a.scene.now a.at)
boundary c =
    let p = c.requires in
    base_found p.indexed c.args.kind _ c.contact_name-name.ensures p.target_ready.0
    (bases_begin p.indexed ∙ sym (ap (λ κ. bases_at κ c.args.scene.now) c.in-Boundary.is))

pub bounds-index-block : goal.bounds-index-block
bounds-index-block c = omega (arith, (fluid (goal.at.bounds-index-block c).In-Fluid).0)

pub returns-in-Fluid : goal.returns-in-Fluid
returns-in-Fluid c = (fluid (goal.at.returns-in-Fluid c).In-Fluid).1

pub overflow_add-result-in-Fluid : goal.overflow_add-result-in-Fluid
overflow_add-result-in-Fluid c =
    let p = c.requires in
    let found = fluid (goal.at.overflow_add-result-in-Fluid c).In-Fluid in
    omega (arith, found.1, target_few p.indexed _ _ p.target_ready.0)

pub overflow_add-result-in-Boundary : goal.overflow_add-result-in-Boundary
overflow_add-result-in-Boundary c =
    omega (arith, (boundary (goal.at.overflow_add-result-in-Boundary c).In-Boundary).0)

pub offset_bounds-index-bases : goal.offset_bounds-index-bases
offset_bounds-index-bases c = omega (arith, (boundary (goal.at.offset_bounds-index-bases c).In-Boundary).0)

pub bounds-index-bases : goal.bounds-index-bases
bounds-index-bases c = omega (arith, (boundary (goal.at.bounds-index-bases c).In-Boundary).0)

pub returns-in-Boundary : goal.returns-in-Boundary
returns-in-Boundary c = (boundary (goal.at.returns-in-Boundary c).In-Boundary).1

pub overflow_add-result-in-Boundary-2 : goal.overflow_add-result-in-Boundary-2
overflow_add-result-in-Boundary-2 c =
    let p = c.requires in
    let found = boundary (goal.at.overflow_add-result-in-Boundary-2 c).In-Boundary in
    omega (arith, found.1, target_few p.indexed _ _ p.target_ready.0)
