-- Names for long lists of definitions, each with its list as the `unfolding` line of a number that means nothing: a
-- proof by evaluation opens what it computes through by these names.
use Prim.Native.Nat.{ℕ}
use mathlib.Core.List.{flatten, zip_with}
use lib.Ieee
use Rattle.lists.specs.Lists
use Rattle.math.specs.Real
use Rattle.math.specs.Vector
use Rattle.sums.specs.Halves
use Rattle.timestep_manager.specs.Clock
use Rattle.scene_format.specs.Bytes
use Rattle.scene_format.specs.Format
use Rattle.scene_format.specs.Packed
use Rattle.scene_format.specs.Scene
use Rattle.scene_format.specs.SceneOf
use Rattle.scene_fields.specs.Fields
use Rattle.scene_walk.specs.Walk as walk
use Rattle.scene_check.specs.Looks
use Rattle.scene_check.specs.Walk as check
use Rattle.scene_lists.specs.Lists as listed
use Rattle.scene_lengths.specs.Lengths
use Rattle.iisph_rules.specs.Coefficients
use Rattle.iisph_rules.specs.Iteration
use Rattle.iisph_rules.specs.Step
use Rattle.iisph_rules.specs.Answer
use Rattle.worked_examples.specs.Row
use Rattle.worked_examples.specs.Scenes

-- how a packed scene is written
unfoldable pub writing : ℕ
unfolding flatten
    Packed.be16 Packed.be64 Packed.doubles Packed.contact Packed.boundary_contact Packed.fluid_record
    Packed.boundary_record Packed.fluid Packed.boundary Packed.packed_as Packed.packed
    Scenes.empty_scene Scenes.scene_a Scenes.contact_a Scenes.header_b Scenes.pair Scenes.scene_b Scenes.boundary_scene
writing = 0

-- the check's walk
unfoldable pub walking : ℕ
unfolding Lists.choose Lists.iter Lists.trail
    Bytes.be64_at
    Format.version_known Format.axes_of Format.own_width Format.contacts_width Format.next_record Format.model_end
    Format.first_head Format.heads_of Format.counts_of
    Fields.◌▹◌ Fields.times Fields.refused_if Fields.field Fields.plain Fields.double Fields.count Fields.half_byte
    Fields.halves Fields.ended
    walk.header walk.contact walk.fluid_record walk.boundary_record walk.record_of walk.head_of walk.model_of
    walk.models_of
    walk.fields
    check.name check.names check.record_names_of check.model_names_of check.models_names_of check.all_names
    check.checked
walking = 0

-- the check of one contact list, behind that walk
unfoldable pub looking : ℕ
unfolding Looks.looks_of Looks.names_looked
    listed.owner_of listed.named_of listed.list_width listed.list_count listed.list_start listed.list_looked
    listed.list_there listed.answer_after listed.list_answer
looking = 0

-- a step's values, behind the check
unfoldable pub stepping : ℕ
unfolding zip_with
    Ieee.add Ieee.sub Ieee.mul Ieee.div Ieee.neg Ieee.lt Ieee.le Ieee.eq Ieee.is_nan Ieee.of_int Ieee.of_bits
    Ieee.to_bits
    Lists.fold Lists.sum Lists.table Lists.starts_from
    Real.magnitude
    Vector.◌⊞◌ Vector.◌⊟◌ Vector.◌⊡◌ Vector.added Vector.◌·◌
    Halves.halved_at_most Halves.by_halves
    Clock.inverse Clock.advanced
    Bytes.double_at Bytes.vector_at
    Format.criterion_of Format.summation_of Format.model_locations Format.locations_of
    Scene.fluid_size Scene.boundary_size Scene.particle Scene.boundary
    SceneOf.target_at SceneOf.contact_at SceneOf.contact_list SceneOf.fluid_particle_at SceneOf.force_at
    SceneOf.boundary_particle_at SceneOf.header_of SceneOf.scene_of
    Lengths.answer_width Lengths.boundary_answer_width Lengths.answers_needed Lengths.work_needed
    Coefficients.clock_of Coefficients.over_contacts Coefficients.volume_from Coefficients.boundary_volume
    Coefficients.particle_mass Coefficients.fluid_mass
    Coefficients.boundary_mass Coefficients.velocity_change Coefficients.advected_velocity Coefficients.fluid_neighbour
    Coefficients.boundary_neighbour Coefficients.over_neighbours Coefficients.density Coefficients.delta
    Coefficients.predicted_density Coefficients.dii_factor Coefficients.dii Coefficients.dji_factor Coefficients.aii
    Coefficients.coefficients_of Coefficients.coefficients
    Iteration.dij_sum Iteration.dij_pjl Iteration.dij_pjls Iteration.pressure_sum Iteration.relaxed Iteration.error_term
    Iteration.clamped Iteration.next_pressure Iteration.next_pressures Iteration.term_sum Iteration.average
    Iteration.averages Iteration.first_error Iteration.with_average Iteration.error_of Iteration.iteration
    Step.first_pressures Step.iterate_from Step.solution Step.pressure_share Step.boundary_acceleration
    Step.final_velocity_change Step.new_velocity Step.new_position Step.fluid_answer Step.force_from Step.boundary_force
    Step.boundary_answer Step.answers_from Step.answers_of Step.report_of Step.first_zero Step.unless_zero
    Step.scene_answer
    Answer.after_check Answer.step_answer Answer.is_done Answer.answers_after Answer.clears_work Answer.work_after
    Row.report Row.coefficients Row.after Row.called Row.iterations
stepping = 0

-- a step, from how its scene is written to its answers
unfoldable pub evaluation : ℕ
unfolding writing walking stepping
evaluation = 0
