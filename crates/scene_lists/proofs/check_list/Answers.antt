-- `scene_lists::check_list` meets its contract: the fields, then whether there is such a list, then the list itself,
-- which stands in the record that the owner's head leads to. Assumes nothing.
use Prim.Native.Nat.{ℕ, ◌≤◌, ◌<◌}
use mathlib.Core.Path.{sym, ◌∙◌}
use native.Mathlib.Omega.{arith}
use lib.ListN.{length, get_or, replicate, length-replicate}
use Rattle.std.proofs.lemmas.Result.{err_from_is_err_and}
use Rattle.scene_walk.proofs.Within.{fields_within}
use Rattle.scene_format.specs.Format.{most_models, nameable_models, particles_at}
use Rattle.scene_layout.proofs.Turns.{Turn, this_turn, number_is}
use Rattle.scene_check.proofs.Checks.{fields_passed, stored_counts}
use Rattle.scene_lists.proofs.Listed.{refused_before, no_model, no_particle, list_checked}
use Rattle.scene_lists.proofs.check_list.Goals as goal
use Rattle.scene_lists.proofs.check_list.Goals.{Else-owners-model}

room : most_models ≤ length (replicate {A = ℕ} nameable_models 0)
room = omega (arith, length-replicate {A = ℕ} nameable_models 0)

-- there is such a model
turn_of : (c : Else-owners-model) → let a = c.args in
    Turn c.owner_of-owner.result a.scene.now c.models_of-owners.result.heads a.model
turn_of c =
    let passed = fields_passed _ c.fields.ensures c.in_ok-fields.was in
    this_turn (fields_within _ passed _) c.models_of-owners.ensures _ c.if-owners-model.false

pub returns-in_err-fields : goal.returns-in_err-fields
returns-in_err-fields c =
    let p = err_from_is_err_and c.from_residual.result c.from_residual.ensures.1 in
    rw (p.1, p.2) (refused_before _ _ _ _ (sym c.fields.ensures ∙ c.in_err-fields.was))

pub layout_of-layout-requires : goal.layout_of-layout-requires
layout_of-layout-requires c =
    fields_passed _ c.fields.ensures c.in_ok-fields.was

pub models_of-owners-requires : goal.models_of-owners-requires
models_of-owners-requires c = c.layout_of-layout.ensures

pub returns-then-owners-model : goal.returns-then-owners-model
returns-then-owners-model c =
    let passed = fields_passed _ c.fields.ensures c.in_ok-fields.was in
    no_model _ _ _ _ passed c.owner_of-owner.ensures
    (rw (← number_is (fields_within _ passed _) c.models_of-owners.ensures) c.if-owners-model.true)

pub offset_bounds-owners-model : goal.offset_bounds-owners-model
offset_bounds-owners-model c =
    omega (arith, (turn_of (goal.at.offset_bounds-owners-model c).Else-owners-model).small)

pub bounds-owners-model : goal.bounds-owners-model
bounds-owners-model c =
    omega (arith, (turn_of (goal.at.bounds-owners-model c).Else-owners-model).small)

pub particles-requires : goal.particles-requires
particles-requires c =
    (turn_of (goal.at.particles-requires c).Else-owners-model).within.head_room

pub returns-then-particles-particle : goal.returns-then-particles-particle
returns-then-particles-particle c =
    let turn = turn_of (goal.at.returns-then-particles-particle c).Else-owners-model in
    let passed = fields_passed _ c.fields.ensures c.in_ok-fields.was in
    no_particle _ _ _ _ passed c.owner_of-owner.ensures turn.below
    (rw (← turn.head, ← c.particles.ensures.0) c.if-particles-particle.true)

pub models_of-requires : goal.models_of-requires
models_of-requires c = c.layout_of-layout.ensures

pub fill_counts-requires : goal.fill_counts-requires
fill_counts-requires c =
    let passed = fields_passed _ c.fields.ensures c.in_ok-fields.was in
    record { models_within = (fields_within _ passed _, c.models_of.ensures); most_models_in_bounds = room }

pub record_offset-at-requires : goal.record_offset-at-requires
record_offset-at-requires c =
    let turn = turn_of (goal.at.record_offset-at-requires c).Else-owners-model in
    let particle_there : let a = c.args in a.particle < particles_at c.owner_of-owner.result a.scene.now
    (get_or c.models_of-owners.result.heads a.model 0) =
    rw (← c.particles.ensures.0) c.if-particles-particle.false in
    (turn.within, omega (arith, particle_there))

pub list_looked-requires : goal.list_looked-requires
list_looked-requires c =
    let turn = turn_of (goal.at.list_looked-requires c).Else-owners-model in
    let particle_there : let a = c.args in a.particle < particles_at c.owner_of-owner.result a.scene.now
    (get_or c.models_of-owners.result.heads a.model 0) =
    rw (← c.particles.ensures.0) c.if-particles-particle.false in
    let passed = fields_passed _ c.fields.ensures c.in_ok-fields.was in
    record {
      record_within = rw (← c.owner_of-owner.ensures, c.record_offset-at.ensures)
          (turn.within.records _ particle_there);
      counts_of_kind = rw (← c.named_of-named.ensures)
          (stored_counts _ _ (fields_within _ passed _) c.fill_counts.ensures);
    }

pub returns : goal.returns
returns c =
    let turn = turn_of (goal.at.returns c).Else-owners-model in
    let particle_there : let a = c.args in a.particle < particles_at c.owner_of-owner.result a.scene.now
    (get_or c.models_of-owners.result.heads a.model 0) =
    rw (← c.particles.ensures.0) c.if-particles-particle.false in
    let passed = fields_passed _ c.fields.ensures c.in_ok-fields.was in
    list_checked _ _ _ _ passed c.owner_of-owner.ensures turn.below
    (rw (← turn.head) particle_there) (c.list_looked.ensures ∙ rw (c.record_offset-at.ensures, turn.head))
