-- `scene_check::walk_names::all_names` meets its contract: fluids and then boundaries, which begin where the fluids
-- end. Assumes nothing.
use Prim.Native.Nat.{ℕ, ◌≤◌}
use mathlib.Core.Path.{◌≡◌, sym, ap, ◌∙◌}
use native.Mathlib.Omega.{arith}
use lib.ListN.{length, replicate, length-replicate}
use Rattle.std.proofs.lemmas.Result.{err_from_is_err_and}
use Rattle.scene_fields.specs.Fields.{◌▹◌}
use Rattle.scene_format.specs.Format.{most_models, nameable_models, axes_of, header_width, first_head}
use mathlib.Core.List.{List}
use Rattle.scene_format.specs.Within.{ModelsWithin}
use Rattle.std.specs.declared.result.Result.TheVariants.{Ok}
use Rattle.scene_walk.specs.Walk.{fields}
use Rattle.scene_format.specs.declared.Kind.{Kind}
use Rattle.scene_format.specs.declared.Kind.TheVariants.{Fluid, Boundary}
use Rattle.scene_check.specs.Check.{CountsAre}
use Rattle.scene_check.specs.Walk.{all_names}
use Rattle.scene_check.proofs.Accepted.{models_names-steps}
use Rattle.scene_check.proofs.Checks.{counts-are, fluids_are, boundaries_are, fluid-number, boundary-number}
use Rattle.scene_walk.proofs.Within.{fields_within}
use Rattle.scene_check.proofs.walk_names.all_names.Goals as goal

-- every model ends within the bytes
within : (b : List ℕ) → fields b ≡ Ok (length b) → (κ : Kind) → ModelsWithin κ b
within b h = fields_within b h

room : most_models ≤ length (replicate {A = ℕ} nameable_models 0)
room = omega (arith, length-replicate {A = ℕ} nameable_models 0)

pub fill_counts-requires : goal.fill_counts-requires
fill_counts-requires c =
    let p = c.requires in
    record { models_within = (fields_within _ p.0 Fluid, fluids_are _ p.1); most_models_in_bounds = room }

pub fill_counts-requires-2 : goal.fill_counts-requires-2
fill_counts-requires-2 c =
    let p = c.requires in
    record { models_within = (fields_within _ p.0 Boundary, boundaries_are _ p.1); most_models_in_bounds = room }

pub models_names-requires : goal.models_names-requires
unfolding first_head
models_names-requires c =
    let known : CountsAre c.args.s.now c.fill_counts.new.counts c.fill_counts-2.new.counts =
    counts-are _ (within c.args.s.now c.requires.0) c.fill_counts.ensures c.fill_counts-2.ensures in
    let start_is : c.header_width-first.result ≡ header_width (axes_of c.args.s.now) =
    c.header_width-first.ensures ∙ ap header_width c.axes.ensures.0 in
    record {
      counts_are = known;
      models_within = within c.args.s.now c.requires.0 Fluid;
      n_value = (fluid-number _ c.requires.1, start_is);
    }

pub returns-in_err-at : goal.returns-in_err-at
unfolding all_names ◌▹◌
returns-in_err-at c =
    let start_is : c.header_width-first.result ≡ header_width (axes_of c.args.s.now) =
    c.header_width-first.ensures ∙ ap header_width c.axes.ensures.0 in
    let p = err_from_is_err_and c.from_residual.result c.from_residual.ensures.1 in
    rw (p.1, p.2, ← start_is, sym c.models_names.ensures ∙ c.in_err-at.was)

pub models_names-requires-2 : goal.models_names-requires-2
unfolding first_head
models_names-requires-2 c =
    let start_is : c.header_width-first.result ≡ header_width (axes_of c.args.s.now) =
    c.header_width-first.ensures ∙ ap header_width c.axes.ensures.0 in
    let fluids_end : c.in_ok-at.at ≡ first_head Boundary c.args.s.now =
    rw (← start_is) (models_names-steps c.args.s.now Fluid _ _ (sym c.models_names.ensures ∙ c.in_ok-at.was)).0 in
    let known : CountsAre c.args.s.now c.fill_counts.new.counts c.fill_counts-2.new.counts =
    counts-are _ (within c.args.s.now c.requires.0) c.fill_counts.ensures c.fill_counts-2.ensures in
    record {
      counts_are = known;
      models_within = within c.args.s.now c.requires.0 Boundary;
      n_value = (boundary-number _ c.requires.1, fluids_end);
    }

pub returns : goal.returns
unfolding all_names ◌▹◌
returns c =
    let start_is : c.header_width-first.result ≡ header_width (axes_of c.args.s.now) =
    c.header_width-first.ensures ∙ ap header_width c.axes.ensures.0 in
    rw (← start_is, sym c.models_names.ensures ∙ c.in_ok-at.was) c.models_names-2.ensures
