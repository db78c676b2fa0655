-- `iisph_text::put_done` meets its contract: line after line; what they read is there, and they fit. Assumes nothing.
use Prim.Native.Nat.{◌*◌}
use mathlib.Core.Path.{◌≡◌}
use native.Mathlib.Omega.{arith}
use Rattle.scene_check.proofs.Accepted.{accepted_within}
use Rattle.scene_check.proofs.Checks.{fluids_are, boundaries_are, fluid-total}
use Rattle.scene_format.specs.declared.Kind.TheVariants.{Fluid, Boundary}
use Rattle.scene_lengths.proofs.Needed.{answers_few, fluids_few}
use Rattle.iisph_text.specs.Run.{behind}
use Rattle.iisph_text.proofs.Ran.{behind-is, parts-added, fluids_room, boundaries_room}
use Rattle.iisph_text.proofs.put_done.Goals as goal

pub put_models-requires : goal.put_models-requires
put_models-requires c =
    record {
      models_within = (accepted_within _ c.requires.0.walk Fluid, fluids_are _ c.requires.0.layout_is);
      scene_in_bounds = fluids_room c.requires.1 c.put_step.ensures c.put_clock.ensures;
    }

pub overflow_mul-behind : goal.overflow_mul-behind
overflow_mul-behind c =
    omega (
      arith,
      answers_few _ c.fluid_answer_width.ensures.0 c.axes.ensures.1.most (fluids_few c.requires.0),
    )

pub put_models-requires-2 : goal.put_models-requires-2
put_models-requires-2 c =
    let begins : c.fluid_answer_width.result * c.args.layout.fluids.total ≡ behind c.args.scene.now =
    behind-is _ c.fluid_answer_width.ensures.0 c.axes.ensures.0 (fluid-total c.requires.0) in
    record {
      models_within = (accepted_within _ c.requires.0.walk Boundary, boundaries_are _ c.requires.0.layout_is);
      scene_in_bounds = boundaries_room c.requires.1 c.put_step.ensures c.put_clock.ensures begins
          c.put_models.ensures;
    }

pub returns : goal.returns
returns c =
    let begins : c.fluid_answer_width.result * c.args.layout.fluids.total ≡ behind c.args.scene.now =
    behind-is _ c.fluid_answer_width.ensures.0 c.axes.ensures.0 (fluid-total c.requires.0) in
    parts-added _ _ _ begins c.put_step.ensures c.put_clock.ensures c.put_models.ensures
    c.put_models-2.ensures
