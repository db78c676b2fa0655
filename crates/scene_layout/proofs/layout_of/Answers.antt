-- `scene_layout::layout_of` meets its contract: the boundaries begin where the fluids end. Assumes nothing.
use mathlib.Core.Path.{◌≡◌, ap, ◌∙◌}
use native.Mathlib.Omega.{arith}
use Rattle.scene_format.specs.Format.{header_width, first_head}
use Rattle.scene_format.specs.declared.Kind.TheVariants.{Fluid, Boundary}
use Rattle.scene_layout.specs.Layout.{layout_models, layout_of}
use Rattle.scene_layout.specs.declared.Layout.{Layout}
use Rattle.scene_layout.specs.declared.Models.{Models}
use Rattle.scene_walk.proofs.Within.{header_within, fields_within}
use Rattle.scene_layout.proofs.layout_of.Goals as goal

both : {f f' g g' : Models} → f ≡ f' → g ≡ g'
    → ◌≡◌ {A = Layout} (record { fluids = f; boundaries = g }) (record { fluids = f'; boundaries = g' })
both e q = cc

pub model_number-requires : goal.model_number-requires
model_number-requires c = omega (arith, header_within _ c.requires)

pub models_of-fluids-requires : goal.models_of-fluids-requires
unfolding first_head
models_of-fluids-requires c =
    let start = c.header_width-first.ensures ∙ ap header_width c.axes.ensures.0 in
    record { models_within = fields_within _ c.requires Fluid; n_value = (c.model_number.ensures, start) }

pub model_number-number-requires : goal.model_number-number-requires
model_number-number-requires c = omega (arith, header_within _ c.requires)

pub models_of-boundaries-requires : goal.models_of-boundaries-requires
unfolding layout_models first_head
models_of-boundaries-requires c =
    let fluids_end : c.models_of-fluids.result.end ≡ first_head Boundary c.args.s.now =
    ap (λ (m : Models). m.end) c.models_of-fluids.ensures in
    record {
      models_within = fields_within _ c.requires Boundary;
      n_value =
          (c.model_number-number.ensures, fluids_end);
    }

pub returns : goal.returns
unfolding layout_of
returns c = both c.models_of-fluids.ensures c.models_of-boundaries.ensures
