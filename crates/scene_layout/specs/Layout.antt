-- Where the models of a packed scene stand, kind by kind. The list of heads has an entry for each model that there can
-- be, with 0 beyond the last. Definitions only.
use Rattle.std.specs.Prelude.{ℕ, ◌-◌, List, ◌++◌, length, replicate}
use Rattle.lists.specs.Lists.{sum}
use Rattle.scene_format.specs.Format.{most_models, model_number, head_at, heads_of, counts_of}
use Rattle.scene_format.specs.declared.Kind.{Kind}
use Rattle.scene_format.specs.declared.Kind.TheVariants.{Fluid, Boundary}
use Rattle.scene_layout.specs.declared.Layout.{Layout}
use Rattle.scene_layout.specs.declared.Models.{Models}

-- ns, with 0 behind up to w entries
unfoldable pub padded : ℕ → List ℕ → List ℕ
padded w ns = ns ++ replicate (w - length ns) 0

-- the models of a kind
unfoldable pub layout_models : Kind → List ℕ → Models
layout_models κ b =
    record {
      number = model_number κ b;
      total = sum (counts_of κ b);
      heads = padded most_models (heads_of κ b);
      end = head_at κ b (model_number κ b);
    }

unfoldable pub layout_of : List ℕ → Layout
layout_of b = record { fluids = layout_models Fluid b; boundaries = layout_models Boundary b }
