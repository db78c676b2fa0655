-- The walk through the names depends only on what each model number counts, so the padded lists of a layout serve as
-- well as the counts themselves. By the look-up of each name. Assumes nothing.
use Prim.Native.Nat.{ℕ, ◌+◌, ◌*◌}
use mathlib.Core.Path.{◌≡◌, ap, fun_ext}
use mathlib.Core.List.{List}
use Rattle.scene_fields.specs.Fields.{times}
use Rattle.scene_format.specs.Format.{model_at, counts_of}
use Rattle.scene_format.specs.declared.Kind.{Kind}
use Rattle.scene_format.specs.declared.Kind.TheVariants.{Fluid, Boundary}
use Rattle.scene_format.specs.Refusals.{Walk}
use Rattle.std.specs.declared.result.Result.TheVariants.{Ok}
use Rattle.scene_fields.proofs.Reached.{parts-steps, stay, refused_if_leads}
use Rattle.scene_check.specs.Check.{CountsOfKind, CountsAre}
use Rattle.scene_check.specs.Walk.{name, names}

-- a list that is passed ends behind its contacts
pub names_end : (b counts : List ℕ) (w n at e : ℕ) → names b counts w n at ≡ Ok e → e ≡ at + w * n
unfolding names name
names_end b counts w n at e q = (parts-steps w (λ at. refused_if_leads _ _ (stay _)) n at e q).0

module _ {κ : Kind} {b counts : List ℕ} (are : CountsOfKind κ b counts) (w : ℕ) where
  name_same : (at : ℕ) → name b counts w at ≡ name b (counts_of κ b) w at
  unfolding name
  name_same at = rw (are.each (model_at b at))

  pub names_same : (n at : ℕ) → names b counts w n at ≡ names b (counts_of κ b) w n at
  unfolding names
  names_same n at = ap (λ (f : ℕ → Walk). times n f at) (fun_ext name_same)

module _ {b fluids boundaries : List ℕ} (are : CountsAre b fluids boundaries) where
  pub fluid-names_same : (w n at : ℕ) → names b fluids w n at ≡ names b (counts_of Fluid b) w n at
  fluid-names_same = names_same are.fluid

  pub boundary-names_same : (w n at : ℕ) → names b boundaries w n at ≡ names b (counts_of Boundary b) w n at
  boundary-names_same = names_same are.boundary
