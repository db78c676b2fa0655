-- A loop over the models of a kind, by the heads that a layout has: where the head of each turn's model stands, and
-- what is read there is what the lists of counts and of kept forces say. Assumes nothing.
use Prim.Native.Nat.{ℕ, ◌<◌, ◌≤◌}
use mathlib.Core.Path.{◌≡◌, sym, ap, ◌∙◌}
use mathlib.Core.List.{List}
use native.Mathlib.Omega.{arith}
use lib.ListN.{length, get_or, take, length-replicate}
use Rattle.std.proofs.lemmas.List.{length-append, length-take-le, get_or-take}
use Rattle.scene_format.specs.Format.{most_models, model_number, particles_at, keeps_at, head_at, heads_of, counts_of}
use Rattle.scene_format.specs.Format.{keeps_of}
use Rattle.scene_format.specs.Within.{ModelWithin, ModelsWithin}
use Rattle.scene_format.specs.declared.Kind.{Kind}
use Rattle.scene_layout.specs.Layout.{padded, layout_models}
use Rattle.scene_layout.specs.declared.Models.{Models}
use Rattle.scene_layout.proofs.Filled.{padded_at}
use Rattle.scene_layout.proofs.Locations.{length_heads, heads_at_lem, counts_at, keeps_of_lem}

-- what the m-th turn has
pub record Turn (κ : Kind) (b heads : List ℕ) (m : ℕ) : Type 0 where
  pub small : m < most_models
  pub below : m < model_number κ b
  pub head : get_or heads m 0 ≡ head_at κ b m
  pub within : ModelWithin κ b (get_or heads m 0)
  pub count : particles_at κ b (get_or heads m 0) ≡ get_or (counts_of κ b) m 0
  pub keeps : keeps_at b (get_or heads m 0) ≡ get_or (keeps_of κ b) m 0

module _ {κ : Kind} {b : List ℕ} (all : ModelsWithin κ b) {models : Models} (is : models ≡ layout_models κ b) where
  pub number_is : models.number ≡ model_number κ b
  unfolding layout_models
  number_is = ap (λ (m : Models). m.number) is

  heads_are : models.heads ≡ padded most_models (heads_of κ b)
  unfolding layout_models
  heads_are = ap (λ (m : Models). m.heads) is

  pub this_turn : (m : ℕ) → m < models.number → Turn κ b models.heads m
  this_turn m h =
      let below : m < model_number κ b = rw number_is at h in
      let head = ap (λ (l : List ℕ). get_or l m 0) heads_are ∙ padded_at most_models (heads_of κ b) m
      ∙ heads_at_lem κ b m below in
      record {
        small = omega (arith, all.few);
        below = below;
        head = head;
        within = rw head (all.models m below);
        count = ap (particles_at κ b) head ∙ sym (counts_at κ b m below);
        keeps = ap (keeps_at b) head ∙ sym (keeps_of_lem κ b m below);
      }

  -- the same over the heads of the models that there are
  pub number_few : models.number ≤ most_models
  number_few = rw number_is all.few

  pub head_turn : (m : ℕ) → m < models.number → Turn κ b (take models.number models.heads) m
  head_turn m h =
      let same = get_or-take models.number models.heads m 0 h in
      let t = this_turn m h in
      record {
        small = t.small;
        below = t.below;
        head = same ∙ t.head;
        within = rw same t.within;
        count = rw same t.count;
        keeps = rw same t.keeps;
      }

  pub length_front : length (take models.number models.heads) ≡ model_number κ b
  unfolding padded
  length_front =
      let long : length models.heads ≡ most_models =
      omega (arith, ap length heads_are, length-append {A = ℕ}, length-replicate {A = ℕ}, length_heads κ b, all.few) in
      length-take-le _ _ (omega (arith, long, number_few)) ∙ number_is

  pub front_turn : (m : ℕ) → m < length (take models.number models.heads)
      → Turn κ b (take models.number models.heads) m
  front_turn m h = head_turn m (omega (arith, h, length_front, number_is))
