-- What a check answers, from where its walks have come to: each by opening what the check is made of. Assumes nothing.
use Prim.Native.Nat.{ℕ, ◌≤◌, ◌<◌}
use mathlib.Core.Path.{◌≡◌, refl, sym, ap, ◌∙◌}
use mathlib.Core.List.{List}
use native.Mathlib.Omega.{arith}
use lib.ListN.{length, get_or, replicate}
use lib.Seq.{sets}
use Rattle.scene_format.specs.Bytes.{Bytes}
use Rattle.scene_fields.specs.Fields.{◌▹◌}
use Rattle.scene_format.specs.Format.{nameable_models, model_number, counts_of}
use Rattle.scene_format.specs.Scene.{fluid_size, boundary_size}
use Rattle.scene_format.specs.SceneOf.{scene_of}
use Rattle.scene_format.specs.Within.{ModelsWithin}
use Rattle.scene_format.specs.declared.Kind.{Kind}
use Rattle.scene_format.specs.declared.Kind.TheVariants.{Fluid, Boundary}
use Rattle.scene_format.specs.declared.Refusal.{Refusal}
use Rattle.scene_format.specs.Refusals.{Walk}
use Rattle.std.specs.declared.result.Result.{Result}
use Rattle.std.specs.declared.result.Result.TheVariants.{Ok, Err}
use Rattle.scene_layout.specs.Layout.{layout_models, layout_of}
use Rattle.scene_check.specs.Check.{verdict_of, ChecksTo, Passed, CountsOfKind}
use Rattle.scene_check.specs.Check.{CountsAre}
use Rattle.scene_walk.specs.Walk.{fields}
use Rattle.scene_walk.proofs.Walked.{fields_leads}
use Rattle.scene_check.specs.Walk.{all_names, checked}
use Rattle.scene_layout.specs.declared.Layout.{Layout}
use Rattle.scene_check.proofs.Accepted.{accepted_length, accepted_within}
use Rattle.scene_layout.proofs.Filled.{padded_at, stored-padded}
use Rattle.scene_layout.proofs.Locations.{length_counts, fluid_size-sum, boundary_size-sum}
use Rattle.scene_layout.proofs.Turns.{Turn, this_turn}

module _ (b : List ℕ) where
  -- accepted fields end with the bytes
  pub fields_passed : {w : Walk} {e : ℕ} → w ≡ fields b → w ≡ Ok e → fields b ≡ Ok (length b)
  fields_passed s q = let p = sym s ∙ q in p ∙ ap Ok (fields_leads b _ p).0

  pub fields_refused : {r : Refusal} → fields b ≡ Err r → checked b ≡ Err r
  unfolding checked ◌▹◌
  fields_refused q = rw q

  pub names_decide : {e : ℕ} → fields b ≡ Ok e → checked b ≡ all_names b
  unfolding checked ◌▹◌
  names_decide q = rw q

  pub checks_refused : {r : Refusal} → checked b ≡ Err r → ChecksTo b (Err r)
  unfolding verdict_of
  checks_refused q = record { verdict = rw q }

  pub checks_accepted : {e : ℕ} {l : Layout} → checked b ≡ Ok e → l ≡ layout_of b → ChecksTo b (Ok l)
  unfolding verdict_of
  checks_accepted q e = record { verdict = rw (q, e) }

  -- what the names are walked by
  pub fluids_are : {l : Layout} → l ≡ layout_of b → l.fluids ≡ layout_models Fluid b
  unfolding layout_of
  fluids_are e = rw e

  pub boundaries_are : {l : Layout} → l ≡ layout_of b → l.boundaries ≡ layout_models Boundary b
  unfolding layout_of
  boundaries_are e = rw e

  pub fluid-number : {l : Layout} → l ≡ layout_of b → l.fluids.number ≡ model_number Fluid b
  unfolding layout_of layout_models
  fluid-number e = rw e

  pub boundary-number : {l : Layout} → l ≡ layout_of b → l.boundaries.number ≡ model_number Boundary b
  unfolding layout_of layout_models
  boundary-number e = rw e

  -- the counts of a kind, stored over zeros
  pub stored_counts : (κ : Kind) → ModelsWithin κ b → {counts : List ℕ}
      → counts ≡ sets (replicate nameable_models 0) 0 (counts_of κ b) → CountsOfKind κ b counts
  stored_counts κ all e =
      let few : length (counts_of κ b) ≤ nameable_models = omega (arith, length_counts κ b, all.few) in
      record {
        each = λ m.
            ap (λ (l : List ℕ). get_or l m 0) (e ∙ stored-padded nameable_models (counts_of κ b) few)
            ∙ padded_at nameable_models (counts_of κ b) m;
      }

  pub counts-are : ((κ : Kind) → ModelsWithin κ b) → {fluids boundaries : List ℕ}
      → fluids ≡ sets (replicate nameable_models 0) 0 (counts_of Fluid b)
      → boundaries ≡ sets (replicate nameable_models 0) 0 (counts_of Boundary b)
      → CountsAre b fluids boundaries
  counts-are all p q =
      record { fluid = stored_counts Fluid (all Fluid) p; boundary = stored_counts Boundary (all Boundary) q }

-- ---- what the verdict tells

module _ (b : List ℕ) {found : Result Layout Refusal} (h : ChecksTo b found) where
  pub verdict_refused : {r : Refusal} → found ≡ Err r → checked b ≡ Err r
  unfolding verdict_of
  verdict_refused q = go (checked b) (sym h.verdict ∙ q)
    where
      go : {r : Refusal} (w : Walk) → verdict_of b w ≡ Err r → w ≡ Err r
      go (Ok e) p = let z : ◌≡◌ {A = ℕ} 0 1 = cc in absurd (omega arith)
      go (Err r) p = cc

  pub verdict_accepted : {l : Layout} → Bytes b → found ≡ Ok l → Passed b l
  unfolding verdict_of
  verdict_accepted y q = go (checked b) refl (sym h.verdict ∙ q)
    where
      go : {l : Layout} (w : Walk) → checked b ≡ w → verdict_of b w ≡ Ok l → Passed b l
      go (Ok e) p v = record { bytes = y; walk = p ∙ ap Ok (accepted_length b p); layout_is = cc }
      go (Err r) p v = let z : ◌≡◌ {A = ℕ} 0 1 = cc in absurd (omega arith)

-- ---- a scene that passed the check, with its layout

module _ {b : List ℕ} {layout : Layout} (passed : Passed b layout) where
  pub fluid-total : layout.fluids.total ≡ fluid_size (scene_of b)
  unfolding layout_of layout_models
  fluid-total = rw passed.layout_is (sym (fluid_size-sum b))

  pub boundary-total : layout.boundaries.total ≡ boundary_size (scene_of b)
  unfolding layout_of layout_models
  boundary-total = rw passed.layout_is (sym (boundary_size-sum b))

  -- a loop over its models
  pub fluid_turn : (m : ℕ) → m < layout.fluids.number → Turn Fluid b layout.fluids.heads m
  fluid_turn = this_turn (accepted_within b passed.walk Fluid) (fluids_are b passed.layout_is)

  pub boundary_turn : (m : ℕ) → m < layout.boundaries.number → Turn Boundary b layout.boundaries.heads m
  boundary_turn = this_turn (accepted_within b passed.walk Boundary) (boundaries_are b passed.layout_is)
