-- The claims of specs/Versions.antt on versions: a step's result is made of the check, the scene and where its records
-- stand, which are the same whichever of two known forms with one rule and as many axes a packed scene has; and with
-- rule 0 the first two versions are such forms. Assumes nothing.
use Prim.Native.Nat.{ℕ, zero, suc, ◌≤◌}
use mathlib.Core.Path.{◌≡◌, refl, sym, ◌∙◌}
use mathlib.Core.Bool.{true}
use mathlib.Core.List.{List, [], ◌∷◌}
use native.Mathlib.Omega.{arith}
use lib.Ieee.{Float}
use Rattle.scene_format.specs.Bytes.{byte_at}
use Rattle.scene_format.specs.Format.{version_of, flat_version, version_known, axes_of, rule_of, model_number}
use Rattle.scene_format.specs.SceneOf.{header_of, scene_of}
use Rattle.scene_format.specs.declared.Kind.{Kind}
use Rattle.scene_format.specs.declared.Kind.TheVariants.{Fluid, Boundary}
use Rattle.scene_format.proofs.Forms.{other-axes}
use Rattle.iisph_rules.specs.Answer.{step_answer, answers_after, work_after}
use Rattle.iisph_versions.specs.Versions.{SameButForm, KnownForm, header_by, scene_by, SameResults, as_version}
use Rattle.iisph_versions.specs.Versions.{RuleZeroSame}
use Rattle.iisph_versions.proofs.Scenes.{same_scenes, same_locations}
use Rattle.iisph_versions.proofs.Walks.{same_checks}

-- by its own rule a scene is itself
one_rule : {b b' : List ℕ} → SameButForm b b' → rule_of b ≡ rule_of b' → scene_of b ≡ scene_of b'
unfolding scene_by header_by scene_of header_of
one_rule {b} {b'} s e = sym (same_scenes b b' s ∙ rw (← e))

module _ {b b' : List ℕ} (s : SameButForm b b') (e : rule_of b ≡ rule_of b') (f : KnownForm b) (f' : KnownForm b')
    (answers work : ℕ) where
  answered_same : step_answer b answers work ≡ step_answer b' answers work
  unfolding step_answer
  answered_same = rw (same_checks b b' s f f', one_rule s e, same_locations b b' s Fluid)

  answer_list_same : (old : List Float) → answers_after b answers work old ≡ answers_after b' answers work old
  unfolding answers_after
  answer_list_same old = rw (answered_same, one_rule s e)

  work_list_same : (old : List Float) → work_after b answers work old ≡ work_after b' answers work old
  unfolding work_after
  work_list_same old = rw (answered_same, one_rule s e)

pub same_results : SameResults
same_results b b' s e f f' =
    record {
      answered = answered_same s e f f';
      answer_list = answer_list_same s e f f';
      work_list = work_list_same s e f f';
    }

behind_first : (version x : ℕ) (b : List ℕ) (at : ℕ) → 1 ≤ at
    → byte_at (as_version version (x ∷ b)) at ≡ byte_at (x ∷ b) at
unfolding as_version
behind_first version x b zero h = elim h [ ]
behind_first version x b (suc at) h = refl

pub as_version_lem : (version : ℕ) (b : List ℕ) → axes_of (as_version version b) ≡ axes_of b
    → SameButForm (as_version version b) b
unfolding as_version
as_version_lem version [] a = record { long = refl; axes = a; models = λ κ. refl; behind = λ at h. refl }
as_version_lem version (x ∷ b) a =
    record { long = refl; axes = a; models = models; behind = λ at h. behind_first version x b at (omega arith) }
  where
    models : (κ : Kind) → model_number κ (as_version version (x ∷ b)) ≡ model_number κ (x ∷ b)
    models Fluid = omega arith
    models Boundary = refl

version_is : (version x : ℕ) (b : List ℕ) → version_of (as_version version (x ∷ b)) ≡ version
unfolding as_version
version_is version x b = omega arith

rule_is : (version x : ℕ) (b : List ℕ) → rule_of (as_version version (x ∷ b)) ≡ rule_of (x ∷ b)
unfolding as_version
rule_is version x b = refl

known_form : (version x : ℕ) (b : List ℕ) → version_known version ≡ true → rule_of (x ∷ b) ≡ 0
    → KnownForm (as_version version (x ∷ b))
known_form version x b h r = record { version = rw version_is h; rule = omega (arith, rule_is version x b) }

-- in neither version the scene is flat
as_many_axes : (version x : ℕ) (b : List ℕ) → (version ≡ flat_version → ⊥) → (version_of (x ∷ b) ≡ flat_version → ⊥)
    → axes_of (as_version version (x ∷ b)) ≡ axes_of (x ∷ b)
as_many_axes version x b h h' = other-axes _ (rw version_is h) ∙ sym (other-axes _ h')

pub rule_zero_same : RuleZeroSame
unfolding version_known
rule_zero_same [] v r = absurd (omega arith)
rule_zero_same (x ∷ b) v r =
    let first : KnownForm (x ∷ b) = record { version = rw v refl; rule = rw v (omega arith) } in
    same_results _ _ (as_version_lem _ (x ∷ b) (as_many_axes _ x b (omega arith) (omega arith))) (rule_is _ x b)
    (known_form _ x b refl r)
    first
