-- A small logic for walks that are refused, as Reached is for those that are not: which of a walk's parts is refused,
-- and that what the parts before it have met holds. By where the first part has come to, and by the steps. Assumes
-- nothing.
use Prim.Native.Nat.{ℕ, zero, suc, ◌+◌, ◌*◌, ◌<◌}
use mathlib.Core.Path.{◌≡◌, refl, sym, subst}
use mathlib.Core.Bool.{Bool, true, false}
use mathlib.Core.Logic.{◌⊎◌, inl, inr}
use native.Mathlib.Nat.{not-suc-le-zero}
use native.Mathlib.Omega.{arith}
use Rattle.lists.specs.Lists.{choose, iter}
use Rattle.scene_fields.specs.Fields.{◌▹◌, times, refused_if}
use Rattle.scene_format.specs.declared.Refusal.{Refusal}
use Rattle.scene_format.specs.Refusals.{Walk}
use Rattle.std.specs.declared.result.Result.TheVariants.{Ok, Err}
use Rattle.scene_fields.proofs.Reached.{Leads, Steps, never, first_and_rest, iter-add}

-- a test refuses by its own refusal
pub refused_if_by : (t : Bool) (r : Refusal) (x : ℕ) {r' : Refusal} → refused_if t r (Ok x) ≡ Err r' → r' ≡ r
unfolding refused_if choose
refused_if_by true r x q = cc
refused_if_by false r x q = never (sym q)

-- a walk and a step are refused in the walk, or in the step from where the walk has come to
pub either_refused : (w : Walk) (f : ℕ → Walk) {r : Refusal} → w ▹ f ≡ Err r
    → (w ≡ Err r) ⊎ ((at : ℕ) × (w ≡ Ok at) × (f at ≡ Err r))
unfolding ◌▹◌
either_refused (Ok at) f q = inr (at, refl, q)
either_refused (Err r) f q = inl q

-- where the walk leads is known
pub then_refused : {w : Walk} {x : ℕ} {Q : Type 0} (f : ℕ → Walk) {r : Refusal} → Leads w x Q → w ▹ f ≡ Err r
    → (w ≡ Err r) ⊎ (Q × (f x ≡ Err r))
then_refused f {r} l q =
    elim (either_refused _ _ q) [
      | inl p ↦ inl p
      | inr s ↦ let h = l s.0 s.1 in inr (h.1, subst (λ (y : ℕ). f y ≡ Err r) h.0 s.2)
    ]

-- of n steps from an offset one is refused, and Q holds of those before it
pub record StepRefused (f : ℕ → Walk) (g : ℕ → ℕ) (Q : ℕ → Type 0) (n at : ℕ) (r : Refusal) : Type 0 where
  pub step : ℕ
  pub below : step < n
  pub refused : f (iter step g at) ≡ Err r
  pub before : (i : ℕ) → i < step → Q (iter i g at)

pub times_refused : {f : ℕ → Walk} {g : ℕ → ℕ} {Q : ℕ → Type 0} → Steps f g Q → (n at : ℕ) {r : Refusal}
    → times n f at ≡ Err r → StepRefused f g Q n at r
unfolding times iter
times_refused s zero at q = never (sym q)
times_refused {f} {g} {Q} s (suc n) at {r} q =
    elim (then_refused _ (s at) q) [ inl p ↦ first p | inr h ↦ later h.0 (times_refused s n (g at) h.1) ]
  where
    first : f at ≡ Err r → StepRefused f g Q (suc n) at r
    first p = record { step = 0; below = omega arith; refused = p; before = λ i l. absurd (not-suc-le-zero l) }

    later : Q at → StepRefused f g Q n (g at) r → StepRefused f g Q (suc n) at r
    later h s =
        record {
          step = suc s.step;
          below = omega (arith, s.below);
          refused = s.refused;
          before = first_and_rest g Q _ at h s.before;
        }

-- n steps of c bytes each
pub parts_refused : {f : ℕ → Walk} {Q : ℕ → Type 0} (c : ℕ) → Steps f (λ at. at + c) Q → (n at : ℕ) {r : Refusal}
    → times n f at ≡ Err r → (k : ℕ) × (k < n) × (f (at + c * k) ≡ Err r)
parts_refused {f} c s n at {r} q =
    let h = times_refused s n at q in
    (h.step, h.below, subst (λ (x : ℕ). f x ≡ Err r) (iter-add c h.step at) h.refused)
