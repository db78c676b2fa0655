-- A small logic for walks that are not refused: where a walk has come to, and what it has met on the way. There is a
-- law for each way to join walks and for each single field, so that a longer walk is taken apart by naming its parts.
-- Assumes nothing.
use Prim.Native.Nat.{ℕ, zero, suc, ◌+◌, ◌*◌, ◌<◌, ◌≤◌}
use mathlib.Core.Path.{◌≡◌, refl, ap, subst, ◌∙◌}
use mathlib.Core.Bool.{Bool, true, false}
use mathlib.Core.List.{List}
use native.Mathlib.Nat.{not-suc-le-zero, le_of_suc-le-suc, mul-zero, mul-suc}
use native.Mathlib.Omega.{arith}
use lib.ListN.{length}
use borrow.Author.Tests.{leb-true, ltb-false, eqb-false, not-false}
use Rattle.lists.specs.Lists.{choose, iter}
use Rattle.scene_format.specs.Bytes.{byte_at, double_width, FiniteAt}
use Rattle.scene_format.specs.Format.{most_models, most_particles, upper_half, lower_half, version_known, count_width}
use Rattle.scene_format.specs.Format.{particles_at}
use Rattle.scene_fields.specs.Fields.{◌▹◌, times, refused_if, field, plain, double, count, half_byte, halves, ended}
use Rattle.scene_format.specs.declared.Kind.{Kind}
use Rattle.scene_fields.specs.declared.fields.Half.{Half}
use Rattle.scene_fields.specs.declared.fields.Half.TheVariants.{Version, Rule, ModelCount}
use Rattle.scene_format.specs.Refusals.{Walk}
use Rattle.std.specs.declared.result.Result.TheVariants.{Ok, Err}
use Rattle.scene_format.specs.declared.Refusal.{Refusal}

-- if the walk w is not refused, it has come to x, and Q holds
abbrev pub Leads : Walk → ℕ → Type 0 → Type 0
Leads w x Q = (e : ℕ) → w ≡ Ok e → (e ≡ x) × Q

-- from any offset, f leads to where g says, and Q holds of the offset
abbrev pub Steps : (ℕ → Walk) → (ℕ → ℕ) → (ℕ → Type 0) → Type 0
Steps f g Q = (at : ℕ) → Leads (f at) (g at) (Q at)

-- ---- walks joined

pub never : {A : Type 0} {r : Refusal} {e : ℕ} → Err r ≡ Ok e → A
never q = let z : ◌≡◌ {A = ℕ} 0 1 = cc in absurd (omega arith)

-- a walk of no step
pub stay : (x : ℕ) → Leads (Ok x) x Unit
stay x e q = (cc, tt)

-- the same, said otherwise
pub restated : {w : Walk} {x x' : ℕ} {Q Q' : Type 0} → Leads w x Q → (Q → (x ≡ x') × Q') → Leads w x' Q'
restated l h e q = let k = l e q in let m = h k.1 in (k.0 ∙ m.0, m.1)

-- a walk and a step that are not refused come to an offset between them
pub both : (w : Walk) (f : ℕ → Walk) {e : ℕ} → w ▹ f ≡ Ok e → (at : ℕ) × (w ≡ Ok at) × (f at ≡ Ok e)
unfolding ◌▹◌
both (Ok at) f q = (at, refl, q)
both (Err r) f q = never q

infixl 60 ◌then◌
-- a walk, and then a step
pub ◌then◌ : {w : Walk} {x : ℕ} {Q : Type 0} {f : ℕ → Walk} {g : ℕ → ℕ} {Q' : ℕ → Type 0} → Leads w x Q → Steps f g Q'
    → Leads (w ▹ f) (g x) (Q × Q' x)
◌then◌ {g = g} {Q' = Q'} l s e q =
    let (at, p, r) = both _ _ q in
    let h = l at p in
    let k = s at e r in
    (k.0 ∙ ap g h.0, (h.1, subst Q' h.0 k.1))

-- Q holds of an offset, and of the n that follow by steps
pub first_and_rest : (g : ℕ → ℕ) (Q : ℕ → Type 0) (n at : ℕ) → Q at → ((i : ℕ) → i < n → Q (iter i g (g at)))
    → (i : ℕ) → i < suc n → Q (iter i g at)
unfolding iter
first_and_rest g Q n at p h zero l = p
first_and_rest g Q n at p h (suc i) l = h i (le_of_suc-le-suc l)

-- n steps: the i-th starts from where i steps lead
pub times-steps : {f : ℕ → Walk} {g : ℕ → ℕ} {Q : ℕ → Type 0} → Steps f g Q → (n : ℕ)
    → Steps (times n f) (iter n g) (λ at. (i : ℕ) → i < n → Q (iter i g at))
unfolding times iter
times-steps s zero at e q = (cc, λ i h. absurd (not-suc-le-zero h))
times-steps {g = g} {Q = Q} s (suc n) at e q =
    let h = (s at then times-steps s n) e q in
    (h.0, first_and_rest g Q n at h.1.0 h.1.1)

-- n steps of c bytes each
pub iter-add : (c n at : ℕ) → iter n (λ x. x + c) at ≡ at + c * n
unfolding iter
iter-add c zero at = omega (arith, mul-zero c)
iter-add c (suc n) at = iter-add c n (at + c) ∙ omega (arith, mul-suc c n)

pub parts-steps : {f : ℕ → Walk} {Q : ℕ → Type 0} (c : ℕ) → Steps f (λ at. at + c) Q → (n : ℕ)
    → Steps (times n f) (λ at. at + c * n) (λ at. (k : ℕ) → k < n → Q (at + c * k))
parts-steps {Q = Q} c s n at =
    restated (times-steps s n at) (λ h. (iter-add c n at, λ k l. subst Q (iter-add c k at) (h k l)))

-- n steps stay within the first l bytes if each of them does
pub iter_within : (l : ℕ) (g : ℕ → ℕ) (n at : ℕ) → at ≤ l → ((i : ℕ) → i < n → g (iter i g at) ≤ l) → iter n g at ≤ l
unfolding iter
iter_within l g zero at h k = h
iter_within l g (suc n) at h k = iter_within l g n (g at) (k zero (omega arith)) (λ i b. k (suc i) (omega arith))

-- ---- tests

pub refused_if_leads : {w : Walk} {x : ℕ} {Q : Type 0} (t : Bool) (r : Refusal) → Leads w x Q
    → Leads (refused_if t r w) x ((t ≡ false) × Q)
unfolding refused_if choose
refused_if_leads true r l e q = never q
refused_if_leads false r l e q = let h = l e q in (h.0, (refl, h.1))

field_leads : (b : List ℕ) (k : ℕ) (rule : ℕ → Walk) {at x : ℕ} {Q : Type 0} → Leads (rule at) x Q
    → Leads (field b k rule at) x ((at + k ≤ length b) × Q)
unfolding field
field_leads b k rule l = restated (refused_if_leads _ _ l) (λ h. (refl, (leb-true _ _ (not-false _ h.0), h.1)))

-- ---- single fields

-- what a half that is passed holds
unfoldable pub HalfOk : Half → ℕ → Type 0
HalfOk Version x = version_known x ≡ true
HalfOk (Rule most) x = x ≤ most
HalfOk ModelCount x = x ≤ most_models

module _ (b : List ℕ) where
  pub plain-steps : (k : ℕ) → Steps (plain b k) (λ at. at + k) (λ at. at + k ≤ length b)
  unfolding plain
  plain-steps k at = restated (field_leads b k _ (stay _)) (λ h. (refl, h.0))

  pub double-steps : Steps (double b) (λ at. at + double_width) (FiniteAt b)
  unfolding double
  double-steps at =
      restated (field_leads b double_width _ (refused_if_leads _ _ (stay _)))
      (λ h. (refl, record { present = h.0; finite = eqb-false _ _ h.1.0 }))

  pub count-steps : (κ : Kind)
      → Steps (count κ b) (λ at. at + count_width)
      (λ at. (at + count_width ≤ length b) × (particles_at κ b at ≤ most_particles))
  unfolding count
  count-steps κ at = restated (field_leads b count_width _ (refused_if_leads _ _ (stay _)))
      (λ h. (refl, (h.0, ltb-false _ _ h.1.0)))

  half_leads : (rule : Half) (x at : ℕ) {w : Walk} {y : ℕ} {Q : Type 0} → Leads w y Q
      → Leads (half_byte rule x at w) y (HalfOk rule x × Q)
  unfolding half_byte HalfOk
  half_leads Version x at l = restated (refused_if_leads _ _ l) (λ h. (refl, (not-false _ h.0, h.1)))
  half_leads (Rule most) x at l = restated (refused_if_leads _ _ l) (λ h. (refl, (ltb-false _ _ h.0, h.1)))
  half_leads ModelCount x at l = restated (refused_if_leads _ _ l) (λ h. (refl, (ltb-false _ _ h.0, h.1)))

  pub halves-steps : (upper lower : Half)
      → Steps (halves b upper lower) (λ at. at + 1)
      (λ at. (at + 1 ≤ length b) × HalfOk upper (upper_half (byte_at b at)) × HalfOk lower (lower_half (byte_at b at)))
  unfolding halves
  halves-steps upper lower at =
      restated (field_leads b 1 _ (half_leads upper _ at (half_leads lower _ at (stay _))))
      (λ h. (refl, (h.0, h.1.0, h.1.1.0)))

  pub ended-steps : Steps (ended b) (λ at. at) (λ at. length b ≤ at)
  unfolding ended
  ended-steps at = restated (refused_if_leads _ _ (stay _)) (λ h. (refl, ltb-false _ _ h.0))
