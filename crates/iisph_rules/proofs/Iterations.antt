-- The loop of iterations: it ends with the pressures after as many iterations as it says, and where the least number
-- plus one is at least the most, it carries out the most; its ending has the error of the last, or is unswept, and
-- where it is settled that error meets the limit. By induction on the iterations left, for both answers of the stopping
-- test. Assumes nothing.
use Prim.Native.Nat.{ℕ, zero, suc, ◌+◌, ◌≤◌}
use mathlib.Core.Path.{◌≡◌, refl, sym, ap, subst, ◌∙◌}
use mathlib.Core.Bool.{Bool, true, false, ◌&&◌}
use mathlib.Core.List.{List, [], ◌∷◌}
use native.Mathlib.Omega.{arith}
use lib.Dec.{T, leb, leb→le}
use lib.Ieee
use lib.Ieee.{Float}
use Rattle.lists.specs.Lists.{choose}
use Rattle.scene_format.specs.Scene.{Scene, Header}
use Rattle.iisph_rules.specs.Coefficients.{coefficients}
use Rattle.iisph_rules.specs.Iteration.{Iteration, iteration}
use Rattle.iisph_rules.specs.Step.{first_pressures, is_last, settled_with, ran_out_with, Solution, iterate_from}
use Rattle.iisph_rules.specs.Step.{solution}
use Rattle.iisph_rules.specs.Endings.{ending_values}
use Rattle.iisph_rules.specs.PassedOver.{iteration_at}
use Rattle.iisph_rules.specs.declared.Ending.{Ending}

-- what holds of both sides, each where the test picks it, holds of the side picked
pub chosen : {A : Type 0} (P : A → Type 0) (t : Bool) (x y : A) → (t ≡ true → P x) → (t ≡ false → P y)
    → P (choose t x y)
unfolding choose
chosen P true x y hx hy = hx refl
chosen P false x y hx hy = hy refl

-- ---- the pressures

-- after k iterations
abbrev pub pressures_after : Scene → ℕ → List Float
pressures_after s zero = first_pressures s
pressures_after s (suc k) = (iteration s (coefficients s) (pressures_after s k)).pressures

iterate_from_pressures : (s : Scene) (n i : ℕ) (ending : Ending)
    → (iterate_from n s (coefficients s) i (pressures_after s i) ending).pressures
    ≡ pressures_after s (iterate_from n s (coefficients s) i (pressures_after s i) ending).iterations
unfolding iterate_from
iterate_from_pressures s zero i ending = refl
iterate_from_pressures s (suc n) i ending =
    chosen (λ (w : Solution). w.pressures ≡ pressures_after s w.iterations) _ _ _ (λ _. refl)
    (λ _. iterate_from_pressures s n (suc i) _)

pub solution_pressures : (s : Scene) {k : ℕ} → (solution s).iterations ≡ k → (solution s).pressures ≡ pressures_after
    s k
unfolding solution
solution_pressures s q = iterate_from_pressures s s.header.max_pressure_iter 0 Ending.Unswept ∙ ap (pressures_after s) q

-- ---- the number of iterations

and_right : (a b : Bool) → (a && b) ≡ true → T b
and_right a true q = tt
and_right true false q = subst T (sym q) tt
and_right false false q = subst T (sym q) tt

-- iteration number i is the last only where i is at least the least
last_least : (h : Header) (i : ℕ) (error : Float) → is_last h i error ≡ true → h.min_pressure_iter ≤ i
last_least h i error q =
    leb→le h.min_pressure_iter i (and_right (Ieee.le error h.max_density_error) (leb h.min_pressure_iter i) q)

iterate_from_max : (s : Scene) (n i : ℕ) (ps : List Float) (ending : Ending)
    → s.header.max_pressure_iter ≡ i + n
    → s.header.max_pressure_iter ≤ s.header.min_pressure_iter + 1
    → (iterate_from n s (coefficients s) i ps ending).iterations ≡ s.header.max_pressure_iter
unfolding iterate_from
iterate_from_max s zero i ps ending q h = omega arith
iterate_from_max s (suc n) i ps ending q h =
    chosen (λ (w : Solution). w.iterations ≡ s.header.max_pressure_iter) _ _ _
    (λ t. omega (arith, last_least s.header i _ t))
    (λ _. iterate_from_max s n (suc i) _ _ (omega arith) h)

pub solution_max : (s : Scene) → s.header.max_pressure_iter ≤ s.header.min_pressure_iter + 1
    → (solution s).iterations ≡ s.header.max_pressure_iter
unfolding solution
solution_max s h = iterate_from_max s s.header.max_pressure_iter 0 _ _ (omega arith) h

-- ---- the ending

-- iteration number k begins with the pressures after k iterations
iteration_at_lem : (s : Scene) (k : ℕ) → iteration_at s k ≡ iteration s (coefficients s) (pressures_after s k)
unfolding iteration_at
iteration_at_lem s zero = refl
iteration_at_lem s (suc k) = ap (λ (it : Iteration). iteration s (coefficients s) it.pressures) (iteration_at_lem s k)

-- after i iterations: the ending has the error of the last of them
abbrev OfLast : Scene → ℕ → Ending → Type 0
OfLast s i e = (k : ℕ) → i ≡ suc k → ending_values e ≡ (iteration_at s k).error ∷ []

of_last : (s : Scene) (i : ℕ) (e : Ending)
    → ending_values e ≡ (iteration s (coefficients s) (pressures_after s i)).error ∷ [] → OfLast s (suc i) e
of_last s i e h k q =
    let same : k ≡ i = omega (arith, q) in
    h ∙ sym (ap (λ (it : Iteration). it.error ∷ []) (ap (iteration_at s) same ∙ iteration_at_lem s i))

iterate_from_ending : (s : Scene) (n i : ℕ) (e : Ending) → OfLast s i e
    → let w = iterate_from n s (coefficients s) i (pressures_after s i) e in OfLast s w.iterations w.ending
unfolding iterate_from ending_values
iterate_from_ending s zero i e h = h
iterate_from_ending s (suc n) i e h =
    let error = (iteration s (coefficients s) (pressures_after s i)).error in
    chosen (λ (w : Solution). OfLast s w.iterations w.ending) _ _ _ (λ _. of_last s i (settled_with error) refl)
    (λ _. iterate_from_ending s n (suc i) (ran_out_with error) (of_last s i (ran_out_with error) refl))

pub solution_ending : (s : Scene) → OfLast s (solution s).iterations (solution s).ending
unfolding solution
solution_ending s =
    iterate_from_ending s s.header.max_pressure_iter 0 Ending.Unswept (λ k q. absurd (omega (arith, q)))

iterate_from_least : (s : Scene) (n i : ℕ) (ps : List Float) (e : Ending)
    → i ≤ (iterate_from n s (coefficients s) i ps e).iterations
unfolding iterate_from
iterate_from_least s zero i ps e = omega arith
iterate_from_least s (suc n) i ps e =
    let it = iteration s (coefficients s) ps in
    chosen (λ (w : Solution). i ≤ w.iterations) _ _ _ (λ _. omega arith)
    (λ _. omega (arith, iterate_from_least s n (suc i) it.pressures (ran_out_with it.error)))

none_unswept : (s : Scene) (n : ℕ) (ps : List Float)
    → let w = iterate_from n s (coefficients s) 0 ps Ending.Unswept in w.iterations ≡ 0 → w.ending ≡ Ending.Unswept
unfolding iterate_from
none_unswept s zero ps = λ q. refl
none_unswept s (suc n) ps =
    let it = iteration s (coefficients s) ps in
    chosen (λ (w : Solution). w.iterations ≡ 0 → w.ending ≡ Ending.Unswept) _ _ _ (λ _ q. absurd (omega (arith, q)))
    (λ _ q. absurd (omega (arith, q, iterate_from_least s n 1 it.pressures (ran_out_with it.error))))

pub solution_unswept : (s : Scene) → (solution s).iterations ≡ 0 → (solution s).ending ≡ Ending.Unswept
unfolding solution
solution_unswept s = none_unswept s s.header.max_pressure_iter (first_pressures s)

-- ---- the limit

and_left : (a b : Bool) → (a && b) ≡ true → a ≡ true
and_left true b q = refl
and_left false b q = q

-- iteration number i is the last only where its error meets the limit
last_meets : (h : Header) (i : ℕ) (error : Float) → is_last h i error ≡ true
    → Ieee.le error h.max_density_error ≡ true
last_meets h i error q = and_left (Ieee.le error h.max_density_error) _ q

-- if an ending is settled, its error meets the limit
abbrev Meets : Scene → Ending → Type 0
Meets s e =
    (error : Float) (passed_over : Bool) → e ≡ Ending.Settled error passed_over
    → Ieee.le error s.header.max_density_error ≡ true

iterate_from_meets : (s : Scene) (n i : ℕ) (ps : List Float) (e : Ending) → Meets s e
    → Meets s (iterate_from n s (coefficients s) i ps e).ending
unfolding iterate_from
iterate_from_meets s zero i ps e h = h
iterate_from_meets s (suc n) i ps e h =
    chosen (λ (w : Solution). Meets s w.ending) _ _ _
    (λ t error passed_over q. let met = last_meets s.header i _ t in cc)
    (λ _. iterate_from_meets s n (suc i) _ _ (λ error passed_over q. cc))

pub solution_meets : (s : Scene) → Meets s (solution s).ending
unfolding solution
solution_meets s = iterate_from_meets s s.header.max_pressure_iter 0 _ Ending.Unswept (λ error passed_over q. cc)
