-- The step (METHOD 7) on a scene: the iterations and how they end, the answers from given pressures, the
-- report, what a step answers, and refusals 9 and 10. Definitions only.
use Rattle.std.specs.Prelude.{ℕ, zero, suc, Bool, ◌&&◌, leb, ltb, eqb, length, Float}
use mathlib.Core.List.{List, [], ◌∷◌, ◌++◌, map, flatten}
use Rattle.std.specs.Float.Ieee
use Rattle.math.specs.Real.{◌⊕◌, ◌⊗◌, ◌⊘◌, half, is_zero}
use Rattle.math.specs.Vector.{Vector, ◌⊞◌, ◌⊟◌, ◌⊡◌}
use Rattle.lists.specs.Lists.{fold, table, choose}
use Rattle.scene_format.specs.declared.Refusal.{Refusal}
use Rattle.scene_format.specs.declared.Refusal.TheVariants.{ZeroDensity, ZeroPredictedDensity}
use Rattle.scene_format.specs.Scene.{Scene, Header, Contact, fluid_size, boundary_size, particle, boundary}
use Rattle.iisph_rules.specs.Coefficients.{clock_of, dt, over_contacts, boundary_volume, particle_mass, fluid_mass}
use Rattle.iisph_rules.specs.Coefficients.{boundary_mass, velocity_change, Coefficients, coefficients, coefficient}
use Rattle.iisph_rules.specs.Iteration.{pressure, iteration}
use Rattle.iisph_rules.specs.declared.IterationError.{IterationError}
use Rattle.iisph_rules.specs.declared.Ending.{Ending}
use Rattle.iisph_rules.specs.declared.Ending.TheVariants.{Unswept, Settled, RanOut}
use Rattle.iisph_rules.specs.declared.Report.{Report}
use Rattle.std.specs.declared.result.Result.{Result}
use Rattle.std.specs.declared.result.Result.TheVariants.{Ok, Err}

-- ---- the iterations

-- `step`: the warm pressures, halved
unfoldable pub first_pressures : Scene → List Float
first_pressures s = table (fluid_size s) (λ i. (particle s i).warm_pressure ⊗ half)

-- whether the iterations end with number i, counted from 0: the limit is met, and the least number reached
abbrev pub is_last : Header → ℕ → Float → Bool
is_last h i error = Ieee.le error h.max_density_error && leb h.min_pressure_iter i

-- an ending carries the last iteration's error, and whether an average was passed over in it
abbrev pub settled_with : IterationError → Ending
settled_with e = Settled e.value e.passed_over

abbrev pub ran_out_with : IterationError → Ending
ran_out_with e = RanOut e.value e.passed_over

-- how many iterations were carried out, how they ended, and the pressures after the last
pub record Solution : Type 0 where
  pub iterations : ℕ
  pub ending : Ending
  pub pressures : List Float

-- the loop of `pressure_solve`, from iteration number i on, n of them at most; `ending` is the ending if there is none
unfoldable pub iterate_from : ℕ → Scene → List Coefficients → ℕ → List Float → Ending → Solution
iterate_from zero s co i ps ending = record { iterations = i; ending = ending; pressures = ps }
iterate_from (suc n) s co i ps ending =
    let it = iteration s co ps in
    let more = iterate_from n s co (suc i) it.pressures (ran_out_with it.error) in
    choose (is_last s.header i it.error.value)
    (record { iterations = suc i; ending = settled_with it.error; pressures = it.pressures }) more

-- `pressure_solve`
unfoldable pub solution : Scene → Solution
solution s = iterate_from s.header.max_pressure_iter s (coefficients s) 0 (first_pressures s) Unswept

-- ---- velocities and positions, from given pressures

-- p_i / (rho_i × rho_i)
unfoldable pub pressure_share : List Coefficients → List Float → ℕ → Float
pressure_share co ps i = let rho = (coefficient co i).density in pressure ps i ⊘ (rho ⊗ rho)

-- g × ((m_j × p_i) / (rho_i × rho_i)) of a boundary contact of fluid particle i, a of METHOD 7.2
unfoldable pub boundary_acceleration : Scene → List Coefficients → List Float → ℕ → Contact → Vector
boundary_acceleration s co ps i c =
    let rho = (coefficient co i).density in
    c.gradient ⊡ (boundary_mass s (particle s i).density0 c ⊗ pressure ps i ⊘ (rho ⊗ rho))

-- `compute_velocity_changes`: per fluid contact the change loses g × ((dt × m_j) × (p_i / (rho_i × rho_i) + p_j /
-- (rho_j × rho_j))), per boundary contact a × dt
unfoldable pub final_velocity_change : Scene → List Coefficients → List Float → ℕ → Vector
final_velocity_change s co ps i =
    over_contacts
    (λ change c. change
    ⊟ c.gradient ⊡ (dt s ⊗ fluid_mass s c ⊗ (pressure_share co ps i ⊕ pressure_share co ps c.target)))
    (λ change c. change ⊟ boundary_acceleration s co ps i c ⊡ dt s)
    (velocity_change s (particle s i))
    (particle s i)

-- `update_velocities_and_positions`: the change is added to the velocity, and the new velocity × dt to the position
unfoldable pub new_velocity : Scene → List Coefficients → List Float → ℕ → Vector
new_velocity s co ps i = (particle s i).velocity ⊞ final_velocity_change s co ps i

unfoldable pub new_position : Scene → List Coefficients → List Float → ℕ → Vector
new_position s co ps i = (particle s i).position ⊞ new_velocity s co ps i ⊡ dt s

-- the answers of fluid particle i: position, velocity, pressure
unfoldable pub fluid_answer : Scene → List Coefficients → List Float → ℕ → List Float
fluid_answer s co ps i = new_position s co ps i ++ (new_velocity s co ps i ++ (pressure ps i ∷ []))

-- ---- boundary forces, from given pressures

-- what the boundary contacts of fluid particle i, in list order, make of the force on boundary particle j: those that
-- name j add a × m_i
unfoldable pub force_from : Scene → List Coefficients → List Float → ℕ → Vector → ℕ → Vector
force_from s co ps j force i =
    fold
    (λ f c. choose (eqb c.target j) (f ⊞ boundary_acceleration s co ps i c ⊡ particle_mass (particle s i)) f)
    force
    (particle s i).boundary_contacts

-- in fluid, particle, contact order
unfoldable pub boundary_force : Scene → List Coefficients → List Float → ℕ → Vector
boundary_force s co ps j = fold (force_from s co ps j) (boundary s j).force (table (fluid_size s) (λ i. i))

-- the answers of boundary particle j: volume, and the force where forces are kept
unfoldable pub boundary_answer : Scene → List Coefficients → List Float → ℕ → List Float
boundary_answer s co ps j = boundary_volume (boundary s j) ∷ choose (boundary s j).keeps_forces
    (boundary_force s co ps j) []

-- ---- the step

-- from given pressures: the fluid particles, then the boundary particles
unfoldable pub answers_from : Scene → List Float → List Float
answers_from s ps =
    let co = coefficients s in
    flatten (table (fluid_size s) (fluid_answer s co ps)) ++ flatten (table (boundary_size s) (boundary_answer s co ps))

unfoldable pub answers_of : Scene → List Float
answers_of s = answers_from s (solution s).pressures

unfoldable pub report_of : Scene → Report
report_of s = let w = solution s in record { clock = clock_of s; iterations = w.iterations; ending = w.ending }

-- ---- what a step answers

-- its report, or why it is refused
abbrev pub StepAnswer : Type 0
StepAnswer = Result Report Refusal

-- that its iterations can begin, or why it is refused before them
abbrev pub Readiness : Type 0
Readiness = Result Unit Refusal

-- ---- refusals 9 and 10: `assert!(!density.is_zero())`, `assert!(!predicted_density.is_zero())`

-- the number of the first zero of either sign, or how many numbers there are
unfoldable pub first_zero : List Float → ℕ
first_zero [] = 0
first_zero (x ∷ xs) = choose (is_zero x) 0 (suc (first_zero xs))

-- refused at the record of the first zero, where there is one; `at` gives the offset of a particle's record
unfoldable pub unless_zero : (ℕ → ℕ) → (ℕ → Refusal) → List Float → StepAnswer → StepAnswer
unless_zero at refusal xs answer = let i = first_zero xs in choose (ltb i (length xs)) (Err (refusal (at i))) answer

-- 9 if any density is zero; 10 only where none is
unfoldable pub scene_answer : (ℕ → ℕ) → Scene → StepAnswer
scene_answer at s =
    let co = coefficients s in
    unless_zero at ZeroDensity (map (λ k. k.density) co)
    (unless_zero at ZeroPredictedDensity (map (λ k. k.predicted_density) co)
    (Ok (report_of s)))
