-- The claims of specs/Versions.antt on rules: criterion and summation enter the error alone, so by another rule the
-- definitions of coefficients, pressures and answers compute to the same; of a next pressure its term is another, but
-- whether it is kept is not. By induction on the iterations, and by the cases of a step's answer. Assumes nothing.
use Prim.Native.Nat.{ℕ, zero, suc}
use mathlib.Core.Path.{◌≡◌, refl, sym, ap, ◌∙◌}
use mathlib.Core.Bool.{Bool, true, false, cond}
use mathlib.Core.List.{List}
use lib.Ieee
use lib.Ieee.{Float}
use Rattle.lists.specs.Lists.{choose}
use Rattle.lists.proofs.Lists.{table_same, map-table}
use Rattle.math.specs.Real.{+0}
use Rattle.math.specs.Vector.{Vector}
use Rattle.scene_format.specs.Format.{rule_of, criterion_of, summation_of, location_of}
use Rattle.scene_format.specs.Scene.{Scene, fluid_size, boundary_size, particle, boundary}
use Rattle.scene_format.specs.SceneOf.{scene_of}
use Rattle.scene_format.specs.declared.Criterion.{Criterion}
use Rattle.scene_format.specs.declared.Kind.TheVariants.{Fluid}
use Rattle.scene_format.specs.declared.Refusal.{Refusal}
use Rattle.scene_format.specs.declared.Summation.{Summation}
use Rattle.iisph_rules.specs.Coefficients.{Coefficients, clock_of, fluid_mass, boundary_mass, velocity_change}
use Rattle.iisph_rules.specs.Coefficients.{advected_velocity, fluid_neighbour, boundary_neighbour, over_neighbours}
use Rattle.iisph_rules.specs.Coefficients.{density}
use Rattle.iisph_rules.specs.Coefficients.{delta, predicted_density, dii_factor, dii, dji_factor, aii, coefficients_of}
use Rattle.iisph_rules.specs.Coefficients.{coefficients}
use Rattle.iisph_rules.specs.Iteration.{dij_sum, dij_pjl, dij_pjls, pressure_sum, clamped, no_pressure, next_pressure}
use Rattle.iisph_rules.specs.Iteration.{NextPressure, next_pressures, iteration}
use Rattle.iisph_rules.specs.Step.{first_pressures, solution, boundary_acceleration, final_velocity_change}
use Rattle.iisph_rules.specs.Step.{new_velocity}
use Rattle.iisph_rules.specs.Step.{new_position, fluid_answer, force_from, boundary_force, boundary_answer}
use Rattle.iisph_rules.specs.Step.{answers_from}
use Rattle.iisph_rules.specs.Step.{answers_of, report_of, StepAnswer, unless_zero, scene_answer}
use Rattle.iisph_rules.specs.PassedOver.{iteration_at}
use Rattle.iisph_rules.specs.declared.Report.{Report}
use Rattle.std.specs.declared.result.Result.TheVariants.{Ok, Err}
use Rattle.iisph_rules.proofs.Cases.{scene_answer_lem}
use Rattle.iisph_rules.proofs.Iterations.{pressures_after, solution_pressures}
use Rattle.iisph_rules.proofs.Locality.{needed, accepted_report}
use Rattle.iisph_rules.proofs.Reports.{never, step_done}
use Rattle.iisph_versions.specs.Versions.{header_by, scene_by, SamePressures, RuleRefusesNone, RuleByIterations}
use Rattle.iisph_versions.proofs.Scenes.{same_scenes}
use Rattle.iisph_versions.proofs.Walks.{same_checks}

-- ---- one scene by two rules

-- whether a pressure is kept does not depend on its term
kept_or_none : (t : Bool) (p x y : Float)
    → (choose t (clamped p x) no_pressure).pressure ≡ (choose t (clamped p y) no_pressure).pressure
unfolding choose clamped
kept_or_none false p x y = refl
kept_or_none true p x y = either (Ieee.lt +0 p)
  where
    either : (t : Bool) → (cond t (record { pressure = p; term = x }) no_pressure).pressure
        ≡ (cond t (record { pressure = p; term = y }) no_pressure).pressure
    either true = refl
    either false = refl

module _ (criterion : Criterion) (summation : Summation) (s : Scene) where
  abbrev other : Scene
  other = scene_by criterion summation s

  coefficients_same : coefficients other ≡ coefficients s
  unfolding scene_by header_by fluid_size particle boundary clock_of fluid_mass boundary_mass velocity_change
      advected_velocity
      fluid_neighbour boundary_neighbour over_neighbours density delta predicted_density dii_factor dii dji_factor aii
      coefficients_of coefficients
  coefficients_same = refl

  first_same : first_pressures other ≡ first_pressures s
  unfolding scene_by fluid_size particle first_pressures
  first_same = refl

  next_same : (co : List Coefficients) (ps : List Float) (ds : List Vector) (i : ℕ)
      → (next_pressure other co ps ds i).pressure ≡ (next_pressure s co ps ds i).pressure
  unfolding scene_by header_by particle boundary clock_of fluid_mass boundary_mass dji_factor pressure_sum next_pressure
  next_same co ps ds i = kept_or_none _ _ _ _

  iteration_same : (co : List Coefficients) (ps : List Float)
      → (iteration other co ps).pressures ≡ (iteration s co ps).pressures
  unfolding scene_by header_by fluid_size particle clock_of fluid_mass dij_sum dij_pjl dij_pjls next_pressures iteration
  iteration_same co ps =
      let ds = dij_pjls s co ps in
      map-table (λ (n : NextPressure). n.pressure) (fluid_size s) (next_pressure other co ps ds)
      ∙ table_same (fluid_size s) _ _ (λ i h. next_same co ps ds i)
      ∙ sym (map-table (λ (n : NextPressure). n.pressure) (fluid_size s) (next_pressure s co ps ds))

  pressures_same : (k : ℕ) → pressures_after other k ≡ pressures_after s k
  pressures_same zero = first_same
  pressures_same (suc k) =
      ap (λ (co : List Coefficients). (iteration other co (pressures_after other k)).pressures) coefficients_same
      ∙ ap (λ (ps : List Float). (iteration other (coefficients s) ps).pressures) (pressures_same k)
      ∙ iteration_same (coefficients s) (pressures_after s k)

  answers_same : (ps : List Float) → answers_from other ps ≡ answers_from s ps
  unfolding scene_by header_by fluid_size boundary_size particle boundary clock_of fluid_mass boundary_mass
      velocity_change
      advected_velocity fluid_neighbour boundary_neighbour over_neighbours density delta predicted_density dii_factor
      dii
      dji_factor aii coefficients_of coefficients boundary_acceleration final_velocity_change new_velocity new_position
      fluid_answer force_from boundary_force boundary_answer answers_from
  answers_same ps = refl

  clock_same : clock_of other ≡ clock_of s
  unfolding scene_by header_by clock_of
  clock_same = refl

-- iteration number k leaves the pressures after one more
left_by : (s : Scene) (k : ℕ) → (iteration_at s k).pressures ≡ pressures_after s (suc k)
unfolding iteration_at
left_by s zero = refl
left_by s (suc k) = ap (λ (ps : List Float). (iteration s (coefficients s) ps).pressures) (left_by s k)

pub same_pressures : SamePressures
same_pressures criterion summation s k =
    left_by (scene_by criterion summation s) k ∙ pressures_same criterion summation s (suc k) ∙ sym (left_by s k)

-- ---- refusals 9 and 10

-- a test that lets one answer pass lets the other pass too
passed_too : (t : Bool) (x x' : Refusal) (a a' : StepAnswer) {r r' : Report} → (a ≡ Ok r → a' ≡ Ok r')
    → choose t (Err x) a ≡ Ok r → choose t (Err x') a' ≡ Ok r'
unfolding choose
passed_too true x x' a a' h q = never q
passed_too false x x' a a' h q = h q

done_too : (criterion : Criterion) (summation : Summation) (s : Scene) (at at' : ℕ → ℕ) {r : Report}
    → scene_answer at s ≡ Ok r
    → let other = scene_by criterion summation s in scene_answer at' other ≡ Ok (report_of other)
unfolding scene_answer unless_zero
done_too criterion summation s at at' q =
    rw (coefficients_same criterion summation s)
    (passed_too _ _ _ _ _ (passed_too _ _ _ _ _ (λ _. refl)) q)

-- ---- two packed scenes

pub rule_refuses_none : RuleRefusesNone
rule_refuses_none b b' s f f' a =
    let d = step_done b _ _ (a.done _ _ needed) in
    let e = same_scenes b b' s in
    let k = done_too (criterion_of (rule_of b')) (summation_of (rule_of b')) (scene_of b) _
    (λ i. (location_of Fluid b' i).at)
    d.scene in
    record {
      report = report_of (scene_of b');
      done = λ answers work h.
          scene_answer_lem b' answers work (sym (same_checks b b' s f f') ∙ d.accepted) h.enough_answers h.enough_work
          ∙ rw e k;
    }

pub rule_by_iterations : RuleByIterations
unfolding answers_of report_of
rule_by_iterations b b' s a a' q =
    let c = criterion_of (rule_of b') in
    let w = summation_of (rule_of b') in
    let e = same_scenes b b' s in
    let k = a.report.iterations in
    let ps = (solution (scene_of b')).pressures in
    let number = ap (λ (r : Report). r.iterations) (accepted_report a) in
    let number' = ap (λ (r : Report). r.iterations) (accepted_report a') ∙ sym q in
    let after = ap (λ (t : Scene). pressures_after t k) e ∙ pressures_same c w (scene_of b) k in
    let pressures = solution_pressures (scene_of b) number ∙ sym (solution_pressures (scene_of b') number' ∙ after) in (
      ap (answers_from (scene_of b)) pressures
          ∙ sym (ap (λ (t : Scene). answers_from t ps) e ∙ answers_same c w (scene_of b) ps),
      sym (ap (λ (r : Report). r.clock) (accepted_report a))
          ∙ sym (ap clock_of e ∙ clock_same c w (scene_of b))
          ∙ ap (λ (r : Report). r.clock) (accepted_report a'),
    )
