-- One iteration over the pressures (METHOD 6), from the coefficients `co` and the old pressures `ps` of all fluid
-- particles, by their numbers. Its error is made in three steps: a term for each particle, by the criterion; an average
-- for each fluid, by the summation; a fold over the averages, by the criterion. Definitions only.
use Rattle.std.specs.Prelude.{ℕ, zero, suc, false, cond, ◌||◌, List, [], ◌∷◌, map, get_or, take, drop, pos, Float}
use Rattle.std.specs.Float.Ieee
use Rattle.std.specs.Float.{binary64}
use Rattle.math.specs.Real.{◌⊕◌, ◌⊖◌, ◌⊗◌, ◌⊘◌, ⊝, bits, +0, half, is_nan, magnitude, larger, total}
use Rattle.math.specs.Vector.{Vector, ◌⊞◌, ◌⊟◌, ◌⊡◌, ◌·◌}
use Rattle.sums.specs.Halves.{sum_by_halves}
use Rattle.lists.specs.Lists.{fold, table, choose}
use Rattle.scene_format.specs.Scene.{Scene, FluidParticle, fluid_size, particle}
use Rattle.scene_format.specs.declared.Criterion.{Criterion}
use Rattle.scene_format.specs.declared.Criterion.TheVariants.{Salva, Ihmsen}
use Rattle.scene_format.specs.declared.Summation.{Summation}
use Rattle.scene_format.specs.declared.Summation.TheVariants.{InOrder, ByHalves}
use Rattle.iisph_rules.specs.Coefficients.{dt, zero_vector, over_contacts, fluid_mass, boundary_mass, dji_factor}
use Rattle.iisph_rules.specs.Coefficients.{Coefficients, coefficient}
use Rattle.iisph_rules.specs.declared.IterationError.{IterationError}

abbrev pub pressure : List Float → ℕ → Float
pressure ps i = get_or ps i +0

-- ---- dij_pjl

-- `compute_dij_pjl`: sum over the fluid contacts of g × (((-m_j) × p_j) / (rho_j × rho_j)), then × (dt × dt)
unfoldable pub dij_sum : Scene → List Coefficients → List Float → FluidParticle → Vector
dij_sum s co ps p =
    fold
    (λ sum c.
    let rho = (coefficient co c.target).density in
    sum ⊞ c.gradient ⊡ (⊝ (fluid_mass s c) ⊗ pressure ps c.target ⊘ (rho ⊗ rho)))
    (zero_vector s)
    p.fluid_contacts

unfoldable pub dij_pjl : Scene → List Coefficients → List Float → FluidParticle → Vector
dij_pjl s co ps p = dij_sum s co ps p ⊡ (dt s ⊗ dt s)

-- of each fluid particle, before any next pressure
unfoldable pub dij_pjls : Scene → List Coefficients → List Float → List Vector
dij_pjls s co ps = table (fluid_size s) (λ i. dij_pjl s co ps (particle s i))

abbrev pub dij : List Vector → ℕ → Vector
dij ds i = get_or ds i []

-- ---- next pressures: `compute_next_pressures`, where `ds` are the iteration's dij_pjl

-- the Rust's `sum`: per fluid contact m_j × (((dij_i - dii_j × p_j) - (dij_j - (g × e) × p_i)) · g), per boundary
-- contact m_j × (dij_i · g)
unfoldable pub pressure_sum : Scene → List Coefficients → List Float → List Vector → ℕ → Float
pressure_sum s co ps ds i =
    let p = particle s i in
    let e = dji_factor s p (coefficient co i).density in
    over_contacts
    (λ sum c.
    let j = c.target in
    sum ⊕ fluid_mass s c
    ⊗ (((dij ds i ⊟ (coefficient co j).dii ⊡ pressure ps j)
    ⊟ (dij ds j ⊟ (c.gradient ⊡ e) ⊡ pressure ps i)) · c.gradient))
    (λ sum c. sum ⊕ boundary_mass s p.density0 c ⊗ (dij ds i · c.gradient))
    +0
    p

-- 0.5 × p_i + (0.5 × (derr - sum)) / aii
unfoldable pub relaxed : Float → Float → Float → Float → Float
relaxed p aii derr sum = half ⊗ p ⊕ half ⊗ (derr ⊖ sum) ⊘ aii

-- the error term of a next pressure p above 0. The Rust's: ((-sum) - aii × p) / rest. Ihmsen's, of the density that
-- results from the iteration: ((predicted + (sum + aii × p)) - rest) / rest
unfoldable pub error_term : Criterion → Float → Float → Float → Float → Float → Float
error_term Salva density0 predicted aii sum p = (⊝ sum ⊖ aii ⊗ p) ⊘ density0
error_term Ihmsen density0 predicted aii sum p = (predicted ⊕ (sum ⊕ aii ⊗ p) ⊖ density0) ⊘ density0

-- a next pressure with its error term
pub record NextPressure : Type 0 where
  pub pressure : Float
  pub term : Float

abbrev pub no_pressure : NextPressure
no_pressure = record { pressure = +0; term = +0 }

-- a next pressure p is kept, with its term, if it is above 0; if not, or if it is no number, there is none
unfoldable pub clamped : Float → Float → NextPressure
clamped p term = cond (Ieee.lt +0 p) (record { pressure = p; term = term }) no_pressure

-- 1e-9
abbrev pub aii_limit : Float
aii_limit = bits 0x3E112E0BE826D695

-- where |aii| is not above 1e-9, pressure and term are +0
unfoldable pub next_pressure : Scene → List Coefficients → List Float → List Vector → ℕ → NextPressure
next_pressure s co ps ds i =
    let density0 = (particle s i).density0 in
    let predicted = (coefficient co i).predicted_density in
    let aii = (coefficient co i).aii in
    let sum = pressure_sum s co ps ds i in
    let next = relaxed (pressure ps i) aii (density0 ⊖ predicted) sum in
    choose (Ieee.lt aii_limit (magnitude aii))
    (clamped next (error_term s.header.criterion density0 predicted aii sum next))
    no_pressure

-- of each fluid particle; all from the old pressures, beside which they are stored
unfoldable pub next_pressures : Scene → List Coefficients → List Float → List NextPressure
next_pressures s co ps = let ds = dij_pjls s co ps in table (fluid_size s) (next_pressure s co ps ds)

-- ---- the error

-- of the terms of a fluid: one after the other from +0 on, as the Rust does, or by halves
unfoldable pub term_sum : Summation → List Float → Float
term_sum InOrder terms = total +0 terms
term_sum ByHalves terms = sum_by_halves terms

-- of a fluid of n particles: sum of terms / count
unfoldable pub average : Summation → ℕ → List Float → Float
average summation n terms = term_sum summation terms ⊘ Ieee.of_int binary64 (pos n)

-- fluid by fluid, where `counts` says how many of the terms each has; an empty fluid has no average
unfoldable pub averages : Summation → List ℕ → List Float → List Float
averages summation [] terms = []
averages summation (zero ∷ counts) terms = averages summation counts terms
averages summation (suc n ∷ counts) terms =
    average summation (suc n) (take (suc n) terms) ∷ averages summation counts (drop (suc n) terms)

-- where there are no averages, and where the Rust's error starts
abbrev pub no_error : IterationError
no_error = record { value = +0; passed_over = false }

-- with one average more: the average, if it is greater. One that is not a number the Rust passes over, and that is
-- noted; under Ihmsen's criterion the error is then not a number, and stays so
unfoldable pub with_average : Criterion → IterationError → Float → IterationError
with_average Salva e x = record { value = larger e.value x; passed_over = e.passed_over || is_nan x }
with_average Ihmsen e x = record { value = cond (is_nan x) x (larger e.value x); passed_over = false }

-- with the first: Ihmsen's error is that average, whatever it is
unfoldable pub first_error : Criterion → Float → IterationError
first_error Salva x = with_average Salva no_error x
first_error Ihmsen x = record { value = x; passed_over = false }

-- of all averages
unfoldable pub error_of : Criterion → List Float → IterationError
error_of criterion [] = no_error
error_of criterion (x ∷ xs) = fold (with_average criterion) (first_error criterion x) xs

-- ---- the iteration

pub record Iteration : Type 0 where
  pub pressures : List Float
  pub averages : List Float
  pub error : IterationError

-- a turn of the loop in `pressure_solve`: the next pressures take the old ones' place afterwards
unfoldable pub iteration : Scene → List Coefficients → List Float → Iteration
iteration s co ps =
    let next = next_pressures s co ps in
    let found = averages s.header.summation s.fluid_counts (map (λ n. n.term) next) in
    record { pressures = map (λ n. n.pressure) next; averages = found; error = error_of s.header.criterion found }
