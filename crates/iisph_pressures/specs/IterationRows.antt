-- What an iteration reads of the work list and stores in it: the pressures and dij_pjl that stand there,
-- a quotient for each particle, and the terms of the pressure sum by the kind of contact. Scaffolding: no promise rests
-- on it. Definitions only.
use Rattle.std.specs.Prelude.{ℕ, ◌+◌, ◌*◌, ◌≡◌, List, [], ◌∷◌, Float}
use Rattle.std.specs.Float.Ieee
use Rattle.iisph_rows.specs.Passes.{Room, mass_row, volumes}
use Rattle.iisph_rows.specs.Rows.{density_slot, predicted_slot, aii_slot, dii_slot, pressure_slot, dij_slot, mass_slot}
use Rattle.iisph_rows.specs.Rows.{quotient_slot}
use Rattle.iisph_rows.specs.Rows.{row_at, element_at, vector_from, Rows, Behind}
use Rattle.iisph_rules.specs.Coefficients.{particle_mass, fluid_mass, boundary_mass, coefficients_of, coefficients}
use Rattle.iisph_rules.specs.Coefficients.{coefficient}
use Rattle.iisph_rules.specs.Iteration.{pressure, dij, relaxed, error_term, NextPressure, no_pressure, clamped}
use Rattle.iisph_rules.specs.Iteration.{aii_limit}
use Rattle.lists.specs.Lists.{choose, table}
use Rattle.math.specs.Real.{◌⊕◌, ◌⊖◌, ◌⊗◌, ◌⊘◌, ⊝, magnitude}
use Rattle.math.specs.Vector.{Vector, coordinates, ◌⊞◌, ◌⊟◌, ◌⊡◌, ◌·◌}
use Rattle.scene_format.specs.Scene.{Scene, Contact, particle}
use Rattle.scene_format.specs.declared.Criterion.{Criterion}
use Rattle.iisph_pressures.specs.declared.iteration.Next.{Next}
use Rattle.iisph_pressures.specs.declared.iteration.Owner.{Owner}

-- ---- what stands in the rows of n particles, for d axes

unfoldable pub pressures_in : ℕ → ℕ → List Float → List Float
pressures_in d n work = table n (λ i. element_at work (row_at d i + pressure_slot d))

unfoldable pub dijs_in : ℕ → ℕ → List Float → List Vector
dijs_in d n work = table n (λ i. vector_from d work (row_at d i + dij_slot))

-- ---- what the iterations find: the coefficients of the scene s, the pressures ps, masses and volumes, of n
-- particles

pub record IterationReady (s : Scene) (ps : List Float) (d n : ℕ) (work : List Float) : Type 0 where
  pub room : Room s d n work
  pub density : Rows d n (density_slot d) (λ i. (coefficients_of s (particle s i)).density ∷ []) work
  pub predicted_density : Rows d n (predicted_slot d) (λ i. (coefficients_of s (particle s i)).predicted_density ∷ [])
      work
  pub aii : Rows d n (aii_slot d) (λ i. (coefficients_of s (particle s i)).aii ∷ []) work
  pub dii : Rows d n (dii_slot d) (λ i. (coefficients_of s (particle s i)).dii) work
  pub pressure : Rows d n (pressure_slot d) (λ i. pressure ps i ∷ []) work
  pub mass : Rows d n mass_slot (mass_row s) work
  pub volume : Behind d n (volumes s) work

-- with the pressures that stand in the rows
abbrev pub Iterating : Scene → ℕ → ℕ → List Float → Type 0
Iterating s d n work = IterationReady s (pressures_in d n work) d n work

-- ---- dij_pjl: ((-m) × p) / (rho × rho), which no contact changes

-- of particle i of n, as it stands in the list
abbrev pub row_quotient : ℕ → List Float → ℕ → ℕ → Float
row_quotient d work n i =
    let rho = element_at work (density_slot d * n + i) in
    ⊝ (element_at work (row_at d i + mass_slot)) ⊗ element_at work (row_at d i + pressure_slot d) ⊘ (rho ⊗ rho)

-- of fluid particle i
unfoldable pub quotient : Scene → List Float → ℕ → Float
quotient s ps i =
    let rho = (coefficient (coefficients s) i).density in
    ⊝ (particle_mass (particle s i)) ⊗ pressure ps i ⊘ (rho ⊗ rho)

-- g × the quotient of what the contact names
abbrev pub with_dij : Scene → List Float → Vector → Contact → Vector
with_dij s ps sum c = sum ⊞ c.gradient ⊡ quotient s ps c.target

abbrev pub quotient_row : Scene → List Float → ℕ → List Float
quotient_row s ps i = quotient s ps i ∷ []

-- what dij_pjl finds: room for n particles, and the quotients of the pressures that stand there
pub record DijReady (s : Scene) (d n : ℕ) (work : List Float) : Type 0 where
  pub room : Room s d n work
  pub quotients : Rows d n (quotient_slot d) (quotient_row s (pressures_in d n work)) work

-- ---- next pressures

-- m_j × (((dij_i - dii_j × p_j) - (dij_j - (g × e) × p_i)) · g), where the contact names row j and has the gradient g
abbrev pub row_term : ℕ → List Float → ℕ → Owner → Vector → Float
row_term d work j owner g =
    let own = coordinates d owner.dij
    ⊟ vector_from d work (row_at d j + dii_slot d) ⊡ element_at work (row_at d j + pressure_slot d) in
    let other = vector_from d work (row_at d j + dij_slot) ⊟ (g ⊡ owner.factor) ⊡ owner.pressure in
    element_at work (row_at d j + mass_slot) ⊗ ((own ⊟ other) · g)

-- the owner is particle i of n, as it stands in the list, where t is dt
pub record OwnerIs (d : ℕ) (work : List Float) (n i : ℕ) (t : Float) (owner : Owner) : Type 0 where
  pub dij : coordinates d owner.dij ≡ vector_from d work (row_at d i + dij_slot)
  pub factor : owner.factor
      ≡ (let rho = element_at work (density_slot d * n + i) in
      t ⊗ t ⊗ element_at work (row_at d i + mass_slot) ⊘ (rho ⊗ rho))
  pub pressure : owner.pressure ≡ element_at work (row_at d i + pressure_slot d)

-- what a contact of each kind adds to the pressure sum of its owner

unfoldable pub fluid_term : ℕ → Scene → List Float → List Vector → Owner → Contact → Float
fluid_term d s ps ds owner c =
    let j = c.target in
    let own = coordinates d owner.dij ⊟ (coefficient (coefficients s) j).dii ⊡ pressure ps j in
    let other = dij ds j ⊟ (c.gradient ⊡ owner.factor) ⊡ owner.pressure in
    fluid_mass s c ⊗ ((own ⊟ other) · c.gradient)

-- d is the owner's dij_pjl, density0 the rest density of its fluid
unfoldable pub boundary_term : Scene → Float → Vector → Contact → Float
boundary_term s density0 d c = boundary_mass s density0 c ⊗ (d · c.gradient)

abbrev pub with_term : (Contact → Float) → Float → Contact → Float
with_term term sum c = sum ⊕ term c

-- `next_pressure` from what it takes of the header and of the particle
unfoldable pub next_from : Criterion → Float → Float → Float → Float → Float → NextPressure
next_from criterion density0 aii predicted sum p =
    let next = relaxed p aii (density0 ⊖ predicted) sum in
    choose (Ieee.lt aii_limit (magnitude aii)) (clamped next (error_term criterion density0 predicted aii sum next))
    no_pressure

-- the code's next pressure is this one
pub record NextIs (r : Next) (k : NextPressure) : Type 0 where
  pub pressure : r.pressure ≡ k.pressure
  pub term : r.term ≡ k.term

-- ---- p / (rho × rho) of particle i of n, which the velocity changes take

abbrev pub row_share : ℕ → List Float → ℕ → ℕ → Float
row_share d work n i =
    let rho = element_at work (density_slot d * n + i) in
    element_at work (row_at d i + pressure_slot d) ⊘ (rho ⊗ rho)
