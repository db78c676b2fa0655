-- What each pass over the fluid particles stores, in which slots, and what it needs of the work list. Scaffolding: no
-- promise rests on it. Definitions only.
use Rattle.std.specs.Prelude.{ℕ, ◌+◌, ◌*◌, List, [], ◌∷◌, ◌++◌, Float}
use Rattle.iisph_coefficients.specs.Neighbours.{coefficient_row}
use Rattle.iisph_coefficients.specs.declared.coefficients.CoefficientsOf.{CoefficientsOf}
use Rattle.iisph_pressures.specs.IterationRows.{pressures_in, dijs_in, row_quotient, row_share, DijReady, Iterating}
use Rattle.iisph_rows.specs.Passes.{mass_row, advected_row, CoefficientsReady}
use Rattle.iisph_rows.specs.Rows.{element_at, stored}
use Rattle.iisph_rows.specs.Rows.{pressure_slot, dij_slot, mass_slot, quotient_slot, next_pressure_slot}
use Rattle.iisph_rules.specs.Coefficients.{coefficients}
use Rattle.iisph_rules.specs.Iteration.{NextPressure, dij_pjl, next_pressure}
use Rattle.math.specs.Vector.{coordinates}
use Rattle.scene_format.specs.Scene.{Scene, fluid_size, particle}
use Rattle.iisph_passes.specs.declared.traverse.Pass.{Pass}
use Rattle.iisph_passes.specs.declared.traverse.Pass.TheVariants.{Advection, Coefficients, Quotients}
use Rattle.iisph_passes.specs.declared.traverse.Pass.TheVariants.{DijPjl, NextPressures, Exchange, Shares}

-- the coefficients of the code with a pressure, as `coefficient_row` has them
abbrev pub coefficient_list : ℕ → CoefficientsOf → Float → List Float
coefficient_list d c pressure =
    pressure ∷ (coordinates d c.dii ++ (c.density ∷ c.predicted_density ∷ c.aii ∷ []))

-- the error term in the slot before that of the next pressure
abbrev pub next_list : NextPressure → List Float
next_list k = k.term ∷ k.pressure ∷ []

-- the next pressure that stands there of particle i of n
abbrev pub row_next : ℕ → List Float → ℕ → ℕ → Float
row_next d work n i = element_at work (next_pressure_slot d * n + i)

-- for d axes
unfoldable pub slot_of : ℕ → Pass → ℕ
slot_of d Advection = mass_slot
slot_of d Coefficients = pressure_slot d
slot_of d Quotients = quotient_slot d
slot_of d DijPjl = dij_slot
slot_of d NextPressures = quotient_slot d
slot_of d Exchange = pressure_slot d
slot_of d Shares = quotient_slot d

-- from the list before the pass
unfoldable pub row_of : ℕ → Scene → List Float → Pass → ℕ → List Float
row_of d s work Advection i = mass_row s i ++ advected_row s i
row_of d s work Coefficients i = coefficient_row s i
row_of d s work Quotients i = row_quotient d work (fluid_size s) i ∷ []
row_of d s work DijPjl i = dij_pjl s (coefficients s) (pressures_in d (fluid_size s) work) (particle s i)
row_of d s work NextPressures i =
    next_list (next_pressure s (coefficients s) (pressures_in d (fluid_size s) work) (dijs_in d (fluid_size s) work) i)
row_of d s work Exchange i = row_next d work (fluid_size s) i ∷ []
row_of d s work Shares i = row_share d work (fluid_size s) i ∷ []

-- the list after the pass
abbrev pub after_pass : ℕ → Scene → Pass → List Float → List Float
after_pass d s p work = stored d (fluid_size s) (slot_of d p) (row_of d s work p) work

-- of the list before the pass, of n particles
unfoldable pub Ready : Scene → ℕ → ℕ → List Float → Pass → Type 0
Ready s d n work Advection = Unit
Ready s d n work Coefficients = CoefficientsReady s d n work
Ready s d n work Quotients = Unit
Ready s d n work DijPjl = DijReady s d n work
Ready s d n work NextPressures = Iterating s d n work
Ready s d n work Exchange = Unit
Ready s d n work Shares = Unit
