-- What a contact names, as the code reads it: its mass and its velocity, by the kind of particle; the sums over a list
-- of contacts; and a particle's coefficients as the code has them and as the work list holds them. Scaffolding: no
-- promise rests on it. Definitions only.
use Rattle.std.specs.Prelude.{ℕ, ◌≡◌, Bool, cond, List, [], ◌∷◌, ◌++◌, Float}
use Rattle.iisph_rows.specs.Passes.{PassOn, CoefficientsReady, first_pressure}
use Rattle.iisph_rows.specs.declared.over.Over.{Over}
use Rattle.iisph_rules.specs.Coefficients.{advected_velocity, fluid_mass, boundary_mass, Neighbour, Coefficients}
use Rattle.iisph_rules.specs.Coefficients.{coefficients_of}
use Rattle.math.specs.Real.{◌⊕◌, ◌⊗◌}
use Rattle.math.specs.Vector.{Vector, coordinates, ◌⊞◌, ◌⊟◌, ◌⊡◌, ◌·◌}
use Rattle.scene_format.specs.Scene.{Scene, Contact, particle, boundary}
use Rattle.scene_format.specs.SceneOf.{scene_of}
use Rattle.scene_format.specs.declared.Kind.{Kind}
use Rattle.scene_format.specs.declared.Kind.TheVariants.{Fluid, Boundary}
use Rattle.scene_index.specs.Contacts.{ContactsReady, over_first}
use Rattle.scene_index.specs.declared.contacts.ContactList.{ContactList}
use Rattle.iisph_coefficients.specs.declared.coefficients.CoefficientsOf.{CoefficientsOf}

-- the kind of contact of a sum, by whether it is fluid
abbrev pub kind_of : Bool → Kind
kind_of fluid = cond fluid Fluid Boundary

-- ---- what a contact names

unfoldable pub mass_of : Kind → Scene → Float → Contact → Float
mass_of Fluid s density0 c = fluid_mass s c
mass_of Boundary s density0 c = boundary_mass s density0 c

unfoldable pub velocity_of : Kind → Scene → Contact → Vector
velocity_of Fluid s c = advected_velocity s (particle s c.target)
velocity_of Boundary s c = (boundary s c.target).velocity

-- `fluid_neighbour` or `boundary_neighbour`
abbrev pub neighbour_of : Kind → Scene → Float → Contact → Neighbour
neighbour_of κ s density0 c = record { mass = mass_of κ s density0 c; velocity = velocity_of κ s c }

-- ---- what each sum makes of a contact that names j

abbrev pub weighed : Neighbour → Float → Contact → Float
weighed j sum c = sum ⊕ j.mass ⊗ c.weight

-- v is v_i
abbrev pub approached : Vector → Neighbour → Float → Contact → Float
approached v j sum c = sum ⊕ j.mass ⊗ ((v ⊟ j.velocity) · c.gradient)

-- factor is f of METHOD 5.5
abbrev pub pushed : Float → Neighbour → Vector → Contact → Vector
pushed factor j sum c = sum ⊞ c.gradient ⊡ (j.mass ⊗ factor)

-- d is dii_i, factor e of METHOD 5.6
abbrev pub returned : Vector → Float → Neighbour → Float → Contact → Float
returned d factor j sum c = sum ⊕ j.mass ⊗ ((d ⊟ c.gradient ⊡ factor) · c.gradient)

-- ---- a sum over the first n contacts of a list of one kind, for d axes, from a on

abbrev pub summed : {A : Type 0} → Kind → ℕ → List ℕ → ContactList → (Neighbour → A → Contact → A) → A → ℕ → A
summed κ d b list f a n =
    over_first κ d b list.at (λ sum c. f (neighbour_of κ (scene_of b) list.density0 c) sum c) a n

-- what it finds
abbrev pub SumReady : Kind → Over → List Float → ContactList → Type 0
SumReady κ over work list =
    let b = over.scene.now in
    PassOn over × ContactsReady κ over.dim b list × CoefficientsReady (scene_of b) over.dim over.n work

-- ---- a particle's coefficients

-- the code's are these, dii on d axes
pub record CoefficientsAre (d : ℕ) (r : CoefficientsOf) (k : Coefficients) : Type 0 where
  pub density : r.density ≡ k.density
  pub predicted_density : r.predicted_density ≡ k.predicted_density
  pub aii : r.aii ≡ k.aii
  pub dii : coordinates d r.dii ≡ k.dii

-- the first pressure, dii, density, predicted density and aii, in the order of their slots
unfoldable pub coefficient_row : Scene → ℕ → List Float
coefficient_row s i =
    let k = coefficients_of s (particle s i) in
    first_pressure s i ∷ (k.dii ++ (k.density ∷ k.predicted_density ∷ k.aii ∷ []))
