-- The boundary part of the answer list: where each boundary particle's answers stand, and what the contacts make of the
-- forces there, one after the other. Scaffolding: no promise rests on it. Definitions only.
use Rattle.std.specs.Prelude.{ℕ, ◌+◌, ◌*◌, ◌<◌, ◌≤◌, List, [], ◌∷◌, Option, None, eqb, Float, length, get_or}
use Rattle.std.proofs.lemmas.List.Edits.{sets}
use Rattle.std.specs.Bool.{then_some}
use Rattle.iisph_motion.specs.Changes.{acceleration_of}
use Rattle.iisph_motion.specs.declared.acceleration.PressureState.{PressureState}
use Rattle.iisph_rows.specs.Rows.{vector_from}
use Rattle.iisph_rules.specs.Coefficients.{boundary_volume, particle_mass, coefficients}
use Rattle.iisph_rules.specs.Step.{boundary_acceleration}
use Rattle.lists.specs.Lists.{fold, table, choose, sum}
use Rattle.lists.specs.Stores.{Part}
use Rattle.math.specs.Vector.{Vector, ◌⊞◌, ◌⊡◌}
use Rattle.scene_format.specs.Format.{nameable_models, contact_width, model_number, model_at, number_at, counts_of}
use Rattle.scene_format.specs.Format.{keeps_of, starts_of}
use Rattle.scene_format.specs.Scene.{Scene, Contact, fluid_size, particle, boundary}
use Rattle.scene_format.specs.SceneOf.{scene_of}
use Rattle.scene_format.specs.declared.Kind.TheVariants.{Boundary}
use Rattle.scene_index.specs.Contacts.{ContactReady}
use Rattle.scene_index.specs.declared.contacts.ContactList.{ContactList}
use Rattle.scene_lengths.specs.Lengths.{fluid_answer_width, boundary_answer_width}

-- ---- where answers stand, for d axes

-- how many answers boundary particle j has: its volume and, if kept, its force
abbrev pub width_at : ℕ → Scene → ℕ → ℕ
width_at d s j = boundary_answer_width d (boundary s j)

-- where they begin: behind those of the fluid particles and of the boundary particles before it
unfoldable pub answer_offset : ℕ → Scene → ℕ → ℕ
answer_offset d s j = fluid_answer_width d * fluid_size s + sum (table j (width_at d s))

-- where the force of boundary w's first particle stands, if the boundary keeps forces
unfoldable pub force_start : ℕ → List ℕ → ℕ → Option ℕ
force_start d b w =
    then_some (eqb (get_or (keeps_of Boundary b) w 0) 1)
    (answer_offset d (scene_of b) (get_or (starts_of Boundary b) w 0) + 1)

unfoldable pub force_starts : ℕ → List ℕ → List (Option ℕ)
force_starts d b = table (model_number Boundary b) (force_start d b)

-- a list with room for each name holds them
pub record ForcesKnown (d : ℕ) (b : List ℕ) (forces : List (Option ℕ)) : Type 0 where
  pub room : nameable_models ≤ length forces
  pub starts : Part None 0 (force_starts d b) forces

-- ---- answers

-- the answers of boundary particle j, where `force` gives the forces
unfoldable pub boundary_with : Scene → (ℕ → Vector) → ℕ → List Float
boundary_with s force j = boundary_volume (boundary s j) ∷ choose (boundary s j).keeps_forces (force j) []

-- with the forces that the scene has
abbrev pub boundary_initial : Scene → ℕ → List Float
boundary_initial s = boundary_with s (λ j. (boundary s j).force)

-- ---- boundary contacts of fluid particles, for d axes

-- the contact at an offset may be read, and names a particle that its boundary has
pub record ForceContact (d : ℕ) (b : List ℕ) (at : ℕ) : Type 0 where
  pub ready : ContactReady Boundary d b at
  pub number : number_at b at < get_or (counts_of Boundary b) (model_at b at) 0

-- every contact of a list is such
pub record ForceContacts (d : ℕ) (b : List ℕ) (list : ContactList) : Type 0 where
  pub each : (k : ℕ) → k < list.count → ForceContact d b (list.at + contact_width d * k)

-- ---- gathering in the answer list l, for d axes

-- a boundary contact c: the force on the particle that it names, if kept, gains gain c
unfoldable pub gathered : ℕ → Scene → (Contact → Vector) → List Float → Contact → List Float
gathered d s gain l c =
    let k = answer_offset d s c.target + 1 in
    choose (boundary s c.target).keeps_forces (sets l k (vector_from d l k ⊞ gain c)) l

-- a × m_i, from the particle's pressure state
abbrev pub state_gain : Scene → PressureState → Contact → Vector
state_gain s state c = acceleration_of s state c ⊡ state.mass

-- a × m_i by the rules, of fluid particle i
abbrev pub force_gain : Scene → List Float → ℕ → Contact → Vector
force_gain s ps i c = boundary_acceleration s (coefficients s) ps i c ⊡ particle_mass (particle s i)

-- the boundary contacts of fluid particle i, in list order
unfoldable pub gathered_from : ℕ → Scene → List Float → List Float → ℕ → List Float
gathered_from d s ps l i = fold (gathered d s (force_gain s ps i)) l (particle s i).boundary_contacts

-- the first n fluid particles, in their order
unfoldable pub gathered_all : ℕ → Scene → List Float → ℕ → List Float → List Float
gathered_all d s ps n l = fold (gathered_from d s ps) l (table n (λ i. i))
