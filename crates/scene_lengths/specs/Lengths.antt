-- How long the two lists of a step must be, and where the answers of each model stand (FORMAT 3): those of the fluids,
-- then those of the boundaries, model after model and particle after particle. What stands under its last heading is
-- scaffolding, and no promise rests on it. Definitions only.
use Rattle.std.specs.Prelude.{ℕ, zero, suc, ◌+◌, ◌*◌, List, map, get_or}
use Rattle.lists.specs.Lists.{choose, sum, table}
use Rattle.scene_format.specs.Format.{axes_of, model_number, counts_of, keeps_of}
use Rattle.scene_format.specs.Scene.{Scene, BoundaryParticle, fluid_size, boundary_size}
use Rattle.scene_format.specs.SceneOf.{scene_of}
use Rattle.scene_format.specs.declared.Kind.{Kind}
use Rattle.scene_format.specs.declared.Kind.TheVariants.{Fluid, Boundary}
use Rattle.scene_format.specs.declared.Summation.{Summation}
use Rattle.scene_format.specs.declared.Summation.TheVariants.{InOrder, ByHalves}
use Rattle.scene_format.specs.declared.Refusal.{Refusal}
use Rattle.scene_format.specs.Refusals.{Walk}
use Rattle.scene_check.specs.Walk.{checked}
use Rattle.scene_lengths.specs.declared.Lengths.{Lengths}
use Rattle.std.specs.declared.result.Result.{Result}
use Rattle.std.specs.declared.result.Result.TheVariants.{Ok, Err}

-- ---- a particle, for d axes

-- a fluid particle's answers: position, velocity and pressure
abbrev pub fluid_answer_width : ℕ → ℕ
fluid_answer_width d = 1 + 2 * d

-- a boundary particle's whose force is kept: volume and force
abbrev pub kept_answer_width : ℕ → ℕ
kept_answer_width d = 1 + d

-- a particle's, by its kind and whether a boundary keeps forces (1, else 0); where not, there is the volume alone
unfoldable pub answer_width : ℕ → Kind → ℕ → ℕ
answer_width d Fluid keeps = fluid_answer_width d
answer_width d Boundary zero = 1
answer_width d Boundary (suc keeps) = kept_answer_width d

unfoldable pub boundary_answer_width : ℕ → BoundaryParticle → ℕ
boundary_answer_width d q = answer_width d Boundary (choose q.keeps_forces 1 0)

-- what the passes keep of a fluid particle in the work list; of a boundary particle it is the volume alone
abbrev pub work_width : ℕ → ℕ
work_width d = 5 + 3 * d

-- what a fluid particle needs there besides, where its error term is summed by halves
abbrev pub added_width : Summation → ℕ
added_width InOrder = 0
added_width ByHalves = 1

-- ---- a scene

unfoldable pub answers_needed : Scene → ℕ
answers_needed s =
    let d = s.header.axes in
    fluid_answer_width d * fluid_size s + sum (map (boundary_answer_width d) s.boundary_particles)

unfoldable pub work_needed : Scene → ℕ
work_needed s = (work_width s.header.axes + added_width s.header.summation) * fluid_size s + boundary_size s

abbrev pub lengths_needed : Scene → Lengths
lengths_needed s = record { answers = answers_needed s; work = work_needed s }

-- refusals 1 to 7 come first
unfoldable pub needs_after : List ℕ → Walk → Result Lengths Refusal
needs_after b (Ok end) = Ok (lengths_needed (scene_of b))
needs_after b (Err r) = Err r

unfoldable pub needs_of : List ℕ → Result Lengths Refusal
needs_of b = needs_after b (checked b)

-- ---- scaffolding for the code: models of a kind, by whether each keeps forces and how many particles each has

-- the width of model m's particles, for d axes, and the answers of the models before it
abbrev pub width_in : ℕ → Kind → List ℕ → ℕ → ℕ
width_in d κ keeps m = answer_width d κ (get_or keeps m 0)

unfoldable pub answers_before : ℕ → Kind → List ℕ → List ℕ → ℕ → ℕ
answers_before d κ keeps counts m = sum (table m (λ j. width_in d κ keeps j * get_or counts j 0))

-- the answers of all models of a kind
abbrev pub answers_in : Kind → List ℕ → ℕ
answers_in κ b = answers_before (axes_of b) κ (keeps_of κ b) (counts_of κ b) (model_number κ b)
