-- How turns through contact lists end: those of a particle, of a model, of a kind, of a scene. Definitions only.
use Rattle.std.specs.Prelude.{ℕ, zero, suc, List, ◌≡◌, ◌<◌, Result}
use Rattle.scene_format.specs.Format.{most_models, most_particles}
use Rattle.scene_format.specs.declared.Kind.{Kind}
use Rattle.scene_format.specs.declared.Kind.TheVariants.{Fluid, Boundary}
use Rattle.scene_format.specs.Refusals.{Walk}
use Rattle.scene_lists.specs.Lists.{list_answer}
use Rattle.scene_lists.specs.declared.Contacts.{Contacts}
use Rattle.scene_lists.specs.declared.Contacts.TheVariants.{FluidFluid, FluidBoundary, BoundaryBoundary}
use Rattle.cases_check.specs.declared.Turn.{Turn}
use Rattle.cases_check.specs.declared.Turn.TheVariants.{Passed, Absent, Refused}
use Rattle.scene_lists.specs.Lists.{ListAnswer}
use Rattle.std.specs.declared.result.Result.TheVariants.{Ok, Err}
use Rattle.std.specs.declared.option.Option.TheVariants.{Some, None}

-- a list
unfoldable pub walk_turn : Walk → Turn
walk_turn (Ok end) = Passed
walk_turn (Err r) = Refused

unfoldable pub turn_of : ListAnswer → Turn
turn_of (Ok (Some a)) = walk_turn a.walk
turn_of (Ok None) = Absent
turn_of (Err r) = Refused

abbrev pub list_turn : List ℕ → Contacts → ℕ → ℕ → Turn
list_turn b c m j = turn_of (list_answer b c m j)

-- one turn, and another if the first is passed
unfoldable pub both_turns : Turn → Turn → Turn
both_turns Passed u = u
both_turns Absent u = Absent
both_turns Refused u = Refused

unfoldable pub particle_turn : Kind → List ℕ → ℕ → ℕ → Turn
particle_turn Fluid b m j = both_turns (list_turn b FluidFluid m j) (list_turn b FluidBoundary m j)
particle_turn Boundary b m j = list_turn b BoundaryBoundary m j

-- n turns from the k-th on, up to the first that is refused, or where there is none
unfoldable pub onward : Turn → Turn → Turn
onward Passed u = u
onward Absent u = Passed
onward Refused u = Refused

unfoldable pub in_turn : ℕ → (ℕ → Turn) → ℕ → Turn
in_turn zero f k = Passed
in_turn (suc n) f k = onward (f k) (in_turn n f (suc k))

-- where the k-th of n answers is a turn, it is f k
abbrev pub EndAs : {E : Type 0} → ℕ → (ℕ → Result Turn E → Type 0) → (ℕ → Turn) → Type 0
EndAs n answers f = (k : ℕ) (turn : Turn) → k < n → answers k (Ok turn) → turn ≡ f k

unfoldable pub model_turn : Kind → List ℕ → ℕ → Turn
model_turn κ b m = in_turn most_particles (particle_turn κ b m) 0

unfoldable pub kind_turn : Kind → List ℕ → Turn
kind_turn κ b = in_turn most_models (model_turn κ b) 0

unfoldable pub scene_turn : List ℕ → Turn
scene_turn b = both_turns (kind_turn Fluid b) (kind_turn Boundary b)
