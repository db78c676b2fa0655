-- Locality (METHOD 8): what is claimed of two packed scenes, each claim as one type, with what the claims
-- speak of. Links are those of the scene that the bytes stand for. Between two packed scenes particles are matched by
-- model and number, so with the same counts by their flat numbers; headers, records and rest densities are the same if
-- their bytes are (scene_check/specs/Same.antt). proofs/Locality.antt proves the claims. Definitions only.
use Rattle.std.specs.Prelude.{ℕ, suc, ◌+◌, ◌*◌, ◌<◌, ◌≤◌, ◌≡◌, take, drop, Float}
use mathlib.Core.List.{List, ◌++◌, Memᴰ}
use Rattle.math.specs.Vector.{Vector}
use Rattle.scene_format.specs.Bytes.{Bytes, byte_at}
use Rattle.scene_format.specs.Format.{axes_of, min_pressure_iter_offset, max_pressure_iter_offset, location_of}
use Rattle.scene_format.specs.Format.{starts_of}
use Rattle.scene_format.specs.Format.{contact_width, contact_count, contacts_start}
use Rattle.scene_format.specs.Scene.{Scene, Contact, FluidParticle, fluid_size, particle}
use Rattle.scene_format.specs.SceneOf.{scene_of, target_at}
use Rattle.scene_format.specs.declared.Kind.{Kind}
use Rattle.scene_format.specs.declared.Kind.TheVariants.{Fluid, Boundary}
use Rattle.scene_check.specs.Same.{SameRecord, SameFluidRecord, SameShape}
use Rattle.scene_lengths.specs.Lengths.{fluid_answer_width, answers_needed}
use Rattle.iisph_rules.specs.Coefficients.{coefficients}
use Rattle.iisph_rules.specs.Iteration as rules
use Rattle.iisph_rules.specs.Step.{solution, new_position, new_velocity, answers_of}
use Rattle.iisph_rules.specs.Answer.{step_answer, LongEnough, Accepted, answers_after}
use Rattle.iisph_rules.specs.declared.Report.{Report}
use Rattle.std.specs.declared.result.Result.TheVariants.{Ok}

-- ---- links

-- a fluid particle's contacts with particles of a kind
abbrev pub contacts_with : Kind → FluidParticle → List Contact
contacts_with Fluid p = p.fluid_contacts
contacts_with Boundary p = p.boundary_contacts

-- one of those of fluid particle i names particle j
pub record Names (κ : Kind) (s : Scene) (i j : ℕ) : Type 0 where
  pub contact : Contact
  pub listed : Memᴰ contact (contacts_with κ (particle s i))
  pub target : contact.target ≡ j

-- a link leads from fluid particle i to each fluid particle that its list names
abbrev pub Link : Scene → ℕ → ℕ → Type 0
Link s i j = Names Fluid s i j

-- the record of fluid particle i is there, and one of its contacts with particles of a kind names particle j: the start
-- of the model that stands there plus the number that stands there is j
pub record Written (κ : Kind) (b : List ℕ) (i j : ℕ) : Type 0 where
  pub there : i < fluid_size (scene_of b)
  pub contact : ℕ
  pub listed : contact < contact_count κ b (location_of Fluid b i).at
  pub target : target_at (starts_of κ b) b (contacts_start κ b (location_of Fluid b i).at + contact_width (axes_of b) *
      contact)
      ≡ j

-- a scene's particle names another just where its record does (proofs/Links.antt)
abbrev pub NamesAreWritten : Type 0
NamesAreWritten =
    (b : List ℕ) (κ : Kind) (i j : ℕ) → (Names κ (scene_of b) i j → Written κ b i j)
    × (Written κ b i j → Names κ (scene_of b) i j)

-- l lies within n links of i: at most n links in a row lead to it, none where it is i itself
pub data Within (s : Scene) : ℕ → ℕ → ℕ → Type 0 where
  itself : {n i : ℕ} → Within s n i i
  onward : {n i j l : ℕ} → Link s i j → Within s n j l → Within s (suc n) i l

-- ---- the two packed scenes

-- both accepted, with the same header and the same counts
pub record Matched (b b' : List ℕ) : Type 0 where
  pub bytes : Bytes b
  pub bytes' : Bytes b'
  pub shape : SameShape b b'
  pub accepted : Accepted b
  pub accepted' : Accepted b'

-- and their steps both take k iterations
pub record Compared (k : ℕ) (b b' : List ℕ) : Type 0 where
  pub matched : Matched b b'
  pub iterations : matched.accepted.report.iterations ≡ k
  pub iterations' : matched.accepted'.report.iterations ≡ k

-- ---- the condition

-- fluid particle j has the same record and rest density in both, and every boundary particle that it names the same
-- record
pub record SameAt (b b' : List ℕ) (j : ℕ) : Type 0 where
  pub own : SameFluidRecord b (location_of Fluid b j) b' (location_of Fluid b' j)
  pub named : (l : ℕ) → Names Boundary (scene_of b) j l
      → SameRecord Boundary b (location_of Boundary b l) b' (location_of Boundary b' l)

-- this holds of every fluid particle within 2 k + 2 links of i
abbrev pub SameAround : ℕ → List ℕ → List ℕ → ℕ → Type 0
SameAround k b b' i = (j : ℕ) → Within (scene_of b) (2 * k + 2) i j → SameAt b b' j

-- ---- what the rules yield for fluid particle i

abbrev pub position : Scene → ℕ → Vector
position s i = new_position s (coefficients s) (solution s).pressures i

abbrev pub velocity : Scene → ℕ → Vector
velocity s i = new_velocity s (coefficients s) (solution s).pressures i

abbrev pub pressure : Scene → ℕ → Float
pressure s i = rules.pressure (solution s).pressures i

pub record SameValues (s s' : Scene) (i : ℕ) : Type 0 where
  pub positions : position s i ≡ position s' i
  pub velocities : velocity s i ≡ velocity s' i
  pub pressures : pressure s i ≡ pressure s' i

-- ---- the claims, of the rules

-- fluid particle i gets the same position, velocity and pressure from the rules in both
abbrev pub FluidLocality : Type 0
FluidLocality =
    (k : ℕ) (b b' : List ℕ) → Compared k b b'
    → (i : ℕ) → SameAround k b b' i → SameValues (scene_of b) (scene_of b') i

-- k need not be fixed before: whichever number of iterations the steps take, if both take the same, the condition for
-- that number gives the same values. So what lies further off acts through that number alone
abbrev pub SameNumberLocality : Type 0
SameNumberLocality =
    (b b' : List ℕ) (m : Matched b b') → m.accepted.report.iterations ≡ m.accepted'.report.iterations
    → (i : ℕ) → SameAround m.accepted.report.iterations b b' i → SameValues (scene_of b) (scene_of b') i

-- where the least iterations plus one are at least the most, that number is the most
abbrev pub MostIterations : Type 0
MostIterations =
    (b : List ℕ) (a : Accepted b) → byte_at b max_pressure_iter_offset ≤ byte_at b min_pressure_iter_offset + 1
    → a.report.iterations ≡ byte_at b max_pressure_iter_offset

-- ---- the claims, of the answer lists

-- every call with long enough lists answers an accepted scene: the needed front part is then the rules' values
abbrev pub AcceptedAnswered : Type 0
AcceptedAnswered =
    (b : List ℕ) (a : Accepted b) (answers work : ℕ) → LongEnough b answers work → (old : List Float)
    → (step_answer b answers work ≡ Ok a.report)
    × (answers_after b answers work old ≡ answers_of (scene_of b) ++ drop (answers_needed (scene_of b)) old)

-- a call that was done, with lists of whatever lengths, shows that its scene is accepted and what is reported
abbrev pub DoneAccepted : Type 0
DoneAccepted =
    (b : List ℕ) (answers work : ℕ) (r : Report) → step_answer b answers work ≡ Ok r
    → (a : Accepted b) × (a.report ≡ r)

-- what an answer list of the scene b holds for fluid particle i: position, velocity, pressure
abbrev pub answers_for : List ℕ → ℕ → List Float → List Float
answers_for b i answers = let w = fluid_answer_width (axes_of b) in take w (drop (w * i) answers)

-- and so, where the lists are long enough, the particle gets the same in both answer lists, whatever they held before
abbrev pub FluidAnswerLocality : Type 0
FluidAnswerLocality =
    (k : ℕ) (b b' : List ℕ) → Compared k b b'
    → (i : ℕ) → i < fluid_size (scene_of b) → SameAround k b b' i
    → (answers work answers' work' : ℕ) → LongEnough b answers work → LongEnough b' answers' work'
    → (old old' : List Float)
    → answers_for b i (answers_after b answers work old) ≡ answers_for b' i (answers_after b' answers' work' old')
