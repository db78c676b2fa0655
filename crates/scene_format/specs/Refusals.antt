-- The number and the place of a refusal of a packed scene (FORMAT 2.1), and what a walk over its fields comes to.
-- Definitions only.
use Rattle.std.specs.Prelude.{ℕ}
use Rattle.std.specs.declared.result.Result.{Result}
use Rattle.scene_format.specs.declared.Refusal.{Refusal}
use Rattle.scene_format.specs.declared.Refusal.TheVariants.{MissingField, UnknownForm, TooManyModels}
use Rattle.scene_format.specs.declared.Refusal.TheVariants.{TooManyParticles, TrailingBytes, NotFinite}
use Rattle.scene_format.specs.declared.Refusal.TheVariants.{DanglingContact, ShortList, ZeroDensity}
use Rattle.scene_format.specs.declared.Refusal.TheVariants.{ZeroPredictedDensity}

abbrev pub number_of : Refusal → ℕ
number_of (MissingField at) = 1
number_of (UnknownForm at) = 2
number_of (TooManyModels at) = 3
number_of (TooManyParticles at) = 4
number_of (TrailingBytes at) = 5
number_of (NotFinite at) = 6
number_of (DanglingContact at) = 7
number_of ShortList = 8
number_of (ZeroDensity at) = 9
number_of (ZeroPredictedDensity at) = 10

-- the offset where it begins; a list that is too short has none, and 0 is said
abbrev pub place_of : Refusal → ℕ
place_of (MissingField at) = at
place_of (UnknownForm at) = at
place_of (TooManyModels at) = at
place_of (TooManyParticles at) = at
place_of (TrailingBytes at) = at
place_of (NotFinite at) = at
place_of (DanglingContact at) = at
place_of ShortList = 0
place_of (ZeroDensity at) = at
place_of (ZeroPredictedDensity at) = at

-- how far a walk over the fields has come, or why the scene is refused
abbrev pub Walk : Type 0
Walk = Result ℕ Refusal
