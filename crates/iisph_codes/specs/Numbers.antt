-- What the calls of the C interface share: the numbers that they return, and what a refusal writes. Definitions only.
use Rattle.std.specs.Prelude.{ℕ, ◌+◌, Bool, List, leb, length, set}
use Rattle.scene_format.specs.Refusals.{number_of, place_of}
use Rattle.scene_format.specs.declared.Refusal.{Refusal}
use Rattle.scene_format.specs.Refusals.{Walk}
use Rattle.std.specs.declared.result.Result.TheVariants.{Ok, Err}

-- a list is too short for what is written of every answer; then nothing is written
abbrev pub too_short : ℕ
too_short = 99

-- the lent index is too short
abbrev pub short_index : ℕ
short_index = 98

-- there is no such contact list
abbrev pub no_list : ℕ
no_list = 97

-- refusal n, 1 to 12
abbrev pub refused_by : ℕ → ℕ
refused_by n = 100 + n

-- a packed scene's refusal
abbrev pub refused_code : Refusal → ℕ
refused_code r = refused_by (number_of r)

-- of a walk: 0 if it is not refused
unfoldable pub walk_code : Walk → ℕ
walk_code (Ok end) = 0
walk_code (Err r) = refused_code r

-- how many elements `counts` must have
abbrev pub counts_needed : ℕ
counts_needed = 2

abbrev pub counts_room : List ℕ → Bool
counts_room counts = leb counts_needed (length counts)

-- a refusal's offset is the second
abbrev pub refused_counts : Refusal → List ℕ → List ℕ
refused_counts r old = set old 1 (place_of r)

-- a walk that is not refused writes nothing
unfoldable pub walk_counts : Walk → List ℕ → List ℕ
walk_counts (Ok end) old = old
walk_counts (Err r) old = refused_counts r old
