-- What a reader has given, where its bytes are known. Definitions only.
use Rattle.std.specs.Prelude.{ℕ, ◌≤◌, List, length, Option}
use Rattle.std.specs.Io.KnownBytes.{Consumes}

-- at most n bytes
abbrev pub GivesAtMost : ℕ → Option (List ℕ) → Option (List ℕ) → Type 0
GivesAtMost n old new = (bytes : List ℕ) × (length bytes ≤ n) × Consumes old new bytes
