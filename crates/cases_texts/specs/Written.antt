-- How many bytes are written for a scene of a list. Definitions only.
use Rattle.std.specs.Prelude.{ℕ, suc, List, length}
use Rattle.iisph_text.specs.Text.{most_bytes, text_of}

-- the longest scene that is kept
abbrev pub room : ℕ
room = suc most_bytes

abbrev pub written : List ℕ → ℕ
written b = length (text_of b)
