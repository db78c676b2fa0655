-- How many bytes are written for a scene that is read. Definitions only.
use Rattle.std.specs.Prelude.{ℕ, suc, ◌≤◌, ◌≡◌, List, length, take}
use Rattle.iisph_text.specs.Text.{most_bytes, text_of}

-- of the bytes that came: which, and how many, is not known. There is room for one more than a scene may have, so that
-- a scene that is too long is never taken for its front
pub record FromInput (written : ℕ) : Type 0 where
  pub input : List ℕ
  pub room : length input ≡ suc most_bytes
  pub came : ℕ
  pub within : came ≤ length input
  pub is : written ≡ length (text_of (take came input))
