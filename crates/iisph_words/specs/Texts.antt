-- A text that is being written into a list that is lent: the room that is left, and what is added. Definitions only.
use Rattle.std.specs.Prelude.{ℕ, ◌+◌, ◌≤◌, ◌≡◌, List, length}
use Rattle.lists.specs.Stores.{Writes}
use Rattle.iisph_words.specs.declared.text.Text.{Text}

-- the list has room for n bytes more
abbrev pub HasRoom : Text → ℕ → Type 0
HasRoom t n = t.at + n ≤ length t.out.now

-- a text goes on with these bytes, in the same list
pub record Adds (t : Text) (bytes : List ℕ) (after : Text) : Type 0 where
  pub written : Writes t.out.now t.at bytes after.out.now after.at
  pub same : after.out.ghost_name ≡ t.out.ghost_name
