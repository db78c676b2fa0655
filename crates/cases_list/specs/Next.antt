-- What is known of a scene that was read, and of what is made of it. Definitions only.
use Rattle.std.specs.Prelude.{ℕ, ◌≤◌, ◌≡◌, Bool, List, length}
use Rattle.lists.specs.Lists.{choose}
use Rattle.std.specs.declared.option.Option.{Option}
use Rattle.std.specs.declared.option.Option.TheVariants.{Some, None}

-- it is not longer than its room
unfoldable pub Fits : Option ℕ → ℕ → Type 0
Fits (Some n) room = n ≤ room
Fits None room = Unit

-- r is what f makes of a scene that came, or `none` where none did; which scene, is not known
pub record FromNext {A : Type 0} (room : ℕ) (f : List ℕ → A) (none r : A) : Type 0 where
  pub scene : List ℕ
  pub short : length scene ≤ room
  pub came : Bool
  pub is : r ≡ choose came (f scene) none
