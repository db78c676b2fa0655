-- What a line shows first: the number of a verdict. Definitions only.
use Rattle.std.specs.Prelude.{ℕ, List}
use Rattle.scene_check.specs.Check.{verdict_of}
use Rattle.scene_format.specs.Refusals.{number_of}
use Rattle.scene_check.specs.Walk.{checked}
use Rattle.scene_format.specs.declared.Refusal.{Refusal}
use Rattle.scene_layout.specs.declared.Layout.{Layout}
use Rattle.std.specs.declared.result.Result.{Result}
use Rattle.std.specs.declared.result.Result.TheVariants.{Ok, Err}
use Rattle.std.specs.declared.option.Option.{Option}
use Rattle.std.specs.declared.option.Option.TheVariants.{Some}

abbrev pub printed : Result Layout Refusal → ℕ
printed (Ok layout) = 0
printed (Err r) = number_of r

-- the longest scene that is kept
abbrev pub room : ℕ
room = 32768

-- the line of a scene
unfoldable pub line_of : List ℕ → Option ℕ
line_of b = Some (printed (verdict_of b (checked b)))
