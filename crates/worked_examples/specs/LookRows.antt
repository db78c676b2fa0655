-- What the check of one contact list answers, and the looks that it takes: all contacts, or those up to and with the
-- first that names nobody. Definitions only.
use Rattle.std.specs.Prelude.{ℕ, List, [], ◌∷◌, take}
use Rattle.scene_format.specs.Packed.{contact, zero3}
use Rattle.scene_format.specs.declared.Refusal.TheVariants.{MissingField, DanglingContact}
use Rattle.scene_lists.specs.declared.Contacts.{Contacts}
use Rattle.scene_lists.specs.declared.Contacts.TheVariants.{FluidFluid, FluidBoundary, BoundaryBoundary}
use Rattle.worked_examples.specs.Row.{Row, looks}
use Rattle.worked_examples.specs.Scenes.{scene_a, boundary_scene, bits·2}
use Rattle.std.specs.declared.result.Result.TheVariants.{Ok, Err}
use Rattle.std.specs.declared.option.Option.TheVariants.{Some, None}

-- scene A with three contacts, which name these particles of its fluid; it has one, number 0
unfoldable pub three : ℕ → ℕ → ℕ → List ℕ
three i j k =
    scene_a (contact 0 i bits·2 zero3 ∷ contact 0 j bits·2 zero3 ∷ contact 0 k bits·2 zero3 ∷ [])

-- a list of the first particle of the first model, which is passed up to an offset, after so many looks
abbrev pub passes : List ℕ → Contacts → ℕ → ℕ → Row
passes b c end n = looks b c 0 0 (Ok (Some (record { walk = Ok end; looks = n })))

-- one that is refused at an offset, after so many looks
abbrev pub dangles : List ℕ → Contacts → ℕ → ℕ → Row
dangles b c at n = looks b c 0 0 (Ok (Some (record { walk = Err (DanglingContact at); looks = n })))

unfoldable pub look_rows : List Row
look_rows =
    -- three contacts, and none
    passes (three 0 0 0) FluidFluid 254 3
    ∷ passes (three 0 0 0) FluidBoundary 254 0
    -- refused at the first, the second and the third; where two dangle, at the first of them
    ∷ dangles (three 1 0 0) FluidFluid 152 1
    ∷ dangles (three 0 1 0) FluidFluid 186 2
    ∷ dangles (three 0 0 1) FluidFluid 220 3
    ∷ dangles (three 0 1 1) FluidFluid 186 2
    -- the other list is counted for itself
    ∷ passes (three 0 1 0) FluidBoundary 254 0
    -- the lists of a scene with a boundary, and where the last one is refused
    ∷ passes (boundary_scene 0) FluidFluid 186 1
    ∷ passes (boundary_scene 0) FluidBoundary 220 1
    ∷ passes (boundary_scene 0) BoundaryBoundary 281 1
    ∷ dangles (boundary_scene 1) BoundaryBoundary 271 1
    -- no such boundary, no such fluid, no such particle; a scene that is cut short
    ∷ looks (three 0 0 0) BoundaryBoundary 0 0 (Ok None)
    ∷ looks (three 0 0 0) FluidFluid 1 0 (Ok None)
    ∷ looks (three 0 0 0) FluidFluid 0 1 (Ok None)
    ∷ looks (take 253 (three 0 1 0)) FluidFluid 0 0 (Err (MissingField 246))
    ∷ []
