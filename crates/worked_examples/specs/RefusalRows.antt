-- What the check says: FORMAT 2.1's examples of refusals 1 to 7, FORMAT 2.2's of what comes first where a scene breaks
-- two rules, and scenes that it accepts. Definitions only.
use Rattle.std.specs.Prelude.{ℕ, List, [], ◌∷◌, ◌++◌, take, set}
use Rattle.scene_format.specs.Packed.{be16, be64, contact, zero3}
use Rattle.scene_format.specs.declared.Refusal.{Refusal}
use Rattle.scene_format.specs.declared.Refusal.TheVariants.{MissingField, UnknownForm, TooManyModels, TooManyParticles}
use Rattle.scene_format.specs.declared.Refusal.TheVariants.{TrailingBytes, NotFinite, DanglingContact}
use Rattle.std.specs.declared.result.Result.TheVariants.{Ok, Err}
use Rattle.worked_examples.specs.Row.{Row, checks}
use Rattle.worked_examples.specs.Scenes.{empty_scene, scene_a, scene_b, boundary_scene, bits·1, bits·-1, bits·2}
use Rattle.worked_examples.specs.Scenes.{bits·∞, bits·nan}

-- the empty scene as FORMAT 2.1 has it
unfoldable pub empty : List ℕ
empty = empty_scene 0x32

-- scene A, whose one contact names a model and a particle
unfoldable pub naming : ℕ → ℕ → List ℕ
naming model number = scene_a (contact model number bits·2 zero3 ∷ [])

-- a scene that is refused
abbrev pub refuses : List ℕ → Refusal → Row
refuses b r = checks b (Err r)

-- a scene that is accepted, whose walk ends where it does
abbrev pub accepts : List ℕ → ℕ → Row
accepts b end = checks b (Ok end)

unfoldable pub refusal_rows : List Row
refusal_rows =
    -- the empty scene, scene A, scene B, and the scene of a boundary that keeps forces
    accepts empty 52
    ∷ accepts (naming 0 0) 186
    ∷ accepts (scene_b bits·1 bits·-1 50) 310
    ∷ accepts (boundary_scene 0) 281
    -- the table of refusals
    ∷ refuses (take 51 empty) (MissingField 44)
    ∷ refuses (set empty 0 0x00) (UnknownForm 0)
    ∷ refuses (set empty 0 0x19) (TooManyModels 0)
    ∷ refuses (set empty 0 0x11 ++ be16 4097) (TooManyParticles 52)
    ∷ refuses (empty ++ 0 ∷ []) (TrailingBytes 52)
    ∷ refuses (take 4 empty ++ be64 bits·∞) (NotFinite 4)
    ∷ refuses (naming 0 1) (DanglingContact 152)
    -- byte 0: the version, then the fluids; byte 1: the boundaries, then the rule, of which the first version has 0
    -- alone
    ∷ refuses (set empty 0 0x39) (UnknownForm 0)
    ∷ refuses (set empty 0 0x29) (TooManyModels 0)
    ∷ refuses (set empty 1 0x9F) (TooManyModels 1)
    ∷ refuses (set empty 1 0x8F) (UnknownForm 1)
    ∷ refuses (set empty 1 0x01) (UnknownForm 1)
    ∷ accepts (set empty 0 0x20) 52
    ∷ accepts (set (set empty 0 0x20) 1 0x03) 52
    ∷ refuses (set (set empty 0 0x20) 1 0x04) (UnknownForm 1)
    ∷ refuses (set (set empty 0 0x20) 1 0x94) (TooManyModels 1)
    -- a field is there before its rule counts
    ∷ refuses [] (MissingField 0)
    ∷ refuses (0x00 ∷ []) (UnknownForm 0)
    ∷ refuses (0x10 ∷ []) (MissingField 1)
    -- half a count, of a fluid and of a boundary that keeps forces; half a contact's name
    ∷ refuses (set empty 0 0x11 ++ 0x10 ∷ []) (MissingField 52)
    ∷ refuses (set empty 1 0x10 ++ 0x80 ∷ []) (MissingField 52)
    ∷ refuses (take 153 (naming 0 0)) (MissingField 152)
    -- a fluid with no particles has a rest density
    ∷ refuses (set empty 0 0x11 ++ be16 0 ++ be64 bits·nan) (NotFinite 54)
    -- the names come last
    ∷ refuses (naming 0 1 ++ 0 ∷ []) (TrailingBytes 186)
    ∷ refuses (naming 1 0) (DanglingContact 152)
    ∷ refuses (boundary_scene 1) (DanglingContact 271)
    ∷ []
