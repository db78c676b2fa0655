-- Every worked example, as one list: those of doubles, sums, kernel, its table, check and step (worked_examples), those
-- of versions, criteria and summations (worked_stopping), those of flat scenes (worked_flat), and packed scenes with
-- the text that the program writes for them. Definitions only.
use Rattle.std.specs.Prelude.{ℕ, ◌≡◌, replicate}
use Prim.Native.Char.{code}
use Prim.Native.String.{String, [] as end, ◌∷◌ as ◌then◌}
use mathlib.Core.List.{List, [], ◌∷◌, ◌++◌, map, flatten}
use Rattle.worked_examples.specs.Row as worked
use Rattle.worked_examples.specs.Rows as worked-rows
use Rattle.worked_examples.specs.Scenes.{empty_scene, scene_a, contact_a, boundary_scene, bits·-0}
use Rattle.worked_examples.specs.PassedOver.{both_infinities}
use Rattle.worked_stopping.specs.Stopping.{stopping, nan_behind}
use Rattle.worked_stopping.specs.Summation.{summation, once, minus_zero}
use Rattle.worked_flat.specs.Flat.{flat_a, flat_contact, flat_boundary, flat_forms, flat_steps}
use Rattle.iisph_text.specs.Text.{text_of}

pub data Row : Type 0 where
  example : worked.Row → Row
  -- the bytes that are read, and the text that is written, in pieces
  writes : List ℕ → List String → Row

-- byte by byte
unfoldable pub ascii : String → List ℕ
ascii end = []
ascii (c then s) = code c ∷ ascii s

abbrev pub Holds : Row → Type 0
Holds (example r) = worked.Holds r
Holds (writes b pieces) = text_of b ≡ flatten (map ascii pieces)

unfoldable pub texts : List Row
texts =
    -- scene A
    writes (scene_a (contact_a 0 ∷ []))
    ("step settled 2 0000000000000000 0\n"
    ∷ "clock 3FE0000000000000 4000000000000000 3FE0000000000000\n"
    ∷ "fluid 0 0 0000000000000000 0000000000000000 BFF0000000000000"
    ∷ " 0000000000000000 0000000000000000 C000000000000000 0000000000000000\n"
    ∷ [])
    -- the scene of a boundary that keeps forces
    ∷ writes (boundary_scene 0)
    ("step unswept 0\n"
    ∷ "clock 3FE0000000000000 4000000000000000 BFE0000000000000\n"
    ∷ "fluid 0 0 0000000000000000 0000000000000000 BFC0000000000000"
    ∷ " 0000000000000000 0000000000000000 BFD0000000000000 4000000000000000\n"
    ∷ "wall 0 0 3FD0000000000000 0000000000000000 0000000000000000 3FE0000000000000\n"
    ∷ [])
    -- the empty scene, with one iteration at most
    ∷ writes (empty_scene 1)
    ("step ranout 1 0000000000000000 0\n" ∷ "clock 0000000000000000 0000000000000000 0000000000000000\n" ∷ [])
    -- a scene in which an average is passed over
    ∷ writes both_infinities
    ("step settled 1 0000000000000000 1\n"
    ∷ "clock 3FF0000000000000 3FF0000000000000 BFF0000000000000\n"
    ∷ "fluid 0 0 0000000000000000 0000000000000000 0000000000000000"
    ∷ " 0000000000000000 0000000000000000 0000000000000000 0000000000000000\n"
    ∷ "fluid 0 1 BFF4000000000000 0000000000000000 0000000000000000"
    ∷ " BFF4000000000000 0000000000000000 0000000000000000 4034000000000000\n"
    ∷ "fluid 0 2 BFE0000000000000 0000000000000000 0000000000000000"
    ∷ " BFE0000000000000 0000000000000000 0000000000000000 4010000000000000\n"
    ∷ [])
    -- a scene in version 2 whose error is not a number
    ∷ writes nan_behind
    ("step ranout 1 7FF8000000000000 0\n"
    ∷ "clock 3FF0000000000000 3FF0000000000000 BFF0000000000000\n"
    ∷ "fluid 0 0 0000000000000000 0000000000000000 0000000000000000"
    ∷ " 0000000000000000 0000000000000000 0000000000000000 0000000000000000\n"
    ∷ "fluid 0 1 0000000000000000 0000000000000000 0000000000000000"
    ∷ " 0000000000000000 0000000000000000 0000000000000000 0000000000000000\n"
    ∷ "fluid 1 0 FFF0000000000000 7FF8000000000000 7FF8000000000000"
    ∷ " FFF0000000000000 7FF8000000000000 7FF8000000000000 7FF0000000000000\n"
    ∷ [])
    -- a scene summed by halves whose error is -0
    ∷ writes (once 3 bits·-0 (minus_zero 0 ∷ []))
    ("step settled 1 8000000000000000 0\n"
    ∷ "clock 3FF0000000000000 3FF0000000000000 BFF0000000000000\n"
    ∷ "fluid 0 0 4020000000000000 0000000000000000 0000000000000000"
    ∷ " 4020000000000000 0000000000000000 0000000000000000 4000000000000000\n"
    ∷ [])
    -- scene A and the scene of a boundary that keeps forces, in the plane
    ∷ writes (flat_a (flat_contact 0 ∷ []))
    ("step settled 2 0000000000000000 0\n"
    ∷ "clock 3FE0000000000000 4000000000000000 3FE0000000000000\n"
    ∷ "fluid 0 0 0000000000000000 BFF0000000000000 0000000000000000 C000000000000000 0000000000000000\n"
    ∷ [])
    ∷ writes (flat_boundary 0)
    ("step unswept 0\n"
    ∷ "clock 3FE0000000000000 4000000000000000 BFE0000000000000\n"
    ∷ "fluid 0 0 0000000000000000 BFC0000000000000 0000000000000000 BFD0000000000000 4000000000000000\n"
    ∷ "wall 0 0 3FD0000000000000 0000000000000000 3FE0000000000000\n"
    ∷ [])
    -- no bytes; scene A without contacts; as many bytes as are read, and one more
    ∷ writes [] ("refused 1 0\n" ∷ [])
    ∷ writes (scene_a []) ("refused 9 62\n" ∷ [])
    ∷ writes (replicate 32768 0) ("refused 2 0\n" ∷ [])
    ∷ writes (replicate 32769 0) ("too long\n" ∷ [])
    ∷ []

-- every worked example
unfoldable pub rows : List Row
rows =
    map example worked-rows.rows
    ++ (map example stopping
    ++ (map example summation ++ (map example flat_forms ++ (map example flat_steps ++ texts))))
