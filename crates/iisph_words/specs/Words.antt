-- Words, numbers and doubles of a line of text, byte by byte in ASCII (FORMAT 4.2). Definitions only.
use Rattle.std.specs.Prelude.{ℕ, ◌+◌, eqb, get_or, Float}
use mathlib.Core.List.{List, [], ◌∷◌, ◌++◌, flatten}
use Rattle.std.specs.Float.{nan}
use Rattle.lists.specs.Lists.{table, choose}
use Rattle.scene_format.specs.declared.Kind.{Kind}
use Rattle.scene_format.specs.declared.Kind.TheVariants.{Fluid, Boundary}
use Rattle.iisph_words.specs.Digits.{hex_digits, hex_of, decimal_of}

abbrev pub space : List ℕ
space = 32 ∷ []

abbrev pub newline : List ℕ
newline = 10 ∷ []

-- two whole numbers, with a space between
unfoldable pub pair_text : ℕ → ℕ → List ℕ
pair_text m n = decimal_of m ++ space ++ decimal_of n

-- ---- doubles, each after a space

abbrev pub double_text_width : ℕ
double_text_width = 1 + hex_digits

unfoldable pub double_text : Float → List ℕ
double_text x = space ++ hex_of x

-- w elements of a list, from the k-th on
unfoldable pub doubles_text : List Float → ℕ → ℕ → List ℕ
doubles_text xs k w = flatten (table w (λ e. double_text (get_or xs (k + e) nan)))

-- ---- what a particle's line begins with

-- "fluid ", "wall "
unfoldable pub kind_word : Kind → List ℕ
kind_word Fluid = 102 ∷ 108 ∷ 117 ∷ 105 ∷ 100 ∷ 32 ∷ []
kind_word Boundary = 119 ∷ 97 ∷ 108 ∷ 108 ∷ 32 ∷ []

-- ---- what a step's line says of its ending, by the ending's number

-- "unswept ", "settled ", "ranout "
unfoldable pub ending_word : ℕ → List ℕ
ending_word n =
    choose (eqb n 0)
    (117 ∷ 110 ∷ 115 ∷ 119 ∷ 101 ∷ 112 ∷ 116 ∷ 32 ∷ [])
    (choose (eqb n 1)
    (115 ∷ 101 ∷ 116 ∷ 116 ∷ 108 ∷ 101 ∷ 100 ∷ 32 ∷ [])
    (114 ∷ 97 ∷ 110 ∷ 111 ∷ 117 ∷ 116 ∷ 32 ∷ []))
