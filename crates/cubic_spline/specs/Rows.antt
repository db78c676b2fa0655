-- The specification's examples of the kernel: the starred values of the two shapes (METHOD 1.2, 1.3), refusals 11 and
-- 12 (FORMAT 2.1), the edges beside them, and values in both dimensions. Doubles by their bits. Definitions only.
use Rattle.std.specs.Prelude.{ℕ, List, [], ◌∷◌, Float}
use Rattle.math.specs.Real.{bits, +0, one}
use Rattle.math.specs.Rows.{Row, number, double}
use Rattle.cubic_spline.specs.Normalizer.{numerator}
use Rattle.cubic_spline.specs.Shape.{two, three, weight_shape, slope_shape, weight, slope}
use Rattle.cubic_spline.specs.Answer.{number_of, kernel_answer}
use Rattle.cubic_spline.specs.declared.Dimension.{Dimension}
use Rattle.cubic_spline.specs.declared.Dimension.TheVariants.{Two, Three}

-- a shape, q, and the value
abbrev pub shape : (Float → Float) → ℕ → ℕ → Row
shape s q v = double (s (bits q)) v

-- a dimension, distance, radius, and the number that is answered: 0 for a value
abbrev pub answered : Dimension → ℕ → ℕ → ℕ → Row
answered d r h n = number (number_of (kernel_answer (bits r) (bits h) (weight d (bits r) (bits h)))) n

abbrev pub rows : List Row
rows =
    -- the starred values: the weight at 0.5 and 0.75; the slope at 0.5, 0.75, 1 and just above 1
    shape weight_shape 0x3FE0000000000000 0x3FD0000000000000
    ∷ shape weight_shape 0x3FE8000000000000 0x3FA0000000000000
    ∷ shape slope_shape 0x3FE0000000000000 0xBFF8000000000000
    ∷ shape slope_shape 0x3FE8000000000000 0xBFD8000000000000
    ∷ shape slope_shape 0x3FF0000000000000 0x8000000000000000
    ∷ shape slope_shape 0x3FF0000000000001 0
    -- the slope at the double 1e-5 and just above it
    ∷ shape slope_shape 0x3EE4F8B588E368F1 0
    ∷ shape slope_shape 0x3EE4F8B588E368F2 0xBF1F74F160D94858
    -- the weight at distance 0 with radius 1, which is 8 / pi
    ∷ double (weight Three +0 one) 0x40045F306DC9C883
    -- in two dimensions: the double 40 / 7; the weight at distance 0 with radius 1 and 3, of which the latter would be
    -- ...03 with 40 / (7 × ((pi × h) × h)); the slope at half the radius
    ∷ double (numerator Two) 0x4016DB6DB6DB6DB7
    ∷ double (weight Two +0 one) 0x3FFD1A452F204304
    ∷ double (weight Two +0 three) 0x3FC9DE7662C75804
    ∷ double (slope Two one two) 0xBFD5D3B3E3583243
    -- distance -1; radius 0; both: 11 comes before 12
    ∷ answered Three 0xBFF0000000000000 0x3FF0000000000000 11
    ∷ answered Three 0x3FF0000000000000 0 12
    ∷ answered Three 0xBFF0000000000000 0 11
    -- an infinite radius or distance is not taken; a distance of 0 or -0 is
    ∷ answered Three 0x3FF0000000000000 0x7FF0000000000000 12
    ∷ answered Three 0x7FF0000000000000 0x3FF0000000000000 11
    ∷ answered Three 0 0x3FF0000000000000 0
    ∷ answered Three 0x8000000000000000 0x3FF0000000000000 0
    -- the same in two dimensions
    ∷ answered Two 0xBFF0000000000000 0 11
    ∷ answered Two 0x3FF0000000000000 0 12
    ∷ answered Two 0x8000000000000000 0x3FF0000000000000 0
    ∷ []
