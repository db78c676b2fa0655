-- Doubles (the Rust's `Real`): by their 64 bits, the operations that round once, to the nearest, ties to even, under
-- short names, and the tests and choices that the solver makes. Definitions only.
use Rattle.std.specs.Prelude.{ℕ, Bool, false, cond, List, Float}
use Rattle.std.specs.Float.Ieee
use Rattle.std.specs.Float.{nan, inf, fin, binary64}
use Rattle.lists.specs.Lists.{fold}

infixl 65 ◌⊕◌ ◌⊖◌
infixl 70 ◌⊗◌ ◌⊘◌
abbrev pub ◌⊕◌ : Float → Float → Float
x ⊕ y = Ieee.add binary64 x y

abbrev pub ◌⊖◌ : Float → Float → Float
x ⊖ y = Ieee.sub binary64 x y

abbrev pub ◌⊗◌ : Float → Float → Float
x ⊗ y = Ieee.mul binary64 x y

abbrev pub ◌⊘◌ : Float → Float → Float
x ⊘ y = Ieee.div binary64 x y

abbrev pub ⊝ : Float → Float
⊝ x = Ieee.neg x

-- the double with these 64 bits; every not-a-number pattern is `nan`
abbrev pub bits : ℕ → Float
bits b = Ieee.of_bits binary64 b

-- the 64 bits of a double; for a not-a-number 7FF8000000000000
abbrev pub bits_of : Float → ℕ
bits_of x = Ieee.to_bits binary64 x

abbrev pub +0 : Float
+0 = bits 0

abbrev pub half : Float
half = bits 0x3FE0000000000000

abbrev pub one : Float
one = bits 0x3FF0000000000000

abbrev pub +∞ : Float
+∞ = bits 0x7FF0000000000000

-- a zero of either sign
abbrev pub is_zero : Float → Bool
is_zero x = Ieee.eq x +0

-- not a number
abbrev pub is_nan : Float → Bool
is_nan x = Ieee.is_nan x

-- |x|: the sign is taken away, of a zero too
unfoldable pub magnitude : Float → Float
magnitude nan = nan
magnitude (inf s) = inf false
magnitude (fin s m e) = fin false m e

-- y if it is greater, else x, also where y is no number
abbrev pub larger : Float → Float → Float
larger x y = cond (Ieee.lt x y) y x

-- the running sum from a on, in the list's order
abbrev pub total : Float → List Float → Float
total a xs = fold ◌⊕◌ a xs
