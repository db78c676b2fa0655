-- Numbers as text, in ASCII: whole numbers in decimal, doubles by their 64 bits in upper-case hex (FORMAT 4.1).
-- Definitions only.
use Rattle.std.specs.Prelude.{ℕ, zero, suc, ◌+◌, ◌-◌, ◌/◌, ◌%◌, cond, List, [], ◌∷◌, ◌++◌, ltb, Float}
use Rattle.math.specs.Real.{bits_of}
use Rattle.lists.specs.Lists.{choose}

-- a digit below 16: `0` to `9`, then `A` to `F`
abbrev pub digit_of : ℕ → ℕ
digit_of d = cond (ltb d 10) (48 + d) (65 + (d - 10))

-- the last k digits of n in a base, the most significant first
unfoldable pub digits : ℕ → ℕ → ℕ → List ℕ
digits base zero n = []
digits base (suc k) n = digits base k (n / base) ++ (digit_of (n % base) ∷ [])

-- ---- doubles

-- how many digits 64 bits have in base 16
abbrev pub hex_digits : ℕ
hex_digits = 16

-- a double's bits; every not-a-number gives 7FF8000000000000
unfoldable pub hex_of : Float → List ℕ
hex_of x = digits 16 hex_digits (bits_of x)

-- ---- whole numbers

-- how many decimal digits n has; the first argument, n at the start, only bounds the recursion
unfoldable pub places_within : ℕ → ℕ → ℕ
places_within zero n = 1
places_within (suc f) n = choose (ltb n 10) 1 (suc (places_within f (n / 10)))

abbrev pub places_of : ℕ → ℕ
places_of n = places_within n n

-- a whole number, without leading zeros
unfoldable pub decimal_of : ℕ → List ℕ
decimal_of n = digits 10 (places_of n) n

-- a whole number of 64 bits has at most so many digits
abbrev pub most_digits : ℕ
most_digits = 20
