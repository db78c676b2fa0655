-- Rows: what a definition yields, and the number that it must be. Here the edges of the functions on doubles: zeros of
-- either sign, not-a-numbers, and the order of rounding. Definitions only.
use Rattle.std.specs.Prelude.{ℕ, ◌≡◌, cond, List, [], ◌∷◌, map, Float}
use Rattle.math.specs.Real.{⊝, bits, bits_of, +0, one, +∞, is_zero, is_nan, magnitude, larger}
use Rattle.math.specs.Vector.{◌·◌}

pub record Row : Type 0 where
  pub yields : ℕ
  pub value : ℕ

abbrev pub number : ℕ → ℕ → Row
number n v = record { yields = n; value = v }

-- a double, by its bits
abbrev pub double : Float → ℕ → Row
double x v = number (bits_of x) v

-- the definitions yield every row
abbrev pub Yielded : List Row → Type 0
Yielded rs = map (λ (r : Row). r.yields) rs ≡ map (λ (r : Row). r.value) rs

-- ---- the edges of doubles

-- whether a double is a zero: 1 for yes
abbrev pub zero_test : Float → ℕ → Row
zero_test x v = number (cond (is_zero x) 1 0) v

-- whether a double is not a number: 1 for yes
abbrev pub nan_test : Float → ℕ → Row
nan_test x v = number (cond (is_nan x) 1 0) v

abbrev pub not_a_number : Float
not_a_number = bits 0x7FF8000000000000

-- half the last place of 1
abbrev pub tiny : Float
tiny = bits 0x3CA0000000000000

abbrev pub rows : List Row
rows =
    -- both zeros are zero, and no other double is
    zero_test +0 1
    ∷ zero_test (⊝ +0) 1
    ∷ zero_test (⊝ one) 0
    ∷ zero_test not_a_number 0
    -- yes of a not-a-number alone: an infinity is a number
    ∷ nan_test not_a_number 1
    ∷ nan_test (⊝ +∞) 0
    ∷ nan_test (⊝ +0) 0
    -- a magnitude has no sign
    ∷ double (magnitude (⊝ +0)) 0
    ∷ double (magnitude (⊝ one)) 0x3FF0000000000000
    -- a not-a-number is passed over, and of equals the first stays
    ∷ double (larger one not_a_number) 0x3FF0000000000000
    ∷ double (larger +0 (⊝ +0)) 0
    ∷ double (larger (⊝ +0) +0) 0x8000000000000000
    -- every pattern above infinity's is a not-a-number
    ∷ double (bits 0xFFF0000000000001) 0x7FF8000000000000
    -- products are added from the left, and the first one as it is
    ∷ double ((one ∷ tiny ∷ tiny ∷ []) · (one ∷ one ∷ one ∷ [])) 0x3FF0000000000000
    ∷ double ((⊝ +0 ∷ ⊝ +0 ∷ ⊝ +0 ∷ []) · (one ∷ one ∷ one ∷ [])) 0x8000000000000000
    ∷ []
