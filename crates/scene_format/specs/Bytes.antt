-- Numbers and doubles in bytes, the most significant first, by offset; a byte past the end counts as 0. Definitions
-- only.
use Rattle.std.specs.Prelude.{ℕ, ◌+◌, ◌*◌, ◌/◌, ◌%◌, ◌<◌, ◌≤◌, ◌≡◌, Bool, not, List, eqb, length, get_or, Float}
use Rattle.math.specs.Real.{bits}
use Rattle.lists.specs.Lists.{table}
use Rattle.math.specs.Vector.{Vector}

abbrev pub byte_at : List ℕ → ℕ → ℕ
byte_at b at = get_or b at 0

-- the numbers that two, four and eight bytes stand for
abbrev pub be16_at : List ℕ → ℕ → ℕ
be16_at b at = byte_at b at * 256 + byte_at b (at + 1)

abbrev pub be32_at : List ℕ → ℕ → ℕ
be32_at b at = ((byte_at b at * 256 + byte_at b (at + 1)) * 256 + byte_at b (at + 2)) * 256 + byte_at b (at + 3)

unfoldable pub be64_at : List ℕ → ℕ → ℕ
be64_at b at = be32_at b at * 4294967296 + be32_at b (at + 4)

-- ---- doubles, by their 64 bits

-- how many bytes a double has
abbrev pub double_width : ℕ
double_width = 8

unfoldable pub double_at : List ℕ → ℕ → Float
double_at b at = bits (be64_at b at)

-- one double for each of d axes
unfoldable pub vector_at : ℕ → List ℕ → ℕ → Vector
vector_at d b at = table d (λ k. double_at b (at + double_width * k))

-- the eleven bits of the exponent, before the fraction's 52; every one is set in an infinity and in what is not a
-- number
abbrev pub exponent_modulus : ℕ
exponent_modulus = 2048

abbrev pub fraction_modulus : ℕ
fraction_modulus = 0x10_0000_0000_0000

abbrev pub exponent_at : List ℕ → ℕ → ℕ
exponent_at b at = be64_at b at / fraction_modulus % exponent_modulus

abbrev pub non_finite_exponent : ℕ
non_finite_exponent = 2047

-- a double stands there, and it is finite
pub record FiniteAt (b : List ℕ) (at : ℕ) : Type 0 where
  pub present : at + double_width ≤ length b
  pub finite : exponent_at b at ≡ non_finite_exponent → ⊥

-- n doubles from an offset on are there and finite
pub record AllFinite (b : List ℕ) (at n : ℕ) : Type 0 where
  pub each : (k : ℕ) → k < n → FiniteAt b (at + double_width * k)

-- whether the first byte alone tells that a double is finite: behind the sign, not every bit of it is set. Scaffolding
-- of contracts
abbrev pub sign_modulus : ℕ
sign_modulus = 128

abbrev pub non_finite_front : ℕ
non_finite_front = 127

unfoldable pub plainly_finite : List ℕ → ℕ → Bool
plainly_finite b at = not (eqb (byte_at b at % sign_modulus) non_finite_front)

-- ---- bytes

abbrev pub Bytes : List ℕ → Type 0
Bytes b = (i : ℕ) → byte_at b i < 256
