-- Where the exponent of a double stands: in its first two bytes, since the six behind them lie below it; and in the
-- first byte all but its last four bits. Assumes nothing.
use Prim.Native.Nat.{ℕ, ◌+◌, ◌*◌, ◌/◌, ◌%◌, ◌<◌}
use mathlib.Core.Path.{◌≡◌}
use mathlib.Core.Bool.{true}
use mathlib.Core.List.{List}
use native.Mathlib.Omega.{arith}
use borrow.Author.Tests.{not-true, eqb-false}
use Rattle.scene_format.specs.Bytes.{Bytes, byte_at, be16_at, be32_at, be64_at, exponent_modulus, fraction_modulus}
use Rattle.scene_format.specs.Bytes.{exponent_at, non_finite_exponent, sign_modulus, non_finite_front, plainly_finite}

-- of the fraction, how much stands in the first two bytes, and in the six behind them
abbrev pub front_modulus : ℕ
front_modulus = 16

abbrev behind_modulus : ℕ
behind_modulus = 0x1_0000_0000_0000

-- a number x before those six bytes
front : (x rest : ℕ) → rest < behind_modulus → (x * behind_modulus + rest) / fraction_modulus ≡ x / front_modulus
front x rest h = omega arith

pub exponent_front : (b : List ℕ) (at : ℕ) → Bytes b → be16_at b at / front_modulus % exponent_modulus ≡ exponent_at b
    at
unfolding be64_at
exponent_front b at bytes =
    let third = byte_at b (at + 2) * 256 + byte_at b (at + 3) in
    let rest = third * 4294967296 + be32_at b (at + 4) in
    let same : be64_at b at ≡ be16_at b at * behind_modulus + rest = omega arith in
    let below : rest < behind_modulus =
    omega (
      arith,
      bytes (at + 2),
      bytes (at + 3),
      bytes (at + 4),
      bytes (at + 4 + 1),
      bytes (at + 4 + 2),
      bytes (at + 4 + 3),
    ) in
    rw (same, front (be16_at b at) rest below)

-- behind the sign, the first byte's bits are those of the exponent
pub plainly_finite_lem : (b : List ℕ) (at : ℕ) → Bytes b → plainly_finite b at ≡ true
    → exponent_at b at ≡ non_finite_exponent → ⊥
unfolding plainly_finite
plainly_finite_lem b at bytes h e =
    let first : byte_at b at % sign_modulus ≡ non_finite_front =
    omega (arith, exponent_front b at bytes, bytes at, bytes (at + 1)) in
    eqb-false _ _ (not-true _ h) first
