-- Turns through contact lists: of which some are passed, where what remains from here is the whole. By how the next one
-- ends. Assumes nothing.
use Prim.Native.Nat.{ℕ, zero, suc, ◌+◌, ◌-◌, ◌≤◌, ◌<◌}
use mathlib.Core.Path.{◌≡◌, sym, ◌∙◌}
use native.Mathlib.Nat.{sub-zero}
use native.Mathlib.Numerals.{add-one}
use native.Mathlib.Omega.{arith}
use Rattle.cases_check.specs.Turns.{both_turns, onward, in_turn}
use Rattle.cases_check.specs.declared.Turn.{Turn}
use Rattle.cases_check.specs.declared.Turn.TheVariants.{Passed, Absent, Refused}

-- of n turns i are passed
pub record Turned (f : ℕ → Turn) (n i : ℕ) : Type 0 where
  pub within : i ≤ n
  pub whole : in_turn n f 0 ≡ in_turn (n - i) f i

module _ {f : ℕ → Turn} {n : ℕ} where
  pub none_turned : Turned f n 0
  none_turned = record { within = omega arith; whole = rw sub-zero }

  module _ {i : ℕ} (here : Turned f n i) where
    pub all_turned : n ≤ i → Passed ≡ in_turn n f 0
    unfolding in_turn
    all_turned h = let e : n - i ≡ zero = omega arith in rw (here.whole, e)

    module _ {t : Turn} (h : i < n) (step : t ≡ f i) where
      next_turn : in_turn n f 0 ≡ onward t (in_turn (n - (i + 1)) f (i + 1))
      unfolding in_turn
      next_turn = let e : n - i ≡ suc (n - (i + 1)) = omega arith in here.whole ∙ rw (e, step, add-one)

      pub turn_passed : t ≡ Passed → Turned f n (i + 1)
      unfolding onward
      turn_passed q = record { within = omega arith; whole = next_turn ∙ rw q }

      pub turn_absent : t ≡ Absent → Passed ≡ in_turn n f 0
      unfolding onward
      turn_absent q = sym (next_turn ∙ rw q)

      pub turn_refused : t ≡ Refused → Refused ≡ in_turn n f 0
      unfolding onward
      turn_refused q = sym (next_turn ∙ rw q)

-- two turns, the second only where the first is passed
module _ {t f : Turn} (e : t ≡ f) where
  pub both_turned : {u g : Turn} → t ≡ Passed → u ≡ g → u ≡ both_turns f g
  unfolding both_turns
  both_turned q h = rw (sym e ∙ q) h

  pub first_absent : (g : Turn) → t ≡ Absent → Absent ≡ both_turns f g
  unfolding both_turns
  first_absent g q = rw (sym e ∙ q)

  pub first_refused : (g : Turn) → t ≡ Refused → Refused ≡ both_turns f g
  unfolding both_turns
  first_refused g q = rw (sym e ∙ q)
