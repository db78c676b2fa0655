-- The table's rule is the exact weight's, so no difference in it is cut off at 0; and no step of it falls by more
-- than 2 ^ 21, since the exact weight changes at most twice as fast as q. Assumes nothing.
use mathlib.Core.Path.{◌≡◌, sym, ◌∙◌}
use Prim.Native.Nat.{ℕ, ◌+◌, ◌-◌, ◌*◌, ◌^◌, ◌≤◌, ◌<◌}
use native.Mathlib.Decide.{dec_le}
use native.Mathlib.Omega.{arith}
use borrow.Author.Tests.{le-leb, lt-leb}
use Rattle.cubic_spline.specs.Exact.{exact_weight}
use Rattle.cubic_spline.proofs.Exact.{near_weight_whole, far_weight_whole, beyond_weight_whole}
use Rattle.cubic_spline.proofs.Lipschitz.{weight_steep}
use Rattle.weight_table.specs.Table.{steps, entry_of, steepest}

up_to_half : (k : ℕ) → k ≤ 512 → entry_of k ≡ exact_weight steps k
unfolding entry_of
up_to_half k h = rw (le-leb k 512 h) (omega (arith, near_weight_whole steps k (omega arith)))

past_half : (k : ℕ) → 512 < k → entry_of k ≡ exact_weight steps k
unfolding entry_of
past_half k h =
    let p : entry_of k ≡ 2 * ((1024 - k) * (1024 - k) * (1024 - k)) = rw (lt-leb k 512 h) in
    elim (dec_le k steps) [
      | yes l ↦ p ∙ sym (far_weight_whole steps k (1024 - k) (omega arith) (omega arith))
      | no l ↦
          let z : 1024 - k ≡ 0 = omega arith in
          rw (p, z, beyond_weight_whole steps k (omega arith))
    ]

pub entry_exact : (k : ℕ) → entry_of k ≡ exact_weight steps k
entry_exact k = elim (dec_le k 512) [ yes h ↦ up_to_half k h | no h ↦ past_half k (omega arith) ]

-- ---- both formulas, each with both ends of its piece: at 512 they agree

pub near_entry : (k : ℕ) → k ≤ 512 → entry_of k + 6144 * (k * k) ≡ 2 ^ 30 + 6 * (k * k * k)
near_entry k h = rw (entry_exact k) (omega (arith, near_weight_whole steps k (omega arith)))

pub far_entry : (k j : ℕ) → 512 ≤ k → j + k ≡ steps → entry_of k ≡ 2 * (j * j * j)
far_entry k j h e = entry_exact k ∙ far_weight_whole steps k j (omega arith) e

-- ---- the fall of a step

pub entry_gentle : (k : ℕ) → entry_of k ≤ entry_of (k + 1) + steepest
entry_gentle k = rw (entry_exact k, entry_exact (k + 1)) (weight_steep steps k (k + 1) 1 (omega arith)).0
