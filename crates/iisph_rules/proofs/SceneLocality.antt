-- Locality on scenes: after k iterations a fluid particle's pressure looks 2 k + 1 links far, and its position and
-- velocity 2 k + 2. By induction on k from one iteration's two links; then the last part of the step. Assumes nothing.
use Prim.Native.Nat.{ℕ, zero, suc, ◌+◌, ◌*◌}
use mathlib.Core.Path.{◌≡◌, subst}
use native.Mathlib.Omega.{arith}
use Rattle.scene_format.specs.Scene.{Scene}
use Rattle.iisph_rules.specs.Step.{first_pressures, solution}
use Rattle.iisph_rules.specs.Locality.{SameValues}
use Rattle.iisph_rules.proofs.Near.{Near, SameSize, Looks, closer, own, entry, iteration_same, velocity_same}
use Rattle.iisph_rules.proofs.Near.{position_same}
use Rattle.iisph_rules.proofs.Iterations.{pressures_after, solution_pressures}

-- how far the pressures after k iterations look: 2 k + 1 links
abbrev reach : ℕ → ℕ
reach zero = 1
reach (suc k) = suc (suc (reach k))

reach_links : (k : ℕ) → 2 * k + 2 ≡ suc (reach k)
reach_links zero = omega arith
reach_links (suc k) = omega (arith, reach_links k)

module _ {s s' : Scene} (alike : SameSize s s') where
  looks : (k : ℕ) → Looks s s' (reach k) (pressures_after s k) (pressures_after s' k)
  unfolding first_pressures
  looks zero = record { one = λ i h. h; known = λ i h. entry alike _ _ i _ (cc (own h)) }
  looks (suc k) = record { one = λ i h. (looks k).one i (closer (closer h)); known = iteration_same alike (looks k) }

  -- where both steps take k iterations, fluid particle i is the same afterwards if all is the same within 2 k + 2 links
  -- of it
  pub scene_locality : (k : ℕ) → (solution s).iterations ≡ k → (solution s').iterations ≡ k
      → (i : ℕ) → Near s s' (2 * k + 2) i → SameValues s s' i
  scene_locality k q q' i h =
      let look : Looks s s' (reach k) (solution s).pressures (solution s').pressures =
      rw (solution_pressures s q, solution_pressures s' q') (looks k) in
      let near = subst (λ n. Near s s' n i) (reach_links k) h in
      record {
        positions = position_same alike look i near;
        velocities = velocity_same alike look i near;
        pressures = look.known i (closer near);
      }
