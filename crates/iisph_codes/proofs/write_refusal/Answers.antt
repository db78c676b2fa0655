-- `iisph_codes::write_refusal` meets its contract: one store; a refusal's number is small. Assumes nothing.
use Prim.Native.Nat.{ℕ, ◌+◌, ◌≤◌}
use mathlib.Core.Path.{ap}
use native.Mathlib.Omega.{arith}
use Rattle.iisph_codes.proofs.Refusals.{number_few}
use Rattle.iisph_codes.proofs.write_refusal.Goals as goal

pub overflow_add-result : goal.overflow_add-result
overflow_add-result c = let few : c.number.result
    ≤ 10 = omega (arith, c.number.ensures, number_few c.args.refusal) in omega
    (arith, few)

pub returns : goal.returns
returns c = (ap (λ (n : ℕ). 100 + n) c.number.ensures, rw c.place.ensures)
