-- `iisph_run::text` meets its contract: both lists are long enough. Assumes nothing.
use Prim.Native.Nat.{ℕ, ◌≤◌}
use native.Mathlib.Omega.{arith}
use lib.ListN.{length, replicate, length-replicate}
use Rattle.math.specs.Real.{+0}
use Rattle.iisph_text.specs.Run.{enough_answers, enough_work}
use Rattle.iisph_text.proofs.Ran.{text_written}
use Rattle.iisph_run.proofs.text.Goals as goal

long : (n : ℕ) → n ≤ length (replicate n +0)
long n = omega (arith, length-replicate n +0)

pub returns : goal.returns
returns c =
    text_written (λ i. omega (arith, c.shared_slice_known-1.given i))
    (long enough_answers) (long enough_work) c.run.ensures
