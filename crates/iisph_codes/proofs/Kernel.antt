-- What is written of the kernel's answer, case by case: an empty list, a value, or a refusal. Each case unfolds the
-- definitions once. Assumes nothing.
use Prim.Native.Nat.{ℕ, ◌<◌, ◌≤◌}
use mathlib.Core.Path.{◌≡◌}
use mathlib.Core.List.{List}
use lib.Ieee.{Float}
use lib.ListN.{length, set}
use borrow.Author.Tests.{le-leb, lt-leb}
use Rattle.lists.specs.Lists.{choose}
use Rattle.std.specs.declared.result.Result.{Result}
use Rattle.std.specs.declared.result.Result.TheVariants.{Ok, Err}
use Rattle.cubic_spline.specs.declared.KernelRefusal.{KernelRefusal}
use Rattle.iisph_codes.specs.Numbers.{too_short}
use Rattle.iisph_codes.specs.Kernel.{refusal_code, kernel_code, value_after, Gives}

pub answered : {a a' : Result Float KernelRefusal} {out out' : List Float} {n : ℕ} → a ≡ a' → Gives a out n out'
    → Gives a' out n out'
answered e g = rw e at g

module _ (a : Result Float KernelRefusal) (out : List Float) where
  pub out_empty : length out < 1 → Gives a out too_short out
  unfolding choose
  out_empty h = let f = lt-leb 1 (length out) h in record { result = rw f; out_then = rw f }

  module _ (l : 1 ≤ length out) where
    pub value_given : {x : Float} {out' : List Float} → a ≡ Ok x → out' ≡ set out 0 x → Gives a out 0 out'
    unfolding choose kernel_code value_after
    value_given q g = let t = le-leb 1 (length out) l in record { result = rw (t, q); out_then = rw (t, q) g }

    pub refusal_given : {k : KernelRefusal} {n : ℕ} → a ≡ Err k → n ≡ refusal_code k → Gives a out n out
    unfolding choose kernel_code value_after
    refusal_given q e = let t = le-leb 1 (length out) l in record { result = rw (t, q) e; out_then = rw (t, q) }
