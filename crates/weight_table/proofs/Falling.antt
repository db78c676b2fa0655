-- The lookup never rises as q grows. From q to q + 1 it stays in a step, where the line has fallen further, or comes to
-- the next entry, below which no line goes; and that is summed over the steps. Assumes nothing.
use mathlib.Core.Path.{◌≡◌, refl, sym, ap}
use Prim.Native.Nat.{ℕ, zero, suc, zero-le, ◌+◌, ◌-◌, ◌*◌, ◌/◌, ◌%◌, ◌≤◌, ◌<◌}
use native.Mathlib.Nat.{add-zero, le_refl, le_trans, mul-le-mul_left}
use native.Mathlib.Decide.{dec_le, dec_lt}
use native.Mathlib.Omega.{arith}
use lib.IntN.{nat_abs}
use borrow.Author.Tests.{lt-ltb, le-ltb}
use Rattle.lists.specs.Lists.{table}
use Rattle.lists.proofs.Lists.{table_at}
use Rattle.weight_table.specs.Table.{steps, entry_of, TablePromise}
use Rattle.weight_table.specs.Lookup.{parts, one, between, table_weight, LookupPromise}
use Rattle.weight_table.proofs.Tested.{right, tabled}
use Rattle.weight_table.proofs.Floor.{fallen, fallen_most, floored}

-- ---- the rule's own table

the_table : TablePromise (table (steps + 1) entry_of)
unfolding right entry_of table
the_table = tabled _ refl tt

entry_falls : (k : ℕ) → k < steps → entry_of (k + 1) < entry_of k
entry_falls k h =
    let a = table_at (steps + 1) entry_of k 0 (omega arith) in
    let b = table_at (steps + 1) entry_of (k + 1) 0 (omega arith) in
    rw (a, b) at (the_table.falls k h)

-- ---- the weight as a whole number

abbrev weight : ℕ → ℕ
weight q = nat_abs (table_weight q)

-- what the line has fallen f parts on from entry k
abbrev lost : ℕ → ℕ → ℕ
lost k f = fallen (entry_of k) (entry_of (k + 1)) f

on_step : (k f : ℕ) → k < steps → f < parts → weight (parts * k + f) ≡ entry_of k - lost k f
unfolding table_weight between
on_step k f h l =
    let b : parts * k + f < one = omega arith in
    let d : (parts * k + f) / parts ≡ k = omega arith in
    let m : (parts * k + f) % parts ≡ f = omega arith in
    let e = floored (entry_of k) (entry_of (k + 1)) f (entry_falls k h) l in
    rw (lt-ltb (parts * k + f) one b, d, m) (ap nat_abs (sym e))

from_one : (q : ℕ) → one ≤ q → weight q ≡ 0
unfolding table_weight
from_one q h = rw (le-ltb q one h)

-- ---- from q to q + 1

within : (k f : ℕ) → k < steps → f + 1 < parts → weight (parts * k + (f + 1)) ≤ weight (parts * k + f)
within k f h l =
    let d = entry_of k - entry_of (k + 1) in
    let m : d * f ≤ d * (f + 1) = mul-le-mul_left d (omega arith) in
    rw (on_step k f h (omega arith), on_step k (f + 1) h l) (omega arith)

across : (k f : ℕ) → k + 1 < steps → f < parts → weight (parts * (k + 1) + 0) ≤ weight (parts * k + f)
across k f h l =
    let n = fallen_most (entry_of k) (entry_of (k + 1)) f l in
    let e = entry_falls k (omega arith) in
    rw (on_step k f (omega arith) l, on_step (k + 1) 0 h (omega arith)) (omega arith)

below_one : (k f : ℕ) → f < parts → parts * k + f + 1 < one → weight (parts * k + f + 1) ≤ weight (parts * k + f)
below_one k f l b =
    elim (dec_lt (f + 1) parts) [
      | yes i ↦
          let e : parts * k + (f + 1) ≡ parts * k + f + 1 = omega arith in
          rw e at (within k f (omega arith) i)
      | no i ↦
          let e : parts * (k + 1) + 0 ≡ parts * k + f + 1 = omega arith in
          rw e at (across k f (omega arith) l)
    ]

one_on : (q : ℕ) → weight (q + 1) ≤ weight q
one_on q =
    elim (dec_le one (q + 1)) [
      | yes o ↦ rw (from_one (q + 1) o) zero-le
      | no o ↦
          let e : parts * (q / parts) + q % parts ≡ q = omega arith in
          rw e at (below_one (q / parts) (q % parts) (omega arith) (omega arith))
    ]

-- ---- from q on

steps_on : (q d : ℕ) → weight (q + d) ≤ weight q
steps_on q zero = rw (add-zero q) (le_refl (weight q))
steps_on q (suc d) =
    let e : q + suc d ≡ q + d + 1 = omega arith in
    rw e (le_trans (one_on (q + d)) (steps_on q d))

pub lookup_falls : (p q r s : ℕ) → p ≤ q → LookupPromise p r → LookupPromise q s → s ≤ r
lookup_falls p q r s h R S =
    let e : p + (q - p) ≡ q = omega arith in
    let l : weight q ≤ weight p = rw e at (steps_on p (q - p)) in
    rw (ap nat_abs R.value, ap nat_abs S.value) l
