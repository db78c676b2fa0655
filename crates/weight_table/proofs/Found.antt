-- What the lookup computes is the table's weight: the line between two entries, rounded down. These are exact, the line
-- is within 1,536 units of the exact weight, and rounding adds less than one. Assumes nothing.
use mathlib.Core.Path.{◌≡◌, refl}
use mathlib.Core.List.{List}
use Prim.Native.Nat.{ℕ, ◌+◌, ◌-◌, ◌*◌, ◌/◌, ◌%◌, ◌^◌, ◌≤◌, ◌<◌}
use native.Mathlib.Nat.{mul-le-mul}
use native.Mathlib.Omega.{arith}
use lib.ListN.{get_or}
use lib.IntN.{pos}
use borrow.Author.Tests.{lt-ltb, le-ltb}
use Rattle.rounding.specs.Exact.{Near}
use Rattle.cubic_spline.specs.Exact.{exact_weight}
use Rattle.cubic_spline.proofs.Exact.{beyond_weight_whole}
use Rattle.cubic_spline.proofs.Lipschitz.{weight_scaled}
use Rattle.weight_table.specs.Table.{steps, steepest, TablePromise}
use Rattle.weight_table.specs.Lookup.{parts, one, between, table_weight, WithinUnits, LookupPromise}
use Rattle.weight_table.proofs.Chord.{line, chord_near}
use Rattle.weight_table.proofs.Floor.{fallen, fallen_most, floored, on_line}

-- where r is the 1,024th part of the line between two exact weights, rounded down
line_near : (k f g r m : ℕ) → f + g ≡ parts → k < steps
    → m ≡ line (exact_weight steps k) (exact_weight steps (k + 1)) f g → parts * r ≤ m → m < parts * r + parts
    → WithinUnits 1537 (parts * k + f) r
line_near k f g r m h l e a b =
    let c : Near (2 * (m * 2 ^ 20)) (2 * exact_weight one (parts * k + f)) (3 * 2 ^ 40) =
    rw e (chord_near parts f g h 512 refl k l) in
    omega arith

entry_near : (k r : ℕ) → r ≡ exact_weight steps k → WithinUnits 0 (k * parts) r
entry_near k r e =
    let S : exact_weight one (k * parts) ≡ exact_weight steps k * 2 ^ 30 = weight_scaled parts steps k in
    rw (e, S) (omega arith)

-- ---- below 1, in the table l

module _ (l : List ℕ) (E : TablePromise l) (q : ℕ) (h : q < one) where
  abbrev k : ℕ
  k = q / parts

  abbrev f : ℕ
  f = q % parts

  abbrev g : ℕ
  g = parts - f

  abbrev here : ℕ
  here = get_or l k 0

  abbrev next : ℕ
  next = get_or l (k + 1) 0

  -- the lookup's result
  abbrev left : ℕ
  left = here - fallen here next f

  down : next < here
  down = E.falls k (omega arith)

  pub lower : next ≤ here
  lower = omega (arith, down)

  pub small : (here - next) * f ≤ steepest * (parts - 1)
  small = mul-le-mul {n₂ = steepest} {m₂ = parts - 1} (omega (arith, E.gently k (omega arith))) (omega arith)

  pub inside : fallen here next f ≤ here
  inside = omega (arith, fallen_most here next f (omega arith))

  rounded : (parts * left ≤ line here next f g) × (line here next f g < parts * left + parts)
  rounded = on_line here next f g lower (omega arith) (omega arith)

  value : pos left ≡ table_weight q
  unfolding table_weight between
  value =
      rw (lt-ltb q one h, ← E.rule k (omega arith), ← E.rule (k + 1) (omega arith))
      (floored here next f down (omega arith))

  near : WithinUnits 1537 q left
  near =
      let A : here ≡ exact_weight steps k = E.exact k (omega arith) in
      let B : next ≡ exact_weight steps (k + 1) = E.exact (k + 1) (omega arith) in
      let e : parts * k + f ≡ q = omega arith in
      rw e at (line_near k f g left (line here next f g) (omega arith) (omega arith) (rw (A, B))
      rounded.0 rounded.1)

  on_entry_lem : f ≡ 0 → WithinUnits 0 q left
  on_entry_lem z =
      let e : k * parts ≡ q = omega arith in
      let n : fallen here next f ≡ 0 = rw z (omega arith) in
      rw e at (entry_near k left (omega (arith, E.exact k (omega arith))))

  pub found : LookupPromise q left
  found = record { value = value; near = near; on_entry = on_entry_lem; beyond = λ o. absurd (omega arith) }

-- ---- from 1 on

pub beyond : (q : ℕ) → one ≤ q → LookupPromise q 0
unfolding table_weight
beyond q h =
    let z : exact_weight one q ≡ 0 = beyond_weight_whole one q h in
    record {
      value = rw (le-ltb q one h);
      near = rw z (omega arith);
      on_entry = λ e. rw z (omega arith);
      beyond = λ o. rw z (omega arith);
    }
