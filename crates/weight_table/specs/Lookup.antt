-- The lookup in the table (METHOD 1.6): its value at q / 2 ^ 20, and how near that is to the exact weight. Definitions
-- only.
use Rattle.std.specs.Prelude.{ℕ, ◌+◌, ◌*◌, ◌/◌, ◌%◌, ◌^◌, ◌≤◌, ◌≡◌, cond, ltb, ℤ, pos, negsuc, ◌+ℤ◌, ◌-ℤ◌, ◌*ℤ◌}
use Rattle.rounding.specs.Exact.{Near}
use Rattle.cubic_spline.specs.Exact.{exact_weight}
use Rattle.weight_table.specs.Table.{entry_of}

-- the largest whole number that is at most z / n (proofs/Floor.antt); negsuc m is -(m + 1)
unfoldable pub floor : ℤ → ℕ → ℤ
floor (pos m) n = pos (m / n)
floor (negsuc m) n = negsuc (m / n)

-- the parts of a step of the table, each 2 ^ -20 of q
abbrev pub parts : ℕ
parts = 1024

-- where q is 1
abbrev pub one : ℕ
one = 2 ^ 20

-- f parts on from entry k: entry k plus the floor of (entry k+1 - entry k) × f / 1024
unfoldable pub between : ℕ → ℕ → ℤ
between k f = pos (entry_of k) +ℤ floor ((pos (entry_of (k + 1)) -ℤ pos (entry_of k)) *ℤ pos f) parts

-- with k the quotient and f the remainder of q by 1,024; from 1 on it is 0
unfoldable pub table_weight : ℕ → ℤ
table_weight q = cond (ltb q one) (between (q / parts) (q % parts)) (pos 0)

-- r units of 2 ^ -30 are at most b such units from the exact weight at q / 2 ^ 20, which is over 2 ^ 60
abbrev pub WithinUnits : ℕ → ℕ → ℕ → Type 0
WithinUnits b q r = Near (r * 2 ^ 30) (exact_weight one q) (b * 2 ^ 30)

-- r is the table's weight at q / 2 ^ 20, within 1,537 units of the exact one; on an entry, and from 1 on, it is exact
pub record LookupPromise (q r : ℕ) : Type 0 where
  pub value : pos r ≡ table_weight q
  pub near : WithinUnits 1537 q r
  pub on_entry : q % parts ≡ 0 → WithinUnits 0 q r
  pub beyond : one ≤ q → WithinUnits 0 q r
