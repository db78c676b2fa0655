-- The table of the weight shape (METHOD 1.6): 1,025 whole numbers, in units of 2 ^ -30. Definitions only.
use Rattle.std.specs.Prelude.{ℕ, ◌+◌, ◌-◌, ◌*◌, ◌^◌, ◌≤◌, ◌<◌, ◌≡◌, cond, List, leb, length, get_or}
use Rattle.cubic_spline.specs.Exact.{exact_weight}

-- the table's steps, from q = 0 to q = 1
abbrev pub steps : ℕ
steps = 1024

-- entry k, for q = k / 1024: up to 512, and from 512 on, where both formulas agree. That no difference is cut off at 0
-- is proved in proofs/Entry.antt
unfoldable pub entry_of : ℕ → ℕ
entry_of k =
    cond (leb k 512) (2 ^ 30 + 6 * (k * k * k) - 6144 * (k * k)) (2 * ((1024 - k) * (1024 - k) * (1024 - k)))

-- no step falls by more
abbrev pub steepest : ℕ
steepest = 2 ^ 21

-- l is the table: its entries follow the rule, and are the exact weights in units of 2 ^ -30; it falls strictly from
-- 2 ^ 30 to 0
pub record TablePromise (l : List ℕ) : Type 0 where
  pub long : length l ≡ steps + 1
  pub rule : (k : ℕ) → k ≤ steps → get_or l k 0 ≡ entry_of k
  pub exact : (k : ℕ) → k ≤ steps → get_or l k 0 ≡ exact_weight steps k
  pub first : get_or l 0 0 ≡ 2 ^ 30
  pub falls : (k : ℕ) → k < steps → get_or l (k + 1) 0 < get_or l k 0
  pub gently : (k : ℕ) → k < steps → get_or l k 0 ≤ get_or l (k + 1) 0 + steepest
  pub last : get_or l steps 0 ≡ 0
