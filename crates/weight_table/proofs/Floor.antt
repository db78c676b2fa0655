-- The floor is the largest whole number that is at most z / n. Where z is negative, a number and the floor are, as the
-- code has it, that number less a quotient that is rounded up: the line between two entries, rounded down. Assumes
-- nothing.
use mathlib.Core.Path.{◌≡◌, ap}
use Prim.Native.Nat.{ℕ, zero, suc, ◌+◌, ◌-◌, ◌*◌, ◌/◌, ◌≤◌, ◌<◌}
use native.Mathlib.Nat.{mul-le-mul_left, div-mul-le_self, lt-div-mul-add}
use native.Mathlib.Omega.{arith}
use borrow.Author.Tests.{lt-ltb, le-ltb}
use lib.Dec.{le→leb, lt→ltb}
use lib.Signed.{◌≤ℤ◌, ◌<ℤ◌, le_z_yes, lt_z_yes}
use lib.IntN.{ℤ, pos, negsuc, neg_ℤ, ◌+ℤ◌, ◌-ℤ◌, ◌*ℤ◌}
use Rattle.weight_table.specs.Lookup.{parts, floor}
use Rattle.weight_table.proofs.Chord.{line}

-- ---- what the floor is

-- minus a number that is not 0
negative : (n : ℕ) → 0 < n → neg_ℤ (pos n) ≡ negsuc (n - 1)
negative zero h = absurd (omega arith)
negative (suc n) h = ap negsuc (omega arith)

pub floor_most : (z : ℤ) (n : ℕ) → 0 < n → (floor z n *ℤ pos n) ≤ℤ z
unfolding floor
floor_most (pos m) n h = le_z_yes (le→leb (m / n * n) m (div-mul-le_self m n))
floor_most (negsuc m) n h =
    let l : m < suc (m / n) * n = omega (arith, lt-div-mul-add {a = m} h) in
    rw (negative (suc (m / n) * n) (omega arith)) (le_z_yes (le→leb m (suc (m / n) * n - 1) (omega arith)))

-- one more than -(k + 1)
above : (m k n : ℕ) → 0 < n → k * n ≤ m → negsuc m <ℤ ((negsuc k +ℤ pos 1) *ℤ pos n)
above m zero n h l = lt_z_yes tt
above m (suc k) n h l =
    let p : 1 < suc (suc k) = omega arith in
    let e : suc (suc k) - 2 ≡ k = omega arith in
    let i : 0 < suc k * n = omega arith in
    rw (lt-ltb 1 (suc (suc k)) p, e, negative (suc k * n) i) (lt_z_yes (lt→ltb (suc k * n - 1) m (omega arith)))

pub floor_largest : (z : ℤ) (n : ℕ) → 0 < n → z <ℤ ((floor z n +ℤ pos 1) *ℤ pos n)
unfolding floor
floor_largest (pos m) n h = lt_z_yes (lt→ltb m ((m / n + 1) * n) (omega (arith, lt-div-mul-add {a = m} h)))
floor_largest (negsuc m) n h = above m (m / n) n h (div-mul-le_self m n)

-- ---- a and the floor of a negative number

-- n / 1024, rounded up
abbrev rounded_up : ℕ → ℕ
rounded_up n = (n + (parts - 1)) / parts

less : (a n : ℕ) → rounded_up n ≤ a → pos a +ℤ floor (neg_ℤ (pos n)) parts ≡ pos (a - rounded_up n)
unfolding floor
less a zero h = ap pos (omega arith)
less a (suc n) h =
    let l : suc (n / parts) ≤ a = omega arith in
    rw (le-ltb a (suc (n / parts)) l) (ap pos (omega arith))

difference : (a b : ℕ) → b < a → pos b -ℤ pos a ≡ negsuc (a - suc b)
difference zero b h = absurd (omega arith)
difference (suc n) b h = rw (lt-ltb b (suc n) h)

-- ---- the line from a down to b

-- what it has fallen f parts on, rounded up
abbrev pub fallen : ℕ → ℕ → ℕ → ℕ
fallen a b f = rounded_up ((a - b) * f)

pub fallen_most : (a b f : ℕ) → f < parts → fallen a b f ≤ a - b
fallen_most a b f h =
    let m : (a - b) * f ≤ (a - b) * (parts - 1) = mul-le-mul_left (a - b) (omega arith) in
    omega arith

pub floored : (a b f : ℕ) → b < a → f < parts
    → pos (a - fallen a b f) ≡ pos a +ℤ floor ((pos b -ℤ pos a) *ℤ pos f) parts
floored a b f h p =
    let e : suc (a - suc b) ≡ a - b = omega arith in
    rw (difference a b h, e, less a ((a - b) * f) (omega (arith, fallen_most a b f p)))

-- what is left is the line's 1,024th part, rounded down
pub on_line : (a b f g : ℕ) → b ≤ a → f + g ≡ parts → f < parts
    → (parts * (a - fallen a b f) ≤ line a b f g) × (line a b f g < parts * (a - fallen a b f) + parts)
on_line a b f g l h p =
    let d = a - b in
    let e : d + b ≡ a = omega arith in
    let m = fallen_most a b f p in
    let x : d * f + d * g ≡ d * parts = omega (arith, ap (λ z. d * z) h) in
    let y : b * f + b * g ≡ b * parts = omega (arith, ap (λ z. b * z) h) in
    let z : d * g + b * g ≡ a * g = omega (arith, ap (λ z. z * g) e) in
    omega arith
