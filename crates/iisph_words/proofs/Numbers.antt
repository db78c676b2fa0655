-- Digits: how many there are, that the last one may be stored first, and how their number goes down with the number.
-- By induction on how many there are. Assumes nothing.
use Prim.Native.Nat.{ℕ, zero, suc, ◌+◌, ◌-◌, ◌/◌, ◌%◌, ◌^◌, ◌≤◌, ◌<◌}
use mathlib.Core.Path.{◌≡◌, refl, ap, ◌∙◌}
use mathlib.Core.Bool.{Bool, true, false}
use mathlib.Core.List.{List, [], ◌∷◌}
use native.Mathlib.Nat.{pow-suc, lt_of_lt_of_le}
use native.Mathlib.Omega.{arith}
use lib.Dec.{ltb, lit≤}
use lib.ListN.{length, set, length-append}
use lib.Seq.{sets}
use lib.Ieee.{Float}
use borrow.Author.Tests.{ltb-true, ltb-false, lt-ltb, le-ltb}
use Rattle.lists.specs.Lists.{choose}
use Rattle.lists.proofs.Fills.{sets-append}
use Rattle.lists.proofs.Writing.{sets-set}
use Rattle.iisph_words.specs.Digits.{digit_of, digits, hex_digits, hex_of, places_within, places_of, decimal_of}
use Rattle.iisph_words.specs.Digits.{most_digits}

module _ (base : ℕ) where
  pub length_digits : (k n : ℕ) → length (digits base k n) ≡ k
  unfolding digits
  length_digits zero n = refl
  length_digits (suc k) n =
      let before = digits base k (n / base) in
      omega (arith, length-append before (digit_of (n % base) ∷ []), length_digits k (n / base))

  -- the last digit is stored first
  pub digit_stored : (l : List ℕ) (at k n : ℕ) → 0 < k
      → sets l at (digits base k n)
      ≡ sets (set l (at + (k - 1)) (digit_of (n % base))) at (digits base (k - 1) (n / base))
  unfolding digits
  digit_stored l at zero n h = absurd (omega arith)
  digit_stored l at (suc k) n h =
      let e : suc k - 1 ≡ k = omega arith in
      let d = length_digits k (n / base) in
      rw e
      (sets-append (digits base k (n / base)) (digit_of (n % base) ∷ []) l at
      ∙ ap (λ (j : ℕ). set (sets l at (digits base k (n / base))) (at + j) (digit_of (n % base))) d
      ∙ sets-set (digits base k (n / base)) l at (at + k) (digit_of (n % base)) (omega (arith, d)))

pub length_hex : (x : Float) → length (hex_of x) ≡ hex_digits
unfolding hex_of
length_hex x = length_digits 16 hex_digits _

pub length_decimal : (n : ℕ) → length (decimal_of n) ≡ places_of n
unfolding decimal_of
length_decimal n = length_digits 10 (places_of n) n

-- ---- how many decimal digits

-- every bound that is large enough gives the same
within_same : (f g n : ℕ) → n ≤ f → n ≤ g → places_within f n ≡ places_within g n
unfolding places_within choose
within_same zero zero n h k = refl
within_same zero (suc g) n h k = let e : n ≡ 0 = omega arith in rw e
within_same (suc f) zero n h k = let e : n ≡ 0 = omega arith in rw e
within_same (suc f) (suc g) n h k =
    ap (λ (p : ℕ). choose (ltb n 10) 1 (suc p)) (within_same f g (n / 10) (omega arith) (omega arith))

pub one_place : (n : ℕ) → n < 10 → places_of n ≡ 1
unfolding places_within choose
one_place zero h = refl
one_place (suc n) h = rw (lt-ltb (suc n) 10 h)

pub more_places : (n : ℕ) → 10 ≤ n → places_of n ≡ suc (places_of (n / 10))
unfolding places_within choose
more_places zero h = absurd (omega arith)
more_places (suc n) h =
    let tenth = suc n / 10 in
    rw (le-ltb (suc n) 10 h) (ap suc (within_same n tenth tenth (omega arith) (omega arith)))

-- a number below 10 ^ k has at most k digits
few_places : (k n : ℕ) → 0 < k → n < 10 ^ k → places_of n ≤ k
few_places zero n p h = absurd (omega arith)
few_places (suc zero) n p h = omega (arith, one_place n h)
few_places (suc (suc k)) n p h = go (ltb n 10) refl (few_places (suc k) (n / 10) (omega arith))
  where
    go : (t : Bool) → ltb n 10 ≡ t → (n / 10 < 10 ^ suc k → places_of (n / 10) ≤ suc k) → places_of n ≤ suc (suc k)
    go true q r = omega (arith, one_place n (ltb-true n 10 q))
    go false q r =
        let b : n / 10 < 10 ^ suc k = omega (arith, pow-suc 10 (suc k)) in
        omega (arith, more_places n (ltb-false n 10 q), r b)

pub few_digits : (k n : ℕ) → 0 < k → n < 10 ^ k → length (decimal_of n) ≤ k
few_digits k n p h = omega (arith, length_decimal n, few_places k n p h)

-- a number of 64 bits
pub digits_most : (n : ℕ) → n < 2 ^ 64 → length (decimal_of n) ≤ most_digits
digits_most n h = few_digits most_digits n (omega arith) (lt_of_lt_of_le h (lit≤ tt))
