-- How often each term of a sum is rounded. Half of n equal terms are n / 2 of them, so the counts by halves have a
-- recursion of their own; the claims follow by induction on the number of terms, or on the depth. Assumes nothing.
use Prim.Native.Nat.{ℕ, zero, suc, ◌+◌, ◌-◌, ◌/◌, ◌<◌, ◌≤◌}
use native.Mathlib.Omega.{arith}
use native.Mathlib.Nat.{le_refl, sub-zero, zero-sub, suc-sub-suc, eq-zero-or-pos}
use native.Mathlib.Numerals.{add-one}
use mathlib.Core.Path.{◌≡◌, refl, sym, ap, ap₂, ◌∙◌}
use mathlib.Core.Logic.{⊎_elim}
use mathlib.Core.List.{List, [], ◌∷◌, ◌++◌, map}
use lib.Pow.{pow_pos}
use lib.ListN.{length, get_or, take, drop, replicate, length-append, length-map, length-replicate}
use lib.ListN.{get_or-append, replicate-append-replicate}
use lib.Seq.{get_or-append-add}
use Rattle.lists.specs.Lists.{fold}
use Rattle.lists.proofs.Lists.{fold-append}
use Rattle.sums.specs.Halves.{first_half, second_half, by_halves}
use Rattle.sums.specs.Roundings.{added, terms, roundings_by_halves, roundings_in_order}
use Rattle.sums.specs.Roundings.{EachCounted, AtMostDepth, DepthReached, InOrderEach}
use Rattle.sums.proofs.Halves.{adds_by_halves}

-- ---- the counts of two sums that are added

length-added : (xs ys : List ℕ) → length (added xs ys) ≡ length xs + length ys
length-added xs ys = length-map (xs ++ ys) suc ∙ length-append xs ys

raised : (xs : List ℕ) (k : ℕ) → k < length xs → get_or (map suc xs) k 0 ≡ suc (get_or xs k 0)
raised [] k h = absurd (omega arith)
raised (x ∷ xs) zero h = refl
raised (x ∷ xs) (suc k) h = raised xs k (omega arith)

added_first : (xs ys : List ℕ) (k : ℕ) → k < length xs → get_or (added xs ys) k 0 ≡ suc (get_or xs k 0)
added_first xs ys k h =
    raised (xs ++ ys) k (omega (arith, length-append xs ys)) ∙ ap suc (get_or-append xs ys 0 k h)

added_second : (xs ys : List ℕ) (j k : ℕ) → k ≡ length xs + j → j < length ys
    → get_or (added xs ys) k 0 ≡ suc (get_or ys j 0)
added_second xs ys j k e h =
    ap (λ i. get_or (added xs ys) i 0) e
    ∙ raised (xs ++ ys) (length xs + j) (omega (arith, length-append xs ys))
    ∙ ap suc (get_or-append-add xs ys j 0)

-- ---- halves of equal terms

module _ {A : Type 0} (x : A) where
  take_equal : (k n : ℕ) → k ≤ n → take k (replicate n x) ≡ replicate k x
  take_equal zero n h = refl
  take_equal (suc k) zero h = absurd (omega arith)
  take_equal (suc k) (suc n) h = ap (λ (xs : List A). x ∷ xs) (take_equal k n (omega arith))

  drop_equal : (k n : ℕ) → drop k (replicate n x) ≡ replicate (n - k) x
  drop_equal zero n = rw sub-zero
  drop_equal (suc k) zero = rw zero-sub
  drop_equal (suc k) (suc n) = rw suc-sub-suc (drop_equal k n)

first_terms : (n : ℕ) → first_half (terms n) ≡ terms (n / 2)
first_terms n = rw length-replicate (take_equal (0 ∷ []) (n / 2) n (omega arith))

second_terms : (n : ℕ) → second_half (terms n) ≡ terms (n - n / 2)
second_terms n = rw length-replicate (drop_equal (0 ∷ []) (n / 2) n)

-- ---- the counts by halves

none_counted : roundings_by_halves 0 ≡ []
unfolding roundings_by_halves
none_counted = (adds_by_halves [] added).empty

one_counted : roundings_by_halves 1 ≡ 0 ∷ []
unfolding roundings_by_halves
one_counted = (adds_by_halves [] added).single (0 ∷ [])

more_counted : (n : ℕ) → 1 < n
    → roundings_by_halves n ≡ added (roundings_by_halves (n / 2)) (roundings_by_halves (n - n / 2))
unfolding roundings_by_halves
more_counted n h =
    (adds_by_halves [] added).longer (terms n) (omega (arith, length-replicate {A = List ℕ} n (0 ∷ [])))
    ∙ ap₂ added (ap (by_halves [] added) (first_terms n)) (ap (by_halves [] added) (second_terms n))

counted : (m n : ℕ) → n ≤ m → length (roundings_by_halves n) ≡ n
counted zero zero h = ap length none_counted
counted zero (suc n) h = absurd (omega arith)
counted (suc m) zero h = ap length none_counted
counted (suc m) (suc zero) h = ap length one_counted
counted (suc m) (suc (suc n)) h =
    let k = suc (suc n) in
    let e = counted m (k / 2) (omega arith) in
    let f = counted m (k - k / 2) (omega arith) in
    ap length (more_counted k (omega arith))
    ∙ length-added (roundings_by_halves (k / 2)) (roundings_by_halves (k - k / 2))
    ∙ omega arith

length-by_halves : (n : ℕ) → length (roundings_by_halves n) ≡ n
length-by_halves n = counted n n (le_refl n)

module _ (n : ℕ) (several : 1 < n) where
  -- a term has one rounding more than in its part
  in_first : (k : ℕ) → k < n / 2 → get_or (roundings_by_halves n) k 0 ≡ suc (get_or (roundings_by_halves (n / 2)) k 0)
  in_first k h =
      rw (more_counted n several)
      (added_first (roundings_by_halves (n / 2)) _ k (omega (arith, length-by_halves (n / 2))))

  in_second : (j k : ℕ) → k ≡ n / 2 + j → j < n - n / 2
      → get_or (roundings_by_halves n) k 0 ≡ suc (get_or (roundings_by_halves (n - n / 2)) j 0)
  in_second j k e h =
      rw (more_counted n several)
      (added_second (roundings_by_halves (n / 2)) (roundings_by_halves (n - n / 2)) j k
      (omega (arith, length-by_halves (n / 2)))
      (omega (arith, length-by_halves (n - n / 2))))

unrounded : (n k : ℕ) → k < n → n ≤ 1 → get_or (roundings_by_halves n) k 0 ≡ 0
unrounded zero k h m = absurd (omega arith)
unrounded (suc zero) zero h m = rw one_counted
unrounded (suc zero) (suc k) h m = absurd (omega arith)
unrounded (suc (suc n)) k h m = absurd (omega arith)

pub at_most_depth : AtMostDepth
at_most_depth n k zero h m = omega (arith, unrounded n k h (omega arith))
at_most_depth n k (suc d) h m =
    ⊎_elim
    (λ e. omega (arith, unrounded n k h (omega arith)))
    (λ several.
    ⊎_elim
    (λ e.
    let deeper = at_most_depth (n - n / 2) (k - n / 2) d (omega arith) (omega arith) in
    omega (arith, in_second n (omega arith) (k - n / 2) k (omega arith) (omega arith)))
    (λ e.
    let deeper = at_most_depth (n / 2) k d (omega arith) (omega arith) in
    omega (arith, in_first n (omega arith) k (omega arith)))
    (eq-zero-or-pos (n / 2 - k)))
    (eq-zero-or-pos (n - 1))

-- the last term is the last one of the second part
last_counted : (n : ℕ) → 1 < n
    → get_or (roundings_by_halves n) (n - 1) 0 ≡ suc (get_or (roundings_by_halves (n - n / 2)) (n - n / 2 - 1) 0)
last_counted n h = in_second n h (n - n / 2 - 1) (n - 1) (omega arith) (omega arith)

pub depth_reached : DepthReached
depth_reached n zero h = omega (arith, last_counted n (omega arith))
depth_reached n (suc d) h =
    let deeper = depth_reached (n - n / 2) d (omega arith) in
    omega (arith, last_counted n (omega (arith, pow_pos d)))

-- ---- the counts in order

one_more : (n : ℕ) → roundings_in_order (suc n) ≡ added (roundings_in_order n) (0 ∷ [])
unfolding roundings_in_order fold
one_more n =
    ap (λ k. fold added [] (terms k)) (sym (add-one n))
    ∙ ap (fold added []) (sym (replicate-append-replicate n 1 (0 ∷ [])))
    ∙ fold-append added [] (terms n) (terms 1)

length-in_order : (n : ℕ) → length (roundings_in_order n) ≡ n
unfolding roundings_in_order fold
length-in_order zero = refl
length-in_order (suc n) =
    ap length (one_more n) ∙ length-added (roundings_in_order n) (0 ∷ []) ∙ omega (arith, length-in_order n)

pub each_counted : EachCounted
each_counted n = (length-by_halves n, length-in_order n)

pub in_order_each : InOrderEach
in_order_each zero k h = absurd (omega arith)
in_order_each (suc n) k h =
    let l = length-in_order n in
    rw (one_more n)
    (⊎_elim
    (λ e. added_second (roundings_in_order n) (0 ∷ []) 0 k (omega arith) (omega arith) ∙ omega arith)
    (λ e. added_first (roundings_in_order n) (0 ∷ []) k (omega arith) ∙ omega (arith, in_order_each n k (omega arith)))
    (eq-zero-or-pos (n - k)))
