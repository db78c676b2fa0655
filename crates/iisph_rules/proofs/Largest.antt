-- The claims of specs/Largest.antt: the larger of three is the same from either end, so an error is the larger of the
-- first average and of the error of the others, and the claims follow by induction on the averages. A step settles with
-- an error that meets the limit, and no average is greater. Assumes nothing.
use Prim.Native.Nat.{ℕ, zero, suc, ◌<◌}
use mathlib.Core.Path.{◌≡◌, refl, sym, ap, ◌∙◌}
use mathlib.Core.Bool.{Bool, true, false, cond, true≢false}
use mathlib.Core.List.{List, [], ◌∷◌}
use native.Mathlib.Omega.{arith}
use lib.Ieee
use lib.Ieee.{Float, nan}
use lib.ListN.{length, get_or}
use Rattle.math.specs.Real.{+0, is_nan, larger}
use Rattle.math.proofs.Doubles.{number_or_nan}
use Rattle.math.proofs.Order.{not_lt_trans, le_numbers, lt_le, not_lt_le, le_refl, le_trans, lt_trans}
use Rattle.lists.specs.Lists.{fold}
use Rattle.scene_format.specs.SceneOf.{scene_of}
use Rattle.scene_format.specs.declared.Criterion.TheVariants.{Ihmsen}
use Rattle.iisph_rules.specs.Iteration.{first_error, with_average, error_of}
use Rattle.iisph_rules.specs.Step.{report_of}
use Rattle.iisph_rules.specs.Endings.{ending_values, ending_error}
use Rattle.iisph_rules.specs.PassedOver.{SomeNan, iteration_at}
use Rattle.iisph_rules.specs.Largest.{NanExactly, LargestAt, EarliestLargest, NothingPassedOver, SettledWithin}
use Rattle.iisph_rules.specs.Largest.{NothingTold}
use Rattle.iisph_rules.specs.declared.IterationError.{IterationError}
use Rattle.iisph_rules.specs.declared.Ending.{Ending}
use Rattle.iisph_rules.specs.declared.Report.{Report}
use Rattle.iisph_rules.proofs.Iterations.{solution_meets}
use Rattle.iisph_rules.proofs.PassedOver.{larger-number, ending_of_last, told_error}
use Rattle.iisph_rules.proofs.Locality.{accepted_report}

-- ---- the error from the front

larger_assoc : (x y z : Float) → is_nan y ≡ false → larger (larger x y) z ≡ larger x (larger y z)
larger_assoc x y z n = go (Ieee.lt x y) (Ieee.lt y z) refl refl
  where
    go : (t u : Bool) → Ieee.lt x y ≡ t → Ieee.lt y z ≡ u → larger (cond t y x) z ≡ larger x (cond u z y)
    go true true h k = rw (k, lt_trans x y z h k)
    go true false h k = rw (h, k)
    go false true h k = refl
    go false false h k = rw (h, not_lt_trans x y z n h k)

-- an error's value v with one average x more
abbrev larger_or_nan : Float → Float → Float
larger_or_nan v x = cond (is_nan x) x (larger v x)

nan_stays : (x : Float) → larger_or_nan nan x ≡ nan
unfolding Ieee.lt Ieee.is_nan
nan_stays x = number_or_nan x (λ q. rw q) (λ n. rw n)

or_nan_assoc : (x y z : Float) → larger_or_nan (larger_or_nan x y) z ≡ larger_or_nan x (larger_or_nan y z)
unfolding Ieee.is_nan
or_nan_assoc x y z =
    number_or_nan z (λ q. rw q)
    (λ n. number_or_nan y (λ q. rw (q, nan_stays z)) (λ p. rw (n, p, larger-number y z p) (larger_assoc x y z p)))

fold_front : (x y : Float) (ys : List Float)
    → fold larger_or_nan (larger_or_nan x y) ys ≡ larger_or_nan x (fold larger_or_nan y ys)
unfolding fold
fold_front x y [] = refl
fold_front x y (z ∷ ys) = rw or_nan_assoc (fold_front x (larger_or_nan y z) ys)

fold_is : (v : Float) (xs : List Float)
    → fold (with_average Ihmsen) (record { value = v; passed_over = false }) xs
    ≡ record { value = fold larger_or_nan v xs; passed_over = false }
unfolding fold with_average
fold_is v [] = refl
fold_is v (x ∷ xs) = fold_is (larger_or_nan v x) xs

error_is : (x : Float) (xs : List Float)
    → error_of Ihmsen (x ∷ xs) ≡ record { value = fold larger_or_nan x xs; passed_over = false }
unfolding error_of first_error
error_is x xs = fold_is x xs

pub nothing_passed_over : NothingPassedOver
unfolding error_of
nothing_passed_over [] = refl
nothing_passed_over (x ∷ xs) = ap (λ (e : IterationError). e.passed_over) (error_is x xs)

error_one : (x : Float) → (error_of Ihmsen (x ∷ [])).value ≡ x
unfolding fold
error_one x = ap (λ (e : IterationError). e.value) (error_is x [])

error_front : (x y : Float) (ys : List Float)
    → (error_of Ihmsen (x ∷ y ∷ ys)).value ≡ larger_or_nan x (error_of Ihmsen (y ∷ ys)).value
unfolding fold
error_front x y ys = rw (error_is x (y ∷ ys), error_is y ys) (fold_front x y ys)

-- ---- not a number

not_both : {x : Float} → x ≡ nan → is_nan x ≡ false → ⊥
unfolding Ieee.is_nan
not_both q n = true≢false (ap Ieee.is_nan (sym q) ∙ n)

nan_some : (xs : List Float) → (error_of Ihmsen xs).value ≡ nan → SomeNan xs
unfolding error_of Ieee.is_nan Ieee.of_bits
nan_some [] h = absurd (not_both h refl)
nan_some (x ∷ []) h = (0, omega arith, sym (error_one x) ∙ h)
nan_some (x ∷ y ∷ ys) h =
    let m = (error_of Ihmsen (y ∷ ys)).value in
    number_or_nan x (λ q. (0, omega arith, q))
    (λ n. number_or_nan m (λ q. let (k, l, r) = nan_some (y ∷ ys) q in (suc k, omega (arith, l), r))
    (λ p. absurd (not_both (sym (error_front x y ys) ∙ h) (rw p (larger-number x m n)))))

some_nan : (xs : List Float) → SomeNan xs → (error_of Ihmsen xs).value ≡ nan
unfolding Ieee.is_nan
some_nan [] (k, l, q) = absurd (omega (arith, l))
some_nan (x ∷ []) (zero, l, q) = error_one x ∙ q
some_nan (x ∷ []) (suc k, l, q) = absurd (omega (arith, l))
some_nan (x ∷ y ∷ ys) (zero, l, q) = rw (error_front, q) (nan_stays (error_of Ihmsen (y ∷ ys)).value)
some_nan (x ∷ y ∷ ys) (suc k, l, q) = rw (error_front, some_nan (y ∷ ys) (k, omega (arith, l), q))

pub nan_exactly : NanExactly
nan_exactly xs = (nan_some xs, some_nan xs)

-- ---- the largest

each_number : (xs : List Float) → (SomeNan xs → ⊥) → (j : ℕ) → j < length xs → is_nan (get_or xs j +0) ≡ false
each_number xs n j l = number_or_nan (get_or xs j +0) (λ q. absurd (n (j, l, q))) (λ p. p)

first_and_others : (P : ℕ → Type 0) → P 0 → ((j : ℕ) → P (suc j)) → (j : ℕ) → P j
first_and_others P h k zero = h
first_and_others P h k (suc j) = k j

-- with one average more in front, that is the largest unless it is less
in_front : (x : Float) (xs : List Float) (k : ℕ) → LargestAt xs k → is_nan x ≡ false → is_nan (get_or xs k +0) ≡ false
    → (error_of Ihmsen (x ∷ xs)).value ≡ larger x (get_or xs k +0) → (i : ℕ) × LargestAt (x ∷ xs) i
in_front x xs k at n p v = go (Ieee.lt x (get_or xs k +0)) refl
  where
    go : (t : Bool) → Ieee.lt x (get_or xs k +0) ≡ t → (i : ℕ) × LargestAt (x ∷ xs) i
    go true q = (
      suc k,
      record {
        there = omega (arith, at.there);
        value = rw q at v;
        greatest = first_and_others _ (λ _. lt_le x _ q) (λ j l. at.greatest j (omega (arith, l)));
        earliest = first_and_others _ (λ _. q) (λ j l. at.earliest j (omega (arith, l)));
      },
    )
    go false q = (
      0,
      record {
        there = omega arith;
        value = rw q at v;
        greatest = first_and_others _ (λ _. le_refl x n)
            (λ j l. le_trans _ _ _ (at.greatest j (omega (arith, l))) (not_lt_le x _ n p q));
        earliest = λ j l. absurd (omega (arith, l));
      },
    )

pub earliest_largest : EarliestLargest
earliest_largest [] h n = absurd (omega (arith, h))
earliest_largest (x ∷ []) h n = (
  0,
  record {
    there = h;
    value = error_one x;
    greatest = first_and_others _ (λ _. le_refl x (each_number (x ∷ []) n 0 h)) (λ j l. absurd (omega (arith, l)));
    earliest = λ j l. absurd (omega (arith, l));
  },
)
earliest_largest (x ∷ y ∷ ys) h n =
    let (k, at) = earliest_largest (y ∷ ys) (omega arith) (λ (i, l, q). n (suc i, omega (arith, l), q)) in
    let number = each_number (x ∷ y ∷ ys) n in
    let p = number (suc k) (omega (arith, at.there)) in
    in_front x (y ∷ ys) k at (number 0 h) p (rw (error_front, at.value, p))

-- ---- a step that settled

-- where the error is at most the limit, every average is
within : (limit : Float) (xs : List Float) → Ieee.le (error_of Ihmsen xs).value limit ≡ true
    → (j : ℕ) → j < length xs → Ieee.le (get_or xs j +0) limit ≡ true
within limit xs h j l =
    let n : SomeNan xs → ⊥ = λ s. not_both (some_nan xs s) (le_numbers _ limit h).0 in
    let (k, at) = earliest_largest xs (omega (arith, l)) n in
    le_trans _ _ limit (at.greatest j l) (rw at.value at h)

pub settled_within : SettledWithin
unfolding ending_error ending_values report_of
settled_within b a k error passed_over c e q =
    let s = scene_of b in
    let met = solution_meets s error passed_over (ap (λ (r : Report). r.ending) (accepted_report a) ∙ q) in
    let v = ap (λ (x : IterationError). x.value) (sym (ap ending_error q) ∙ told_error b a k c e) in
    within s.header.max_density_error (iteration_at s k).averages (rw v at met)

pub nothing_told : NothingTold
unfolding ending_error ending_values
nothing_told b a c = go a.report.iterations refl
  where
    go : (n : ℕ) → a.report.iterations ≡ n → (ending_error a.report.ending).passed_over ≡ false
    go zero e = ap (λ (x : Ending). (ending_error x).passed_over) ((ending_of_last b a).1 e)
    go (suc k) e =
        ap (λ (x : IterationError). x.passed_over) (told_error b a k c e)
        ∙ nothing_passed_over (iteration_at (scene_of b) k).averages
