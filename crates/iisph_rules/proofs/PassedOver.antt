-- The claims of specs/PassedOver.antt: along the averages, under the Rust's criterion, the answer turns to yes with the
-- first that is not a number and stays, and the value stays a number; a fluid without particles leaves no average. By
-- induction on the lists. An ending has both from the last iteration. Assumes nothing.
use Prim.Native.Nat.{ℕ, zero, suc}
use mathlib.Core.Path.{◌≡◌, refl, sym, ap, ◌∙◌}
use mathlib.Core.Bool.{Bool, true, false, cond, true≢false, or-true}
use mathlib.Core.List.{List, [], ◌∷◌}
use native.Mathlib.Omega.{arith}
use lib.Ieee
use lib.Ieee.{Float}
use lib.ListN.{get_or, take, drop}
use lib.Seq.{drop-drop}
use Rattle.math.specs.Real.{larger}
use Rattle.math.proofs.Doubles.{number_or_nan}
use Rattle.math.proofs.Order.{nothing_below_nan}
use Rattle.lists.specs.Lists.{fold, sum}
use Rattle.scene_format.specs.Scene.{Scene}
use Rattle.scene_format.specs.SceneOf.{scene_of}
use Rattle.scene_format.specs.declared.Criterion.{Criterion}
use Rattle.scene_format.specs.declared.Criterion.TheVariants.{Salva}
use Rattle.scene_format.specs.declared.Summation.{Summation}
use Rattle.iisph_rules.specs.Iteration.{averages, no_error, first_error, with_average, error_of, iteration}
use Rattle.iisph_rules.specs.Step.{report_of}
use Rattle.iisph_rules.specs.Answer.{Accepted}
use Rattle.iisph_rules.specs.Endings.{ending_values, ending_error}
use Rattle.iisph_rules.specs.PassedOver.{SomeNan, YesExactly, NanFluid, AveragesOfFluids, iteration_at}
use Rattle.iisph_rules.specs.PassedOver.{EndingOfLast, PassedOverTold}
use Rattle.iisph_rules.specs.declared.IterationError.{IterationError}
use Rattle.iisph_rules.specs.declared.Report.{Report}
use Rattle.iisph_rules.proofs.Iterations.{solution_ending, solution_unswept}
use Rattle.iisph_rules.proofs.Locality.{accepted_report}

-- ---- the value is a number

either_number : (t : Bool) (x y : Float) → Ieee.is_nan x ≡ false → Ieee.is_nan y ≡ false →
    Ieee.is_nan (cond t y x) ≡ false
either_number true x y h k = k
either_number false x y h k = h

pub larger-number : (x y : Float) → Ieee.is_nan x ≡ false → Ieee.is_nan (larger x y) ≡ false
larger-number x y h =
    number_or_nan y (λ q. rw (q, nothing_below_nan x) h) (λ n. either_number (Ieee.lt x y) x y h n)

fold-number : (e : IterationError) (ys : List Float) → Ieee.is_nan e.value ≡ false
    → Ieee.is_nan (fold (with_average Salva) e ys).value ≡ false
unfolding fold with_average
fold-number e [] h = h
fold-number e (y ∷ ys) h = fold-number (with_average Salva e y) ys (larger-number e.value y h)

-- an average that is not a number leaves the error a number
pub error_number : (averages : List Float) → Ieee.is_nan (error_of Salva averages).value ≡ false
unfolding error_of first_error fold Ieee.is_nan Ieee.of_bits
error_number [] = refl
error_number (x ∷ xs) = fold-number _ (x ∷ xs) refl

-- ---- the yes or no

stays_yes : (e : IterationError) (xs : List Float) → e.passed_over ≡ true
    → (fold (with_average Salva) e xs).passed_over ≡ true
unfolding fold with_average
stays_yes e [] h = h
stays_yes e (x ∷ xs) h = stays_yes (with_average Salva e x) xs (rw h)

some_yes : (e : IterationError) (xs : List Float) → SomeNan xs → (fold (with_average Salva) e xs).passed_over ≡ true
unfolding fold with_average Ieee.is_nan
some_yes e [] (k, l, q) = absurd (omega (arith, l))
some_yes e (x ∷ xs) (zero, l, q) = stays_yes (with_average Salva e x) xs (rw q (or-true e.passed_over))
some_yes e (x ∷ xs) (suc k, l, q) = some_yes (with_average Salva e x) xs (k, omega (arith, l), q)

yes_some : (e : IterationError) (xs : List Float) → e.passed_over ≡ false
    → (fold (with_average Salva) e xs).passed_over ≡ true → SomeNan xs
unfolding fold with_average
yes_some e [] h y = absurd (true≢false (sym y ∙ h))
yes_some e (x ∷ xs) h y =
    number_or_nan x (λ q. (0, omega arith, q))
    (λ n. let (k, l, q) = yes_some (with_average Salva e x) xs (rw (h, n)) y in (suc k, omega (arith, l), q))

pub yes_exactly : YesExactly
unfolding error_of first_error fold
yes_exactly [] = (λ y. absurd (true≢false (sym y)), λ (k, l, q). absurd (omega (arith, l)))
yes_exactly (x ∷ xs) = (yes_some _ (x ∷ xs) refl, some_yes _ (x ∷ xs))

-- ---- an average for each fluid that has particles

module _ (summation : Summation) where
  -- a fluid of `count` particles more stands in front
  module _ (count : ℕ) (counts : List ℕ) (terms : List Float) (m : ℕ) where
    behind : drop (sum (take m counts)) (drop count terms) ≡ drop (sum (take (suc m) (count ∷ counts))) terms
    unfolding sum
    behind = drop-drop (sum (take m counts)) count terms

    one_on : NanFluid summation counts (drop count terms) m → NanFluid summation (count ∷ counts) terms (suc m)
    one_on f = record { there = omega (arith, f.there); some = f.some; no_number = rw (← behind) f.no_number }

    one_back : NanFluid summation (count ∷ counts) terms (suc m) → NanFluid summation counts (drop count terms) m
    one_back f = record { there = omega (arith, f.there); some = f.some; no_number = rw behind f.no_number }

  fluid_of : (counts : List ℕ) (terms : List Float) → SomeNan (averages summation counts terms)
      → (m : ℕ) × NanFluid summation counts terms m
  unfolding averages sum
  fluid_of [] terms (k, l, q) = absurd (omega (arith, l))
  fluid_of (zero ∷ counts) terms h = let (m, f) = fluid_of counts terms h in (suc m, one_on zero counts terms m f)
  fluid_of (suc n ∷ counts) terms (zero, l, q) =
      (0, record { there = omega arith; some = omega arith; no_number = q })
  fluid_of (suc n ∷ counts) terms (suc k, l, q) =
      let (m, f) = fluid_of counts (drop (suc n) terms) (k, omega (arith, l), q) in
      (suc m, one_on (suc n) counts terms m f)

  average_of : (counts : List ℕ) (terms : List Float) (m : ℕ) → NanFluid summation counts terms m
      → SomeNan (averages summation counts terms)
  unfolding averages sum
  average_of [] terms m f = absurd (omega (arith, f.there))
  average_of (zero ∷ counts) terms zero f = absurd (omega (arith, f.some))
  average_of (zero ∷ counts) terms (suc m) f = average_of counts terms m (one_back zero counts terms m f)
  average_of (suc n ∷ counts) terms zero f = (0, omega arith, f.no_number)
  average_of (suc n ∷ counts) terms (suc m) f =
      let (k, l, q) = average_of counts (drop (suc n) terms) m (one_back (suc n) counts terms m f) in
      (suc k, omega (arith, l), q)

pub averages_of_fluids : AveragesOfFluids
averages_of_fluids summation counts terms =
    (fluid_of summation counts terms, λ f. average_of summation counts terms f.0 f.1)

-- ---- a step's ending

pub ending_of_last : EndingOfLast
unfolding report_of
ending_of_last b a =
    let same = accepted_report a in
    let number = ap (λ (r : Report). r.iterations) same in (
      λ k e. ap (λ (r : Report). ending_values r.ending) (sym same) ∙ solution_ending (scene_of b) k (number ∙ e),
      λ e. ap (λ (r : Report). r.ending) (sym same) ∙ solution_unswept (scene_of b) (number ∙ e),
    )

error_found : (s : Scene) (k : ℕ) → (iteration_at s k).error ≡ error_of s.header.criterion (iteration_at s k).averages
unfolding iteration_at iteration
error_found s zero = refl
error_found s (suc k) = refl

-- the error that is told is that of the last iteration's averages
pub told_error : (b : List ℕ) (a : Accepted b) (k : ℕ) {c : Criterion} → (scene_of b).header.criterion ≡ c
    → a.report.iterations ≡ suc k → ending_error a.report.ending ≡ error_of c (iteration_at (scene_of b) k).averages
unfolding ending_error
told_error b a k c e =
    let s = scene_of b in
    ap (λ (xs : List IterationError). get_or xs 0 no_error) ((ending_of_last b a).0 k e)
    ∙ error_found s k
    ∙ ap (λ (c : Criterion). error_of c (iteration_at s k).averages) c

pub passed_over_told : PassedOverTold
passed_over_told b a k c e =
    let q = ap (λ (x : IterationError). x.passed_over) (told_error b a k c e) in
    let told = yes_exactly (iteration_at (scene_of b) k).averages in
    (λ y. told.0 (sym q ∙ y), λ h. q ∙ told.1 h)
