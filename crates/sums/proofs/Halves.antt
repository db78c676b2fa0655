-- The sum by halves meets its three equations, and it alone: both parts of a list of two or more are shorter than the
-- list, so its length is as good a bound as any larger one. By induction on the bound. Assumes nothing.
use Prim.Native.Nat.{ℕ, zero, suc, ◌-◌, ◌/◌, ◌<◌, ◌≤◌}
use native.Mathlib.Omega.{arith}
use native.Mathlib.Nat.{le_refl}
use mathlib.Core.Path.{◌≡◌, refl, ap₂, ◌∙◌}
use mathlib.Core.List.{List, [], ◌∷◌}
use lib.ListN.{length, length-take, length-drop}
use Rattle.sums.specs.Halves.{first_half, second_half, halved_at_most, by_halves, AddsByHalves, TheSumByHalves}

module _ {A : Type 0} (xs : List A) where
  length_first : length (first_half xs) ≡ length xs / 2
  length_first = rw length-take (omega arith)

  pub length_second : length (second_half xs) ≡ length xs - length xs / 2
  length_second = length-drop _ xs

module _ {A : Type 0} (none : A) (add : A → A → A) where
  -- any two bounds that are large enough
  enough : (m n : ℕ) (xs : List A) → length xs ≤ m → length xs ≤ n
      → halved_at_most m none add xs ≡ halved_at_most n none add xs
  unfolding halved_at_most
  enough zero zero xs h l = refl
  enough zero (suc n) [] h l = refl
  enough zero (suc n) (x ∷ xs) h l = absurd (omega arith)
  enough (suc m) zero [] h l = refl
  enough (suc m) zero (x ∷ xs) h l = absurd (omega arith)
  enough (suc m) (suc n) [] h l = refl
  enough (suc m) (suc n) (x ∷ []) h l = refl
  enough (suc m) (suc n) (x ∷ y ∷ xs) h l =
      let zs = x ∷ y ∷ xs in
      ap₂ add (enough m n (first_half zs) (omega (arith, length_first zs)) (omega (arith, length_first zs)))
      (enough m n (second_half zs) (omega (arith, length_second zs)) (omega (arith, length_second zs)))

  -- whatever adds by halves agrees with it
  agrees : (f : List A → A) → AddsByHalves none add f → (m : ℕ) (xs : List A) → length xs ≤ m
      → f xs ≡ halved_at_most m none add xs
  unfolding halved_at_most
  agrees f a zero [] h = a.empty
  agrees f a zero (x ∷ xs) h = absurd (omega arith)
  agrees f a (suc m) [] h = a.empty
  agrees f a (suc m) (x ∷ []) h = a.single x
  agrees f a (suc m) (x ∷ y ∷ xs) h =
      let zs = x ∷ y ∷ xs in
      a.longer zs (omega arith)
      ∙ ap₂ add (agrees f a m (first_half zs) (omega (arith, length_first zs)))
      (agrees f a m (second_half zs) (omega (arith, length_second zs)))

  by_halves_longer : (xs : List A) → 1 < length xs
      → by_halves none add xs ≡ add (by_halves none add (first_half xs)) (by_halves none add (second_half xs))
  unfolding by_halves halved_at_most
  by_halves_longer [] h = absurd (omega arith)
  by_halves_longer (x ∷ []) h = absurd (omega arith)
  by_halves_longer (x ∷ y ∷ xs) h =
      let zs = x ∷ y ∷ xs in
      let m = suc (length xs) in
      ap₂ add (enough m _ (first_half zs) (omega (arith, length_first zs)) (le_refl _))
      (enough m _ (second_half zs) (omega (arith, length_second zs)) (le_refl _))

  pub adds_by_halves : AddsByHalves none add (by_halves none add)
  unfolding by_halves halved_at_most
  adds_by_halves = record { empty = refl; single = λ x. refl; longer = by_halves_longer }

pub the_sum_by_halves : TheSumByHalves
unfolding by_halves
the_sum_by_halves =
    record {
      adds = adds_by_halves;
      alone = λ none add f a xs. agrees none add f a (length xs) xs (le_refl _);
    }
