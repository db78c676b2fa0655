-- The first zero of a list of doubles: it is what a search through the list finds, and what refuses a step. By the law
-- of a search, and by whether one was found. Assumes nothing.
use Prim.Native.Nat.{ℕ, ◌+◌, ◌-◌, ◌<◌, ◌≤◌}
use mathlib.Core.Path.{◌≡◌, refl, sym, ap, ◌∙◌}
use mathlib.Core.Bool.{Bool, true, false, cond}
use mathlib.Core.List.{List}
use native.Mathlib.Omega.{arith}
use lib.Ieee.{Float, nan}
use borrow.Author.Tests.{lt-ltb, ltb-true}
use lib.Dec.{ltb}
use lib.ListN.{length, get_or, take, drop}
use Rattle.std.specs.List.{position, position_or_len}
use Rattle.std.proofs.lemmas.List.Recursion.{is_position_or_len}
use Rattle.math.specs.Real.{is_zero}
use Rattle.lists.specs.Lists.{choose}
use Rattle.lists.specs.Stores.{elements}
use Rattle.lists.proofs.Fills.{table_list}
use Rattle.lists.proofs.Lists.{length-table, part_table}
use Rattle.iisph_rules.specs.Step.{first_zero, unless_zero}
use Rattle.iisph_rows.specs.Passes.{found_below}
use Rattle.scene_format.specs.declared.Refusal.{Refusal}
use Rattle.iisph_rules.specs.Step.{StepAnswer}
use Rattle.std.specs.declared.option.Option.{Option}
use Rattle.std.specs.declared.result.Result.TheVariants.{Err}
use Rattle.std.specs.declared.option.Option.TheVariants.{Some, None}

first_zero_is : (xs : List Float) → first_zero xs ≡ position_or_len is_zero xs
unfolding first_zero choose
first_zero_is =
    is_position_or_len first_zero is_zero refl (λ x xs. ap (cond (is_zero x) 0) (omega arith))

-- of n elements from k on, as a search through that part of the list answers it
pub found_is : (k n : ℕ) (l : List Float) → k + n ≤ length l → {r : Option ℕ}
    → r ≡ position is_zero (take (k + n - k) (drop k l)) → r ≡ found_below n (first_zero (elements nan n k l))
unfolding found_below choose
found_is k n l h e =
    let part : take (k + n - k) (drop k l) ≡ elements nan n k l =
    ap (λ (m : ℕ). take m (drop k l)) (omega arith)
    ∙ ap (λ (xs : List Float). take n (drop k xs)) (sym (table_list (length l) l nan refl))
    ∙ part_table k n (length l) (λ i. get_or l i nan) h in
    e ∙ rw (part, ← first_zero_is (elements nan n k l), length-table n (λ e. get_or l (k + e) nan))

-- ---- refused at the first zero

found_go : (n j i : ℕ) (t : Bool) → ltb j n ≡ t → Some i ≡ choose t (Some j) None → (j < n) × (i ≡ j)
unfolding choose
found_go n j i true q e = (ltb-true j n q, cc)
found_go n j i false q e = let z : ◌≡◌ {A = ℕ} 0 1 = cc in absurd (omega arith)

nothing_go : (n j : ℕ) (t : Bool) → ltb j n ≡ t → None ≡ choose t (Some j) None → ltb j n ≡ false
unfolding choose
nothing_go n j true q e = let z : ◌≡◌ {A = ℕ} 0 1 = cc in absurd (omega arith)
nothing_go n j false q e = q

-- a number that was found is below n
found_below_lem : (n j : ℕ) {i : ℕ} → Some i ≡ found_below n j → (j < n) × (i ≡ j)
unfolding found_below
found_below_lem n j {i} e = found_go n j i (ltb j n) refl e

pub found_lt : (n j : ℕ) {i : ℕ} → Some i ≡ found_below n j → i < n
found_lt n j e = let f = found_below_lem n j e in omega (arith, f.0, f.1)

module _ (at : ℕ → ℕ) (refusal : ℕ → Refusal) (xs : List Float) (answer : StepAnswer) {n : ℕ}
    (size : length xs ≡ n) where
  pub unless_found : {i : ℕ} → Some i ≡ found_below n (first_zero xs)
      → unless_zero at refusal xs answer ≡ Err (refusal (at i))
  unfolding unless_zero choose
  unless_found e =
      let f = found_below_lem n (first_zero xs) e in
      rw (size, lt-ltb (first_zero xs) n f.0, f.1)

  pub unless_nothing : None ≡ found_below n (first_zero xs) → unless_zero at refusal xs answer ≡ answer
  unfolding unless_zero choose found_below
  unless_nothing e = rw (size, nothing_go n (first_zero xs) (ltb (first_zero xs) n) refl e)
