-- The laws of filling a list from an element on, one value after the other: one value more is a store behind those
-- done. By what a longer table is. Assumes nothing.
use Prim.Native.Nat.{ℕ, zero, suc, ◌+◌, ◌<◌, ◌≤◌}
use mathlib.Core.Path.{◌≡◌, refl, sym, ap, subst, ◌∙◌}
use mathlib.Core.List.{List, [], ◌∷◌, ◌++◌}
use native.Mathlib.Nat.{not-suc-le-zero, le_of_suc-le-suc, add-zero, zero-add, le_antisymm}
use native.Mathlib.Numerals.{add-one}
use native.Mathlib.Omega.{arith}
use lib.ListN.{length, get_or, set, replicate, drop, length-set}
use lib.Seq.{sets}
use Rattle.lists.specs.Lists.{table}
use Rattle.lists.proofs.Lists.{length-table, table_snoc}

-- ---- one value after the other

module _ {A : Type 0} where
  pub sets-append : (xs ys l : List A) (k : ℕ) → sets l k (xs ++ ys) ≡ sets (sets l k xs) (k + length xs) ys
  sets-append [] ys l k = ap (λ (j : ℕ). sets l j ys) (sym (add-zero k))
  sets-append (x ∷ xs) ys l k =
      let e : suc k + length xs ≡ k + suc (length xs) = omega arith in
      sets-append xs ys (set l k x) (suc k) ∙ ap (λ (j : ℕ). sets (sets (set l k x) (suc k) xs) j ys) e

  pub table_copies : (n : ℕ) (x : A) → table n (λ i. x) ≡ replicate n x
  unfolding table
  table_copies zero x = refl
  table_copies (suc n) x = ap (λ (l : List A). x ∷ l) (table_copies n x)

  pub table_list : (n : ℕ) (xs : List A) (d : A) → length xs ≡ n → table n (λ i. get_or xs i d) ≡ xs
  unfolding table
  table_list zero [] d e = refl
  table_list zero (x ∷ xs) d e = absurd (omega arith)
  table_list (suc n) [] d e = absurd (omega arith)
  table_list (suc n) (x ∷ xs) d e = ap (λ (l : List A). x ∷ l) (table_list n xs d (omega arith))

-- of n values the first i are stored in l, from element k on; this gave x
pub record Filling {A : Type 0} (l : List A) (k : ℕ) (f : ℕ → A) (n i : ℕ) (x : List A) : Type 0 where
  pub within : i ≤ n
  pub long : length x ≡ length l
  pub stored : x ≡ sets l k (table i f)

module _ {A : Type 0} (l : List A) (k : ℕ) (f : ℕ → A) (n : ℕ) where
  pub none_stored : Filling l k f n 0 l
  unfolding table
  none_stored = record { within = omega arith; long = refl; stored = refl }

  module _ {i : ℕ} {x : List A} (here : Filling l k f n i x) where
    pub one_more_stored : i < n → {v : A} → v ≡ f i → Filling l k f n (i + 1) (set x (k + i) v)
    one_more_stored h {v} e =
        record {
          within = omega arith;
          long = length-set x (k + i) v ∙ here.long;
          stored =
              rw (here.stored, e, add-one i, table_snoc i f)
              (sym (sets-append (table i f) (f i ∷ []) l k
              ∙ ap (λ (j : ℕ). set (sets l k (table i f)) (k + j) (f i)) (length-table i f)));
        }

    pub all_stored : n ≤ i → {vs : List A} → table n f ≡ vs → x ≡ sets l k vs
    all_stored h e =
        here.stored ∙ ap (λ (j : ℕ). sets l k (table j f)) (le_antisymm here.within h)
        ∙ ap (λ (vs : List A). sets l k vs) e

-- from the front on
pub one_more_in_front : {A : Type 0} (l : List A) (f : ℕ → A) (n : ℕ) {i : ℕ} {x : List A} → Filling l 0 f n i x
    → i < n → {v : A} → v ≡ f i → Filling l 0 f n (i + 1) (set x i v)
one_more_in_front l f n {i} {x} here h {v} e =
    subst (λ (k : ℕ). Filling l 0 f n (i + 1) (set x k v)) (zero-add i) (one_more_stored l 0 f n here h e)

-- ---- clearing: the first elements become a, one by one

pub cleared : {A : Type 0} (xs : List A) (i : ℕ) (a : A) → i < length xs
    → set (replicate i a ++ drop i xs) i a ≡ replicate (suc i) a ++ drop (suc i) xs
cleared [] i a h = absurd (not-suc-le-zero h)
cleared (x ∷ xs) zero a h = refl
cleared {A} (x ∷ xs) (suc i) a h = ap (λ (r : List A). a ∷ r) (cleared xs i a (le_of_suc-le-suc h))
