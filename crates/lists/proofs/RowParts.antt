-- What stands in some slots of every row follows from what stands in more of them, a part of the values or one value,
-- and from equal values. Each reads the rows once. Assumes nothing.
use Prim.Native.Nat.{ℕ, zero, suc, ◌+◌, ◌<◌}
use mathlib.Core.Path.{◌≡◌, sym, ap, ◌∙◌, subst}
use mathlib.Core.List.{List, [], ◌∷◌}
use native.Mathlib.Nat.{add-zero, add_assoc, not-suc-le-zero, le_of_suc-le-suc}
use lib.ListN.{length, get_or}
use Rattle.lists.specs.Stores.{Rows}

-- ---- parts of rows: what stands from element e of each row on

module _ {A : Type 0} {d : A} {at : ℕ → ℕ → ℕ} {n k : ℕ} {f : ℕ → List A} {l : List A} (q : Rows d at n k f l)
    (e : ℕ) where
  pub rows_part : (g : ℕ → List A)
      → ((i : ℕ) → i < n → (a : ℕ) → a < length (g i)
      → (e + a < length (f i)) × (get_or (f i) (e + a) d ≡ get_or (g i) a d))
      → Rows d at n (k + e) g l
  rows_part g h =
      record {
        holds = λ i m a c.
            ap (λ (j : ℕ). get_or l (at i j) d) (add_assoc k e a) ∙ q.holds i m (e + a) (h i m a c).0 ∙ (h i m a c).1;
      }

  -- one value
  pub rows-one : (x : ℕ → A) → ((i : ℕ) → i < n → (e < length (f i)) × (get_or (f i) e d ≡ x i))
      → Rows d at n (k + e) (λ i. x i ∷ []) l
  rows-one x h = rows_part (λ i. x i ∷ []) (λ i m a c. one i a c (h i m))
    where
      one : (i a : ℕ) → a < 1 → (e < length (f i)) × (get_or (f i) e d ≡ x i)
          → (e + a < length (f i)) × (get_or (f i) (e + a) d ≡ get_or (x i ∷ []) a d)
      one i zero c p = rw add-zero p
      one i (suc a) c p = absurd (not-suc-le-zero (le_of_suc-le-suc c))

-- ---- equal values

pub rows_same : {A : Type 0} {d : A} {at : ℕ → ℕ → ℕ} {n k : ℕ} {f g : ℕ → List A} {l : List A}
    → ((i : ℕ) → i < n → f i ≡ g i) → Rows d at n k f l → Rows d at n k g l
rows_same {A} {d} {n = n} {k} {f} {g} {l} h q =
    record {
      holds = λ i m e c. q.holds i m e (subst (λ (xs : List A). e < length xs) (sym (h i m)) c)
          ∙ ap (λ (xs : List A). get_or xs e d) (h i m);
    }
