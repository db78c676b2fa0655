-- Folds, sums, tables and offsets. `fold` and `choose` are the library's `foldl` and `cond` under names that stay shut:
-- a proof then finds their arguments by unification, where the library's would compute away. Definitions only.
use Rattle.std.specs.Prelude.{ℕ, zero, suc, ◌+◌, Bool, cond}
use mathlib.Core.List.{List, [], ◌∷◌, foldl, foldr}

-- from a on, one element after the other
unfoldable pub fold : {A B : Type 0} → (A → B → A) → A → List B → A
fold f a xs = foldl f a xs

unfoldable pub choose : {A : Type 0} → Bool → A → A → A
choose b x y = cond b x y

-- the numbers of a list, added up
unfoldable pub sum : List ℕ → ℕ
sum ns = foldr ◌+◌ 0 ns

-- f 0, f 1, and so on: n of them
unfoldable pub table : {A : Type 0} → ℕ → (ℕ → A) → List A
table zero f = []
table (suc n) f = f zero ∷ table n (λ k. f (suc k))

-- n steps on from an offset, and the offsets on the way
unfoldable pub iter : ℕ → (ℕ → ℕ) → ℕ → ℕ
iter zero g at = at
iter (suc n) g at = iter n g (g at)

unfoldable pub trail : ℕ → (ℕ → ℕ) → ℕ → List ℕ
trail zero g at = []
trail (suc n) g at = at ∷ trail n g (g at)

-- of parts with these lengths, one behind the other: where each begins, the first at a
unfoldable pub starts_from : ℕ → List ℕ → List ℕ
starts_from a [] = []
starts_from a (n ∷ ns) = a ∷ starts_from (a + n) ns
