-- The laws of folds and tables: one element more, one element looked up, equal parts give equal wholes, and what every
-- step keeps. Each by induction on the list or the length. Assumes nothing.
use Prim.Native.Nat.{ℕ, zero, suc, ◌+◌, ◌<◌, ◌≤◌}
use native.Mathlib.Omega.{arith}
use native.Mathlib.Nat.{not-suc-le-zero, le_of_suc-le-suc, zero-add, suc-add}
use mathlib.Core.Path.{◌≡◌, refl, sym, ap, ◌∙◌}
use mathlib.Core.List.{List, [], ◌∷◌, ◌++◌, map, Memᴰ}
use lib.ListN.{length, get_or, take, drop}
use Rattle.lists.specs.Lists.{fold, table}

module _ {A : Type 0} where
  pub length-table : (n : ℕ) (f : ℕ → A) → length (table n f) ≡ n
  unfolding table
  length-table zero f = refl
  length-table (suc n) f = ap suc (length-table n (λ k. f (suc k)))

  pub table_at : (n : ℕ) (f : ℕ → A) (i : ℕ) (d : A) → i < n → get_or (table n f) i d ≡ f i
  unfolding table
  table_at zero f i d h = absurd (not-suc-le-zero h)
  table_at (suc n) f zero d h = refl
  table_at (suc n) f (suc i) d h = table_at n (λ k. f (suc k)) i d (le_of_suc-le-suc h)

  pub table_snoc : (n : ℕ) (f : ℕ → A) → table (suc n) f ≡ table n f ++ (f n ∷ [])
  unfolding table
  table_snoc zero f = refl
  table_snoc (suc n) f = ap (λ l. f zero ∷ l) (table_snoc n (λ k. f (suc k)))

  -- also past the end, where both give d
  pub table_same_at : (f g : ℕ → A) (n i : ℕ) (d : A) → f i ≡ g i → get_or (table n f) i d ≡ get_or (table n g) i d
  unfolding table
  table_same_at f g zero i d q = refl
  table_same_at f g (suc n) zero d q = q
  table_same_at f g (suc n) (suc i) d q = table_same_at (λ k. f (suc k)) (λ k. g (suc k)) n i d q

module _ {A B : Type 0} where
  pub fold-append : (f : A → B → A) (a : A) (xs ys : List B) → fold f a (xs ++ ys) ≡ fold f (fold f a xs) ys
  unfolding fold
  fold-append f a [] ys = refl
  fold-append f a (x ∷ xs) ys = fold-append f (f a x) xs ys

  -- a loop's turn: one element more
  pub fold-table : (f : A → B → A) (a : A) (n : ℕ) (g : ℕ → B)
      → fold f a (table (suc n) g) ≡ f (fold f a (table n g)) (g n)
  unfolding fold
  fold-table f a n g = ap (fold f a) (table_snoc n g) ∙ fold-append f a (table n g) (g n ∷ [])

  -- steps that agree on the list's elements, and equal starts
  pub fold_same : {f g : A → B → A} {a b : A} (xs : List B) → ((x : B) → Memᴰ x xs → (c : A) → f c x ≡ g c x)
      → a ≡ b → fold f a xs ≡ fold g b xs
  unfolding fold
  fold_same [] h q = q
  fold_same {f = f} {g = g} {a = a} {b = b} (x ∷ xs) h q =
      fold_same {f = f} {g = g} {a = f a x} {b = g b x} xs (λ y m. h y (Memᴰ.tail m))
      (h x (Memᴰ.head refl) a ∙ ap (λ c. g c x) q)

-- ---- tables by their values

pub table_same : {A : Type 0} (n : ℕ) (f g : ℕ → A) → ((k : ℕ) → k < n → f k ≡ g k) → table n f ≡ table n g
unfolding table
table_same zero f g h = refl
table_same (suc n) f g h =
    ap (λ x. x ∷ table n (λ k. f (suc k))) (h zero (omega arith))
    ∙ ap (λ l. g zero ∷ l) (table_same n (λ k. f (suc k)) (λ k. g (suc k)) (λ k l. h (suc k) (omega arith)))

-- x is a value of a table
pub record InTable {A : Type 0} (n : ℕ) (f : ℕ → A) (x : A) : Type 0 where
  pub index : ℕ
  pub below : index < n
  pub value : x ≡ f index

pub in_table : {A : Type 0} (n : ℕ) (f : ℕ → A) {x : A} → Memᴰ x (table n f) → InTable n f x
unfolding table
in_table zero f m = elim m [ ]
in_table (suc n) f (Memᴰ.head e) = record { index = 0; below = omega arith; value = e }
in_table (suc n) f (Memᴰ.tail m) =
    let r = in_table n (λ k. f (suc k)) m in
    record { index = suc r.index; below = omega (arith, r.below); value = r.value }

pub table_in : {A : Type 0} (n : ℕ) (f : ℕ → A) (i : ℕ) → i < n → Memᴰ (f i) (table n f)
unfolding table
table_in zero f i h = absurd (not-suc-le-zero h)
table_in (suc n) f zero h = Memᴰ.head refl
table_in (suc n) f (suc i) h = Memᴰ.tail (table_in n (λ k. f (suc k)) i (le_of_suc-le-suc h))

-- a list's values, by number
pub table-map : {A B : Type 0} (f : A → B) (xs : List A) (d : A) → table (length xs) (λ i. f (get_or xs i d)) ≡ map f xs
unfolding table
table-map f [] d = refl
table-map f (x ∷ xs) d = ap (λ l. f x ∷ l) (table-map f xs d)

pub map-table : {A B : Type 0} (f : A → B) (n : ℕ) (g : ℕ → A) → map f (table n g) ≡ table n (λ i. f (g i))
unfolding table
map-table f zero g = refl
map-table {B = B} f (suc n) g = ap (λ (l : List B). f (g 0) ∷ l) (map-table f n (λ k. g (suc k)))

-- what holds of the start, and is kept by every step, holds of the fold
pub fold_keeps : {A B : Type 0} (P : A → Type 0) (f : A → B → A) (a : A) (xs : List B)
    → P a → ((x : B) → Memᴰ x xs → (y : A) → P y → P (f y x)) → P (fold f a xs)
unfolding fold
fold_keeps P f a [] p h = p
fold_keeps P f a (x ∷ xs) p h =
    fold_keeps P f (f a x) xs (h x (Memᴰ.head refl) a p) (λ y m. h y (Memᴰ.tail m))

-- ---- parts of a table

take-table : {A : Type 0} (c n : ℕ) (f : ℕ → A) → c ≤ n → take c (table n f) ≡ table c f
unfolding table
take-table zero n f h = refl
take-table (suc c) zero f h = absurd (not-suc-le-zero h)
take-table {A} (suc c) (suc n) f h =
    ap (λ (xs : List A). f 0 ∷ xs) (take-table c n (λ k. f (suc k)) (le_of_suc-le-suc h))

-- c values from number `from` on
pub part_table : {A : Type 0} (from c n : ℕ) (f : ℕ → A) → from + c ≤ n
    → take c (drop from (table n f)) ≡ table c (λ k. f (from + k))
unfolding table
part_table zero c n f h = take-table c n f (omega arith)
    ∙ table_same c f (λ k. f (0 + k)) (λ k m. ap f (sym (zero-add k)))
part_table (suc from) c zero f h = absurd (omega arith)
part_table (suc from) c (suc n) f h =
    part_table from c n (λ k. f (suc k)) (omega arith)
    ∙ table_same c (λ k. f (suc (from + k))) (λ k. f (suc from + k))
    (λ k m. let e : suc (from + k) ≡ suc from + k = omega arith in ap f e)

-- the first a values, and c more
pub table-add : {A : Type 0} (a c : ℕ) (f : ℕ → A) → table (a + c) f ≡ table a f ++ table c (λ k. f (a + k))
unfolding table
table-add zero c f =
    ap (λ (n : ℕ). table n f) (zero-add c) ∙ table_same c f (λ k. f (0 + k)) (λ k m. ap f (sym (zero-add k)))
table-add {A} (suc a) c f =
    ap (λ (n : ℕ). table n f) (suc-add a c)
    ∙ ap (λ (xs : List A). f 0 ∷ xs)
    (table-add a c (λ k. f (suc k))
    ∙ ap (λ (xs : List A). table a (λ k. f (suc k)) ++ xs)
    (table_same c _ _ (λ k m. let e : suc (a + k) ≡ suc a + k = omega arith in ap f e)))
