-- Rows laid end to end in a list: how long they are; one row more, found, read, stored into. By induction on the rows
-- before; a run of stores within another run is a store into what the other stores. Assumes nothing.
use Prim.Native.Nat.{ℕ, zero, suc, ◌+◌, ◌<◌, ◌≤◌}
use mathlib.Core.Path.{◌≡◌, refl, sym, ap, ◌∙◌}
use mathlib.Core.List.{List, [], ◌∷◌, ◌++◌, flatten, append-nil, append_assoc}
use native.Mathlib.Nat.{not-suc-le-zero, le_of_suc-le-suc, zero-add, add-zero, add-suc, suc-add, suc_inj}
use native.Mathlib.Omega.{arith}
use lib.ListN.{length, get_or, set, take, drop, length-append, length-set, get_or-append}
use lib.Seq.{sets, take_at, drop-append-add, get_or-append-add, set-append_left, set-set, set_comm}
use Rattle.lists.specs.Lists.{sum, table}
use Rattle.lists.proofs.Lists.{table_same}

module _ {A : Type 0} where
  -- ---- runs of stores

  pub sets-cons : (x : A) (l : List A) (k : ℕ) (vs : List A) → sets (x ∷ l) (suc k) vs ≡ x ∷ sets l k vs
  sets-cons x l k [] = refl
  sets-cons x l k (v ∷ vs) = sets-cons x (set l k v) (suc k) vs

  -- as long as the list
  pub sets_whole : (l vs : List A) → length vs ≡ length l → sets l 0 vs ≡ vs
  sets_whole [] [] h = refl
  sets_whole [] (v ∷ vs) h = absurd (omega arith)
  sets_whole (x ∷ l) [] h = absurd (omega arith)
  sets_whole (x ∷ l) (v ∷ vs) h = sets-cons v l 0 vs ∙ ap (λ (r : List A). v ∷ r) (sets_whole l vs (omega arith))

  sets_left : (xs ys : List A) (k : ℕ) (vs : List A) → k + length vs ≤ length xs
      → sets (xs ++ ys) k vs ≡ sets xs k vs ++ ys
  sets_left xs ys k [] h = refl
  sets_left xs ys k (v ∷ vs) h =
      ap (λ (l : List A). sets l (suc k) vs) (set-append_left xs ys k v (omega arith))
      ∙ sets_left (set xs k v) ys (suc k) vs (omega (arith, length-set xs k v))

  sets_right : (xs ys : List A) (k : ℕ) (vs : List A) → sets (xs ++ ys) (length xs + k) vs ≡ xs ++ sets ys k vs
  sets_right [] ys k vs = ap (λ (j : ℕ). sets ys j vs) (zero-add k)
  sets_right (x ∷ xs) ys k vs =
      ap (λ (j : ℕ). sets (x ∷ (xs ++ ys)) j vs) (suc-add (length xs) k)
      ∙ sets-cons x (xs ++ ys) (length xs + k) vs
      ∙ ap (λ (r : List A). x ∷ r) (sets_right xs ys k vs)

  -- a store before a run of stores
  set_before : (xs l : List A) (i k : ℕ) (v : A) → k < i → set (sets l i xs) k v ≡ sets (set l k v) i xs
  set_before [] l i k v h = refl
  set_before (x ∷ xs) l i k v h =
      set_before xs (set l i x) (suc i) k v (omega arith)
      ∙ ap (λ (r : List A). sets r (suc i) xs) (set_comm l i k x v (λ e. omega arith))

  set_inside : (xs l : List A) (k e : ℕ) (v : A) → e < length xs → set (sets l k xs) (k + e) v ≡ sets l k (set xs e v)
  set_inside [] l k e v h = absurd (not-suc-le-zero h)
  set_inside (x ∷ xs) l k zero v h =
      ap (λ (j : ℕ). set (sets (set l k x) (suc k) xs) j v) (add-zero k)
      ∙ set_before xs (set l k x) (suc k) k v (omega arith)
      ∙ ap (λ (r : List A). sets r (suc k) xs) (set-set l k x v)
  set_inside (x ∷ xs) l k (suc e) v h =
      let q : k + suc e ≡ suc k + e = omega arith in
      ap (λ (j : ℕ). set (sets (set l k x) (suc k) xs) j v) q
      ∙ set_inside xs (set l k x) (suc k) e v (le_of_suc-le-suc h)

  pub sets_inside : (vs xs l : List A) (k e : ℕ) → e + length vs ≤ length xs
      → sets (sets l k xs) (k + e) vs ≡ sets l k (sets xs e vs)
  sets_inside [] xs l k e h = refl
  sets_inside (v ∷ vs) xs l k e h =
      let q : suc (k + e) ≡ k + suc e = omega arith in
      ap (λ (r : List A). sets r (suc (k + e)) vs) (set_inside xs l k e v (omega arith))
      ∙ ap (λ (j : ℕ). sets (sets l k (set xs e v)) j vs) q
      ∙ sets_inside vs (set xs e v) l k (suc e) (omega (arith, length-set xs e v))

  -- ---- rows more

  pub rows_next : (n : ℕ) (f : ℕ → List A) → flatten (table (suc n) f) ≡ flatten (table n f) ++ f n
  unfolding table flatten
  rows_next zero f = append-nil (f 0)
  rows_next (suc n) f = ap (λ (r : List A). f 0 ++ r) (rows_next n (λ k. f (suc k))) ∙ sym (append_assoc (f 0) _ _)

  pub rows_none : (f : ℕ → List A) → flatten (table 0 f) ≡ []
  unfolding table flatten
  rows_none f = refl

  pub rows-add : (a c : ℕ) (f : ℕ → List A)
      → flatten (table (a + c) f) ≡ flatten (table a f) ++ flatten (table c (λ p. f (a + p)))
  rows-add a zero f = rw (add-zero a, rows_none (λ p. f (a + p))) (sym (append-nil _))
  rows-add a (suc c) f =
      ap (λ (n : ℕ). flatten (table n f)) (add-suc a c)
      ∙ rows_next (a + c) f
      ∙ ap (λ (r : List A). r ++ f (a + c)) (rows-add a c f)
      ∙ append_assoc (flatten (table a f)) _ _
      ∙ ap (λ (r : List A). flatten (table a f) ++ r) (sym (rows_next c (λ p. f (a + p))))

  -- ---- one row of n, each as long as g says

  pub length-rows : (n : ℕ) (f : ℕ → List A) (g : ℕ → ℕ) → ((i : ℕ) → i < n → length (f i) ≡ g i)
      → length (flatten (table n f)) ≡ sum (table n g)
  unfolding table flatten sum
  length-rows zero f g h = refl
  length-rows (suc n) f g h =
      omega (
        arith,
        length-append (f 0) (flatten (table n (λ i. f (suc i)))),
        h 0 (omega arith),
        length-rows n (λ i. f (suc i)) (λ i. g (suc i)) (λ i l. h (suc i) (omega arith)),
      )

  -- row i stands behind the rows before it
  pub row_at_lem : (n : ℕ) (f : ℕ → List A) (g : ℕ → ℕ) → ((i : ℕ) → i < n → length (f i) ≡ g i)
      → (rest : List A) (i : ℕ) → i < n
      → take (g i) (drop (sum (table i g)) (flatten (table n f) ++ rest)) ≡ f i
  unfolding table flatten sum
  row_at_lem zero f g h rest i l = absurd (not-suc-le-zero l)
  row_at_lem (suc n) f g h rest zero l = rw append_assoc (take_at (f 0) _ (g 0) (h 0 l))
  row_at_lem (suc n) f g h rest (suc i) l =
      rw (← h 0 (omega arith), append_assoc, drop-append-add)
      (row_at_lem n (λ k. f (suc k)) (λ k. g (suc k)) (λ k m. h (suc k) (omega arith)) rest i (le_of_suc-le-suc l))

  pub row_read : (n : ℕ) (f : ℕ → List A) (g : ℕ → ℕ) → ((i : ℕ) → i < n → length (f i) ≡ g i) → (t e : ℕ) (d : A)
      → t < n → e < length (f t)
      → get_or (flatten (table n f)) (sum (table t g) + e) d ≡ get_or (f t) e d
  unfolding table flatten sum
  row_read zero f g h t e d l m = absurd (not-suc-le-zero l)
  row_read (suc n) f g h zero e d l m =
      ap (λ (j : ℕ). get_or (f 0 ++ flatten (table n (λ k. f (suc k)))) j d) (zero-add e) ∙ get_or-append (f 0) _ d e m
  row_read (suc n) f g h (suc t) e d l m =
      let q : g 0 + sum (table t (λ k. g (suc k))) + e ≡ length (f 0) + (sum (table t (λ k. g (suc k))) + e) =
      omega (arith, h 0 (omega arith)) in
      ap (λ (j : ℕ). get_or (f 0 ++ flatten (table n (λ k. f (suc k)))) j d) q
      ∙ get_or-append-add (f 0) _ _ d
      ∙ row_read n (λ k. f (suc k)) (λ k. g (suc k)) (λ i r. h (suc i) (omega arith)) t e d (le_of_suc-le-suc l) m

  -- f' are the rows afterwards
  pub row_store : (n : ℕ) (f f' : ℕ → List A) (g : ℕ → ℕ) → ((i : ℕ) → i < n → length (f i) ≡ g i)
      → (t k : ℕ) (vs : List A) → t < n → k + length vs ≤ length (f t)
      → f' t ≡ sets (f t) k vs → ((j : ℕ) → j < n → (j ≡ t → ⊥) → f' j ≡ f j)
      → sets (flatten (table n f)) (sum (table t g) + k) vs ≡ flatten (table n f')
  unfolding table flatten sum
  row_store zero f f' g h t k vs l m e o = absurd (not-suc-le-zero l)
  row_store (suc n) f f' g h zero k vs l m e o =
      let rest : List A = flatten (table n (λ j. f (suc j))) in
      let q = table_same n (λ j. f' (suc j)) (λ j. f (suc j)) (λ j r. o (suc j) (omega arith) (λ z. omega arith)) in
      ap (λ (j : ℕ). sets (f 0 ++ rest) j vs) (zero-add k)
      ∙ sets_left (f 0) rest k vs m
      ∙ ap (λ (r : List A). r ++ rest) (sym e)
      ∙ ap (λ (rs : List (List A)). f' 0 ++ flatten rs) (sym q)
  row_store (suc n) f f' g h (suc t) k vs l m e o =
      let rest : List A = flatten (table n (λ j. f (suc j))) in
      let at = sum (table t (λ j. g (suc j))) in
      let q : g 0 + at + k ≡ length (f 0) + (at + k) = omega (arith, h 0 (omega arith)) in
      ap (λ (j : ℕ). sets (f 0 ++ rest) j vs) q
      ∙ sets_right (f 0) rest (at + k) vs
      ∙ ap (λ (r : List A). r ++ sets rest (at + k) vs) (sym (o 0 (omega arith) (λ z. omega arith)))
      ∙ ap (λ (r : List A). f' 0 ++ r)
      (row_store n (λ j. f (suc j)) (λ j. f' (suc j)) (λ j. g (suc j)) (λ i r. h (suc i) (omega arith)) t k vs
      (le_of_suc-le-suc l) m e
      (λ j r z. o (suc j) (omega arith) (λ w. z (suc_inj w))))
