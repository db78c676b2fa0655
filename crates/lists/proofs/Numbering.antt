-- Flat numbers: when some lists are flatten, element j of the m-th stands at the start of the m-th plus j, and every
-- flat number is of that form. Each by induction on the lists. Assumes nothing.
use Prim.Native.Nat.{ℕ, zero, suc, ◌+◌, ◌*◌, ◌-◌, ◌<◌, ◌≤◌}
use mathlib.Core.Path.{◌≡◌, refl, sym, ap, ◌∙◌}
use mathlib.Core.Bool.{Bool, true, false}
use mathlib.Core.List.{List, [], ◌∷◌, ◌++◌, map, flatten, append-nil, append_assoc}
use native.Mathlib.Nat.{not-suc-le-zero, le_of_suc-le-suc, zero-add, add-zero, add-suc, mul-zero, mul-suc}
use native.Mathlib.Numerals.{add-one}
use native.Mathlib.Omega.{arith}
use lib.Dec.{ltb}
use lib.ListN.{length, get_or, length-append, length-map, get_or-append}
use lib.Seq.{get_or-append-add}
use borrow.Author.Tests.{ltb-true, ltb-false}
use Rattle.lists.specs.Lists.{sum, table, iter, trail, starts_from}

-- ---- trails

module _ (g : ℕ → ℕ) where
  pub length-trail : (n at : ℕ) → length (trail n g at) ≡ n
  unfolding trail
  length-trail zero at = refl
  length-trail (suc n) at = ap suc (length-trail n (g at))

  pub trail_at : (n at i : ℕ) → i < n → get_or (trail n g at) i 0 ≡ iter i g at
  unfolding trail iter
  trail_at zero at i h = absurd (not-suc-le-zero h)
  trail_at (suc n) at zero h = refl
  trail_at (suc n) at (suc i) h = trail_at n (g at) i (le_of_suc-le-suc h)

  iter_snoc : (n at : ℕ) → iter (suc n) g at ≡ g (iter n g at)
  unfolding iter
  iter_snoc zero at = refl
  iter_snoc (suc n) at = iter_snoc n (g at)

  pub iter_next : (n at : ℕ) → iter (n + 1) g at ≡ g (iter n g at)
  iter_next n at = rw add-one (iter_snoc n at)

  module _ {A : Type 0} where
    pub trail-table : (f : ℕ → A) (n at : ℕ) → map f (trail n g at) ≡ table n (λ j. f (iter j g at))
    unfolding trail iter table
    trail-table f zero at = refl
    trail-table f (suc n) at = ap (λ (l : List A). f at ∷ l) (trail-table f n (g at))

    -- one step more
    pub trail_next : (f : ℕ → List A) (n at : ℕ)
        → flatten (map f (trail (suc n) g at)) ≡ flatten (map f (trail n g at)) ++ f (iter n g at)
    unfolding trail iter flatten
    trail_next f zero at = append-nil (f at)
    trail_next f (suc n) at = ap (λ (l : List A). f at ++ l) (trail_next f n (g at)) ∙ sym (append_assoc (f at) _ _)

pub get_d_map : {A B : Type 0} (f : A → B) (l : List A) (i : ℕ) (d : A) (d' : B) → i < length l
    → get_or (map f l) i d' ≡ f (get_or l i d)
get_d_map f [] i d d' h = absurd (not-suc-le-zero h)
get_d_map f (x ∷ l) zero d d' h = refl
get_d_map f (x ∷ l) (suc i) d d' h = get_d_map f l i d d' (le_of_suc-le-suc h)

-- ---- starts

pub length_starts : (a : ℕ) (ns : List ℕ) → length (starts_from a ns) ≡ length ns
unfolding starts_from
length_starts a [] = refl
length_starts a (n ∷ ns) = ap suc (length_starts (a + n) ns)

-- from a later start, as much later
starts_from_lem : (a : ℕ) (ns : List ℕ) (m : ℕ) → m < length ns
    → get_or (starts_from a ns) m 0 ≡ a + get_or (starts_from 0 ns) m 0
unfolding starts_from
starts_from_lem a [] m h = absurd (not-suc-le-zero h)
starts_from_lem a (n ∷ ns) zero h = omega arith
starts_from_lem a (n ∷ ns) (suc m) h =
    omega (arith, starts_from_lem (a + n) ns m (le_of_suc-le-suc h), starts_from_lem (0 + n) ns m (le_of_suc-le-suc h))

pub start_below : (ns : List ℕ) (m j : ℕ) → m < length ns → j < get_or ns m 0 → get_or (starts_from 0 ns) m 0 + j
    < sum ns
unfolding starts_from sum
start_below [] m j h k = absurd (not-suc-le-zero h)
start_below (n ∷ ns) zero j h k = omega arith
start_below (n ∷ ns) (suc m) j h k =
    omega (arith, start_below ns m j (le_of_suc-le-suc h) k, starts_from_lem (0 + n) ns m (le_of_suc-le-suc h))

pub start_at_most : (a : ℕ) (ns : List ℕ) (m : ℕ) → get_or (starts_from a ns) m 0 ≤ a + sum ns
unfolding starts_from sum
start_at_most a [] m = omega arith
start_at_most a (n ∷ ns) zero = omega arith
start_at_most a (n ∷ ns) (suc m) = omega (arith, start_at_most (a + n) ns m)

-- a model starts where the one before it ends, and the last ends with the sum
pub starts_next : (ns : List ℕ) (m : ℕ) → suc m < length ns
    → get_or (starts_from 0 ns) (suc m) 0 ≡ get_or (starts_from 0 ns) m 0 + get_or ns m 0
unfolding starts_from
starts_next [] m h = absurd (not-suc-le-zero h)
starts_next (n ∷ []) zero h = absurd (omega arith)
starts_next (n ∷ x ∷ ns) zero h = refl
starts_next (n ∷ ns) (suc m) h =
    let l = le_of_suc-le-suc h in
    omega (arith, starts_from_lem (0 + n) ns (suc m) l, starts_from_lem (0 + n) ns m (omega arith), starts_next ns m l)

pub starts_last : (ns : List ℕ) (m : ℕ) → suc m ≡ length ns → get_or (starts_from 0 ns) m 0 + get_or ns m 0 ≡ sum ns
unfolding starts_from sum
starts_last [] m h = absurd (omega arith)
starts_last (n ∷ []) zero h = omega arith
starts_last (n ∷ x ∷ ns) zero h = absurd (omega arith)
starts_last (n ∷ ns) (suc m) h = omega (
  arith,
  starts_from_lem (0 + n) ns m (omega arith),
  starts_last ns m (omega arith),
)

-- ---- sums

-- one number more
pub sum_next : (n : ℕ) (f : ℕ → ℕ) → sum (table (suc n) f) ≡ sum (table n f) + f n
unfolding table sum
sum_next zero f = omega arith
sum_next (suc n) f = omega (arith, sum_next n (λ k. f (suc k)))

pub sum_more : (f : ℕ → ℕ) (n d : ℕ) → sum (table n f) ≤ sum (table (n + d) f)
sum_more f n zero = rw add-zero (omega arith)
sum_more f n (suc d) = rw add-suc (omega (arith, sum_more f n d, sum_next (n + d) f))

pub sum-append : (xs ys : List ℕ) → sum (xs ++ ys) ≡ sum xs + sum ys
unfolding sum
sum-append [] ys = omega arith
sum-append (x ∷ xs) ys = omega (arith, sum-append xs ys)

pub sum_few : (c : ℕ) (ns : List ℕ) → ((m : ℕ) → m < length ns → get_or ns m 0 ≤ c) → sum ns ≤ c * length ns
unfolding sum
sum_few c [] h = omega arith
sum_few c (n ∷ ns) h =
    omega (arith, h 0 (omega arith), sum_few c ns (λ m l. h (suc m) (omega arith)), mul-suc c (length ns))

-- n times the same
pub sum_same : (w n : ℕ) → sum (table n (λ i. w)) ≡ w * n
unfolding table sum
sum_same w zero = omega (arith, mul-zero w)
sum_same w (suc n) = omega (arith, sum_same w n, mul-suc w n)

-- the model and the number in it that a flat number stands for
pub record Numbered (ns : List ℕ) (i : ℕ) : Type 0 where
  pub model : ℕ
  pub number : ℕ
  pub is_model : model < length ns
  pub is_number : number < get_or ns model 0
  pub flat : get_or (starts_from 0 ns) model 0 + number ≡ i

pub numbered : (ns : List ℕ) (i : ℕ) → i < sum ns → Numbered ns i
unfolding sum starts_from
numbered [] i h = absurd (not-suc-le-zero h)
numbered (n ∷ ns) i h = go (ltb i n) refl (numbered ns (i - n))
  where
    go : (t : Bool) → ltb i n ≡ t → (i - n < sum ns → Numbered ns (i - n)) → Numbered (n ∷ ns) i
    go true q r = record {
      model = 0;
      number = i;
      is_model = omega arith;
      is_number = ltb-true i n q;
      flat =
          zero-add i;
    }
    go false q r =
        let le = ltb-false i n q in
        let s = r (omega arith) in
        record {
          model = suc s.model;
          number = s.number;
          is_model = omega (arith, s.is_model);
          is_number = s.is_number;
          flat = omega (arith, starts_from_lem (0 + n) ns s.model s.is_model, s.flat);
        }

-- ---- lists flatten

module _ {A : Type 0} where
  pub length-flatten : (xss : List (List A)) → length (flatten xss) ≡ sum (map length xss)
  unfolding flatten sum
  length-flatten [] = refl
  length-flatten (xs ∷ xss) = length-append xs (flatten xss) ∙ ap (λ n. length xs + n) (length-flatten xss)

  pub flatten_at : (xss : List (List A)) (m j : ℕ) (d : A) → m < length xss → j < length (get_or xss m [])
      → get_or (flatten xss) (get_or (starts_from 0 (map length xss)) m 0 + j) d ≡ get_or (get_or xss m []) j d
  unfolding flatten starts_from
  flatten_at [] m j d h k = absurd (not-suc-le-zero h)
  flatten_at (xs ∷ xss) zero j d h k = rw zero-add (get_or-append xs (flatten xss) d j k)
  flatten_at (xs ∷ xss) (suc m) j d h k =
      let ns : List ℕ = map length xss in
      let e : get_or (starts_from (0 + length xs) ns) m 0 + j ≡ length xs + (get_or (starts_from 0 ns) m 0 + j) =
      omega (arith, starts_from_lem (0 + length xs) ns m (rw length-map (le_of_suc-le-suc h))) in
      ap (λ i. get_or (xs ++ flatten xss) i d) e ∙ get_or-append-add xs (flatten xss) _ d
      ∙ flatten_at xss m j d (le_of_suc-le-suc h) k
