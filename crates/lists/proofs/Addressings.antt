-- Where the slots of rows stand: no two in one place, all within the elements of n rows of w slots. Shown of rows of
-- one width, and of rows with columns behind them for every width and number of rows, by dividing. Assumes nothing.
use Prim.Native.Nat.{ℕ, suc, ◌+◌, ◌*◌, ◌<◌, ◌≤◌}
use mathlib.Core.Path.{◌≡◌, refl, sym, ap, ◌∙◌}
use mathlib.Core.Bool.{Bool, true, false}
use native.Mathlib.Omega.{arith}
use native.Mathlib.Nat.{mul-suc, mul_comm, mul-le-mul_left, mul-le-mul_right}
use lib.Dec.{ltb}
use borrow.Author.Tests.{ltb-true, ltb-false, lt-ltb, le-ltb}
use Rattle.lists.specs.Lists.{choose}
use Rattle.lists.specs.Stores.{in_rows, in_rows_and_columns}

-- slots below w of n rows
pub record Addressing (n w : ℕ) (at : ℕ → ℕ → ℕ) : Type 0 where
  pub within : {i s : ℕ} → i < n → s < w → at i s < w * n
  pub apart : {i j s t : ℕ} → i < n → s < w → j < n → t < w → at i s ≡ at j t → (i ≡ j) × (s ≡ t)

-- ---- two numbers

pub compared : {A : Type 0} (j n : ℕ) → (j < n → A) → (j ≡ n → A) → (n < j → A) → A
compared {A} j n f g h = go (ltb j n) (ltb n j) refl refl
  where
    go : (s t : Bool) → ltb j n ≡ s → ltb n j ≡ t → A
    go true t p q = f (ltb-true j n p)
    go false true p q = h (ltb-true n j q)
    go false false p q = g (omega (arith, ltb-false j n p, ltb-false n j q))

-- ---- rows of one width

-- a row ends where the next begins, at the latest
pub rows_apart : (w : ℕ) {j n : ℕ} → j < n → w * j + w ≤ w * n
rows_apart w {j} h = let m : w * suc j ≤ w * _ = mul-le-mul_left w h in omega (arith, m, mul-suc w j)

-- the place tells the row, and the slot
divided : (w : ℕ) {i j s t : ℕ} → s < w → t < w → w * i + s ≡ w * j + t → (i ≡ j) × (s ≡ t)
divided w {i} {j} hs ht e =
    compared i j
    (λ b. absurd (omega (arith, rows_apart w b)))
    (λ q. let m : w * i ≡ w * j = ap (λ (x : ℕ). w * x) q in (q, omega arith))
    (λ b. absurd (omega (arith, rows_apart w b)))

pub rows_addressing : (n w : ℕ) → Addressing n w (in_rows w)
rows_addressing n w =
    record { within = λ hi hs. omega (arith, rows_apart w hi); apart = λ hi hs hj ht e. divided w hs ht e }

-- ---- rows and columns

module _ (r n i s : ℕ) where
  pub row_slot : s < r → in_rows_and_columns r n i s ≡ r * i + s
  unfolding in_rows_and_columns choose
  row_slot h = rw (lt-ltb s r h)

  pub column_slot : r ≤ s → in_rows_and_columns r n i s ≡ s * n + i
  unfolding in_rows_and_columns choose
  column_slot h = rw (le-ltb s r h)

-- a slot is one of a row or one of a column
placed : {A : Type 0} (r n i s : ℕ) → (s < r → in_rows_and_columns r n i s ≡ r * i + s → A)
    → (r ≤ s → in_rows_and_columns r n i s ≡ n * s + i → A) → A
placed {A} r n i s f g = go (ltb s r) refl
  where
    go : (t : Bool) → ltb s r ≡ t → A
    go true q = let h = ltb-true s r q in f h (row_slot r n i s h)
    go false q =
        let h : r ≤ s = omega (arith, ltb-false s r q) in
        g h (column_slot r n i s h ∙ ap (λ (x : ℕ). x + i) (mul_comm s n))

-- rows end where columns begin
row_below : (r n i j s t : ℕ) → i < n → s < r → r ≤ t → r * i + s < n * t + j
row_below r n i j s t hi hs ht = omega (arith, rows_apart r hi, mul-le-mul_left n ht, mul_comm r n)

pub rows_and_columns : (n w r : ℕ) → r ≤ w → Addressing n w (in_rows_and_columns r n)
rows_and_columns n w r fits =
    record {
      within = λ {i} {s} hi hs.
          placed r n i s
          (λ h e. omega (arith, e, rows_apart r hi, mul-le-mul_right n fits))
          (λ h e. omega (arith, e, rows_apart n hs, mul_comm n w));
      apart = λ {i} {j} {s} {t} hi hs hj ht e.
          placed r n i s
          (λ a p. placed r n j t (λ b q. divided r a b (sym p ∙ e ∙ q))
          (λ b q. absurd (omega (arith, p, q, e, row_below r n i j s t hi a b))))
          (λ a p. placed r n j t (λ b q. absurd (omega (arith, p, q, e, row_below r n j i t s hj b a)))
          (λ b q. let both = divided n hi hj (sym p ∙ e ∙ q) in (both.1, both.0)));
    }
