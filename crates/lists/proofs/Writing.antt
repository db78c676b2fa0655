-- Lists stored one behind the other: two are stored as the longer one that they make, a loop stores one more, and none
-- of it moves the length. By induction on the first. Assumes nothing.
use Prim.Native.Nat.{ℕ, zero, suc, ◌+◌, ◌≤◌, ◌<◌}
use mathlib.Core.Path.{◌≡◌, refl, sym, ap, ◌∙◌}
use mathlib.Core.Bool.{Bool, true, false}
use mathlib.Core.List.{List, [], ◌∷◌, ◌++◌, flatten}
use native.Mathlib.Numerals.{add-one}
use native.Mathlib.Nat.{add-zero}
use native.Mathlib.Omega.{arith}
use lib.Dec.{ltb}
use lib.ListN.{length, get_or, take, set, length-append}
use lib.Seq.{sets, length-sets, set_comm, length-take-le, take-suc}
use borrow.Author.Tests.{ltb-true, ltb-false}
use Rattle.lists.specs.Lists.{table}
use Rattle.lists.specs.Stores.{Writes}
use Rattle.lists.proofs.Fills.{sets-append}
use Rattle.lists.proofs.Rows.{rows_next}

-- ---- stores

module _ {A : Type 0} where
  -- a store behind a run of stores may come first
  pub sets-set : (xs l : List A) (at j : ℕ) (v : A) → at + length xs ≤ j
      → set (sets l at xs) j v ≡ sets (set l j v) at xs
  sets-set [] l at j v h = refl
  sets-set (x ∷ xs) l at j v h =
      sets-set xs (set l at x) (suc at) j v (omega arith)
      ∙ ap (λ (m : List A). sets m (suc at) xs) (set_comm l at j x v (λ e. omega arith))

-- ---- one behind the other

module _ {A : Type 0} {out : List A} {at : ℕ} where
  pub stores : {text after : List A} {next : ℕ} → after ≡ sets out at text → next ≡ at + length text → next ≤ length out
      → Writes out at text after next
  stores {text} e n h =
      let l = ap length e ∙ length-sets out at text in
      record { stored = e; long = l; ends = n; within = omega arith }

  pub none_written : at ≤ length out → Writes out at [] out at
  none_written h = stores refl (sym (add-zero at)) h

  infixl 50 ◌then◌
  pub ◌then◌ : {xs ys o o' : List A} {n n' : ℕ} → Writes out at xs o n → Writes o n ys o' n'
      → Writes out at (xs ++ ys) o' n'
  ◌then◌ {xs} {ys} p q =
      stores (q.stored ∙ rw (p.stored, p.ends) (sym (sets-append xs ys out at)))
      (omega (arith, p.ends, q.ends, length-append xs ys))
      (omega (arith, p.long, q.long, q.within))

-- one element after the other
pub one_more_set : {A : Type 0} (d : A) (xs l : List A) (at i : ℕ) {out : List A} → i < length xs
    → out ≡ sets l at (take i xs)
    → set out (at + i) (get_or xs i d) ≡ sets l at (take (i + 1) xs)
one_more_set d xs l at i h e =
    let n : length (take i xs) ≡ i = length-take-le i xs (omega arith) in
    rw (add-one i, take-suc xs i d h, sets-append (take i xs) (get_or xs i d ∷ []) l at, n, e)

-- ---- n lists

module _ {A : Type 0} (f : ℕ → List A) where
  pub next_written : {out : List A} {at i : ℕ} {o o' : List A} {n n' : ℕ} → Writes out at (flatten (table i f)) o n
      → Writes o n (f i) o' n'
      → Writes out at (flatten (table (i + 1) f)) o' n'
  next_written {i = i} p q = rw (add-one i, rows_next i f) (p then q)

  -- room for all is room for each
  pub room_upto : (n i : ℕ) → i < n → length (flatten (table i f)) + length (f i) ≤ length (flatten (table n f))
  room_upto zero i h = absurd (omega arith)
  room_upto (suc n) i h = go (ltb i n) refl (room_upto n i)
    where
      go : (t : Bool) → ltb i n ≡ t
          → (i < n → length (flatten (table i f)) + length (f i) ≤ length (flatten (table n f)))
          → length (flatten (table i f)) + length (f i) ≤ length (flatten (table (suc n) f))
      go true q r =
          omega (arith, r (ltb-true i n q), ap length (rows_next n f), length-append (flatten (table n f)) (f n))
      go false q r =
          let e : i ≡ n = omega (arith, ltb-false i n q) in
          rw e (omega (arith, ap length (rows_next n f), length-append (flatten (table n f)) (f n)))
