-- The rule and the fall of the whole table: one test, computed over all entries, and what it says of the entry at each
-- place. Assumes nothing.
use mathlib.Core.Path.{◌≡◌, subst, ◌∙◌}
use mathlib.Core.Bool.{Bool, true, false, ◌&&◌, ◌||◌}
use mathlib.Core.List.{List, [], ◌∷◌}
use Prim.Native.Nat.{ℕ, zero, suc, ◌+◌, ◌<◌, ◌≤◌}
use native.Mathlib.Nat.{le_of_suc-le-suc, not-suc-le-zero}
use native.Mathlib.Omega.{arith}
use lib.Dec.{T, leb, ltb, eqb, ltb→lt, eqb→eq}
use lib.ListN.{length, get_or}
use borrow.Author.Tests.{lt-leb}
use Rattle.weight_table.specs.Table.{steps, entry_of, TablePromise}
use Rattle.weight_table.proofs.Entry.{entry_exact, entry_gentle}

both : (a b : Bool) → T (a && b) → T a × T b
both true b t = (tt, t)
both false b t = absurd t

other : (a b : Bool) → a ≡ false → T (a || b) → T b
other a b e t = subst (λ (z : Bool). T (z || b)) e t

-- the test passes at each place with what stands there
abbrev pub every : (ℕ → ℕ → Bool) → List ℕ → Bool
every p [] = true
every p (x ∷ xs) = p 0 x && every (λ k. p (suc k)) xs

at_each : (p : ℕ → ℕ → Bool) (xs : List ℕ) → T (every p xs) → (k : ℕ) → k < length xs → T (p k (get_or xs k 0))
at_each p [] t k h = absurd (not-suc-le-zero h)
at_each p (x ∷ xs) t zero h = (both (p 0 x) (every (λ k. p (suc k)) xs) t).0
at_each p (x ∷ xs) t (suc k) h =
    at_each (λ j. p (suc j)) xs (both (p 0 x) (every (λ k. p (suc k)) xs) t).1 k (le_of_suc-le-suc h)

-- x follows the rule at k, and lies above the next entry, if there is one
unfoldable pub right : ℕ → ℕ → Bool
right k x = eqb x (entry_of k) && (leb steps k || ltb (entry_of (k + 1)) x)

module _ (l : List ℕ) (n : length l ≡ steps + 1) (t : T (every right l)) where
  passed : (k : ℕ) → k ≤ steps
      → T (eqb (get_or l k 0) (entry_of k)) × T (leb steps k || ltb (entry_of (k + 1)) (get_or l k 0))
  unfolding right
  passed k h =
      both (eqb (get_or l k 0) (entry_of k)) (leb steps k || ltb (entry_of (k + 1)) (get_or l k 0))
      (at_each right l t k (omega arith))

  ruled : (k : ℕ) → k ≤ steps → get_or l k 0 ≡ entry_of k
  ruled k h = eqb→eq (get_or l k 0) (entry_of k) (passed k h).0

  falling : (k : ℕ) → k < steps → get_or l (k + 1) 0 < get_or l k 0
  falling k h =
      rw (ruled (k + 1) (omega arith))
      (ltb→lt _ _ (other (leb steps k) (ltb (entry_of (k + 1)) (get_or l k 0)) (lt-leb steps k h)
      (passed k (omega arith)).1))

  pub tabled : TablePromise l
  unfolding entry_of
  tabled = record {
    long = n;
    rule = ruled;
    exact = λ k h. ruled k h ∙ entry_exact k;
    first = ruled 0 (omega arith);
    falls = falling;
    gently = λ k h. rw (ruled k (omega arith), ruled (k + 1) (omega arith)) (entry_gentle k);
    last = ruled steps (omega arith);
  }
