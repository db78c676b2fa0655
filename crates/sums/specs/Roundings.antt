-- How often each term of a sum is rounded (METHOD 6.4): every addition rounds once, and so every term in it once more.
-- The counts go through the same recursion as the doubles. proofs/Roundings.antt proves the claims. Definitions only.
use Rattle.std.specs.Prelude.{ℕ, suc, ◌-◌, ◌^◌, ◌<◌, ◌≤◌, ◌≡◌, List, [], ◌∷◌, ◌++◌, map, length, get_or, replicate}
use Rattle.lists.specs.Lists.{fold}
use Rattle.sums.specs.Halves.{by_halves}

-- a sum is known by the counts of its terms, in their order: those of two sums, once they are added
abbrev pub added : List ℕ → List ℕ → List ℕ
added xs ys = map suc (xs ++ ys)

-- n terms that were not added yet
abbrev pub terms : ℕ → List (List ℕ)
terms n = replicate n (0 ∷ [])

-- of n terms the roundings of each, by halves, and in order from +0 on, which is no term
unfoldable pub roundings_by_halves : ℕ → List ℕ
roundings_by_halves n = by_halves [] added (terms n)

unfoldable pub roundings_in_order : ℕ → List ℕ
roundings_in_order n = fold added [] (terms n)

-- ---- the claims

-- each of n terms has its count
abbrev pub EachCounted : Type 0
EachCounted = (n : ℕ) → (length (roundings_by_halves n) ≡ n) × (length (roundings_in_order n) ≡ n)

-- by halves a term is rounded at most d times where n is at most 2^d: at most log2 n times, rounded up
abbrev pub AtMostDepth : Type 0
AtMostDepth = (n k d : ℕ) → k < n → n ≤ 2 ^ d → get_or (roundings_by_halves n) k 0 ≤ d

-- and no fewer will do for the last term, which is always in the longer half
abbrev pub DepthReached : Type 0
DepthReached = (n d : ℕ) → 2 ^ d < n → d < get_or (roundings_by_halves n) (n - 1) 0

-- in order term k is rounded once with itself and with each after it, so the first of n terms n times
abbrev pub InOrderEach : Type 0
InOrderEach = (n k : ℕ) → k < n → get_or (roundings_in_order n) k 0 ≡ n - k
