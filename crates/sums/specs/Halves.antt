-- The sum by halves (METHOD 6.4): of a list of one its element; a longer list is split after the first half of its
-- length, rounded down, and the sums of the two parts are added. It is said for any addition, so that the recursion
-- that adds doubles is also the one that counts their roundings (Roundings). proofs/Halves.antt proves the claim.
-- Definitions only.
use Rattle.std.specs.Prelude.{ℕ, zero, suc, ◌/◌, ◌<◌, ◌≡◌, List, [], ◌∷◌, Float, length, take, drop}
use Rattle.math.specs.Real.{◌⊕◌, +0}

-- the first part of a list, and the second, which is the longer one where their lengths differ
abbrev pub first_half : {A : Type 0} → List A → List A
first_half xs = take (length xs / 2) xs

abbrev pub second_half : {A : Type 0} → List A → List A
second_half xs = drop (length xs / 2) xs

-- an empty list comes to `none`, and so does any where the bound `most` is used up
unfoldable pub halved_at_most : {A : Type 0} → ℕ → A → (A → A → A) → List A → A
halved_at_most zero none add xs = none
halved_at_most (suc most) none add [] = none
halved_at_most (suc most) none add (x ∷ []) = x
halved_at_most (suc most) none add (x ∷ y ∷ xs) =
    let zs = x ∷ y ∷ xs in
    add (halved_at_most most none add (first_half zs)) (halved_at_most most none add (second_half zs))

-- the length is a bound that no list uses up: each part is shorter than what is split
unfoldable pub by_halves : {A : Type 0} → A → (A → A → A) → List A → A
by_halves none add xs = halved_at_most (length xs) none add xs

-- of doubles; of none it is +0
abbrev pub sum_by_halves : List Float → Float
sum_by_halves xs = by_halves +0 ◌⊕◌ xs

-- ---- the claim

-- f adds by halves: no bound on the splits is spoken of
pub record AddsByHalves {A : Type 0} (none : A) (add : A → A → A) (f : List A → A) : Type 0 where
  pub empty : f [] ≡ none
  pub single : (x : A) → f (x ∷ []) ≡ x
  pub longer : (xs : List A) → 1 < length xs → f xs ≡ add (f (first_half xs)) (f (second_half xs))

-- by_halves does, and nothing else does
pub record TheSumByHalves : Type 1 where
  pub adds : {A : Type 0} (none : A) (add : A → A → A) → AddsByHalves none add (by_halves none add)
  pub alone : {A : Type 0} (none : A) (add : A → A → A) (f : List A → A) → AddsByHalves none add f
      → (xs : List A) → f xs ≡ by_halves none add xs
