-- What a list holds, and what stores make of one: runs of elements, and rows of which some slots are stored, wherever
-- an addressing has them. An element past the end counts as d. Definitions only.
use Rattle.std.specs.Prelude.{ℕ, zero, suc, ◌+◌, ◌*◌, ◌<◌, ◌≤◌, ◌≡◌, List, [], ◌∷◌, ltb, length, get_or, set}
use Rattle.std.proofs.lemmas.List.Edits.{sets}
use Rattle.lists.specs.Lists.{choose, table}

-- ---- elements

-- the k-th element
abbrev pub element_at : {A : Type 0} → A → List A → ℕ → A
element_at d l k = get_or l k d

-- n elements from the k-th on
abbrev pub elements : {A : Type 0} → A → ℕ → ℕ → List A → List A
elements d n k l = table n (λ e. get_or l (k + e) d)

-- from element k on the list holds xs
pub record Part {A : Type 0} (d : A) (k : ℕ) (xs l : List A) : Type 0 where
  pub holds : (j : ℕ) → j < length xs → get_or l (k + j) d ≡ get_or xs j d

-- xs is stored in a list from element `at` on, where it fits, and the position after it is answered
pub record Writes {A : Type 0} (out : List A) (at : ℕ) (xs after : List A) (next : ℕ) : Type 0 where
  pub stored : after ≡ sets out at xs
  pub long : length after ≡ length out
  pub ends : next ≡ at + length xs
  pub within : next ≤ length after

-- ---- rows of slots. Where slot s of row i stands is said by an addressing, `at i s`.

-- rows of w elements, one behind the other
abbrev pub in_rows : ℕ → ℕ → ℕ → ℕ
in_rows w i s = w * i + s

-- of n rows the first r slots in rows of r elements, then each further slot in a column of n elements: column s begins
-- at element s * n
unfoldable pub in_rows_and_columns : ℕ → ℕ → ℕ → ℕ → ℕ
in_rows_and_columns r n i s = choose (ltb s r) (r * i + s) (s * n + i)

-- in one row, whose slot s is element `at s`, the slots from k on become these values
unfoldable pub set_slots : {A : Type 0} → (ℕ → ℕ) → ℕ → List A → List A → List A
set_slots at k [] l = l
set_slots at k (v ∷ vs) l = set_slots at (suc k) vs (set l (at k) v)

-- in each of the first n rows the slots from k on become what f says of the row's number
unfoldable pub stored_at : {A : Type 0} → (ℕ → ℕ → ℕ) → ℕ → ℕ → (ℕ → List A) → List A → List A
stored_at at zero k f l = l
stored_at at (suc n) k f l = set_slots (at n) k (f n) (stored_at at n k f l)

-- the same, in rows of width w
abbrev pub stored : {A : Type 0} → ℕ → ℕ → ℕ → (ℕ → List A) → List A → List A
stored w n k f l = stored_at (in_rows w) n k f l

-- in each of the first n rows the slots from k on hold what f says
pub record Rows {A : Type 0} (d : A) (at : ℕ → ℕ → ℕ) (n k : ℕ) (f : ℕ → List A) (l : List A) : Type 0 where
  pub holds : (i : ℕ) → i < n → (e : ℕ) → e < length (f i) → get_or l (at i (k + e)) d ≡ get_or (f i) e d
