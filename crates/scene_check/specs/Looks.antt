-- The looks that the check of one contact list takes, one for each contact that it reads: the list's count if nothing
-- is refused, else the refused contact's number in the list, plus one. Definitions only.
use Rattle.std.specs.Prelude.{ℕ, ◌+◌, ◌-◌, ◌*◌, ◌/◌, ◌<◌, ◌≡◌, List}
use Rattle.scene_format.specs.Refusals.{place_of}
use Rattle.scene_format.specs.declared.Refusal.{Refusal}
use Rattle.scene_format.specs.declared.Refusal.TheVariants.{DanglingContact}
use Rattle.scene_format.specs.Refusals.{Walk}
use Rattle.std.specs.declared.result.Result.TheVariants.{Ok, Err}
use Rattle.scene_check.specs.Walk.{names}
use Rattle.scene_check.specs.declared.contact_list.Looked.{Looked}

-- by how the walk through n contacts of w bytes ended. A refused contact's number is how many of them stand before it
unfoldable pub looks_of : ℕ → ℕ → ℕ → Walk → ℕ
looks_of w n from (Ok end) = n
looks_of w n from (Err r) = (place_of r - from) / w + 1

-- the check of a list: the walk through its names, and the looks
unfoldable pub names_looked : List ℕ → List ℕ → ℕ → ℕ → ℕ → Looked
names_looked b counts w n from =
    record { walk = names b counts w n from; looks = looks_of w n from (names b counts w n from) }

-- the same, told of an answer alone
pub record LooksTold (w n from : ℕ) (a : Looked) : Type 0 where
  pub passed : {end : ℕ} → a.walk ≡ Ok end → a.looks ≡ n
  pub refused : {r : Refusal} → a.walk ≡ Err r
      → (k : ℕ) × (k < n) × (r ≡ DanglingContact (from + w * k)) × (a.looks ≡ k + 1)
