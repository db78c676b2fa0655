-- What reads find: a double that is there and finite is read, and the next read begins behind it; so the header's
-- numbers are read one after the other, each at its own offset. By cases on what the walk says of each double. Assumes
-- nothing.
use Prim.Native.Nat.{ℕ, ◌+◌}
use mathlib.Core.Path.{◌≡◌, refl, ◌∙◌}
use mathlib.Core.List.{List}
use native.Mathlib.Omega.{arith}
use borrow.Author.Tests.{ne_eqb}
use Rattle.lists.specs.Lists.{choose}
use Rattle.scene_format.specs.Bytes.{double_width, FiniteAt}
use Rattle.scene_format.specs.Format.{total_step_size_offset, remaining_time_offset, max_density_error_offset}
use Rattle.scene_format.specs.declared.Refusal.{Refusal}
use Rattle.scene_format.specs.Refusals.{Walk}
use Rattle.std.specs.declared.result.Result.TheVariants.{Ok, Err}
use Rattle.scene_fields.specs.Fields.{refused_if, double}
use Rattle.scene_fields.specs.Reading.{read_as, double_read, reached, behind_double, numbers_of, header_numbers_of}
use Rattle.scene_fields.specs.Reading.{header_read}
use Rattle.scene_fields.specs.declared.reader.HeaderNumbers.{HeaderNumbers}
use Rattle.std.specs.declared.result.Result.{Result}
use Rattle.scene_fields.proofs.Reached.{double-steps}
use Rattle.scene_fields.proofs.Walks.{field_there}

module _ (b : List ℕ) where
  pub double_there : {at : ℕ} → FiniteAt b at → double b at ≡ Ok (at + double_width)
  unfolding double refused_if choose
  double_there ok = field_there b _ _ _ ok.present ∙ rw (ne_eqb _ _ ok.finite)

  pub numbers_found : FiniteAt b total_step_size_offset → FiniteAt b remaining_time_offset →
      FiniteAt b max_density_error_offset
      → header_read b ≡ Ok (header_numbers_of b)
  unfolding header_read header_numbers_of numbers_of read_as
  numbers_found x y z = rw (double_there x, double_there y, double_there z)

  -- each number read where the one before it ends
  abbrev pub read_in_turn : Result HeaderNumbers Refusal
  read_in_turn =
      let second = behind_double b total_step_size_offset in
      numbers_of (double_read b total_step_size_offset) (double_read b second) (double_read b (behind_double b second))

  -- once one is refused, the rest do not count
  pub read_in_turn_lem : read_in_turn ≡ header_read b
  unfolding header_read numbers_of read_as reached
  read_in_turn_lem = first (double b total_step_size_offset) refl
    where
      second : {x : ℕ} → double b total_step_size_offset ≡ Ok x → (w : Walk) → double b remaining_time_offset ≡ w
          → read_in_turn ≡ header_read b
      second p (Err r) q = rw (p, (double-steps b _ _ p).0, q)
      second p (Ok y) q = rw (p, (double-steps b _ _ p).0, q, (double-steps b _ _ q).0)

      first : (w : Walk) → double b total_step_size_offset ≡ w → read_in_turn ≡ header_read b
      first (Err r) p = rw p
      first (Ok x) p = second p (double b remaining_time_offset) refl

-- numbers that are found are not refused, and are those
pub not_refused : {A : Type 0} {n : HeaderNumbers} {r : Refusal} → Ok n ≡ Err r → A
not_refused q = let z : ◌≡◌ {A = ℕ} 0 1 = cc in absurd (omega arith)

pub found_numbers : {m n : HeaderNumbers} → ◌≡◌ {A = Result HeaderNumbers Refusal} (Ok m) (Ok n) → m ≡ n
found_numbers q = cc
