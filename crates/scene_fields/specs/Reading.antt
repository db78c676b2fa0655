-- What a read of a double finds, as the walk's own `double` decides it: the double, or its refusal; a reader, moved on
-- behind a double that is not refused; and the header's three doubles that stand by themselves. The step's
-- header is decoded by these reads; its promise does not rest on them. Definitions only.
use Rattle.std.specs.Prelude.{ℕ, List, Float}
use Rattle.std.specs.Borrow.{Bor}
use Rattle.scene_format.specs.Bytes.{double_at}
use Rattle.scene_format.specs.Format.{total_step_size_offset, remaining_time_offset, max_density_error_offset}
use Rattle.scene_format.specs.Refusals.{Walk}
use Rattle.scene_format.specs.declared.Refusal.{Refusal}
use Rattle.std.specs.declared.result.Result.TheVariants.{Ok, Err}
use Rattle.scene_fields.specs.Fields.{double}
use Rattle.std.specs.declared.result.Result.{Result}
use Rattle.scene_fields.specs.declared.reader.HeaderNumbers.{HeaderNumbers}
use Rattle.scene_fields.specs.declared.reader.Reader.{Reader}

-- ---- a double

-- x, of a double that the walk has passed
unfoldable pub read_as : Float → Walk → Result Float Refusal
read_as x (Ok next) = Ok x
read_as x (Err r) = Err r

abbrev pub double_read : List ℕ → ℕ → Result Float Refusal
double_read b at = read_as (double_at b at) (double b at)

-- where a walk has come to; where it is refused, the offset that it is from
unfoldable pub reached : ℕ → Walk → ℕ
reached at (Ok next) = next
reached at (Err r) = at

abbrev pub behind_double : List ℕ → ℕ → ℕ
behind_double b at = reached at (double b at)

-- ---- a reader

abbrev pub reader_at : Bor (List ℕ) → ℕ → Reader
reader_at s at = record { scene = s; at = at }

abbrev pub past_double : Reader → Reader
past_double r = record { scene = r.scene; at = behind_double r.scene.now r.at }

-- ---- the header's numbers

-- of three reads, of which the first refusal counts
unfoldable pub numbers_of : Result Float Refusal → Result Float Refusal → Result Float Refusal
    → Result HeaderNumbers Refusal
numbers_of (Err r) y z = Err r
numbers_of (Ok x) (Err r) z = Err r
numbers_of (Ok x) (Ok y) (Err r) = Err r
numbers_of (Ok x) (Ok y) (Ok z) =
    Ok (record { total_step_size = x; remaining_time = y; max_density_error = z })

-- what a read of them finds
unfoldable pub header_read : List ℕ → Result HeaderNumbers Refusal
header_read b =
    numbers_of (double_read b total_step_size_offset) (double_read b remaining_time_offset)
    (double_read b max_density_error_offset)

-- the numbers as they stand in a header that is accepted
unfoldable pub header_numbers_of : List ℕ → HeaderNumbers
header_numbers_of b =
    record {
      total_step_size = double_at b total_step_size_offset;
      remaining_time = double_at b remaining_time_offset;
      max_density_error = double_at b max_density_error_offset;
    }
