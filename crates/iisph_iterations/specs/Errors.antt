-- The error of an iteration as a loop over the fluids makes it: the terms of one fluid, and the error so far
-- with their average. Scaffolding: no promise rests on it. Definitions only.
use Rattle.std.specs.Prelude.{ℕ, zero, suc, ◌+◌, ◌*◌, List, Option, Some, None, Float}
use Rattle.iisph_rows.specs.Rows.{quotient_slot, element_at, column}
use Rattle.iisph_rules.specs.Iteration.{average, with_average, first_error, error_of}
use Rattle.iisph_rules.specs.declared.IterationError.{IterationError}
use Rattle.lists.specs.Lists.{fold, table}
use Rattle.scene_format.specs.declared.Criterion.{Criterion}
use Rattle.scene_format.specs.declared.Summation.{Summation}

-- of n particles, for d axes, the error terms of `count` from particle `from` on, and of all
abbrev pub terms_from : List Float → ℕ → ℕ → ℕ → ℕ → List Float
terms_from work d n from count = table count (λ k. element_at work (quotient_slot d * n + (from + k)))

abbrev pub terms_in : ℕ → ℕ → List Float → List Float
terms_in d n work = column n (quotient_slot d) work

-- the error of the averages so far, if there are any, with one more
unfoldable pub joined : Criterion → Option IterationError → Float → IterationError
joined criterion None x = first_error criterion x
joined criterion (Some error) x = with_average criterion error x

-- with the average of a fluid of n particles; an empty fluid has none
unfoldable pub with_fluid : Criterion → Summation → Option IterationError → ℕ → List Float → Option IterationError
with_fluid criterion summation error zero terms = error
with_fluid criterion summation error (suc n) terms = Some (joined criterion error (average summation (suc n) terms))

-- with the averages xs
unfoldable pub error_on : Criterion → Option IterationError → List Float → IterationError
error_on criterion None xs = error_of criterion xs
error_on criterion (Some error) xs = fold (with_average criterion) error xs
