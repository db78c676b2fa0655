-- `iisph_words::digits::places` meets its contract. The loop's invariant: the digits counted and the rest's digits are
-- the number's, with one counted ahead. Assumes nothing.
use Prim.Native.Nat.{◌+◌, ◌≤◌}
use mathlib.Core.Path.{◌≡◌}
use Rattle.iisph_words.specs.Digits.{places_of}
use Rattle.iisph_words.proofs.digits.places.Given as goal

abbrev pub invariant-loop-rest : goal.invariant-loop-rest
invariant-loop-rest l = (l.k + places_of l.rest ≡ places_of l.n + 1) × (l.k + l.rest ≤ l.n + 1)

abbrev pub decreases-loop-rest : goal.decreases-loop-rest
decreases-loop-rest l = l.rest
