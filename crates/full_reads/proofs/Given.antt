-- What a reader gives in two parts is what it gives in one; what it gave in front of a list is no longer than that.
-- Assumes nothing.
use Rattle.std.specs.Prelude.{Option}
use Rattle.std.proofs.Common.{ℕ, ◌+◌, ◌≤◌, List, ◌++◌, length, take, arith, length-append, length-take-le}
use Rattle.std.specs.Io.KnownBytes.{Consumes}
use Rattle.std.proofs.KnownBytes.{Consumes-trans}
use Rattle.full_reads.specs.Given.{GivesAtMost}

pub gives_more : (a b c : Option (List ℕ)) (m n k : ℕ) → GivesAtMost m a b → GivesAtMost n b c → m + n ≤ k
    → GivesAtMost k a c
gives_more a b c m n k p q within = (
  p.0 ++ q.0,
  rw length-append (omega (arith, p.1, q.1, within)),
  Consumes-trans a b c p.0 q.0 p.2 q.2,
)

pub gives_front : (a b : Option (List ℕ)) (n k : ℕ) (list : List ℕ) → n ≤ length list → length list ≤ k
    → Consumes a b (take n list) → GivesAtMost k a b
gives_front a b n k list within room came =
    (take n list, omega (arith, length-take-le n list within, within, room), came)

pub gives_within : (a b : Option (List ℕ)) (m k : ℕ) → GivesAtMost m a b → m ≤ k → GivesAtMost k a b
gives_within a b m k p within = (p.0, omega (arith, p.1, within), p.2)
