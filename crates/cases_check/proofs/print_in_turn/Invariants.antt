-- `cases_check::print_in_turn` meets its contract: what remains from here is the whole, turn by turn. Assumes nothing.
use Prim.Native.Nat.{ℕ}
use Rattle.cases_check.specs.Turns.{EndAs}
use Rattle.cases_check.specs.declared.Turn.{Turn}
use Rattle.cases_check.proofs.Turning.{Turned}
use Rattle.cases_check.proofs.print_in_turn.Given as goal

abbrev pub invariant-loop-k : goal.invariant-loop-k
invariant-loop-k g l = (f : ℕ → Turn) → EndAs l.fn.n (goal.F-post g l.print) f → Turned f l.fn.n l.k
