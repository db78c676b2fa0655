-- `cases_short_lists::print_run` meets its contract: the list for the text has room for every text. Assumes nothing.
use Prim.Native.Nat.{ℕ, ◌≤◌}
use mathlib.Core.Path.{◌∙◌, sym}
use mathlib.Core.List.{List}
use native.Mathlib.Nat.{zero-add}
use native.Mathlib.Omega.{arith}
use lib.ListN.{length, replicate, length-replicate}
use lib.Seq.{length-take-le}
use lib.Ieee.{Float}
use Rattle.std.specs.Prelude.{Result, Ok, Err, OnErr}
use borrow.Author.Tests.{le-ltb}
use Rattle.lists.specs.Lists.{choose}
use Rattle.iisph_text.specs.Run.{text_room, written, if_stepped, Runs}
use Rattle.cases_short_lists.specs.Printed.{Prints}
use Rattle.cases_short_lists.proofs.print_run.Goals as goal

long : (n : ℕ) → n ≤ length (replicate {A = ℕ} n 0)
long n = omega (arith, length-replicate {A = ℕ} n 0)

prints : {b out out' : List ℕ} {answers work answers' work' : List Float} {n : ℕ} → text_room ≤ length out
    → Runs b answers work out n answers' work' out' → Prints b answers work n answers' work'
unfolding written if_stepped choose
prints {out = out} room r =
    let t = le-ltb (length out) text_room room in
    record {
      text = (rw t at r.text).ends
          ∙ zero-add _;
      answers_then = rw t at r.answers_then;
      work_then = rw t at r.work_then;
    }

held : {T E P : Type 0} (r : Result T E) → P → OnErr r P
held (Ok x) p = tt
held (Err e) p = p

pub slice_bounds-write_all-end : goal.slice_bounds-write_all-end
slice_bounds-write_all-end g c =
    sym (length-take-le _ _ c.run-n.ensures.text.within)

pub returns-in_err-write_all-clause-err : goal.returns-in_err-write_all-clause-err
returns-in_err-write_all-clause-err g c = held c.from_residual.result (_, prints (long text_room) c.run-n.ensures)

pub returns-clause-ok : goal.returns-clause-ok
returns-clause-ok g c = prints (long text_room) c.run-n.ensures
