-- `iisph_c_lists::iisph_check_list` meets its contract: by the length of `counts`, then what is written of the
-- answer. Assumes nothing.
use native.Mathlib.Omega.{arith}
use Rattle.iisph_c_lists.proofs.Told.{no_room, told}
use Rattle.iisph_c_lists.proofs.iisph_check_list.Goals as goal

pub returns-then-counts-lt-COUNTS : goal.returns-then-counts-lt-COUNTS
returns-then-counts-lt-COUNTS c = no_room _ _ (omega (arith, c.if-counts-lt-COUNTS.true))

pub returns : goal.returns
returns c =
    told _ _ (omega (arith, c.if-counts-lt-COUNTS.false)) c.list_asked.ensures c.write_list.ensures.0
    c.write_list.ensures.1
