-- `cases_list::read_scene` meets its contract: a scene came whole, or nothing did; the reader gave no more than there
-- is room for. Assumes nothing.
use borrow.Author.Rules.{rules}
use Rattle.std.proofs.Common.{arith, length}
use Rattle.full_reads.proofs.Given.{gives_front}
use Rattle.cases_list.specs.Next.{Fits}
use Rattle.cases_list.proofs.read_scene.Goals as goal

pub returns-in_err-got-clause-left : goal.returns-in_err-got-clause-left
returns-in_err-got-clause-left g c =
    let h = c.in_err-got.ensures.err in
    gives_front _ _ h.0 (length c.args.scene.now) c.read_full.new.list h.1 (omega (arith, c.read_full.auto.list)) h.2

pub returns-then-got-n-clause-fits : goal.returns-then-got-n-clause-fits
unfolding Fits
returns-then-got-n-clause-fits g c = tt

pub returns-then-got-n-clause-left : goal.returns-then-got-n-clause-left
returns-then-got-n-clause-left g c =
    let h = c.in_ok-got.ensures in
    gives_front _ _ c.in_ok-got.got (length c.args.scene.now) c.read_full.new.list h.within
    (omega (arith, c.read_full.auto.list)) h.came

pub returns-clause-fits : goal.returns-clause-fits
unfolding Fits
returns-clause-fits g c = search rules

pub returns-clause-left : goal.returns-clause-left
returns-clause-left g c =
    let h = c.in_ok-got.ensures in
    gives_front _ _ c.in_ok-got.got (length c.args.scene.now) c.read_full.new.list h.within
    (omega (arith, c.read_full.auto.list)) h.came
