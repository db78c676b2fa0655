-- `iisph_c_lists::write_list` meets its contract, by the answer: the definitions are opened in each arm. Assumes
-- nothing.
use Rattle.std.proofs.Common.{rules}
use Rattle.iisph_c_lists.specs.Lists.{list_code, list_counts}
use Rattle.iisph_c_lists.proofs.write_list.Goals as goal

pub returns-in-Ok-Some : goal.returns-in-Ok-Some
unfolding list_code list_counts
returns-in-Ok-Some c = (search rules, search rules)

pub returns-in-Ok-None : goal.returns-in-Ok-None
unfolding list_code list_counts
returns-in-Ok-None c = (search rules, search rules)

pub returns-in-Err : goal.returns-in-Err
unfolding list_code list_counts
returns-in-Err c =
    let q = c.in-Err.is in
    (rw q c.write_refusal.ensures.0, rw q c.write_refusal.ensures.1)
