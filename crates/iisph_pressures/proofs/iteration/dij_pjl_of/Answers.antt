-- `iisph_pressures::iteration::dij_pjl_of` meets its contract: the list of contacts is the particle's. Assumes nothing.
use Rattle.iisph_pressures.proofs.ContactTurns.{contacts_found, contacts_ready}
use Rattle.iisph_pressures.proofs.IterationTerms.{dij_made}
use Rattle.iisph_pressures.proofs.iteration.dij_pjl_of.Goals as goal

pub dij_sum-requires-clause-contacts_ready : goal.dij_sum-requires-clause-contacts_ready
dij_sum-requires-clause-contacts_ready c =
    let p = c.requires.timed_pass in
    contacts_ready p.0.over p.1 c.contacts_of-list.ensures

pub returns : goal.returns
returns c =
    let p = c.requires.timed_pass in
    dij_made p.0.over.axes (contacts_found p.0.over p.1 c.contacts_of-list.ensures) _ p.0.dt_is c.dij_sum.ensures
    (c.scale.ensures c.args.over.dim)
