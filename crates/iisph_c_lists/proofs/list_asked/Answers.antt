-- `iisph_c_lists::list_asked` meets its contract, number by number. Assumes nothing.
use borrow.Author.Tests.{eq-eqb, ne_eqb}
use Rattle.lists.specs.Lists.{choose}
use Rattle.iisph_c_lists.specs.Lists.{list_asked}
use Rattle.iisph_c_lists.proofs.list_asked.Goals as goal

pub returns-then-contacts-eq-FLUID_FLUID : goal.returns-then-contacts-eq-FLUID_FLUID
unfolding list_asked choose
returns-then-contacts-eq-FLUID_FLUID c = rw (eq-eqb _ _ c.if-contacts-eq-FLUID_FLUID.true) c.check_list.ensures

pub returns-then-contacts-eq-FLUID_BOUNDARY : goal.returns-then-contacts-eq-FLUID_BOUNDARY
unfolding list_asked choose
returns-then-contacts-eq-FLUID_BOUNDARY c =
    rw (ne_eqb _ _ c.if-contacts-eq-FLUID_FLUID.false, eq-eqb _ _ c.if-contacts-eq-FLUID_BOUNDARY.true)
    c.check_list-then-contacts-eq-FLUID_BOUNDARY.ensures

pub returns-then-contacts-eq-BOUNDARY_BOUNDARY : goal.returns-then-contacts-eq-BOUNDARY_BOUNDARY
unfolding list_asked choose
returns-then-contacts-eq-BOUNDARY_BOUNDARY c =
    rw (
      ne_eqb _ _ c.if-contacts-eq-FLUID_FLUID.false,
      ne_eqb _ _ c.if-contacts-eq-FLUID_BOUNDARY.false,
      eq-eqb _ _ c.if-contacts-eq-BOUNDARY_BOUNDARY.true,
    )
    c.check_list-then-contacts-eq-BOUNDARY_BOUNDARY.ensures

pub returns : goal.returns
unfolding list_asked choose
returns c =
    rw (
      ne_eqb _ _ c.if-contacts-eq-FLUID_FLUID.false,
      ne_eqb _ _ c.if-contacts-eq-FLUID_BOUNDARY.false,
      ne_eqb _ _ c.if-contacts-eq-BOUNDARY_BOUNDARY.false,
    )
