-- `iisph_lent::finish` meets its contract: each call finds what it needs in the work list, and what they leave
-- together is the rules'. Assumes nothing.
use native.Mathlib.Omega.{arith}
use lib.Ieee.{nan}
use Rattle.iisph_passes.specs.Traverse.{Ready}
use Rattle.lists.proofs.Stores.{length-stored}
use Rattle.scene_lengths.specs.Lengths.{work_needed}
use Rattle.scene_format.specs.SceneOf.{scene_of}
use mathlib.Core.Path.{◌≡◌, ap}
use Rattle.iisph_lent.proofs.Finished.{first_pressures_lem, first_ready, solved_ready, shared, finished}
use Rattle.iisph_lent.proofs.Finished.{length_shared, answers_room, report_made}
use Rattle.iisph_pressures.proofs.IterationTerms.{axes-are}
use Rattle.iisph_preparation.proofs.Prepared.{driven}
use Rattle.iisph_lent.proofs.finish.Goals as goal

pub pressure_solve-solved-requires : goal.pressure_solve-solved-requires
pressure_solve-solved-requires c =
    let p = c.requires in
    let first = p.pass_over.0 in
    record {
      driven_pass = (driven p.pass_over.0 p.pass_over.1, p.pass_over.1.stopping_is);
      passed = (p.passed.0, first_ready p.passed.0 first.axes (axes-are _ first.axes) first.size _ p.iteration_ready);
      work_value = first_pressures_lem p.passed.0 first.axes (axes-are _ first.axes) first.size _ p.iteration_ready;
    }

pub traverse-requires : goal.traverse-requires
unfolding Ready
traverse-requires c =
    let p = c.requires in record {
      driven_pass = driven p.pass_over.0 p.pass_over.1;
      room = (
        (solved_ready p.passed.0 p.pass_over.0.axes (axes-are _ p.pass_over.0.axes) p.pass_over.0.size _
            p.iteration_ready
            c.pressure_solve-solved.ensures).room,
        tt,
      );
    }

pub update_velocities_and_positions-requires : goal.update_velocities_and_positions-requires
update_velocities_and_positions-requires c =
    let p = c.requires in record {
      driven_pass = (
        driven p.pass_over.0 p.pass_over.1,
        shared p.passed.0 p.pass_over.0.axes (axes-are _ p.pass_over.0.axes) p.pass_over.0.size _ p.iteration_ready
            c.pressure_solve-solved.ensures
            c.traverse.ensures,
      );
      n_in_bounds = answers_room _ p.pass_over.0.indexed.bytes p.pass_over.0.axes p.pass_over.0.size
          p.passed.1.enough_answers;
    }

pub boundary_answers-requires : goal.boundary_answers-requires
boundary_answers-requires c =
    let p = c.requires in
    let q = shared p.passed.0 p.pass_over.0.axes (axes-are _ p.pass_over.0.axes) p.pass_over.0.size _ p.iteration_ready
    c.pressure_solve-solved.ensures c.traverse.ensures in
    record {
      pass_over = (p.pass_over.0, q.iteration);
      passed =
          (p.passed.0, rw (c.update_velocities_and_positions.ensures, length-stored nan) p.passed.1.enough_answers);
    }

pub lengths_of-needed-requires : goal.lengths_of-needed-requires
lengths_of-needed-requires c = c.requires.passed.0

pub clear-requires : goal.clear-requires
clear-requires c =
    let needed : c.lengths_of-needed.result.work ≡ work_needed (scene_of c.args.over.scene.now) =
    ap (λ n. n.work) c.lengths_of-needed.ensures in
    let p = c.requires in
    omega (
      arith,
      needed,
      p.passed.1.enough_work,
      length_shared p.passed.0 p.pass_over.0.axes (axes-are _ p.pass_over.0.axes) p.pass_over.0.size _ p.iteration_ready
          c.pressure_solve-solved.ensures c.traverse.ensures,
    )

pub returns : goal.returns
returns c =
    let needed : c.lengths_of-needed.result.work ≡ work_needed (scene_of c.args.over.scene.now) =
    ap (λ n. n.work) c.lengths_of-needed.ensures in
    let p = c.requires in
    finished p.passed.0 p.pass_over.0.axes (axes-are _ p.pass_over.0.axes) p.pass_over.0.size _ p.iteration_ready
    c.pressure_solve-solved.ensures c.traverse.ensures
    p.passed.1.enough_answers
    c.update_velocities_and_positions.ensures
    c.boundary_answers.ensures
    needed
    c.clear.ensures
    (report_made _ p.pass_over.1.clock_is c.pressure_solve-solved.ensures.iterations
    c.pressure_solve-solved.ensures.ending)
