-- `iisph_forces::initial_forces::put_boundary` meets its contract: particle by particle. Assumes nothing.
use Rattle.std.proofs.Common.{◌≡◌, ◌∙◌, ◌+◌, ◌-◌, ◌<◌, arith}
use Rattle.scene_index.proofs.Runs.{run_keeps}
use Rattle.iisph_rows.proofs.Volumes.{bit_one}
use Rattle.iisph_forces.proofs.InitialAnswers.{none_put, particle-room, one_more_put, all_put}
use Rattle.iisph_forces.proofs.initial_forces.put_boundary.Goals as goal

pub loop-j-init : goal.loop-j-init
loop-j-init c = none_put _ _ _ _ _ c.requires.fact.1 (omega arith)

pub put_particle-to-requires-clause-fact : goal.put_particle-to-requires-clause-fact
put_particle-to-requires-clause-fact c =
    let p = c.requires in
    let run = p.fact.0 in
    let l = c.loop-j in
    let here : l.j - c.args.first < c.args.count = omega arith in
    let is : c.args.first + (l.j - c.args.first) ≡ l.j = omega arith in (
      omega (arith, here, run.within),
      rw is at (run_keeps run (l.j - c.args.first) here ∙ bit_one c.args.keeps),
      rw is at
          (particle-room _ _ _ _ _ p.pass_over.0.axes p.pass_over.0.indexed.accepted run.within l.invariant here
          p.fact.2),
    )

pub loop-j-preserved : goal.loop-j-preserved
loop-j-preserved c =
    let p = c.requires in
    let l = c.loop-j in
    let here : l.j - c.args.first < c.args.count = omega arith in
    let is : c.args.first + (l.j - c.args.first) ≡ l.j = omega arith in
    let next : l.j + 1 - c.args.first ≡ l.j - c.args.first + 1 = omega arith in
    rw next
    (one_more_put _ _ _ _ _ p.pass_over.0.axes p.pass_over.0.indexed.accepted p.fact.0.within l.invariant here
    (rw is c.put_particle-to.ensures.0) (rw is c.put_particle-to.ensures.1))

pub returns : goal.returns
returns c =
    let p = c.requires in
    rw p.fact.1
    (all_put _ _ _ _ _ p.pass_over.0.axes p.pass_over.0.indexed.accepted p.fact.0.within c.loop-j.invariant
    (omega arith))
