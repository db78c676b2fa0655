-- `iisph_forces::boundary_answers` meets its contract: from the forces that the scene has, gathering makes the rules'
-- forces. Assumes nothing.
use Prim.Native.Nat.{ℕ, ◌*◌, ◌≤◌}
use mathlib.Core.Path.{ap, ◌∙◌}
use mathlib.Core.List.{List}
use native.Mathlib.Omega.{arith}
use lib.Ieee.{Float}
use lib.ListN.{length, replicate, length-replicate}
use Rattle.std.specs.declared.option.Option.{Option}
use Rattle.std.specs.declared.option.Option.TheVariants.{None}
use Rattle.scene_format.specs.SceneOf.{scene_of}
use Rattle.scene_format.specs.Format.{nameable_models}
use Rattle.scene_lengths.specs.Lengths.{fluid_answer_width}
use Rattle.iisph_pressures.specs.IterationRows.{pressures_in}
use Rattle.iisph_forces.specs.Forces.{gathered_all}
use Rattle.iisph_forces.proofs.Gathered.{all_gathered}
use Rattle.iisph_forces.proofs.InitialAnswers.{starts_held, still-room}
use Rattle.iisph_forces.proofs.boundary_answers.Goals as goal

room : nameable_models ≤ length (replicate {A = Option ℕ} nameable_models None)
room = omega (arith, length-replicate {A = Option ℕ} nameable_models None)

pub gather_all-requires-clause-forces_known : goal.gather_all-requires-clause-forces_known
gather_all-requires-clause-forces_known c =
    let passed = c.requires.passed in
    let at = fluid_answer_width c.args.over.dim * c.args.over.n in (
      starts_held _ _ passed.0.walk (replicate nameable_models None) room c.put_initial.ensures.0,
      still-room _ c.args.answers.now at c.put_initial.ensures.1 passed.1,
    )

pub returns : goal.returns
returns c =
    let a = c.args in
    let p = c.requires in
    let d = a.over.dim in
    let b = a.over.scene.now in
    let ps = pressures_in d a.over.n a.work.now in
    c.gather_all.ensures
    ∙ ap (λ (l : List Float). gathered_all d (scene_of b) ps a.over.n l) c.put_initial.ensures.1
    ∙ all_gathered b p.passed.0.walk ps a.answers.now p.pass_over.0.axes p.pass_over.0.size p.passed.1
