-- `iisph_preparation::prepare_rows` meets its contract: the volumes are stored, then the rows, so the columns are the
-- rules' coefficients; a refused scene's list is cleared. Assumes nothing.
use mathlib.Core.Path.{◌≡◌, sym, ap, ◌∙◌}
use Rattle.scene_format.specs.SceneOf.{scene_of}
use Rattle.scene_lengths.specs.Lengths.{work_needed}
use Rattle.iisph_preparation.proofs.ZeroRefusals.{room_of, volumes_there, columns-room, answer_made}
use Rattle.iisph_preparation.proofs.ZeroRefusals.{work_kept, work_cleared}
use Rattle.iisph_preparation.proofs.prepare_rows.Goals as goal

pub compute_boundary_volumes-requires-clause-n_value : goal.compute_boundary_volumes-requires-clause-n_value
compute_boundary_volumes-requires-clause-n_value c =
    let over = c.requires.driven_pass.timed.over in
    (over.size, room_of _ over.axes over.size _ c.requires.passed.1)

pub fill_rows-requires-clause-room : goal.fill_rows-requires-clause-room
fill_rows-requires-clause-room c =
    let over = c.requires.driven_pass.timed.over in
    volumes_there _ over.axes over.size _ c.requires.passed.1 c.compute_boundary_volumes.ensures

pub zero_refusal-answer-requires : goal.zero_refusal-answer-requires
zero_refusal-answer-requires c =
    let over = c.requires.driven_pass.timed.over in
    let volumes = c.compute_boundary_volumes.ensures in
    (over, columns-room _ over.axes over.size _ c.requires.passed.1 volumes c.fill_rows.ensures)

pub returns-then-is_err : goal.returns-then-is_err
returns-then-is_err c =
    let over = c.requires.driven_pass.timed.over in
    let room = c.requires.passed.1 in
    let volumes = c.compute_boundary_volumes.ensures in
    let refused = c.is_err.ensures.value in
    let needed : c.lengths_of-needed.result.work ≡ work_needed (scene_of c.args.over.scene.now) =
    ap (λ n. n.work) c.lengths_of-needed.ensures in (
      answer_made _ over.axes over.size _ room volumes c.fill_rows.ensures c.zero_refusal-answer.ensures,
      work_cleared _ over.axes over.size _ room volumes c.fill_rows.ensures _ (sym refused ∙ c.if-is_err.true) needed
          c.clear.ensures,
    )

pub returns-else-is_err : goal.returns-else-is_err
returns-else-is_err c =
    let over = c.requires.driven_pass.timed.over in
    let room = c.requires.passed.1 in
    let volumes = c.compute_boundary_volumes.ensures in
    let refused = c.is_err.ensures.value in (
      answer_made _ over.axes over.size _ room volumes c.fill_rows.ensures c.zero_refusal-answer.ensures,
      work_kept _ over.axes over.size _ room volumes c.fill_rows.ensures _ (sym refused ∙ c.if-is_err.false),
    )
