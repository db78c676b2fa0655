-- `iisph_lines::lines::put_models` meets its contract. The loop's invariant: the lines of the first m models are
-- written. What a turn reads at its head is the model's number of particles and width. Assumes nothing.
use Prim.Native.Nat.{◌+◌, ◌*◌, ◌<◌, ◌≤◌}
use mathlib.Core.Path.{◌≡◌, sym, ◌∙◌}
use native.Mathlib.Omega.{arith}
use lib.ListN.{length, get_or}
use Rattle.scene_format.specs.Format.{axes_of, model_number, counts_of, keeps_of}
use Rattle.scene_format.proofs.Forms.{from_bit}
use Rattle.scene_layout.proofs.Turns.{number_few, length_front, front_turn}
use Rattle.scene_lengths.specs.Lengths.{width_in}
use Rattle.scene_lengths.proofs.Needed.{answers_none}
use Rattle.iisph_lines.proofs.ModelLines.{model_next, model_fits, none_modelled, model_room, model_written}
use Rattle.iisph_lines.proofs.lines.put_models.Goals as goal
use Rattle.iisph_lines.proofs.lines.put_models.Goals.{After-answer_width-w}

pub shared_ref_as_front-heads : goal.shared_ref_as_front-heads
shared_ref_as_front-heads c = number_few c.requires.models_within.0 c.requires.models_within.1

pub loop-m-init : goal.loop-m-init
loop-m-init c =
    (rw answers_none (omega arith), none_modelled _ _ _ _ _ _ (omega (arith, c.requires.scene_in_bounds.1)))

pub particles-n-requires : goal.particles-n-requires
particles-n-requires c =
    (front_turn c.requires.models_within.0 c.requires.models_within.1 _ c.loop-m-test.true).within.head_room

pub keeps-requires : goal.keeps-requires
keeps-requires c =
    (front_turn c.requires.models_within.0 c.requires.models_within.1 _ c.loop-m-test.true).within.head_room

-- the turn's model
record Model (c : After-answer_width-w) : Type 0 where
  below : c.loop-m.m < model_number c.args.kind c.args.scene.now
  count : c.particles-n.result ≡ get_or (counts_of c.args.kind c.args.scene.now) c.loop-m.m 0
  width : c.answer_width-w.result
      ≡ width_in (axes_of c.args.scene.now) c.args.kind (keeps_of c.args.kind c.args.scene.now) c.loop-m.m
  fits : c.loop-m.from + c.answer_width-w.result * c.particles-n.result ≤ length c.args.xs.now

model : (c : After-answer_width-w) → Model c
model c =
    let turn = front_turn c.requires.models_within.0 c.requires.models_within.1 _ c.loop-m-test.true in
    let count = c.particles-n.ensures.0 ∙ turn.count in
    let kept = c.from.ensures ∙ from_bit c.keeps.result ∙ sym c.keeps.ensures ∙ turn.keeps in
    let width : c.answer_width-w.result
    ≡ width_in (axes_of c.args.scene.now) c.args.kind (keeps_of c.args.kind c.args.scene.now) c.loop-m.m =
    c.answer_width-w.ensures.0 ∙ cc (c.axes-dim.ensures.0, kept) in
    record {
      below = turn.below;
      count = count;
      width = width;
      fits = model_fits _ _ _ _ _ c.loop-m.m c.loop-m.invariant.0 width count turn.below c.requires.scene_in_bounds.0;
    }

pub put_model-requires : goal.put_model-requires
put_model-requires c =
    let here = model (goal.at.put_model-requires c).After-answer_width-w in
    let l = c.loop-m in
    record {
      n_in_bounds = here.fits;
      xs_in_bounds = model_room _ _ _ _ _ _ l.m l.invariant.0 here.width here.count l.invariant.1 here.below
          c.requires.scene_in_bounds.1;
    }

pub overflow_add-from : goal.overflow_add-from
overflow_add-from c = omega (arith, (model (goal.at.overflow_add-from c).After-answer_width-w).fits)

pub loop-m-preserved : goal.loop-m-preserved
loop-m-preserved c =
    let here = model (goal.at.loop-m-preserved c).After-answer_width-w in
    let l = c.loop-m in (
      model_next _ _ _ _ _ l.m l.invariant.0 here.width here.count,
      model_written _ _ _ _ _ _ l.m l.invariant.0 here.width here.count l.invariant.1 c.put_model.ensures,
    )

pub returns : goal.returns
returns c =
    let ends = length_front c.requires.models_within.0 c.requires.models_within.1 in
    let all : c.loop-m.m ≡ model_number c.args.kind c.args.scene.now = omega (arith, ends) in
    rw all at c.loop-m.invariant.1
