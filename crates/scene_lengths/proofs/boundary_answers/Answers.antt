-- `scene_lengths::boundary_answers` meets its contract: boundary by boundary, each read at the head that the layout
-- has. Assumes nothing.
use Prim.Native.Nat.{ℕ, ◌*◌, ◌≤◌}
use mathlib.Core.Path.{◌≡◌, ◌∙◌}
use mathlib.Core.List.{List}
use native.Mathlib.Nat.{le_antisymm}
use native.Mathlib.Omega.{arith}
use lib.ListN.{take}
use Rattle.math.specs.Vector.{space}
use Rattle.scene_check.proofs.Accepted.{accepted_within}
use Rattle.scene_check.proofs.Checks.{boundaries_are}
use Rattle.scene_format.proofs.Forms.{from_bit}
use Rattle.scene_format.specs.Format.{axes_of, most_models, most_particles, model_number, keeps_of}
use Rattle.scene_format.specs.declared.Kind.TheVariants.{Boundary}
use Rattle.scene_layout.proofs.Turns.{Turn, number_few, length_front, front_turn}
use Rattle.scene_layout.specs.declared.Layout.{Layout}
use Rattle.scene_lengths.specs.Lengths.{kept_answer_width, width_in}
use Rattle.scene_lengths.proofs.Needed.{answers_none, answers_next, few_answers, boundary_few}
use Rattle.scene_lengths.proofs.boundary_answers.Goals as goal
use Rattle.scene_lengths.proofs.boundary_answers.Goals.{In-loop-head, After-particles}

-- a boundary that is there
abbrev ThisTurn : Layout → List ℕ → ℕ → Type 0
ThisTurn layout b m = Turn Boundary b (take layout.boundaries.number layout.boundaries.heads) m

turn_of : (c : In-loop-head) → ThisTurn c.args.layout c.args.scene.now c.loop-head.head-index
turn_of c =
    front_turn (accepted_within _ c.requires.walk Boundary) (boundaries_are _ c.requires.layout_is) _
    c.loop-head-test.true

-- its answers are few
few_here : (c : After-particles) → ThisTurn c.args.layout c.args.scene.now c.loop-head.head-index
    → c.answer_width-width.result * c.particles.result ≤ kept_answer_width space * most_particles
few_here c turn =
    rw c.answer_width-width.ensures.0
    (few_answers _ _ _ c.axes-dim.ensures.1.most
    (rw (c.particles.ensures.0, turn.count) (boundary_few c.requires _ turn.below)))

pub shared_ref_as_front-heads : goal.shared_ref_as_front-heads
shared_ref_as_front-heads c =
    number_few (accepted_within _ c.requires.walk Boundary) (boundaries_are _ c.requires.layout_is)

pub loop-head-init : goal.loop-head-init
loop-head-init c = (omega arith, rw answers_none)

pub keeps-requires : goal.keeps-requires
keeps-requires c = (turn_of (goal.at.keeps-requires c).In-loop-head).within.head_room

pub particles-requires : goal.particles-requires
particles-requires c = (turn_of (goal.at.particles-requires c).In-loop-head).within.head_room

pub overflow_add-needed : goal.overflow_add-needed
overflow_add-needed c =
    let turn = turn_of (goal.at.overflow_add-needed c).In-loop-head in
    omega (arith, few_here (goal.at.overflow_add-needed c).After-particles turn, c.loop-head.invariant.0, turn.small)

pub loop-head-preserved : goal.loop-head-preserved
loop-head-preserved c =
    let turn = turn_of (goal.at.loop-head-preserved c).In-loop-head in
    let few = few_here (goal.at.loop-head-preserved c).After-particles turn in
    let axes_are : c.axes-dim.result ≡ axes_of c.args.scene.now = c.axes-dim.ensures.0 in
    let width : let b = c.args.scene.now in c.answer_width-width.result ≡ width_in (axes_of b) Boundary
    (keeps_of Boundary b) c.loop-head.head-index = c.answer_width-width.ensures.0
    ∙ cc (axes_are, c.from-keeps.ensures, from_bit c.keeps.result, c.keeps.ensures, turn.keeps) in
    let l = c.loop-head in (
      omega (arith, few, l.invariant.0),
      rw (answers_next, l.invariant.1, width, c.particles.ensures.0, turn.count),
    )

pub returns : goal.returns
returns c =
    let l = c.loop-head in
    let within = accepted_within _ c.requires.walk Boundary in
    let all : l.head-index ≡ model_number Boundary c.args.scene.now =
    le_antisymm l.auto.head-index-end c.loop-head-test.false
    ∙ length_front within (boundaries_are _ c.requires.layout_is) in
    let few : model_number Boundary c.args.scene.now ≤ most_models = within.few in
    (omega (arith, all, l.invariant.0), rw all at l.invariant.1)
