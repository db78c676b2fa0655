-- `scene_fields::reader::header_numbers` meets its contract: each reader begins where the one before it has read
-- to, and reads in turn find what the definition says. Assumes nothing.
use Rattle.std.proofs.Common.{◌≡◌, ◌∙◌, sym, List, ℕ, Float}
use Rattle.std.specs.Borrow.{Bor}
use Rattle.scene_format.specs.Format.{total_step_size_offset}
use Rattle.scene_fields.specs.Reading.{double_read, reader_at, past_double, numbers_of, header_read}
use Rattle.scene_format.specs.declared.Refusal.{Refusal}
use Rattle.std.specs.declared.result.Result.{Result}
use Rattle.scene_fields.specs.declared.reader.Reader.{Reader}
use Rattle.scene_fields.proofs.Found.{read_in_turn_lem}
use Rattle.scene_fields.proofs.Walks.{handed_on}
use Rattle.scene_fields.proofs.reader.header_numbers.Goals as goal
use Rattle.scene_fields.proofs.reader.header_numbers.Goals.{After-past_double-third}

-- what is read at a reader's place
abbrev found : Reader → Result Float Refusal
found r = double_read r.scene.now r.at

numbers : (s : Bor (List ℕ)) (first second third : Reader) → first ≡ reader_at s total_step_size_offset
    → second ≡ past_double first → third ≡ past_double second
    → numbers_of (found first) (found second) (found third) ≡ header_read s.now
numbers s first second third f g h = rw (h, g, f) (read_in_turn_lem s.now)

in_turn : (c : After-past_double-third)
    → numbers_of (found c.starting_at-first.result) (found c.past_double-second.result)
    (found c.past_double-third.result)
    ≡ header_read c.args.scene.now
in_turn c =
    numbers c.args.scene _ _ _ c.starting_at-first.ensures c.past_double-second.ensures c.past_double-third.ensures

pub returns-in_err-double : goal.returns-in_err-double
unfolding numbers_of
returns-in_err-double c =
    handed_on c.from_residual.ensures.1
    ∙ rw (sym c.double.ensures ∙ c.in_err-double.was) at
    (in_turn (goal.at.returns-in_err-double c).After-past_double-third)

pub returns-in_err-double-2 : goal.returns-in_err-double-2
unfolding numbers_of
returns-in_err-double-2 c =
    handed_on c.from_residual-in_err-double-2.ensures.1
    ∙ rw (sym c.double.ensures ∙ c.in_ok-double.was, sym c.double-2.ensures ∙ c.in_err-double-2.was) at
    (in_turn (goal.at.returns-in_err-double-2 c).After-past_double-third)

pub returns-in_err-double-3 : goal.returns-in_err-double-3
unfolding numbers_of
returns-in_err-double-3 c =
    handed_on c.from_residual-in_err-double-3.ensures.1
    ∙ rw (
      sym c.double.ensures ∙ c.in_ok-double.was,
      sym c.double-2.ensures ∙ c.in_ok-double-2.was,
      sym c.double-3.ensures ∙ c.in_err-double-3.was,
    ) at (in_turn (goal.at.returns-in_err-double-3 c).After-past_double-third)

pub returns : goal.returns
unfolding numbers_of
returns c =
    rw (
      sym c.double.ensures ∙ c.in_ok-double.was,
      sym c.double-2.ensures ∙ c.in_ok-double-2.was,
      sym c.double-3.ensures ∙ c.in_ok-double-3.was,
    ) at (in_turn (goal.at.returns c).After-past_double-third)
