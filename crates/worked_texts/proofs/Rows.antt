-- The definitions yield every worked example: those of worked_examples, worked_stopping and worked_flat by their
-- theorems, the texts by evaluation, for which `writing` opens every definition that a text goes through. Assumes
-- nothing.
use Prim.Native.Nat.{ℕ}
use mathlib.Core.Path.{refl}
use mathlib.Core.List.{List, map}
use Rattle.iisph_rules.specs.Endings
use Rattle.iisph_words.specs.Digits
use Rattle.iisph_words.specs.Words
use Rattle.iisph_lines.specs.Lines
use Rattle.iisph_text.specs.Text
use Rattle.scene_format.specs.Format
use Rattle.scene_lengths.specs.Lengths
use Rattle.worked_examples.specs.Row as worked
use Rattle.worked_examples.specs.Row.{All, none, ◌and◌}
use Rattle.worked_examples.specs.PassedOver
use Rattle.worked_examples.proofs.Evaluation.{evaluation}
use Rattle.worked_examples.proofs.Rows as worked-proofs
use Rattle.worked_examples.proofs.Rows.{both}
use Rattle.worked_stopping.specs.Stopping
use Rattle.worked_stopping.specs.Summation
use Rattle.worked_stopping.proofs.Stopping.{stopping_hold}
use Rattle.worked_stopping.proofs.Summation.{summation_holds}
use Rattle.worked_flat.specs.Flat
use Rattle.worked_flat.proofs.Flat.{flat_forms_hold, flat_steps_hold}
use Rattle.worked_texts.specs.Rows.{example, Holds, ascii, texts, rows}

writing : ℕ
unfolding evaluation
    Format.keeps_of Lengths.answer_width Lengths.answers_before
    Digits.digits Digits.hex_of Digits.places_within Digits.decimal_of
    Words.pair_text Words.double_text Words.doubles_text Words.kind_word Words.ending_word
    Endings.ending_number Endings.ending_values Lines.error_words Lines.ending_text Lines.step_line Lines.clock_line
    Lines.particle_line Lines.model_text Lines.models_upto Lines.particles_text Lines.refused_line
    Text.answer_text Text.too_long Text.text_with Text.text_of
writing = 0

texts_hold : All Holds texts
unfolding writing ascii PassedOver.light PassedOver.both_infinities PassedOver.overflowing Stopping.ruled
    Stopping.nan_behind Stopping.limited Stopping.thin Summation.minus_zero Summation.once
    Flat.flat Flat.headed Flat.flat_a Flat.flat_contact Flat.flat_boundary texts
texts_hold =
    refl and refl and refl and refl and refl and refl and refl and refl and refl and refl and refl and refl and none

examples_hold : {rs : List worked.Row} → All worked.Holds rs → All Holds (map example rs)
examples_hold none = none
examples_hold (h and p) = h and examples_hold p

-- every worked example holds
pub rows_hold : All Holds rows
unfolding rows
rows_hold =
    both (examples_hold worked-proofs.rows_hold)
    (both (examples_hold stopping_hold)
    (both (examples_hold summation_holds)
    (both (examples_hold flat_forms_hold) (both (examples_hold flat_steps_hold) texts_hold))))
