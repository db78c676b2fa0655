-- What a run does with the lists that are lent to it. Definitions only.
use Rattle.std.specs.Prelude.{ℕ, ◌+◌, ◌*◌, ◌≤◌, ◌≡◌, List, [], ltb, length, Float}
use Rattle.lists.specs.Lists.{choose}
use Rattle.lists.specs.Stores.{Writes}
use Rattle.scene_format.specs.SceneOf.{scene_of}
use Rattle.std.specs.declared.result.Result.TheVariants.{Ok}
use Rattle.scene_check.specs.Walk.{checked}
use Rattle.iisph_words.specs.declared.text.Text.{Text}
use Rattle.iisph_words.specs.Texts.{HasRoom}
use Rattle.iisph_lines.specs.Lines.{step_line, clock_line, models_text}
use Rattle.scene_format.specs.Format.{axes_of, most_models}
use Rattle.scene_format.specs.Scene.{fluid_size}
use Rattle.scene_index.specs.Index.{model_blocks, starts_length}
use Rattle.scene_format.specs.declared.Kind.TheVariants.{Fluid, Boundary}
use Rattle.scene_lengths.specs.Lengths.{fluid_answer_width, answers_in}
use Rattle.iisph_rules.specs.Answer.{answers_after, work_after}
use Rattle.iisph_rules.specs.Step.{report_of}
use Rattle.iisph_rules.specs.declared.Report.{Report}
use Rattle.iisph_text.specs.Text.{most_bytes, text_with, text_of}

-- room for every text
abbrev pub text_room : ℕ
text_room = 2 * most_bytes

-- answers and work of every scene that is read fit in lists of these lengths
abbrev pub enough_answers : ℕ
enough_answers = 4096

abbrev pub enough_work : ℕ
enough_work = 3 * enough_answers

-- and its index in one of this length: a particle takes no more numbers of it than it has answers
abbrev pub enough_index : ℕ
enough_index = starts_length + 2 * (model_blocks * most_models) + enough_answers

-- nothing is written, and no step taken, where the list for the text is shorter
unfoldable pub written : List ℕ → ℕ → ℕ → ℕ → List ℕ
written b answers work out = choose (ltb out text_room) [] (text_with b answers work)

-- what is written with long enough lists for answers and work
unfoldable pub text_in : List ℕ → ℕ → List ℕ
text_in b out = choose (ltb out text_room) [] (text_of b)

-- what a step makes of a list, if one is taken: also not for a scene that is too long
unfoldable pub if_stepped : List ℕ → ℕ → List Float → List Float → List Float
if_stepped b out after old = choose (ltb out text_room) old (choose (ltb most_bytes (length b)) old after)

-- the scene is accepted, and a step reports this
pub record Reported (b : List ℕ) (r : Report) : Type 0 where
  pub accepted : checked b ≡ Ok (length b)
  pub report : report_of (scene_of b) ≡ r

-- on the bytes b, with lists for answers, work and text; the text's length is answered
pub record Runs (b : List ℕ) (answers work : List Float) (out : List ℕ) (r : ℕ) (answers' work' : List Float)
    (out' : List ℕ) : Type 0 where
  pub text : Writes out 0 (written b (length answers) (length work) (length out)) out' r
  pub answers_then :
      answers' ≡ if_stepped b (length out) (answers_after b (length answers) (length work) answers) answers
  pub work_then : work' ≡ if_stepped b (length out) (work_after b (length answers) (length work) work) work

-- ---- scaffolding: no promise rests on it

-- where the answers of the boundaries begin
abbrev pub behind : List ℕ → ℕ
behind b = fluid_answer_width (axes_of b) * fluid_size (scene_of b)

-- the lines of a step that is done read answers that are there, and a text has room for them
pub record LinesReady (b : List ℕ) (answers : List Float) (r : Report) (t : Text) : Type 0 where
  pub fluids : answers_in Fluid b ≤ length answers
  pub boundaries : behind b + answers_in Boundary b ≤ length answers
  pub room : HasRoom t
      (length (step_line r) + length (clock_line r.clock)
      + (length (models_text Fluid b 0 answers) + length (models_text Boundary b (behind b) answers)))
