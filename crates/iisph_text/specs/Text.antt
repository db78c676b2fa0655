-- The text that the program writes for a packed scene, byte by byte in ASCII (FORMAT 4): the lines of Lines, together.
-- Definitions only.
use Rattle.std.specs.Prelude.{ℕ, List, [], ◌∷◌, ◌++◌, ltb, length}
use Rattle.lists.specs.Lists.{choose}
use Rattle.scene_format.specs.SceneOf.{scene_of}
use Rattle.scene_lengths.specs.Lengths.{answers_needed, work_needed}
use Rattle.iisph_rules.specs.Answer.{step_answer}
use Rattle.iisph_rules.specs.Step.{answers_of}
use Rattle.iisph_rules.specs.Step.{StepAnswer}
use Rattle.std.specs.declared.result.Result.TheVariants.{Ok, Err}
use Rattle.iisph_lines.specs.Lines.{step_line, clock_line, particles_text, refused_line}

-- the text for what a step answers on the bytes b
unfoldable pub answer_text : List ℕ → StepAnswer → List ℕ
answer_text b (Ok r) = step_line r ++ clock_line r.clock ++ particles_text b (answers_of (scene_of b))
answer_text b (Err r) = refused_line r

-- "too long"
unfoldable pub too_long : List ℕ
too_long = 116 ∷ 111 ∷ 111 ∷ 32 ∷ 108 ∷ 111 ∷ 110 ∷ 103 ∷ 10 ∷ []

-- a scene of more bytes is not read
abbrev pub most_bytes : ℕ
most_bytes = 32768

-- what is written for the bytes b, by a step with answer and work lists of these lengths
unfoldable pub text_with : List ℕ → ℕ → ℕ → List ℕ
text_with b answers work = choose (ltb most_bytes (length b)) too_long (answer_text b (step_answer b answers work))

-- with lists that are long enough: what the program writes
unfoldable pub text_of : List ℕ → List ℕ
text_of b = text_with b (answers_needed (scene_of b)) (work_needed (scene_of b))
