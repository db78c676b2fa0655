-- The lines of the text that the program writes, byte by byte in ASCII (FORMAT 4.2). Every line ends with a newline.
-- Definitions only.
use Rattle.std.specs.Prelude.{ℕ, ◌+◌, ◌*◌, get_or, Float}
use mathlib.Core.List.{List, [], ◌∷◌, ◌++◌, map, flatten}
use Rattle.lists.specs.Lists.{table}
use Rattle.timestep_manager.specs.declared.Clock.{Clock}
use Rattle.scene_format.specs.Format.{axes_of, model_number, counts_of, keeps_of}
use Rattle.scene_format.specs.Refusals.{number_of, place_of}
use Rattle.scene_format.specs.Scene.{fluid_size}
use Rattle.scene_format.specs.SceneOf.{scene_of}
use Rattle.scene_format.specs.declared.Kind.{Kind}
use Rattle.scene_format.specs.declared.Kind.TheVariants.{Fluid, Boundary}
use Rattle.scene_format.specs.declared.Refusal.{Refusal}
use Rattle.scene_lengths.specs.Lengths.{fluid_answer_width, width_in, answers_before}
use Rattle.iisph_rules.specs.Endings.{ending_number, ending_values, yes_or_no}
use Rattle.iisph_rules.specs.declared.Ending.{Ending}
use Rattle.iisph_rules.specs.declared.IterationError.{IterationError}
use Rattle.iisph_rules.specs.declared.Report.{Report}
use Rattle.iisph_words.specs.Digits.{decimal_of, most_digits}
use Rattle.iisph_words.specs.Words.{space, newline, pair_text, double_text_width, double_text, doubles_text, kind_word}
use Rattle.iisph_words.specs.Words.{ending_word}

-- ---- the first two lines of a step that is done

-- the error of an iteration, then a number: 1 where an average was passed over, else 0
unfoldable pub error_words : Float → ℕ → List ℕ
error_words error passed_over = double_text error ++ space ++ decimal_of passed_over

abbrev pub error_text : IterationError → List ℕ
error_text e = error_words e.value (yes_or_no e.passed_over)

-- the double, a space and a digit
abbrev pub error_text_width : ℕ
error_text_width = double_text_width + 1 + 1

-- how the iterations ended, how many there were, and the values of the ending
unfoldable pub ending_text : ℕ → Ending → List ℕ
ending_text n e = ending_word (ending_number e) ++ decimal_of n ++ flatten (map error_text (ending_values e))

-- "step ", then the ending
unfoldable pub step_line : Report → List ℕ
step_line r = (115 ∷ 116 ∷ 101 ∷ 112 ∷ 32 ∷ []) ++ ending_text r.iterations r.ending ++ newline

-- "clock", then dt, inv_dt and remaining time
unfoldable pub clock_line : Clock → List ℕ
clock_line c =
    (99 ∷ 108 ∷ 111 ∷ 99 ∷ 107 ∷ [])
    ++ double_text c.dt
    ++ double_text c.inv_dt
    ++ double_text c.remaining_time
    ++ newline

-- ---- a line for each particle

-- the model's number, the particle's number in it, and its answers as text
unfoldable pub particle_line : Kind → ℕ → ℕ → List ℕ → List ℕ
particle_line κ m i answers = kind_word κ ++ pair_text m i ++ answers ++ newline

-- the n particles of model m, with w answers each; the model's answers begin at the k-th element of a list
unfoldable pub model_text : Kind → ℕ → ℕ → ℕ → ℕ → List Float → List ℕ
model_text κ m n w k xs = flatten (table n (λ i. particle_line κ m i (doubles_text xs (k + w * i) w)))

-- the first n models of a kind, one after the other, for d axes, by whether each keeps forces and how many particles
-- each has; the answers begin at the k-th element of a list
unfoldable pub models_upto : ℕ → ℕ → Kind → List ℕ → List ℕ → ℕ → List Float → List ℕ
models_upto n d κ keeps counts k xs =
    flatten
    (table n (λ m.
    model_text κ m (get_or counts m 0) (width_in d κ keeps m) (k + answers_before d κ keeps counts m) xs))

-- all models of a kind of the packed scene b
abbrev pub models_text : Kind → List ℕ → ℕ → List Float → List ℕ
models_text κ b k xs = models_upto (model_number κ b) (axes_of b) κ (keeps_of κ b) (counts_of κ b) k xs

-- of that scene, whose answers are xs: the fluids, then the boundaries
unfoldable pub particles_text : List ℕ → List Float → List ℕ
particles_text b xs =
    models_text Fluid b 0 xs ++ models_text Boundary b (fluid_answer_width (axes_of b) * fluid_size (scene_of b)) xs

-- ---- the only line of a step that is refused

-- "refused ", the number and the place
unfoldable pub refused_line : Refusal → List ℕ
refused_line r =
    (114 ∷ 101 ∷ 102 ∷ 117 ∷ 115 ∷ 101 ∷ 100 ∷ 32 ∷ [])
    ++ pair_text (number_of r) (place_of r)
    ++ newline

-- the line is never longer: the word, two numbers of 64 bits, a space and a newline
abbrev pub refused_room : ℕ
refused_room = 8 + most_digits + 1 + most_digits + 1
