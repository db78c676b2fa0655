-- What the text of a step that is done takes, and that long enough lists make no difference: with them a scene that is
-- read is never refused for short lists. By the limits on lines and answers of Room. Assumes nothing.
use Prim.Native.Nat.{ℕ, zero, suc, ◌+◌, ◌*◌, ◌<◌, ◌≤◌}
use mathlib.Core.Path.{◌≡◌, refl, ap}
use mathlib.Core.Bool.{Bool, true, false}
use mathlib.Core.List.{List, [], ◌∷◌, map}
use native.Mathlib.Nat.{mul-le-mul_right}
use native.Mathlib.Omega.{arith}
use lib.Dec.{ltb}
use lib.ListN.{length}
use lib.Ieee.{Float}
use borrow.Author.Tests.{le-ltb, ltb-false}
use Rattle.lists.specs.Lists.{choose, sum}
use Rattle.scene_format.specs.Bytes.{byte_at, Bytes}
use Rattle.scene_format.specs.Format.{axes_of, max_pressure_iter_offset}
use Rattle.scene_format.specs.Scene.{Scene, BoundaryParticle, fluid_size, boundary_size}
use Rattle.scene_format.specs.SceneOf.{header_of, scene_of}
use Rattle.scene_format.specs.declared.Kind.TheVariants.{Fluid, Boundary}
use Rattle.scene_format.specs.Refusals.{Walk}
use Rattle.std.specs.declared.result.Result.TheVariants.{Ok, Err}
use Rattle.scene_format.proofs.Forms.{axes_of_lem}
use Rattle.scene_layout.specs.declared.Layout.{Layout}
use Rattle.scene_index.specs.Index.{index_needed}
use Rattle.scene_index.proofs.Indexes.{number_few}
use Rattle.scene_check.specs.Check.{Passed}
use Rattle.scene_check.specs.Walk.{checked}
use Rattle.scene_lengths.specs.Lengths.{answer_width, boundary_answer_width, answers_needed, work_needed}
use Rattle.scene_lengths.proofs.Needed.{work_most}
use Rattle.iisph_rules.specs.Answer.{after_check, step_answer}
use Rattle.iisph_rules.specs.Coefficients.{Coefficients}
use Rattle.iisph_rules.specs.Iteration.{iteration}
use Rattle.iisph_rules.specs.Step.{ran_out_with, Solution, iterate_from, solution, report_of}
use Rattle.iisph_rules.specs.declared.Ending.{Ending}
use Rattle.iisph_rules.specs.declared.Report.{Report}
use Rattle.iisph_rules.proofs.Iterations.{chosen}
use Rattle.iisph_lines.specs.Lines.{error_text_width, step_line, clock_line, models_text}
use Rattle.iisph_words.proofs.Numbers.{few_digits}
use Rattle.iisph_lines.proofs.Widths.{ending_most, length_step, length_clock}
use Rattle.iisph_text.specs.Text.{answer_text, too_long, most_bytes, text_with, text_of}
use Rattle.iisph_text.specs.Run.{enough_answers, enough_work, enough_index, Reported}
use Rattle.iisph_text.proofs.Room.{line_text, line_bytes, particles_room, answers_few}

-- ---- the first line

iterations_most : (n : ℕ) (s : Scene) (co : List Coefficients) (i : ℕ) (ps : List Float) (e : Ending)
    → (iterate_from n s co i ps e).iterations ≤ i + n
unfolding iterate_from
iterations_most zero s co i ps e = omega arith
iterations_most (suc n) s co i ps e =
    let it = iteration s co ps in
    chosen (λ (w : Solution). w.iterations ≤ i + suc n) _ _ _ (λ _. omega arith)
    (λ _. omega (arith, iterations_most n s co (suc i) it.pressures (ran_out_with it.error)))

-- a report's iterations are at most the most of the scene, which is a byte
report-iterations : (b : List ℕ) → Bytes b → (report_of (scene_of b)).iterations < 256
unfolding report_of solution scene_of header_of
report-iterations b y =
    most (iterations_most (byte_at b max_pressure_iter_offset) _ _ 0 _ _) (y max_pressure_iter_offset)
  where
    most : {i : ℕ} → i ≤ 0 + byte_at b max_pressure_iter_offset → byte_at b max_pressure_iter_offset < 256 → i < 256
    most h k = omega arith

-- the longest word, three digits, and the error
abbrev ending_room : ℕ
ending_room = 8 + 3 + error_text_width

-- ---- the whole text

-- characters of the first two lines that the header's bytes do not stand for: in the plane these are 44, and the lines
-- have at most 93
abbrev pub first_text : ℕ
first_text = 9

module _ (b : List ℕ) (y : Bytes b) {r : Report} (d : Reported b r) where
  step_most : length (step_line r) ≤ 5 + ending_room + 1
  step_most =
      let h : r.iterations < 256 = rw d.report at (report-iterations b y) in
      omega (
        arith,
        length_step r,
        ending_most r.iterations r.ending,
        few_digits 3 r.iterations (omega arith) (omega arith),
      )

  -- all lines together, whatever the answers are and wherever the boundaries' answers begin
  pub done_room : (k : ℕ) (xs : List Float)
      → line_bytes
      * (length (step_line r) + length (clock_line r.clock)
      + (length (models_text Fluid b 0 xs) + length (models_text Boundary b k xs)))
      ≤ line_text * length b + line_bytes * first_text
  done_room k xs =
      omega (arith, step_most, length_clock r.clock, particles_room b d.accepted k xs, (axes_of_lem b).least)

-- ---- long enough lists

-- a boundary particle has at least one answer
widths_least : (d k : ℕ) → 1 ≤ answer_width d Boundary k
unfolding answer_width
widths_least d zero = omega arith
widths_least d (suc k) = omega arith

boundary_answers_least : (d : ℕ) (qs : List BoundaryParticle) → length qs ≤ sum (map (boundary_answer_width d) qs)
unfolding sum boundary_answer_width
boundary_answers_least d [] = omega arith
boundary_answers_least d (q ∷ qs) =
    omega (arith, widths_least d (choose q.keeps_forces 1 0), boundary_answers_least d qs)

-- of work never more than three times as many doubles as of answers
needed_work : (b : List ℕ) → work_needed (scene_of b) ≤ 3 * answers_needed (scene_of b)
unfolding answers_needed scene_of header_of boundary_size
needed_work b =
    omega (
      arith,
      work_most b,
      mul-le-mul_right (fluid_size (scene_of b)) (axes_of_lem b).least,
      boundary_answers_least (axes_of b) (scene_of b).boundary_particles,
    )

-- of the index no more numbers than answers, beside the bases
index_answers : (b : List ℕ) → 2 * fluid_size (scene_of b) + boundary_size (scene_of b) ≤ answers_needed (scene_of b)
unfolding answers_needed scene_of header_of boundary_size
index_answers b =
    omega (
      arith,
      mul-le-mul_right (fluid_size (scene_of b)) (axes_of_lem b).least,
      boundary_answers_least (axes_of b) (scene_of b).boundary_particles,
    )

pub index_enough : {b : List ℕ} {layout : Layout} → Passed b layout → length b ≤ most_bytes
    → index_needed b ≤ enough_index
index_enough {b} passed short =
    omega (
      arith,
      answers_few b passed.walk passed.bytes,
      index_answers b,
      number_few passed Fluid,
      number_few passed Boundary,
    )

module _ (b : List ℕ) (y : Bytes b) {answers work : ℕ} (a : enough_answers ≤ answers) (w : enough_work ≤ work) where
  step_same : length b ≤ most_bytes → (v : Walk) → checked b ≡ v
      → step_answer b answers work ≡ step_answer b (answers_needed (scene_of b)) (work_needed (scene_of b))
  unfolding step_answer after_check choose
  step_same short (Err r) q = rw q
  step_same short (Ok e) q =
      let n = answers_few b q y in
      let l = needed_work b in
      rw (
        q,
        le-ltb answers (answers_needed (scene_of b)) (omega arith),
        le-ltb work (work_needed (scene_of b)) (omega arith),
        le-ltb (answers_needed (scene_of b)) (answers_needed (scene_of b)) (omega arith),
        le-ltb (work_needed (scene_of b)) (work_needed (scene_of b)) (omega arith),
      )

  pub text_same : text_with b answers work ≡ text_of b
  unfolding text_of text_with choose
  text_same = go (ltb most_bytes (length b)) refl
    where
      go : (t : Bool) → ltb most_bytes (length b) ≡ t
          → choose t too_long (answer_text b (step_answer b answers work))
          ≡ choose t too_long (answer_text b (step_answer b (answers_needed (scene_of b)) (work_needed (scene_of b))))
      go true q = refl
      go false q = ap (answer_text b) (step_same (ltb-false most_bytes (length b) q) (checked b) refl)
