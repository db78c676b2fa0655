-- The lines of an accepted scene's particles have at most 21 characters for each 11 bytes of the scene, and its answers
-- are at most an eleventh of the bytes: of each line by its record before the contacts, for any number of axes; then
-- record by record and model by model. Assumes nothing.
use Prim.Native.Nat.{ℕ, zero, suc, ◌+◌, ◌*◌, ◌<◌, ◌≤◌}
use mathlib.Core.Path.{◌≡◌, refl}
use mathlib.Core.List.{List}
use native.Mathlib.Nat.{mul-zero, mul-add}
use native.Mathlib.Omega.{arith}
use lib.ListN.{length, get_or}
use lib.Ieee.{Float}
use Rattle.lists.specs.Lists.{table, iter, sum}
use Rattle.lists.proofs.Numbering.{sum_same}
use Rattle.lists.proofs.Rows.{length-rows}
use Rattle.scene_format.specs.Bytes.{Bytes}
use Rattle.scene_format.specs.Format.{axes_of, most_models, most_particles, model_number, header_width, particles_at}
use Rattle.scene_format.specs.Format.{keeps_at}
use Rattle.scene_format.specs.Format.{own_width, first_record, next_record, model_end, first_head, head_at, counts_of}
use Rattle.scene_format.specs.Format.{keeps_of}
use Rattle.scene_format.specs.SceneOf.{scene_of}
use Rattle.scene_format.specs.declared.Kind.{Kind}
use Rattle.scene_format.specs.declared.Kind.TheVariants.{Fluid, Boundary}
use Rattle.std.specs.declared.result.Result.TheVariants.{Ok}
use Rattle.scene_format.proofs.Forms.{axes_of_lem}
use Rattle.scene_layout.proofs.Locations.{counts_at, keeps_of_lem}
use Rattle.scene_check.specs.Walk.{checked}
use Rattle.scene_check.proofs.Accepted.{accepted}
use Rattle.scene_lengths.specs.Lengths.{answer_width, width_in, answers_before, answers_in, answers_needed}
use Rattle.scene_lengths.proofs.Needed.{fluid_answers, answers_needed_lem}
use Rattle.iisph_words.specs.Words.{double_text_width, doubles_text, kind_word}
use Rattle.iisph_words.proofs.Numbers.{few_digits}
use Rattle.iisph_words.proofs.WordWidths.{length-pair, length-doubles}
use Rattle.iisph_lines.specs.Lines.{particle_line, model_text, models_upto, models_text}
use Rattle.iisph_lines.proofs.Widths.{length_line}

-- a double of the answers stands for at least so many bytes of the scene
abbrev pub answer_bytes : ℕ
answer_bytes = 11

-- so many characters of a line stand for at least so many bytes: exactly where a boundary in the plane keeps forces, of
-- whose particles each has at most 63 characters and at least 33 bytes
abbrev pub line_text : ℕ
line_text = 21

abbrev pub line_bytes : ℕ
line_bytes = 11

-- ---- sums along a walk

-- what each step allows, all steps allow together
sums_room : (c d : ℕ) (g : ℕ → ℕ) (n at : ℕ) (f : ℕ → ℕ)
    → ((m : ℕ) → m < n → c * f m + d * iter m g at ≤ d * g (iter m g at))
    → c * sum (table n f) + d * at ≤ d * iter n g at
unfolding iter sum table
sums_room c d g zero at f h = omega (arith, mul-zero c)
sums_room c d g (suc n) at f h =
    omega (
      arith,
      mul-add c (f 0) (sum (table n (λ m. f (suc m)))),
      h 0 (omega arith),
      sums_room c d g n (g at) (λ m. f (suc m)) (λ m l. h (suc m) (omega arith)),
    )

-- ---- a particle's line and answers, against its record

-- a model's number has one digit, a particle's at most four
width_bounds : (κ : Kind) (b : List ℕ) (head k : ℕ) → k ≡ keeps_at b head
    → (line_bytes * (length (kind_word κ) + (1 + 1 + 4) + double_text_width * answer_width (axes_of b) κ k + 1)
    ≤ line_text * own_width κ b head)
    × (answer_bytes * answer_width (axes_of b) κ k ≤ own_width κ b head)
unfolding kind_word answer_width own_width
width_bounds Fluid b head k e = let a = (axes_of_lem b).least in (omega arith, omega arith)
width_bounds Boundary b head zero e = let a = (axes_of_lem b).least in (omega arith, omega arith)
width_bounds Boundary b head (suc k) e =
    let a = (axes_of_lem b).least in
    rw (← e) (omega arith, omega arith)

module _ (κ : Kind) (b : List ℕ) (head : ℕ) {k : ℕ} (e : k ≡ keeps_at b head) where
  abbrev width : ℕ
  width = answer_width (axes_of b) κ k

  line_room : (m i : ℕ) → m < most_models → i < most_particles → (xs : List Float) (from at : ℕ)
      → line_bytes * length (particle_line κ m i (doubles_text xs from width)) + line_text * at
      ≤ line_text * next_record κ b head at
  unfolding next_record
  line_room m i h l xs from at =
      omega (
        arith,
        length_line κ m i (doubles_text xs from width),
        length-pair m i,
        length-doubles xs from width,
        few_digits 1 m (omega arith) (omega arith),
        few_digits 4 i (omega arith) (omega arith),
        (width_bounds κ b head k e).0,
      )

  answer_room : (at : ℕ) → answer_bytes * width + 1 * at ≤ 1 * next_record κ b head at
  unfolding next_record
  answer_room at = omega (arith, (width_bounds κ b head k e).1)

  -- ---- a model: it ends behind its records

  module _ {n : ℕ} (c : n ≡ particles_at κ b head) where
    records_end : iter n (next_record κ b head) (first_record κ head) ≡ model_end κ b head
    unfolding model_end
    records_end = rw c

    model_room : (m : ℕ) → m < most_models → n ≤ most_particles → (from : ℕ) (xs : List Float)
        → line_bytes * length (model_text κ m n width from xs) + line_text * head ≤ line_text * model_end κ b head
    unfolding model_text
    model_room m h l from xs =
        let f : ℕ → List ℕ = λ i. particle_line κ m i (doubles_text xs (from + width * i) width) in
        let room =
        sums_room line_bytes line_text (next_record κ b head) n (first_record κ head) (λ i. length (f i))
        (λ i j. line_room m i h (omega arith) xs (from + width * i) _) in
        omega (arith, length-rows n f (λ i. length (f i)) (λ i j. refl), room, records_end)

    model_answers : answer_bytes * (width * n) + head ≤ model_end κ b head
    model_answers =
        let room =
        sums_room answer_bytes 1 (next_record κ b head) n (first_record κ head) (λ i. width) (λ i j. answer_room _) in
        omega (arith, sum_same width n, room, records_end)

-- ---- an accepted scene, kind by kind: from the first model's head to behind the last model

module _ (b : List ℕ) {e : ℕ} (q : checked b ≡ Ok e) where
  kind_room : (κ : Kind) (k : ℕ) (xs : List Float)
      → line_bytes * length (models_text κ b k xs) + line_text * first_head κ b ≤ line_text * head_at κ b
      (model_number κ b)
  unfolding models_upto
  kind_room κ k xs =
      let ok = (accepted b q).fields in
      let d = axes_of b in
      let keeps = keeps_of κ b in
      let counts = counts_of κ b in
      let f : ℕ → List ℕ =
      λ m. model_text κ m (get_or counts m 0) (width_in d κ keeps m) (k + answers_before d κ keeps counts m) xs in
      let room =
      sums_room line_bytes line_text (model_end κ b) (model_number κ b) (first_head κ b) (λ m. length (f m))
      (λ m h.
      let count = counts_at κ b m h in
      let small : get_or counts m 0 ≤ most_particles = rw count (ok.models κ m h).few in
      let few : m < most_models = omega (arith, ok.header.few κ) in
      model_room κ b (head_at κ b m) (keeps_of_lem κ b m h) count m few small (k + answers_before d κ keeps counts m)
      xs) in
      omega (arith, length-rows (model_number κ b) f (λ m. length (f m)) (λ m h. refl), room)

  kind_answers : (κ : Kind)
      → answer_bytes * answers_in κ b + first_head κ b ≤ head_at κ b (model_number κ b)
  unfolding answers_before
  kind_answers κ =
      let keeps = keeps_of κ b in
      let counts = counts_of κ b in
      omega (
        arith,
        sums_room answer_bytes 1 (model_end κ b) (model_number κ b) (first_head κ b)
            (λ m. width_in (axes_of b) κ keeps m * get_or counts m 0)
            (λ m h. omega (arith, model_answers κ b (head_at κ b m) (keeps_of_lem κ b m h) (counts_at κ b m h))),
      )

  -- wherever the boundaries' answers begin; the header leaves room for most of the lines before the particles'
  pub particles_room : (k : ℕ) (xs : List Float)
      → line_bytes * (length (models_text Fluid b 0 xs) + length (models_text Boundary b k xs))
      + line_text * header_width (axes_of b)
      ≤ line_text * length b
  unfolding first_head
  particles_room k xs = omega (arith, kind_room Fluid 0 xs, kind_room Boundary k xs, (accepted b q).fields.ends)

  pub answers_few : Bytes b → answer_bytes * answers_needed (scene_of b) ≤ length b
  unfolding first_head
  answers_few y =
      omega (
        arith,
        answers_needed_lem b y,
        fluid_answers b,
        kind_answers Fluid,
        kind_answers Boundary,
        (accepted b q).fields.ends,
      )
