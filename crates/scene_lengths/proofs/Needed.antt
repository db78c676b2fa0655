-- Where answers stand: counted model by model, as the layout gives them, and particle by particle, as they are needed,
-- they are as many. Both counts are sums over the heads of the models. Assumes nothing.
use Prim.Native.Nat.{ℕ, zero, suc, ◌+◌, ◌*◌, ◌<◌, ◌≤◌}
use mathlib.Core.Path.{◌≡◌, refl, sym, ap, ◌∙◌, fun_ext}
use mathlib.Core.List.{List, [], ◌∷◌, map, map-map, map-append, flatten}
use native.Mathlib.Nat.{mul-zero, mul-suc, mul-add, mul-le-mul_right}
use native.Mathlib.Numerals.{add-one}
use native.Mathlib.Omega.{arith}
use lib.Dec.{eqb}
use lib.ListN.{length, get_or}
use Rattle.lists.specs.Lists.{choose, sum, table, trail}
use Rattle.lists.proofs.Lists.{table_same}
use Rattle.lists.proofs.Numbering.{length-trail, trail-table, sum_next, sum-append}
use Rattle.math.specs.Vector.{space}
use Rattle.scene_format.specs.Bytes.{Bytes}
use Rattle.scene_format.specs.Format.{axes_of, most_particles, most_of_a_kind, model_number, particles_at, keeps_at}
use Rattle.scene_format.specs.Format.{first_record}
use Rattle.scene_format.specs.Format.{next_record, model_end, first_head, heads_of, counts_of, Location}
use Rattle.scene_format.specs.Format.{model_locations}
use Rattle.scene_format.specs.Format.{locations_of, rule_of, summation_of}
use Rattle.scene_format.specs.Scene.{fluid_size, boundary_size}
use Rattle.scene_format.specs.SceneOf.{boundary_particle_at, header_of, scene_of}
use Rattle.scene_format.specs.declared.Kind.{Kind}
use Rattle.scene_format.specs.declared.Kind.TheVariants.{Fluid, Boundary}
use Rattle.scene_format.specs.declared.Refusal.{Refusal}
use Rattle.scene_format.specs.declared.Summation.{Summation}
use Rattle.scene_format.specs.declared.Summation.TheVariants.{InOrder, ByHalves}
use Rattle.std.specs.declared.result.Result.TheVariants.{Ok, Err}
use Rattle.scene_check.specs.Check.{Passed}
use Rattle.scene_lengths.specs.Lengths.{fluid_answer_width, kept_answer_width, answer_width, boundary_answer_width}
use Rattle.scene_lengths.specs.Lengths.{work_width, added_width, answers_needed, work_needed, lengths_needed}
use Rattle.scene_lengths.specs.Lengths.{needs_after, needs_of, width_in, answers_before, answers_in}
use Rattle.scene_check.specs.Walk.{checked}
use Rattle.scene_layout.specs.declared.Layout.{Layout}
use Rattle.scene_lengths.specs.declared.Lengths.{Lengths}
use Rattle.scene_check.proofs.Accepted.{accepted}
use Rattle.scene_check.proofs.Checks.{fluid-total, boundary-total}
use Rattle.scene_layout.proofs.Locations.{counts_at, keeps_of_lem, fluid_size-sum}
use Rattle.scene_check.proofs.Records.{fluid_size_few, boundary_size_few, keeps_below}

-- ---- one model more

module _ (d : ℕ) (κ : Kind) (keeps counts : List ℕ) where
  pub answers_none : answers_before d κ keeps counts 0 ≡ 0
  unfolding answers_before table sum
  answers_none = refl

  pub answers_next : (m : ℕ)
      → answers_before d κ keeps counts (m + 1)
      ≡ answers_before d κ keeps counts m + width_in d κ keeps m * get_or counts m 0
  unfolding answers_before
  answers_next m = rw (add-one m) (sum_next m _)

-- a boundary's answers are few
pub few_answers : (d keeps count : ℕ) → d ≤ space → count ≤ most_particles
    → answer_width d Boundary keeps * count ≤ kept_answer_width space * most_particles
unfolding answer_width
few_answers d zero count a h = omega arith
few_answers d (suc keeps) count a h = omega (arith, mul-le-mul_right count a)

-- ---- the models of a kind, where each particle has w of its model's head

module _ (κ : Kind) (b : List ℕ) where
  model_sum : (w : ℕ → ℕ) (head : ℕ) (t : List ℕ)
      → sum (map (λ (p : Location). w p.head) (map (λ at. record { head = head; at = at }) t)) ≡ w head * length t
  unfolding sum
  model_sum w head [] = sym (mul-zero (w head))
  model_sum w head (x ∷ t) = omega (arith, model_sum w head t, mul-suc (w head) (length t))

  locations_sum : (w : ℕ → ℕ) (heads : List ℕ)
      → sum (map (λ p. w p.head) (flatten (map (model_locations κ b) heads)))
      ≡ sum (map (λ head. w head * particles_at κ b head) heads)
  unfolding flatten sum model_locations
  locations_sum w [] = refl
  locations_sum w (head ∷ heads) =
      let t = trail (particles_at κ b head) (next_record κ b head) (first_record κ head) in
      let records : List Location = map (λ at. record { head = head; at = at }) t in
      ap sum (map-append (λ (p : Location). w p.head) records (flatten (map (model_locations κ b) heads)))
      ∙ sum-append (map (λ (p : Location). w p.head) records) _
      ∙ omega (
        arith,
        model_sum w head t,
        locations_sum w heads,
        ap (λ (n : ℕ). w head * n) (length-trail (next_record κ b head) (particles_at κ b head) (first_record κ head)),
      )

  models_sum : answers_in κ b
      ≡ sum (map (λ head. answer_width (axes_of b) κ (keeps_at b head) * particles_at κ b head) (heads_of κ b))
  unfolding answers_before heads_of
  models_sum =
      ap sum
      (table_same (model_number κ b) _ _ (λ m h. rw (keeps_of_lem κ b m h, counts_at κ b m h))
      ∙ sym (trail-table (model_end κ b) (λ head. answer_width (axes_of b) κ (keeps_at b head) * particles_at κ b head)
      (model_number κ b) (first_head κ b)))

-- ---- a scene

sum_scaled : (c : ℕ) (f : ℕ → ℕ) (xs : List ℕ) → sum (map (λ x. c * f x) xs) ≡ c * sum (map f xs)
unfolding sum
sum_scaled c f [] = sym (mul-zero c)
sum_scaled c f (x ∷ xs) = omega (arith, sum_scaled c f xs, mul-add c (f x) (sum (map f xs)))

kept_or_not : (k : ℕ) → k < 2 → choose (eqb k 1) 1 0 ≡ k
unfolding choose
kept_or_not zero h = refl
kept_or_not (suc zero) h = refl
kept_or_not (suc (suc k)) h = absurd (omega arith)

-- a fluid particle needs at most one double more than the passes keep of it
by_width : (d : ℕ) (w : Summation) (n m : ℕ) → (work_width d * n + m ≤ (work_width d + added_width w) * n + m)
    × ((work_width d + added_width w) * n + m ≤ (work_width d + 1) * n + m)
by_width d InOrder n m = (omega arith, omega arith)
by_width d ByHalves n m = (omega arith, omega arith)

-- so the rows of all take few
pub width_few : (d : ℕ) {w a n : ℕ} → w ≡ work_width d → d ≤ space → a ≤ 1 → n ≤ most_of_a_kind
    → (w + a) * n ≤ (work_width space + 1) * most_of_a_kind
width_few d {w} {a} {n} e h q l = rw e (omega (arith, mul-le-mul_right n h, mul-le-mul_right n q))

pub answers_few : (d : ℕ) {w n : ℕ} → w ≡ fluid_answer_width d → d ≤ space → n ≤ most_of_a_kind
    → w * n ≤ fluid_answer_width space * most_of_a_kind
answers_few d {w} {n} e h l = rw e (omega (arith, mul-le-mul_right n h))

module _ (b : List ℕ) where
  -- by whether its boundary keeps forces
  pub boundary_width : Bytes b → (p : Location)
      → boundary_answer_width (axes_of b) (boundary_particle_at b p) ≡ answer_width (axes_of b) Boundary
      (keeps_at b p.head)
  unfolding boundary_answer_width boundary_particle_at
  boundary_width y p =
      ap (answer_width (axes_of b) Boundary) (kept_or_not (keeps_at b p.head) (keeps_below b y p.head))

  pub fluid_answers : answers_in Fluid b ≡ fluid_answer_width (axes_of b) * fluid_size (scene_of b)
  unfolding answer_width counts_of
  fluid_answers =
      models_sum Fluid b
      ∙ sum_scaled (fluid_answer_width (axes_of b)) (particles_at Fluid b) (heads_of Fluid b)
      ∙ ap (λ (n : ℕ). fluid_answer_width (axes_of b) * n) (sym (fluid_size-sum b))

  boundary_answers : Bytes b
      → answers_in Boundary b ≡ sum (map (boundary_answer_width (axes_of b)) (scene_of b).boundary_particles)
  unfolding scene_of locations_of
  boundary_answers y =
      let w : ℕ → ℕ = λ head. answer_width (axes_of b) Boundary (keeps_at b head) in
      models_sum Boundary b
      ∙ sym (locations_sum Boundary b w (heads_of Boundary b))
      ∙ ap (λ (f : Location → ℕ). sum (map f (locations_of Boundary b))) (fun_ext (λ p. sym (boundary_width y p)))
      ∙ ap sum (sym (map-map (boundary_answer_width (axes_of b)) (boundary_particle_at b) (locations_of Boundary b)))

  -- as many as are needed
  pub answers_needed_lem : Bytes b
      → answers_needed (scene_of b) ≡ fluid_answer_width (axes_of b) * fluid_size (scene_of b) + answers_in Boundary b
  unfolding answers_needed header_of scene_of
  answers_needed_lem y = rw (boundary_answers y)

  work_needed_lem : work_needed (scene_of b)
      ≡ (work_width (axes_of b) + added_width (summation_of (rule_of b))) * fluid_size (scene_of b) + boundary_size
      (scene_of b)
  unfolding work_needed header_of scene_of
  work_needed_lem = refl

  -- whatever the summation is
  pub work_least : work_width (axes_of b) * fluid_size (scene_of b) + boundary_size (scene_of b) ≤ work_needed
      (scene_of b)
  work_least =
      rw work_needed_lem
      (by_width (axes_of b) (summation_of (rule_of b)) (fluid_size (scene_of b)) (boundary_size (scene_of b))).0

  pub work_most : work_needed (scene_of b) ≤ (work_width (axes_of b) + 1) * fluid_size (scene_of b) + boundary_size
      (scene_of b)
  work_most =
      rw work_needed_lem
      (by_width (axes_of b) (summation_of (rule_of b)) (fluid_size (scene_of b)) (boundary_size (scene_of b))).1

-- ---- a scene that passed the check, with its layout

module _ {b : List ℕ} {layout : Layout} (passed : Passed b layout) where
  -- few particles, so that no sum overflows
  pub fluids_few : layout.fluids.total ≤ most_of_a_kind
  fluids_few = rw (fluid-total passed) (fluid_size_few b passed.walk)

  pub boundaries_few : layout.boundaries.total ≤ most_of_a_kind
  boundaries_few = rw (boundary-total passed) (boundary_size_few b passed.walk)

  pub boundary_few : (m : ℕ) → m < model_number Boundary b → get_or (counts_of Boundary b) m 0 ≤ most_particles
  boundary_few m h = rw (counts_at Boundary b m h) ((accepted b passed.walk).fields.models Boundary m h).few

  pub lengths_are : {answer work behind width : ℕ} → answer ≡ fluid_answer_width (axes_of b) →
      work ≡ work_width (axes_of b)
      → behind ≡ answers_in Boundary b → width ≡ added_width (summation_of (rule_of b))
      → ◌≡◌ {A = Lengths}
      (record {
        answers = answer * layout.fluids.total + behind;
        work = (work + width) * layout.fluids.total + layout.boundaries.total;
      })
      (lengths_needed (scene_of b))
  lengths_are a w e q =
      rw (
        a,
        w,
        e,
        q,
        fluid-total passed,
        boundary-total passed,
        ← work_needed_lem b,
        ← answers_needed_lem b passed.bytes,
      )

  pub accepted_needs : {l : Lengths} → l ≡ lengths_needed (scene_of b) → Ok l ≡ needs_of b
  unfolding needs_of needs_after
  accepted_needs e = rw (passed.walk, e)

pub refused_needs : (b : List ℕ) {r : Refusal} → checked b ≡ Err r → Err r ≡ needs_of b
unfolding needs_of needs_after
refused_needs b q = rw q
