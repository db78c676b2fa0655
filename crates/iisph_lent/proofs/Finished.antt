-- The last part of a step: from the list after the iterations the shares, then the answers of fluid and boundary
-- particles end to end, then the work list cleared. Each pass finds what it needs; the pressures are the solution's.
-- Assumes nothing.
use Prim.Native.Nat.{ℕ, zero, suc, ◌+◌, ◌*◌, ◌<◌, ◌≤◌}
use mathlib.Core.Path.{◌≡◌, refl, sym, ap, ◌∙◌}
use mathlib.Core.Logic.{inl, inr}
use mathlib.Core.List.{List, [], ◌∷◌, ◌++◌, flatten}
use native.Mathlib.Nat.{zero-add}
use native.Mathlib.Omega.{arith}
use lib.Ieee.{Float}
use lib.ListN.{length, drop, replicate}
use lib.Seq.{sets, sets-eq}
use Rattle.math.specs.Real.{+0}
use Rattle.lists.specs.Lists.{table}
use Rattle.lists.proofs.Lists.{length-table}
use Rattle.scene_format.specs.Bytes.{Bytes}
use Rattle.scene_check.specs.Check.{Passed}
use Rattle.math.specs.Vector.{Axes}
use Rattle.scene_format.specs.Format.{axes_of}
use Rattle.scene_format.specs.Scene.{fluid_size, boundary_size}
use Rattle.scene_layout.specs.declared.Layout.{Layout}
use Rattle.scene_format.specs.SceneOf.{scene_of}
use Rattle.scene_lengths.specs.Lengths.{fluid_answer_width, answers_needed, work_needed}
use Rattle.timestep_manager.specs.declared.Clock.{Clock}
use Rattle.iisph_rules.specs.Coefficients.{clock_of, coefficients}
use Rattle.iisph_rules.specs.Step.{first_pressures, solution, fluid_answer, boundary_answer, answers_from, answers_of}
use Rattle.iisph_rules.specs.Step.{report_of}
use Rattle.iisph_rules.specs.declared.Ending.{Ending}
use Rattle.iisph_rules.specs.declared.Report.{Report}
use Rattle.iisph_rules.proofs.Iterations.{pressures_after, solution_pressures}
use Rattle.iisph_rules.proofs.Sizes.{length-fluid, length_answers}
use Rattle.iisph_pressures.specs.IterationRows.{pressures_in, row_share, IterationReady, Iterating}
use Rattle.iisph_rows.specs.Rows as rows
use Rattle.iisph_rows.specs.Rows.{volumes_at}
use Rattle.lists.specs.Stores.{stored_at, stored}
use Rattle.lists.proofs.Stores.{slots_in_row}
use Rattle.lists.proofs.Fills.{sets-append}
use Rattle.iisph_pressures.proofs.IterationReads.{pressures_are}
use Rattle.lists.proofs.Numbering.{sum_same}
use Rattle.lists.proofs.Rows.{rows_next, length-rows}
use Rattle.iisph_motion.specs.Changes.{ChangesReady}
use Rattle.iisph_motion.proofs.Accelerations.{share_made}
use Rattle.iisph_iterations.specs.PressureSolve.{iterated_times, Solves}
use Rattle.iisph_lent.specs.Step.{Finishes}
use Rattle.iisph_passes.specs.Traverse.{slot_of, row_of}
use Rattle.iisph_iterations.specs.declared.pressure_solve.Solved.{Solved}
use Rattle.iisph_passes.specs.declared.traverse.Pass.TheVariants.{Shares}
use Rattle.iisph_iterations.proofs.Iterated.{again-ready, again_pressures, drop-times, length-times}
use Rattle.scene_lengths.proofs.Needed.{work_least, answers_needed_lem}
use Rattle.iisph_passes.proofs.Passes.{pass_rows, pass_drop}
use Rattle.lists.proofs.RowParts.{rows_same}
use Rattle.iisph_passes.proofs.Traversal.{length-kept, pressures_kept, iteration_same}

-- ---- after k iterations

module _ (b : List ℕ) {d n : ℕ} (is : d ≡ axes_of b) (axes : Axes d) (size : n ≡ fluid_size (scene_of b))
    (l : List Float)
    (ready : IterationReady (scene_of b) (pressures_in d n l) d n l) where
  pub times_ready : (k : ℕ)
      → IterationReady (scene_of b) (pressures_in d n (iterated_times k d (scene_of b) l)) d n
      (iterated_times k d (scene_of b) l)
  unfolding iterated_times
  times_ready zero = ready
  times_ready (suc k) = again-ready b is size (iterated_times k d (scene_of b) l) (times_ready k)

  times_pressures : pressures_in d n l ≡ first_pressures (scene_of b) → (k : ℕ)
      → pressures_in d n (iterated_times k d (scene_of b) l) ≡ pressures_after (scene_of b) k
  unfolding iterated_times
  times_pressures e zero = e
  times_pressures e (suc k) = again_pressures b is size (iterated_times k d (scene_of b) l) (times_ready k)
      ∙ rw (times_pressures e k)

  pub solved_pressures : pressures_in d n l ≡ first_pressures (scene_of b) → {x : List Float}
      → x ≡ iterated_times (solution (scene_of b)).iterations d (scene_of b) l
      → pressures_in d n x ≡ (solution (scene_of b)).pressures
  solved_pressures e q =
      rw q (times_pressures e (solution (scene_of b)).iterations ∙ sym (solution_pressures (scene_of b) refl))

-- ---- the shares

module _ (b : List ℕ) {d n : ℕ} (is : d ≡ axes_of b) (axes : Axes d) (size : n ≡ fluid_size (scene_of b))
    (l : List Float)
    (ready : IterationReady (scene_of b) (pressures_in d n l) d n l)
    {x : List Float} (e : x ≡ rows.stored d n (slot_of d Shares) (row_of d (scene_of b) l Shares) l) where
  pub shares_pressures : pressures_in d n x ≡ pressures_in d n l
  unfolding slot_of
  shares_pressures = rw e (pressures_kept b is axes size Shares n (omega arith) l (inl (omega arith)))

  pub changes_ready : ChangesReady (scene_of b) d n x
  unfolding slot_of row_of
  changes_ready =
      record {
        iteration =
            rw shares_pressures
            (rw e (iteration_same b is axes size n (omega arith) l Shares (pressures_in d n l) (omega arith)
            (inr (omega arith)) ready));
        share =
            rw shares_pressures
            (rows_same
            (λ i h. ap (λ (q : Float). q ∷ []) (ap (λ (m : ℕ). row_share d l m i) (sym size) ∙ share_made ready size i
            h))
            (rw e (pass_rows b is axes size Shares l (omega (arith, ready.room)))));
      }

-- ---- the answers, end to end

-- rows of w values, one after the other, are the values end to end
stored-joined : (w : ℕ) (f : ℕ → List Float) (l : List Float) (n : ℕ) → ((i : ℕ) → i < n → length (f i) ≡ w)
    → stored w n 0 f l ≡ sets l 0 (flatten (table n f))
unfolding stored_at table flatten
stored-joined w f l zero h = refl
stored-joined w f l (suc n) h =
    let long : length (flatten (table n f)) ≡ w * n = length-rows n f (λ i. w) (λ i m. h i (omega arith))
    ∙ sum_same w n in
    let at : w * n + 0 ≡ 0 + length (flatten (table n f)) = omega (arith, long) in
    slots_in_row w n (f n) (stored w n 0 f l) 0
    ∙ ap (λ (x : List Float). sets x (w * n + 0) (f n)) (stored-joined w f l n (λ i m. h i (omega arith)))
    ∙ rw (at, rows_next n f) (sym (sets-append (flatten (table n f)) (f n) l 0))

module _ (b : List ℕ) {d n : ℕ} (is : d ≡ axes_of b) (size : n ≡ fluid_size (scene_of b)) (old : List Float)
    (room : answers_needed (scene_of b) ≤ length old) where
  pub answers_made : {ps a c : List Float} → ps ≡ (solution (scene_of b)).pressures
      → a ≡ stored (fluid_answer_width d) n 0 (fluid_answer (scene_of b) (coefficients (scene_of b)) ps) old
      → c ≡ sets a (fluid_answer_width d * n)
      (flatten (table (boundary_size (scene_of b)) (boundary_answer (scene_of b) (coefficients (scene_of b)) ps)))
      → c ≡ answers_of (scene_of b) ++ drop (answers_needed (scene_of b)) old
  unfolding answers_of answers_from
  answers_made {ps} {a} {c} p e q =
      let s = scene_of b in
      let co = coefficients s in
      let fs = flatten (table (fluid_size s) (fluid_answer s co ps)) in
      let bs = flatten (table (boundary_size s) (boundary_answer s co ps)) in
      let wide : (i : ℕ) → i < fluid_size s
      → length (fluid_answer s co ps i) ≡ fluid_answer_width d = λ i h. length-fluid b co ps i h
      ∙ ap fluid_answer_width (sym is) in
      let long : length fs ≡ fluid_answer_width d * fluid_size s =
      length-rows (fluid_size s) _ (λ i. fluid_answer_width d) wide ∙ sum_same (fluid_answer_width d) (fluid_size s) in
      let all : length (fs ++ bs) ≡ answers_needed (scene_of b) = rw p (length_answers b) in
      let at : fluid_answer_width d * n ≡ 0 + length fs = ap (λ (k : ℕ). fluid_answer_width d * k) size ∙ sym long
      ∙ sym (zero-add (length fs)) in
      q
      ∙ rw (e, at)
      (ap (λ (x : List Float). sets x (0 + length fs) bs)
      (ap (λ (k : ℕ). stored (fluid_answer_width d) k 0 (fluid_answer s co ps) old) size
      ∙ stored-joined (fluid_answer_width d) (fluid_answer s co ps) old (fluid_size s) wide)
      ∙ sym (sets-append fs bs old 0)
      ∙ sets-eq (fs ++ bs) old 0 (omega (arith, all))
      ∙ rw (zero-add, all, p))

-- ---- the report

pub report_made : (b : List ℕ) {clock : Clock} {iterations : ℕ} {ending : Ending} → clock ≡ clock_of (scene_of b)
    → iterations ≡ (solution (scene_of b)).iterations → ending ≡ (solution (scene_of b)).ending
    → ◌≡◌ {A = Report} (record { clock = clock; iterations = iterations; ending = ending }) (report_of (scene_of b))
unfolding report_of
report_made b ce ie ee = rw (ce, ie, ee)

-- the answers of the fluid particles are among the needed ones
pub answers_room : (b : List ℕ) {d n k : ℕ} → Bytes b → d ≡ axes_of b → n ≡ fluid_size (scene_of b)
    → answers_needed (scene_of b) ≤ k
    → fluid_answer_width d * n ≤ k
answers_room b y is size h = rw (is, size) (omega (arith, answers_needed_lem b y))

-- ---- from the list that the iterations begin with, call by call

module _ {b : List ℕ} {layout : Layout} (passed : Passed b layout) {d n : ℕ} (is : d ≡ axes_of b) (axes : Axes d)
    (size : n ≡ fluid_size (scene_of b)) (work : List Float)
    (ready : IterationReady (scene_of b) (first_pressures (scene_of b)) d n work) where
  pub first_pressures_lem : pressures_in d n work ≡ first_pressures (scene_of b)
  unfolding first_pressures
  first_pressures_lem = pressures_are ready (length-table (fluid_size (scene_of b)) _ ∙ sym size)

  pub first_ready : Iterating (scene_of b) d n work
  first_ready = rw first_pressures_lem ready

  module _ {r : Solved} {x : List Float} (solves : Solves d (scene_of b) work r x) where
    pub solved_ready : Iterating (scene_of b) d n x
    solved_ready = rw solves.list (times_ready b is axes size work first_ready (solution (scene_of b)).iterations)

    module _ {z : List Float} (e : z ≡ rows.stored d n (slot_of d Shares) (row_of d (scene_of b) x Shares) x) where
      pub shared : ChangesReady (scene_of b) d n z
      shared = changes_ready b is axes size x solved_ready e

      shared_pressures : pressures_in d n z ≡ (solution (scene_of b)).pressures
      shared_pressures =
          shares_pressures b is axes size x solved_ready e
          ∙ solved_pressures b is axes size work first_ready first_pressures_lem solves.list

      beyond_rows : volumes_at (axes_of b) (fluid_size (scene_of b)) ≤ work_needed (scene_of b)
      beyond_rows = omega (arith, work_least b)

      drop_shared : drop (work_needed (scene_of b)) z ≡ drop (work_needed (scene_of b)) work
      drop_shared =
          ap (drop (work_needed (scene_of b))) e
          ∙ pass_drop b is axes size Shares x (work_needed (scene_of b)) (rw (is, size) beyond_rows)
          ∙ ap (drop (work_needed (scene_of b))) solves.list
          ∙ drop-times b is (work_needed (scene_of b)) (rw is beyond_rows) (solution (scene_of b)).iterations work

      pub length_shared : length z ≡ length work
      length_shared = ap length e ∙ length-kept b is axes size Shares n (omega arith) x
          ∙ ap length solves.list ∙ length-times b is (solution (scene_of b)).iterations work

      pub finished : {answers a c w : List Float} {k : ℕ} {report : Report} → answers_needed (scene_of b) ≤ length
          answers
          → a ≡ stored (fluid_answer_width d) n 0
          (fluid_answer (scene_of b) (coefficients (scene_of b)) (pressures_in d n z)) answers
          → c ≡ sets a (fluid_answer_width d * n)
          (flatten (table (boundary_size (scene_of b))
          (boundary_answer (scene_of b) (coefficients (scene_of b)) (pressures_in d n z))))
          → k ≡ work_needed (scene_of b) → w ≡ replicate k +0 ++ drop k z
          → report ≡ report_of (scene_of b)
          → Finishes b answers work report c w
      finished {answers} room ae ce ke we re =
          record {
            report = re;
            answers_then = answers_made b is size answers room shared_pressures ae ce;
            work_then = we ∙ rw (ke, drop_shared);
          }
