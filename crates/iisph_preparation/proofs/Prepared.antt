-- What a step goes on with once its rows are prepared: a pass's premises from the step's header and index, what the
-- iterations find, and what stands behind the needed part. From the definitions. Assumes nothing.
use Prim.Native.Nat.{ℕ, ◌≤◌}
use mathlib.Core.Path.{◌≡◌, ap}
use mathlib.Core.List.{List}
use native.Mathlib.Omega.{arith}
use lib.Ieee.{Float}
use lib.ListN.{length, drop, replicate, length-replicate}
use lib.Seq.{sets, drop_at}
use Rattle.math.specs.Real.{+0}
use Rattle.scene_format.specs.Scene.{fluid_size}
use Rattle.scene_format.specs.Format.{axes_of}
use Rattle.scene_format.specs.SceneOf.{scene_of, header_of}
use Rattle.scene_check.specs.Check.{Passed}
use Rattle.scene_layout.specs.declared.Layout.{Layout}
use Rattle.scene_index.specs.Index.{index_needed, index_of}
use Rattle.scene_index.proofs.Indexes.{indexed}
use Rattle.scene_lengths.specs.Lengths.{work_needed}
use Rattle.scene_check.proofs.Checks.{fluid-total}
use Rattle.scene_lengths.proofs.Needed.{work_least}
use Rattle.iisph_rules.specs.Step.{first_pressures}
use Rattle.iisph_header.specs.Header.{StepHeaderIs}
use Rattle.iisph_header.specs.declared.StepHeader.{StepHeader}
use Rattle.iisph_rows.specs.Passes.{PassOver, DrivenPass}
use Rattle.iisph_pressures.specs.IterationRows.{IterationReady}
use Rattle.iisph_preparation.specs.Prepare.{work_prepared}
use Rattle.iisph_rules.specs.Step.{Readiness}
use Rattle.std.specs.declared.result.Result.TheVariants.{Ok, Err}
use Rattle.iisph_preparation.proofs.IterationStart.{iteration_ready}
use Rattle.iisph_preparation.proofs.RowsFilled.{length-prepared, drop-prepared}

-- the filled index and the layout's number of fluid particles are what a pass goes over
pub indexed_over : {b : List ℕ} {layout : Layout} {d : ℕ} → Passed b layout → d ≡ axes_of b
    → (l : List ℕ) {index : List ℕ}
    → index_needed b ≤ length l → index ≡ sets l 0 (index_of b) → PassOver b index d layout.fluids.total
indexed_over passed is l room e =
    record { indexed = rw e (indexed passed l room); axes = is; size = fluid-total passed }

-- what a pass may rely on, with the header's dt and gravity
pub driven : {b index : List ℕ} {d n : ℕ} {header : StepHeader} → PassOver b index d n
    → StepHeaderIs (scene_of b) header → DrivenPass b index d n header.clock.dt header.gravity
unfolding scene_of header_of
driven {b} {header = header} over h =
    record {
      timed = record { over = over; dt_is = ap (λ c. c.dt) h.clock_is };
      gravity_is = rw over.axes h.gravity_is;
    }

-- behind the needed part the passes leave the list as it was
pub beyond : (b : List ℕ) (work : List Float) (r : Readiness) → drop (work_needed (scene_of b)) (work_prepared b r work)
    ≡ drop (work_needed (scene_of b)) work
unfolding work_prepared
beyond b work (Ok _) = drop-prepared b work (work_needed (scene_of b)) (omega (arith, work_least b))
beyond b work (Err r) = drop_at (replicate (work_needed (scene_of b)) +0) (drop (work_needed (scene_of b)) work)
    (work_needed (scene_of b)) (length-replicate (work_needed (scene_of b)) +0)

-- what the iterations find, once the passes before them have refused nothing
pub prepared_ready : (b : List ℕ) {d n : ℕ} → d ≡ axes_of b → n ≡ fluid_size (scene_of b) → (work : List Float)
    → work_needed (scene_of b) ≤ length work
    → {r : Readiness} {x : List Float} → r ≡ Ok tt → x ≡ work_prepared b r work
    → IterationReady (scene_of b) (first_pressures (scene_of b)) d n x
unfolding work_prepared
prepared_ready b is size work h e q = rw (q, e, size, is) (iteration_ready b work (omega (arith, work_least b)))

pub prepared_long : (b : List ℕ) (work : List Float) {r : Readiness} {x : List Float} → r ≡ Ok tt
    → x ≡ work_prepared b r work → length x ≡ length work
unfolding work_prepared
prepared_long b work e q = rw (q, e) (length-prepared b work)

-- a local list of n zeros has room for n
pub long : (n : ℕ) → n ≤ length (replicate {A = ℕ} n 0)
long n = omega (arith, length-replicate {A = ℕ} n 0)
