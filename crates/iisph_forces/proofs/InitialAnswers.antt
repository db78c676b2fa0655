-- The answers of the boundary particles with the forces that the scene has, as the code stores them: one particle, the
-- particles of one boundary, and boundary after boundary. Each is a run of stores behind those done, as long as the
-- offsets say. Assumes nothing.
use Prim.Native.Nat.{ℕ, zero, suc, ◌+◌, ◌*◌, ◌<◌, ◌≤◌}
use mathlib.Core.Path.{◌≡◌, refl, sym, ap, subst, ◌∙◌}
use mathlib.Core.Bool.{Bool, true, false}
use mathlib.Core.List.{List, flatten}
use native.Mathlib.Nat.{add-zero, mul-one, le_antisymm}
use native.Mathlib.Numerals.{add-one}
use native.Mathlib.Omega.{arith}
use lib.Dec.{eqb}
use lib.Ieee.{Float}
use lib.ListN.{length, get_or, set}
use lib.Seq.{sets, length-sets}
use borrow.Author.Tests.{eqb-true}
use Rattle.std.specs.Bool.{then_some}
use Rattle.std.specs.declared.option.Option.{Option}
use Rattle.std.specs.declared.option.Option.TheVariants.{None}
use Rattle.iisph_rows.specs.Passes.{volumes}
use Rattle.iisph_rows.specs.Rows.{volumes_at, element_at, Behind}
use Rattle.iisph_rows.proofs.RowReads.{volume_behind}
use Rattle.iisph_rows.proofs.Volumes.{bit_one}
use Rattle.iisph_rules.specs.Coefficients.{boundary_volume}
use Rattle.iisph_rules.proofs.Iterations.{chosen}
use Rattle.lists.specs.Lists.{table, choose}
use Rattle.lists.proofs.Fills.{sets-append, Filling, none_stored, one_more_in_front, all_stored}
use Rattle.lists.proofs.Lists.{length-table}
use Rattle.lists.proofs.Rows.{rows_next, rows_none, rows-add, length-rows}
use Rattle.lists.proofs.Stores.{sets_in}
use Rattle.math.specs.Vector.{Vector}
use Rattle.scene_check.specs.Walk.{checked}
use Rattle.scene_check.proofs.Accepted.{accepted_within}
use Rattle.scene_check.proofs.Records.{boundary-particle_ok}
use Rattle.scene_format.specs.Bytes.{AllFinite, vector_at}
use Rattle.scene_format.specs.Format.{axes_of, nameable_models, model_number, particles_at, keeps_at, force_offset}
use Rattle.scene_format.specs.Format.{bit, counts_of, location_of}
use Rattle.scene_format.specs.Scene.{Scene, fluid_size, boundary_size, boundary}
use Rattle.scene_format.specs.SceneOf.{force_at, boundary_particle_at, scene_of}
use Rattle.scene_format.specs.declared.Kind.TheVariants.{Boundary}
use Rattle.std.specs.declared.result.Result.TheVariants.{Ok}
use Rattle.scene_index.specs.Index.{Indexed}
use Rattle.scene_index.specs.Runs.{BoundaryRun}
use Rattle.scene_index.proofs.Runs.{before, keeps_at_lem, none_before, boundaries_before, start_before, count_next}
use Rattle.scene_layout.proofs.Locations.{boundary_at}
use Rattle.scene_layout.proofs.Turns.{Turn}
use Rattle.scene_lengths.specs.Lengths.{fluid_answer_width, answer_width, boundary_answer_width, answers_needed}
use Rattle.iisph_forces.specs.Forces.{width_at, answer_offset, force_start, force_starts, ForcesKnown}
use Rattle.iisph_forces.specs.Forces.{boundary_with, boundary_initial}
use Rattle.iisph_forces.proofs.Gathered.{with_length, initial_fits}
use Rattle.iisph_forces.proofs.Offsets.{offset_next, offset_needed, offset_none, offset_in}

-- ---- one particle

pub width_some : (d : ℕ) (s : Scene) (j : ℕ) → 1 ≤ width_at d s j
unfolding boundary_answer_width answer_width
width_some d s j =
    chosen (λ (n : ℕ). 1 ≤ answer_width d Boundary n) (boundary s j).keeps_forces 1 0 (λ _. omega arith)
    (λ _. omega arith)

force_read : (b : List ℕ) (k at : ℕ) → k ≡ 1 → vector_at (axes_of b) b at ≡ force_at k b at
unfolding force_at
force_read b zero at e = absurd (omega arith)
force_read b (suc k) at e = refl

module _ {b index : List ℕ} (ix : Indexed b index) (j : ℕ) (h : j < boundary_size (scene_of b))
    (kept : (boundary (scene_of b) j).keeps_forces ≡ true) where
  keeps_one : keeps_at b (location_of Boundary b j).head ≡ 1
  keeps_one = eqb-true _ 1 (sym (keeps_at_lem b j h) ∙ kept)

  own_finite : AllFinite b ((location_of Boundary b j).at + force_offset (axes_of b)) (axes_of b)
  own_finite =
      let ok = (boundary-particle_ok b ix.accepted j h).own.force in
      let from = (location_of Boundary b j).at + force_offset (axes_of b) in
      subst (AllFinite b from) (ap (λ (k : ℕ). axes_of b * k) keeps_one ∙ mul-one (axes_of b)) ok

  -- where `record_of` says; the code has d for the number of axes, and o for where the force stands in the record
  module _ {d : ℕ} (axes : d ≡ axes_of b) {at o : ℕ} (e : at ≡ (location_of Boundary b j).at)
      (oe : o ≡ force_offset d) where
    pub force_finite : AllFinite b (at + o) d
    force_finite = rw (e, oe, axes) own_finite

    pub force_here : vector_at d b (at + o) ≡ (boundary (scene_of b) j).force
    unfolding boundary_particle_at
    force_here =
        rw (e, oe, axes)
        (force_read b _ ((location_of Boundary b j).at + force_offset (axes_of b)) keeps_one
        ∙ sym (ap (λ p. p.force) (boundary_at b j h)))

-- the volume stands behind rows and columns
pub volume_read : (s : Scene) (d n : ℕ) {work : List Float} → Behind d n (volumes s) work → (j : ℕ) →
    j < boundary_size s
    → {k : ℕ} → k ≡ volumes_at d n + j → element_at work k ≡ boundary_volume (boundary s j)
volume_read s d n {work} q j h e = ap (element_at work) e ∙ volume_behind s d n q j h

-- both stores, or the one
module _ (s : Scene) (j : ℕ) (l : List Float) (at : ℕ) {v : Float} (volume : v ≡ boundary_volume (boundary s j)) where
  pub initial_kept : (boundary s j).keeps_forces ≡ true → {f : Vector} → f ≡ (boundary s j).force
      → sets (set l at v) (at + 1) f ≡ sets l at (boundary_initial s j)
  unfolding boundary_with choose
  initial_kept kept e = rw (volume, e, kept, add-one at)

  pub initial_not_kept : (boundary s j).keeps_forces ≡ false → set l at v ≡ sets l at (boundary_initial s j)
  unfolding boundary_with choose
  initial_not_kept kept = rw (volume, kept)

-- ---- the particles of one boundary

-- of `count` particles from number `first` on the first p are stored in l; this gave x, and the next one's element is
-- `to`
pub record BoundaryPut (d : ℕ) (b : List ℕ) (l : List Float) (first count p to : ℕ) (x : List Float) : Type 0 where
  pub within : p ≤ count
  pub long : length x ≡ length l
  pub next : to ≡ answer_offset d (scene_of b) (first + p)
  pub stored : x
      ≡ sets l (answer_offset d (scene_of b) first) (flatten (table p (λ k. boundary_initial (scene_of b) (first + k))))

module _ (d : ℕ) (b : List ℕ) (l : List Float) (first count : ℕ) where
  pub none_put : {at : ℕ} → at ≡ answer_offset d (scene_of b) first → {p : ℕ} → p ≡ 0
      → BoundaryPut d b l first count p at l
  none_put e z =
      rw z
      record {
        within = omega arith;
        long = refl;
        next = rw (add-zero first) e;
        stored = rw (rows_none (λ k. boundary_initial (scene_of b) (first + k)));
      }

  module _ (axes : d ≡ axes_of b) {e : ℕ} (q : checked b ≡ Ok e) (fits : first + count ≤ boundary_size (scene_of b))
      {p to : ℕ} {x : List Float} (here : BoundaryPut d b l first count p to x) where
    pub particle-room : p < count → answers_needed (scene_of b) ≤ length l
        → to + width_at d (scene_of b) (first + p) ≤ length x
    particle-room h room =
        let j = first + p in
        omega (arith, here.long, here.next, offset_next d (scene_of b) j, offset_needed b axes (suc j) (omega arith))

    pub one_more_put : p < count → {r : ℕ} {y : List Float} → r ≡ to + width_at d (scene_of b) (first + p)
        → y ≡ sets x to (boundary_initial (scene_of b) (first + p)) → BoundaryPut d b l first count (p + 1) r y
    one_more_put h re ye =
        let s = scene_of b in
        let at = answer_offset d s first in
        let initial : ℕ → List Float = λ k. boundary_initial s (first + k) in
        let done = flatten (table p initial) in
        let long = length-rows p initial (λ k. width_at d s (first + k))
        (λ k m. with_length d s (λ j. (boundary s j).force) (initial_fits b q axes) (first + k) (omega arith)) in
        let start : to ≡ at + length done = omega (arith, here.next, long, offset_in d s first p) in
        let more : first + (p + 1) ≡ suc (first + p) = omega arith in
        record {
          within = omega arith;
          long = ap length ye ∙ length-sets x to (boundary_initial s (first + p)) ∙ here.long;
          next = rw more (omega (arith, re, here.next, offset_next d s (first + p)));
          stored =
              ye ∙ rw (here.stored, start, add-one p, rows_next p initial) (sym (sets-append done (initial p) l at));
        }

    pub all_put : count ≤ p
        → (to ≡ answer_offset d (scene_of b) (first + count))
        × (x
        ≡ sets l (answer_offset d (scene_of b) first)
        (flatten (table count (λ k. boundary_initial (scene_of b) (first + k)))))
    all_put h =
        let e = le_antisymm here.within h in
        (rw (← e) here.next, rw (← e) here.stored)

-- ---- boundary after boundary

-- of the boundaries the first w, which have `first` particles, are stored in l, and where their forces begin in fs;
-- this gave x and gs, and the next boundary's element is `to`
pub record InitialPut (d : ℕ) (b : List ℕ) (fs : List (Option ℕ)) (l : List Float) (first to w : ℕ)
    (gs : List (Option ℕ)) (x : List Float) : Type 0 where
  pub start : first ≡ before (counts_of Boundary b) w
  pub long : length x ≡ length l
  pub next : to ≡ answer_offset d (scene_of b) first
  pub starts : Filling fs 0 (force_start d b) (model_number Boundary b) w gs
  pub stored : x
      ≡ sets l (fluid_answer_width d * fluid_size (scene_of b))
      (flatten (table (before (counts_of Boundary b) w) (boundary_initial (scene_of b))))

module _ (d : ℕ) (b : List ℕ) (fs : List (Option ℕ)) (l : List Float) where
  pub no_boundaries : {to : ℕ} → to ≡ fluid_answer_width d * fluid_size (scene_of b) → InitialPut d b fs l 0 to 0 fs l
  no_boundaries e =
      record {
        start = sym (none_before Boundary b);
        long = refl;
        next = e ∙ sym (offset_none d (scene_of b));
        starts = none_stored fs 0 (force_start d b) (model_number Boundary b);
        stored = rw (none_before Boundary b, rows_none (boundary_initial (scene_of b)));
      }

  module _ {first to w : ℕ} {gs : List (Option ℕ)} {x : List Float} (here : InitialPut d b fs l first to w gs x) where
    -- the next boundary begins within what is needed
    pub boundary-room : d ≡ axes_of b → {count keeps : ℕ} → BoundaryRun b first count keeps
        → to ≤ answers_needed (scene_of b)
    boundary-room axes run = omega (arith, here.next, offset_needed b axes first (omega (arith, run.within)))

    module _ (h : w < model_number Boundary b) {heads : List ℕ} (turn : Turn Boundary b heads w) where
      force_starts_lem : (keeps : Bool) {f : Option ℕ} → bit keeps ≡ keeps_at b (get_or heads w 0)
          → f ≡ then_some keeps (to + 1) → f ≡ force_start d b w
      unfolding force_start
      force_starts_lem keeps k e =
          let kept = sym (bit_one keeps) ∙ ap (λ (n : ℕ). eqb n 1) (k ∙ turn.keeps) in
          e ∙ rw (here.next, here.start, ← start_before Boundary b w h, kept)

      pub one_more_boundary : d ≡ axes_of b → {e : ℕ} → checked b ≡ Ok e
          → (keeps : Bool) {count r : ℕ} {f : Option ℕ} {y : List Float}
          → BoundaryRun b first count (bit keeps)
          → count ≡ particles_at Boundary b (get_or heads w 0)
          → bit keeps ≡ keeps_at b (get_or heads w 0)
          → f ≡ then_some keeps (to + 1)
          → r ≡ answer_offset d (scene_of b) (first + count)
          → y ≡ sets x to (flatten (table count (λ p. boundary_initial (scene_of b) (first + p))))
          → InitialPut d b fs l (first + count) r (w + 1) (set gs w f) y
      unfolding answer_offset
      one_more_boundary axes q keeps {count} {r} {f} {y} run c k fe re ye =
          let s = scene_of b in
          let initial = boundary_initial s in
          let done = before (counts_of Boundary b) w in
          let more : before (counts_of Boundary b) (suc w) ≡ done + count =
          rw (c ∙ turn.count) (count_next Boundary b w) in
          let long = length-rows first initial (width_at d s)
          (λ j m.
          with_length d s (λ j. (boundary s j).force) (initial_fits b q axes) j (omega (arith, run.within))) in
          let rows = flatten (table first initial) in
          let at : to ≡ fluid_answer_width d * fluid_size s + length rows = omega (arith, here.next, long) in
          let done_stored : x ≡ sets l (fluid_answer_width d * fluid_size s) rows = rw here.start here.stored in
          record {
            start = rw (add-one w) (omega (arith, here.start, more));
            long = ap length ye ∙ length-sets x to (flatten (table count (λ p. initial (first + p)))) ∙ here.long;
            next = re;
            starts =
                one_more_in_front fs (force_start d b) (model_number Boundary b) here.starts h
                (force_starts_lem keeps k fe);
            stored =
                ye
                ∙ rw (add-one w, more, ← here.start, rows-add first count initial, done_stored, at)
                (sym
                (sets-append rows (flatten (table count (λ p. initial (first + p)))) l
                (fluid_answer_width d * fluid_size s)));
          }

    pub all_boundaries : model_number Boundary b ≤ w
        → (gs ≡ sets fs 0 (force_starts d b))
        × (x
        ≡ sets l (fluid_answer_width d * fluid_size (scene_of b))
        (flatten (table (boundary_size (scene_of b)) (boundary_initial (scene_of b)))))
    unfolding force_starts
    all_boundaries h =
        let e = le_antisymm here.starts.within h in
        let starts = all_stored fs 0 (force_start d b) (model_number Boundary b) here.starts h refl in
        (starts, rw (← boundaries_before b, ← e) here.stored)

-- ---- what gathering finds

module _ (d : ℕ) (b : List ℕ) where
  pub starts_held : {e : ℕ} → checked b ≡ Ok e → (fs : List (Option ℕ)) → nameable_models ≤ length fs
      → {gs : List (Option ℕ)} → gs ≡ sets fs 0 (force_starts d b) → ForcesKnown d b gs
  unfolding force_starts
  starts_held q fs room is =
      let few = (accepted_within b q Boundary).few in
      let size = length-table (model_number Boundary b) (force_start d b) in
      let long = length-sets fs 0 (table (model_number Boundary b) (force_start d b)) in
      let starts = table (model_number Boundary b) (force_start d b) in
      rw is
      (record {
        room = omega (arith, long);
        starts = record { holds = λ i h. sets_in None starts fs 0 i (omega arith) h };
      })

pub still-room : (b : List ℕ) (l : List Float) (k : ℕ) {x : List Float}
    → x ≡ sets l k (flatten (table (boundary_size (scene_of b)) (boundary_initial (scene_of b))))
    → answers_needed (scene_of b) ≤ length l → answers_needed (scene_of b) ≤ length x
still-room b l k is room =
    let s = scene_of b in
    let long = ap length is ∙ length-sets l k (flatten (table (boundary_size s) (boundary_initial s))) in
    omega (arith, long)
