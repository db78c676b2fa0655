-- Where the answers of the boundary particles stand: one after the other, evenly within a boundary, and so within the
-- answers that are needed. By induction on the particles before; a boundary's particles all keep forces or none.
-- Assumes nothing.
use Prim.Native.Nat.{ℕ, zero, suc, ◌+◌, ◌*◌, ◌-◌, ◌<◌, ◌≤◌}
use mathlib.Core.Path.{◌≡◌, refl, sym, ap}
use mathlib.Core.Bool.{true, false}
use mathlib.Core.List.{List, map}
use native.Mathlib.Nat.{add-zero, add-suc, mul-zero, mul-suc}
use native.Mathlib.Omega.{arith}
use lib.ListN.{get_or}
use Rattle.lists.specs.Lists.{choose, sum, table}
use Rattle.lists.proofs.Lists.{table-map}
use Rattle.lists.proofs.Numbering.{sum_next, sum_more}
use Rattle.scene_check.specs.Check.{Passed}
use Rattle.scene_format.specs.Format.{axes_of, model_number, counts_of, keeps_of, starts_of}
use Rattle.scene_format.specs.Scene.{Scene, no_boundary_particle, fluid_size, boundary_size, boundary}
use Rattle.scene_format.specs.SceneOf.{header_of, scene_of}
use Rattle.scene_format.specs.declared.Kind.TheVariants.{Boundary}
use Rattle.scene_index.specs.Index.{Indexed}
use Rattle.scene_index.specs.Runs.{BoundaryRun}
use Rattle.scene_index.proofs.Runs.{start_before, boundary_run}
use Rattle.scene_layout.specs.Layout.{layout_of}
use Rattle.scene_lengths.specs.Lengths.{fluid_answer_width, kept_answer_width, answer_width}
use Rattle.scene_lengths.specs.Lengths.{boundary_answer_width, answers_needed}
use Rattle.iisph_forces.specs.Forces.{width_at, answer_offset}

-- ---- one particle more, for d axes

none_summed : (f : ℕ → ℕ) → sum (table 0 f) ≡ 0
unfolding table sum
none_summed f = refl

module _ (d : ℕ) (s : Scene) where
  pub offset_next : (j : ℕ) → answer_offset d s (suc j) ≡ answer_offset d s j + width_at d s j
  unfolding answer_offset
  offset_next j = omega (arith, sum_next j (width_at d s))

  pub offset_more : (j k : ℕ) → j ≤ k → answer_offset d s j ≤ answer_offset d s k
  unfolding answer_offset
  offset_more j k h =
      let e : j + (k - j) ≡ k = omega arith in
      let q = ap (λ (i : ℕ). sum (table i (width_at d s))) e in
      omega (arith, sum_more (width_at d s) j (k - j), q)

  pub offset_none : answer_offset d s 0 ≡ fluid_answer_width d * fluid_size s
  unfolding answer_offset
  offset_none = omega (arith, none_summed (width_at d s))

  -- by whether the particle keeps a force
  pub width_kept : (j : ℕ) → (boundary s j).keeps_forces ≡ true → width_at d s j ≡ kept_answer_width d
  unfolding boundary_answer_width answer_width choose
  width_kept j e = rw e

  pub width_not_kept : (j : ℕ) → (boundary s j).keeps_forces ≡ false → width_at d s j ≡ 1
  unfolding boundary_answer_width answer_width choose
  width_not_kept j e = rw e

  -- the widths of p particles from number j on
  pub offset_in : (j p : ℕ) → answer_offset d s (j + p) ≡ answer_offset d s j + sum
      (table p (λ q. width_at d s (j + q)))
  offset_in j zero = rw (add-zero j, none_summed (λ q. width_at d s (j + q))) (sym (add-zero _))
  offset_in j (suc p) =
      rw add-suc (omega (arith, offset_next (j + p), offset_in j p, sum_next p (λ q. width_at d s (j + q))))

  -- of p particles of the same width
  pub offset_even : (j p w : ℕ) → ((q : ℕ) → q < p → width_at d s (j + q) ≡ w)
      → answer_offset d s (j + p) ≡ answer_offset d s j + w * p
  offset_even j zero w h = rw (add-zero j, mul-zero w) (sym (add-zero _))
  offset_even j (suc p) w h =
      rw add-suc
      (omega (arith, offset_next (j + p), h p (omega arith), offset_even j p w (λ q l. h q (omega arith)), mul-suc w p))

  widths_sum : sum (table (boundary_size s) (width_at d s)) ≡ sum (map (boundary_answer_width d) s.boundary_particles)
  unfolding boundary_size boundary
  widths_sum = ap sum (table-map (boundary_answer_width d) s.boundary_particles no_boundary_particle)

-- ---- the last end with the answers that are needed

needed_is : (b : List ℕ)
    → answers_needed (scene_of b)
    ≡ fluid_answer_width (axes_of b) * fluid_size (scene_of b)
    + sum (map (boundary_answer_width (axes_of b)) (scene_of b).boundary_particles)
unfolding answers_needed header_of scene_of
needed_is b = refl

module _ (b : List ℕ) {d : ℕ} (axes : d ≡ axes_of b) where
  pub offset_all : answer_offset d (scene_of b) (boundary_size (scene_of b)) ≡ answers_needed (scene_of b)
  unfolding answer_offset
  offset_all = rw axes (omega (arith, needed_is b, widths_sum (axes_of b) (scene_of b)))

  pub offset_needed : (j : ℕ) → j ≤ boundary_size (scene_of b)
      → answer_offset d (scene_of b) j ≤ answers_needed (scene_of b)
  offset_needed j h = omega (arith, offset_all, offset_more d (scene_of b) j (boundary_size (scene_of b)) h)

-- ---- boundary w, by the lists of its kind

pub indexed_run : {b index : List ℕ} → Indexed b index → (w : ℕ) → w < model_number Boundary b
    → BoundaryRun b (get_or (starts_of Boundary b) w 0) (get_or (counts_of Boundary b) w 0)
    (get_or (keeps_of Boundary b) w 0)
indexed_run {b} ix w h =
    let passed : Passed b (layout_of b) = record { bytes = ix.bytes; walk = ix.accepted; layout_is = refl } in
    rw (start_before Boundary b w h) (boundary_run passed w h)
