-- The models of a kind, one behind the other: the particles of each are a run of numbers that begins where those before
-- it end, and the last ends with all. By induction on the models before. Assumes nothing.
use Prim.Native.Nat.{ℕ, zero, suc, ◌+◌, ◌-◌, ◌<◌, ◌≤◌}
use mathlib.Core.Path.{◌≡◌, refl, sym, ap, ◌∙◌}
use mathlib.Core.List.{List, [], ◌∷◌}
use native.Mathlib.Omega.{arith}
use lib.Dec.{eqb}
use lib.ListN.{length, get_or}
use Rattle.lists.specs.Lists.{sum, table, starts_from}
use Rattle.lists.proofs.Fills.{table_list}
use Rattle.lists.proofs.Numbering.{sum_next, sum_more, starts_next}
use Rattle.scene_check.specs.Check.{Passed}
use Rattle.scene_check.proofs.Records.{keeps_below}
use Rattle.scene_format.specs.Format.{model_number, particles_at, keeps_at, counts_of, keeps_of, starts_of, location_of}
use Rattle.scene_format.specs.Scene.{boundary_size, size_of, boundary}
use Rattle.scene_format.specs.SceneOf.{boundary_particle_at, scene_of}
use Rattle.scene_format.specs.declared.Kind.{Kind}
use Rattle.scene_format.specs.declared.Kind.TheVariants.{Boundary}
use Rattle.scene_layout.specs.declared.Layout.{Layout}
use Rattle.scene_layout.proofs.Locations.{length_counts, keeps_of_lem, location_at, size_sum, boundary_at}
use Rattle.scene_layout.proofs.Turns.{Turn}
use Rattle.scene_index.specs.Runs.{BoundaryRun}

none_summed : (f : ℕ → ℕ) → sum (table 0 f) ≡ 0
unfolding table sum
none_summed f = refl

-- the particles of the first w models, by their counts
abbrev pub before : List ℕ → ℕ → ℕ
before counts w = sum (table w (λ v. get_or counts v 0))

starts_before : (ns : List ℕ) (w : ℕ) → w < length ns → get_or (starts_from 0 ns) w 0 ≡ before ns w
unfolding table sum starts_from
starts_before [] zero h = absurd (omega arith)
starts_before (n ∷ ns) zero h = refl
starts_before ns (suc w) h =
    omega (arith, starts_next ns w h, starts_before ns w (omega arith), sum_next w (λ v. get_or ns v 0))

before_all : (ns : List ℕ) → before ns (length ns) ≡ sum ns
before_all ns = ap sum (table_list (length ns) ns 0 refl)

-- whether a boundary particle keeps forces
pub keeps_at_lem : (b : List ℕ) (j : ℕ) → j < boundary_size (scene_of b)
    → (boundary (scene_of b) j).keeps_forces ≡ eqb (keeps_at b (location_of Boundary b j).head) 1
unfolding boundary_particle_at
keeps_at_lem b j h = ap (λ q. q.keeps_forces) (boundary_at b j h)

pub run_keeps : {b : List ℕ} {first count keeps : ℕ} → BoundaryRun b first count keeps → (p : ℕ) → p < count
    → (boundary (scene_of b) (first + p)).keeps_forces ≡ eqb keeps 1
run_keeps {b} {first} run p h =
    keeps_at_lem b (first + p) (omega (arith, run.within)) ∙ ap (λ (k : ℕ). eqb k 1) (run.same p h)

module _ (κ : Kind) (b : List ℕ) where
  pub none_before : before (counts_of κ b) 0 ≡ 0
  none_before = none_summed _

  all_before : before (counts_of κ b) (model_number κ b) ≡ size_of κ (scene_of b)
  all_before =
      ap (before (counts_of κ b)) (sym (length_counts κ b)) ∙ before_all (counts_of κ b) ∙ sym (size_sum b κ)

  pub count_next : (w : ℕ) → before (counts_of κ b) (suc w) ≡ before (counts_of κ b) w + get_or (counts_of κ b) w 0
  count_next w = sum_next w (λ v. get_or (counts_of κ b) v 0)

  -- model w
  module _ (w : ℕ) (h : w < model_number κ b) where
    pub start_before : get_or (starts_of κ b) w 0 ≡ before (counts_of κ b) w
    start_before = starts_before (counts_of κ b) w (rw (length_counts κ b) h)

    pub before_more : before (counts_of κ b) (suc w) ≤ size_of κ (scene_of b)
    before_more =
        let n = model_number κ b in
        let ns = counts_of κ b in
        let e : suc w + (n - suc w) ≡ length ns = omega (arith, length_counts κ b) in
        let q = ap (before ns) e in
        omega (arith, sum_more (λ v. get_or ns v 0) (suc w) (n - suc w), q, before_all ns, size_sum b κ)

pub boundaries_before : (b : List ℕ) → before (counts_of Boundary b) (model_number Boundary b) ≡ boundary_size
    (scene_of b)
unfolding size_of
boundaries_before b = all_before Boundary b

-- boundary w of a scene that passed the check
pub boundary_run : {b : List ℕ} {layout : Layout} → Passed b layout → (w : ℕ) → w < model_number Boundary b
    → BoundaryRun b (before (counts_of Boundary b) w) (get_or (counts_of Boundary b) w 0)
    (get_or (keeps_of Boundary b) w 0)
unfolding size_of
boundary_run {b} passed w h =
    record {
      within = omega (arith, count_next Boundary b w, before_more Boundary b w h);
      bit = rw (keeps_of_lem Boundary b w h) (keeps_below b passed.bytes _);
      same = λ p l.
          rw (← start_before Boundary b w h, keeps_of_lem Boundary b w h)
          (ap (λ q. keeps_at b q.head) (location_at Boundary b w p h l));
    }

-- the same, of what a loop has found and read at its head
pub turn_run : {b : List ℕ} {layout : Layout} → Passed b layout → {heads : List ℕ} {w : ℕ} → Turn Boundary b heads w
    → {first count keeps : ℕ} → first ≡ before (counts_of Boundary b) w → count ≡ particles_at Boundary b
    (get_or heads w 0)
    → keeps ≡ keeps_at b (get_or heads w 0)
    → BoundaryRun b first count keeps
turn_run passed {heads} {w} turn f c k = rw (f, c ∙ turn.count, k ∙ turn.keeps) (boundary_run passed w turn.below)
