-- Boundary volumes as the code finds them: a sum of weights taken one by one, the volume of one record, and one
-- boundary's run of volumes behind those done. By what the scene says of a record. Assumes nothing.
use Prim.Native.Nat.{ℕ, suc, ◌+◌, ◌<◌, ◌≤◌}
use mathlib.Core.Path.{◌≡◌, refl, sym, ap, ◌∙◌}
use mathlib.Core.Bool.{Bool, true, false, cond}
use mathlib.Core.List.{List}
use native.Mathlib.Nat.{le_antisymm}
use native.Mathlib.Numerals.{add-one}
use native.Mathlib.Omega.{arith}
use lib.Dec.{eqb}
use lib.Ieee.{Float}
use lib.ListN.{length, get_or, take}
use lib.Seq.{sets, length-sets}
use Rattle.iisph_rules.specs.Coefficients.{volume_from, boundary_volume}
use Rattle.lists.specs.Lists.{table}
use Rattle.lists.proofs.Fills.{sets-append}
use Rattle.lists.proofs.Lists.{fold-table, length-table, table-add}
use Rattle.math.specs.Real.{◌⊕◌, ◌⊘◌, +0, one, is_zero, total}
use Rattle.scene_check.specs.Check.{Passed}
use Rattle.scene_check.proofs.Accepted.{accepted_within}
use Rattle.scene_check.proofs.Checks.{boundaries_are}
use Rattle.scene_check.proofs.Records.{boundary-particle_ok}
use Rattle.scene_format.specs.Bytes.{byte_at}
use Rattle.scene_format.specs.Format.{axes_of, bit, most_models, model_number, boundary_count_offset}
use Rattle.scene_format.specs.Format.{counts_of, location_of}
use Rattle.scene_format.specs.Scene.{Scene, size_of, boundary}
use Rattle.scene_format.specs.SceneOf.{boundary_weights, boundary_particle_at, scene_of}
use Rattle.scene_format.specs.declared.Kind.TheVariants.{Boundary}
use Rattle.scene_index.specs.Index.{Indexed}
use Rattle.scene_index.specs.Runs.{BoundaryRun}
use Rattle.scene_index.proofs.Runs.{before, none_before, boundaries_before, count_next}
use Rattle.scene_layout.proofs.Turns.{Turn, number_few, length_front as front_length, front_turn}
use Rattle.scene_layout.specs.declared.Layout.{Layout}
use Rattle.scene_walk.specs.Accepted.{BoundaryRecordOk}
use Rattle.iisph_rows.specs.Passes.{volumes, volume_at}

-- ---- one record

-- one weight more
pub sum_next : (w : ℕ → Float) (j : ℕ) {sum x : Float} → sum ≡ total +0 (table j w) → x ≡ w j
    → sum ⊕ x ≡ total +0 (table (j + 1) w)
sum_next w j e q = rw (e, q, add-one j) (sym (fold-table ◌⊕◌ +0 j w))

-- 1 / the sum, or 0
module _ (b : List ℕ) (k at : ℕ) {n count : ℕ} {sum : Float} (ce : count ≡ boundary_count_offset (axes_of b) k)
    (contacts : n ≡ byte_at b (at + count)) (e : sum ≡ total +0 (boundary_weights b n (at + (count + 1)))) where
  volume_is : cond (is_zero sum) +0 (one ⊘ sum) ≡ volume_at b k at
  unfolding volume_at volume_from
  volume_is = rw (e, contacts, ce)

  pub volume_zero : true ≡ is_zero sum → +0 ≡ volume_at b k at
  volume_zero z = ap (λ (t : Bool). cond t +0 (one ⊘ sum)) z ∙ volume_is

  pub volume_inverse : false ≡ is_zero sum → one ⊘ sum ≡ volume_at b k at
  volume_inverse z = ap (λ (t : Bool). cond t +0 (one ⊘ sum)) z ∙ volume_is

-- ---- one boundary

-- whether it keeps forces, as the number that its head has
pub bit_one : (keeps : Bool) → eqb (bit keeps) 1 ≡ keeps
bit_one true = refl
bit_one false = refl

module _ {b index : List ℕ} (ix : Indexed b index) {first count keeps : ℕ} (run : BoundaryRun b first count keeps)
    {p : ℕ} (h : p < count) where
  -- what `record_of` asks
  pub run_asked : Indexed b index × (first + p < size_of Boundary (scene_of b))
  unfolding size_of
  run_asked = (ix, omega (arith, run.within))

  -- where it says
  module _ {at : ℕ} (e : at ≡ (location_of Boundary b (first + p)).at) where
    pub record_ok : BoundaryRecordOk b keeps at
    record_ok =
        rw (e, ← run.same p h)
        (boundary-particle_ok b ix.accepted (first + p) (omega (arith, run.within))).own

    pub volume_here : volume_at b keeps at ≡ boundary_volume (boundary (scene_of b) (first + p))
    unfolding volume_at boundary_volume boundary_particle_at
    volume_here =
        rw (
          e,
          ← run.same p h,
          (boundary-particle_ok b ix.accepted (first + p) (omega (arith, run.within))).boundary,
        )

-- ---- boundary after boundary

-- the turns of a loop over the front of the heads, as long as there are boundaries
module _ {b : List ℕ} {layout : Layout} (passed : Passed b layout) where
  pub few_boundaries : layout.boundaries.number ≤ most_models
  few_boundaries = number_few (accepted_within b passed.walk Boundary) (boundaries_are b passed.layout_is)

  pub length_front : length (take layout.boundaries.number layout.boundaries.heads) ≡ model_number Boundary b
  length_front = front_length (accepted_within b passed.walk Boundary) (boundaries_are b passed.layout_is)

  pub turn_in_front : (m : ℕ) → m < length (take layout.boundaries.number layout.boundaries.heads)
      → Turn Boundary b (take layout.boundaries.number layout.boundaries.heads) m
  turn_in_front = front_turn (accepted_within b passed.walk Boundary) (boundaries_are b passed.layout_is)

abbrev volumes_from : Scene → ℕ → ℕ → List Float
volumes_from s first count = table count (λ p. boundary_volume (boundary s (first + p)))

-- of the boundaries the first w, which have `first` particles, are stored in l, from element k on; this gave x
pub record Stored (b : List ℕ) (l : List Float) (k first w : ℕ) (x : List Float) : Type 0 where
  pub within : w ≤ model_number Boundary b
  pub start : first ≡ before (counts_of Boundary b) w
  pub long : length x ≡ length l
  pub stored : x ≡ sets l k (table (before (counts_of Boundary b) w) (λ j. boundary_volume (boundary (scene_of b) j)))

module _ (b : List ℕ) (l : List Float) (k : ℕ) where
  pub none_stored : Stored b l k 0 0 l
  unfolding table
  none_stored =
      record {
        within = omega arith;
        start = sym (none_before Boundary b);
        long = refl;
        stored = rw (none_before Boundary b);
      }

  module _ {first w : ℕ} {x : List Float} (here : Stored b l k first w x) where
    pub one_more_stored : w < model_number Boundary b → {count : ℕ} {y : List Float}
        → count ≡ get_or (counts_of Boundary b) w 0
        → y ≡ sets x (k + first) (volumes_from (scene_of b) first count)
        → Stored b l k (first + count) (w + 1) y
    one_more_stored h {count} {y} c ye =
        let done = before (counts_of Boundary b) w in
        let f : ℕ → Float = λ j. boundary_volume (boundary (scene_of b) j) in
        let more : before (counts_of Boundary b) (suc w) ≡ done + count = rw c (count_next Boundary b w) in
        record {
          within = omega arith;
          start = rw (add-one w) (omega (arith, here.start, more));
          long = ap length ye ∙ length-sets x (k + first) (volumes_from (scene_of b) first count) ∙ here.long;
          stored =
              ye
              ∙ rw (here.start, here.stored, add-one w, more, table-add done count f)
              (sym
              (sets-append (table done f) (table count (λ p. f (done + p))) l k
              ∙ ap (λ (j : ℕ). sets (sets l k (table done f)) (k + j) (table count (λ p. f (done + p))))
              (length-table done f)));
        }

    pub all_stored : model_number Boundary b ≤ w → x ≡ sets l k (volumes (scene_of b))
    all_stored h =
        let e = le_antisymm here.within h in
        rw (← boundaries_before b, ← e) here.stored
