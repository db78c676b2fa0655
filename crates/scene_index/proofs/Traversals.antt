-- The laws of filling a list from an element on with an entry of each record of a kind, model after model: one model
-- more is a run of stores behind those done. By what one head more adds to the locations. Assumes nothing.
use Prim.Native.Nat.{ℕ, zero, suc, ◌+◌, ◌-◌, ◌<◌, ◌≤◌}
use mathlib.Core.Path.{◌≡◌, refl, sym, ap, ◌∙◌}
use mathlib.Core.List.{List, ◌++◌, map, map-map, map-append, flatten}
use native.Mathlib.Nat.{add-zero, add-suc, le_antisymm}
use native.Mathlib.Numerals.{add-one}
use native.Mathlib.Omega.{arith}
use lib.ListN.{length, length-append, length-map}
use lib.Seq.{sets, length-sets}
use Rattle.lists.specs.Lists.{table, trail}
use Rattle.lists.proofs.Fills.{sets-append}
use Rattle.lists.proofs.Numbering.{trail-table, trail_next}
use Rattle.scene_format.specs.Format.{model_number, particles_at, first_record, next_record, model_end, first_head}
use Rattle.scene_format.specs.Format.{head_at}
use Rattle.scene_format.specs.Format.{heads_of, Location, record_at, model_locations, locations_of}
use Rattle.scene_format.specs.declared.Kind.{Kind}
use Rattle.scene_layout.proofs.Locations.{length_model}

module _ (κ : Kind) (b : List ℕ) where
  -- one model
  pub model_table : {A : Type 0} (f : Location → A) (head : ℕ) {n : ℕ} → n ≡ particles_at κ b head
      → table n (λ j. f (record_at κ b head j)) ≡ map f (model_locations κ b head)
  unfolding model_locations
  model_table f head e =
      let location : ℕ → Location = λ at. record { head = head; at = at } in
      rw e
      (sym
      (map-map f location (trail (particles_at κ b head) (next_record κ b head) (first_record κ head))
      ∙ trail-table (next_record κ b head) (λ at. f (location at)) _ _))

  -- the locations of the first m models
  pub locations_before : ℕ → List Location
  locations_before m = flatten (map (model_locations κ b) (trail m (model_end κ b) (first_head κ b)))

  locations_next : (m : ℕ) → locations_before (suc m) ≡ locations_before m ++ model_locations κ b (head_at κ b m)
  unfolding locations_before
  locations_next m = trail_next (model_end κ b) (model_locations κ b) m (first_head κ b)

  length_next : (m : ℕ) → length (locations_before (suc m)) ≡ length (locations_before m) + particles_at κ b
      (head_at κ b m)
  length_next m =
      ap length (locations_next m)
      ∙ length-append (locations_before m) _
      ∙ ap (λ (j : ℕ). length (locations_before m) + j) (length_model κ b _)

  length_more : (d m : ℕ) → length (locations_before m) ≤ length (locations_before (m + d))
  length_more zero m = rw add-zero (omega arith)
  length_more (suc d) m = rw add-suc (omega (arith, length_next (m + d), length_more d m))

  all_locations : locations_before (model_number κ b) ≡ locations_of κ b
  unfolding locations_before locations_of heads_of
  all_locations = refl

  module _ {A : Type 0} (f : Location → A) (l : List A) (k : ℕ) where
    -- the records of the first m models are stored in l, from element k on; this gave x, and the next record's element
    -- is `to`
    pub record Traversed (to m : ℕ) (x : List A) : Type 0 where
      pub within : m ≤ model_number κ b
      pub long : length x ≡ length l
      pub next : to ≡ k + length (locations_before m)
      pub stored : x ≡ sets l k (map f (locations_before m))

    pub none_traversed : Traversed k 0 l
    unfolding locations_before trail flatten
    none_traversed = record { within = omega arith; long = refl; next = sym (add-zero k); stored = refl }

    module _ {to m : ℕ} {x : List A} (here : Traversed to m x) where
      module _ (h : m < model_number κ b) {head : ℕ} (at : head ≡ head_at κ b m) where
        -- the model's records fit
        pub model_room : k + length (locations_of κ b) ≤ length l → to + particles_at κ b head ≤ length x
        model_room room =
            let e : suc m + (model_number κ b - suc m) ≡ model_number κ b = omega arith in
            let more = ap (λ (j : ℕ). length (locations_before j)) e in
            rw at
            (omega (
              arith,
              here.long,
              here.next,
              length_next m,
              length_more (model_number κ b - suc m) (suc m),
              more,
              ap length all_locations,
            ))

        pub one_more_traversed : {count : ℕ} {y : List A} → count ≡ particles_at κ b head
            → y ≡ sets x to (map f (model_locations κ b head)) → Traversed (to + count) (m + 1) y
        one_more_traversed {count} {y} c e =
            let done = locations_before m in
            let model = model_locations κ b head in
            let one : length (locations_before (suc m)) ≡ length done + count = rw (c, at) (length_next m) in
            record {
              within = omega arith;
              long = ap length e ∙ length-sets x to (map f model) ∙ here.long;
              next = rw (add-one m) (omega (arith, here.next, one));
              stored =
                  e
                  ∙ rw (here.stored, here.next, add-one m, locations_next m, ← at)
                  (sym
                  (ap (λ (vs : List A). sets l k vs) (map-append f done model)
                  ∙ sets-append (map f done) (map f model) l k
                  ∙ ap (λ (j : ℕ). sets (sets l k (map f done)) (k + j) (map f model)) (length-map done f)));
            }

      pub all_traversed : model_number κ b ≤ m → x ≡ sets l k (map f (locations_of κ b))
      all_traversed h =
          here.stored
          ∙ ap (λ (j : ℕ). sets l k (map f (locations_before j))) (le_antisymm here.within h)
          ∙ ap (λ (ps : List Location). sets l k (map f ps)) all_locations
