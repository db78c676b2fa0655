-- The index that is filled from a layout, section behind section, which is one store of the whole; and how long it is
-- at most. Assumes nothing.
use Prim.Native.Nat.{ℕ, ◌+◌, ◌-◌, ◌*◌, ◌≤◌}
use mathlib.Core.Path.{◌≡◌, sym, ap, ◌∙◌}
use mathlib.Core.List.{List, map, append_assoc}
use native.Mathlib.Omega.{arith}
use borrow.Rule.Slice.PartMut.{put_mid}
use lib.ListN.{length, replicate, take, drop, length-take, length-drop, length-replicate}
use lib.Seq.{sets, length-sets}
use Rattle.std.proofs.lemmas.List.{drop-drop}
use Rattle.std.proofs.lemmas.List.Edits.{sets-eq}
use Rattle.lists.proofs.Fills.{table_copies}
use Rattle.lists.proofs.Stores.{sets_in}
use Rattle.scene_check.proofs.Accepted.{accepted, accepted_within}
use Rattle.scene_check.proofs.Checks.{fluid-number, boundary-number, fluid-total, boundary-total, fluids_are}
use Rattle.scene_check.proofs.Checks.{boundaries_are}
use Rattle.scene_check.proofs.Records.{fluid_size_few, boundary_size_few}
use Rattle.scene_check.specs.Check.{Passed}
use Rattle.scene_format.specs.Format.{most_models, most_of_a_kind, model_number, particles_at, model_locations}
use Rattle.scene_format.specs.Format.{locations_of}
use Rattle.scene_format.specs.Scene.{fluid_size, boundary_size, size_of}
use Rattle.scene_format.specs.SceneOf.{scene_of}
use Rattle.scene_format.specs.declared.Kind.{Kind}
use Rattle.scene_format.specs.declared.Kind.TheVariants.{Fluid, Boundary}
use Rattle.scene_format.specs.Within.{ModelsWithin}
use Rattle.scene_layout.specs.Layout.{layout_models}
use Rattle.scene_layout.specs.declared.Layout.{Layout}
use Rattle.scene_layout.proofs.Locations.{size_locations}
use Rattle.scene_index.specs.Index.{model_blocks, starts_length, bases_at, heads_at, records_at, index_needed}
use Rattle.scene_index.specs.Index.{longest_index, sections_of, kind_bases, entry_of, entries_of, start_numbers}
use Rattle.scene_index.specs.Index.{index_of, Indexed}
use Rattle.scene_index.specs.declared.index.Entry.TheVariants.{Offset, Head}
use Rattle.scene_index.specs.declared.index.Sections.{Sections}
use Rattle.scene_index.proofs.Sections.{length_index, stored_sections}
use Rattle.scene_index.proofs.Traversals.{model_table}

-- ---- filling

-- a part that is filled with x has stored x in each of its places
part_filled : {A : Type 0} (x : A) (l : List A) (k n : ℕ) → k + n ≤ length l → {part : List A}
    → part ≡ replicate (length (take (k + n - k) (drop k l))) x
    → put_mid k (k + n - k) l part ≡ sets l k (replicate n x)
part_filled x l k n room p =
    let width : k + n - k ≡ n = omega arith in
    let size : length (take (k + n - k) (drop k l)) ≡ n = simp (length-take, length-drop) (omega arith) in
    let copies = p ∙ ap (λ (j : ℕ). replicate j x) size in
    let end : k + length (replicate n x) ≡ k + n = omega (arith, length-replicate n x) in
    let xs = replicate n x in
    let stored = sets-eq xs l k (omega (arith, end)) ∙ rw end (append_assoc (take k l) xs (drop (k + n) l)) in
    rw (copies, width, drop-drop n k l) (sym stored)

-- of each record of a model the head is the same
pub heads_filled : (κ : Kind) (b : List ℕ) (head : ℕ) {n : ℕ} → n ≡ particles_at κ b head → (l : List ℕ) (k : ℕ)
    → k + n ≤ length l → {part : List ℕ} → part ≡ replicate (length (take (k + n - k) (drop k l))) head
    → put_mid k (k + n - k) l part ≡ sets l k (map (entry_of Head) (model_locations κ b head))
unfolding entry_of
heads_filled κ b head {n} e l k room p =
    part_filled head l k n room p
    ∙ ap (sets l k) (sym (table_copies n head) ∙ model_table κ b (entry_of Head) head e)

-- few models and particles of each kind, so that no sum overflows
pub record CountsFew (layout : Layout) : Type 0 where
  pub fluids : layout.fluids.number ≤ most_models
  pub boundaries : layout.boundaries.number ≤ most_models
  pub fluid_total : layout.fluids.total ≤ most_of_a_kind
  pub boundary_total : layout.boundaries.total ≤ most_of_a_kind

-- the code's sections are these
pub record SectionsAre (b : List ℕ) (s : Sections) : Type 0 where
  pub all : start_numbers s ≡ start_numbers (sections_of b)
  pub bases : s.boundary_bases ≡ bases_at Boundary b
  pub records : s.records ≡ records_at Fluid b
  pub heads : s.heads ≡ heads_at b
  pub boundary_records : s.boundary_records ≡ records_at Boundary b

pub sections_are : {b : List ℕ} {s : Sections} → s ≡ sections_of b → SectionsAre b s
unfolding sections_of
sections_are e =
    record {
      all = ap start_numbers e;
      bases = ap (λ (s : Sections). s.boundary_bases) e;
      records = ap (λ (s : Sections). s.records) e;
      heads = ap (λ (s : Sections). s.heads) e;
      boundary_records = ap (λ (s : Sections). s.boundary_records) e;
    }

module _ {b : List ℕ} {layout : Layout} (passed : Passed b layout) where
  pub number_few : (κ : Kind) → model_number κ b ≤ most_models
  number_few κ = (accepted b passed.walk).fields.header.few κ

  -- the models of each kind are within the bytes, and the layout has them
  pub fluids_within : ModelsWithin Fluid b × (layout.fluids ≡ layout_models Fluid b)
  fluids_within = (accepted_within b passed.walk Fluid, fluids_are b passed.layout_is)

  pub boundaries_within : ModelsWithin Boundary b × (layout.boundaries ≡ layout_models Boundary b)
  boundaries_within = (accepted_within b passed.walk Boundary, boundaries_are b passed.layout_is)

  -- as many places as particles
  pub fluid_places : length (locations_of Fluid b) ≡ fluid_size (scene_of b)
  unfolding size_of
  fluid_places = sym (size_locations b Fluid)

  pub boundary_places : length (locations_of Boundary b) ≡ boundary_size (scene_of b)
  unfolding size_of
  boundary_places = sym (size_locations b Boundary)

  pub counts_few : CountsFew layout
  counts_few =
      record {
        fluids = rw (fluid-number b passed.layout_is) (number_few Fluid);
        boundaries = rw (boundary-number b passed.layout_is) (number_few Boundary);
        fluid_total = rw (fluid-total passed) (fluid_size_few b passed.walk);
        boundary_total = rw (boundary-total passed) (boundary_size_few b passed.walk);
      }

  -- a layout's sections
  pub sections_made : {bases records heads boundary_records end : ℕ}
      → bases ≡ starts_length + model_blocks * layout.fluids.number
      → records ≡ bases + model_blocks * layout.boundaries.number
      → heads ≡ records + layout.fluids.total
      → boundary_records ≡ heads + layout.fluids.total
      → end ≡ boundary_records + layout.boundaries.total
      → record {
        boundary_bases = bases;
        records = records;
        heads = heads;
        boundary_records = boundary_records;
        end = end;
      } ≡ sections_of b
  unfolding sections_of
  sections_made p q r s t =
      rw (
        t,
        s,
        r,
        q,
        p,
        fluid-total passed,
        boundary-total passed,
        fluid-number b passed.layout_is,
        boundary-number b passed.layout_is,
      )

  -- the sections, one behind the other, where s says
  pub all_filled : (l : List ℕ) {s : Sections} → SectionsAre b s
      → {starts bases both_bases records heads index : List ℕ}
      → starts ≡ sets l 0 (start_numbers s)
      → bases ≡ sets starts (bases_at Fluid b) (kind_bases Fluid b)
      → both_bases ≡ sets bases s.boundary_bases (kind_bases Boundary b)
      → records ≡ sets both_bases s.records (entries_of Offset Fluid b)
      → heads ≡ sets records s.heads (entries_of Head Fluid b)
      → index ≡ sets heads s.boundary_records (entries_of Offset Boundary b)
      → index ≡ sets l 0 (index_of b)
  all_filled l is o p q r s t =
      rw (t, s, r, q, p, o, is.all, is.bases, is.records, is.heads, is.boundary_records)
      (sym (stored_sections b l))

-- ---- what the index holds

module _ {b : List ℕ} {layout : Layout} (passed : Passed b layout) where
  pub indexed : (l : List ℕ) → index_needed b ≤ length l → Indexed b (sets l 0 (index_of b))
  indexed l room =
      record {
        bytes = passed.bytes;
        accepted = passed.walk;
        room = rw (length-sets l 0 (index_of b)) room;
        few_fluid = fluid_size_few b passed.walk;
        few_boundary = boundary_size_few b passed.walk;
        holds = record { holds = λ i h. sets_in 0 (index_of b) l 0 i (omega (arith, length_index b)) h };
      }

  -- no accepted scene needs a longer one
  pub index_few : index_needed b ≤ longest_index
  index_few =
      omega (
        arith,
        number_few passed Fluid,
        number_few passed Boundary,
        fluid_size_few b passed.walk,
        boundary_size_few b passed.walk,
      )
