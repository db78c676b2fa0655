-- The sections of the index: each begins where those before it end, since the index is one list that they make up; so
-- storing them one by one is storing it, and each holds its part of it. By what stands before and behind the place
-- where two lists meet. Assumes nothing.
use Prim.Native.Nat.{ℕ, ◌+◌}
use mathlib.Core.Path.{◌≡◌, refl, sym, ap, ◌∙◌}
use mathlib.Core.List.{List, ◌++◌}
use native.Mathlib.Nat.{add_assoc}
use native.Mathlib.Omega.{arith}
use lib.ListN.{length, length-append, length-map, get_or, get_or-append}
use lib.Seq.{sets, get_or-append-add}
use Rattle.lists.specs.Stores.{Part}
use Rattle.lists.proofs.Fills.{sets-append}
use Rattle.lists.proofs.Lists.{length-table}
use Rattle.scene_format.specs.Format.{starts_of, locations_of}
use Rattle.scene_format.specs.Scene.{fluid_size, boundary_size, size_of}
use Rattle.scene_format.specs.SceneOf.{scene_of}
use Rattle.scene_format.specs.declared.Kind.{Kind}
use Rattle.scene_format.specs.declared.Kind.TheVariants.{Fluid, Boundary}
use Rattle.scene_layout.proofs.Locations.{size_locations}
use Rattle.scene_index.specs.Index.{starts_length, bases_length, bases_at, heads_at, records_at}
use Rattle.scene_index.specs.Index.{index_needed, sections_of, base_of, bases_of, kind_bases, entry_of, entries_of}
use Rattle.scene_index.specs.Index.{start_numbers, index_of, Indexed}
use Rattle.scene_index.specs.declared.index.Entry.{Entry}
use Rattle.scene_index.specs.declared.index.Entry.TheVariants.{Offset, Head}

-- ---- two lists, one behind the other

module _ {A : Type 0} (d : A) (k : ℕ) (xs ys : List A) {l : List A} (p : Part d k (xs ++ ys) l) where
  before_meeting : Part d k xs l
  before_meeting = record {
    holds = λ j h. p.holds j (omega (arith, length-append xs ys)) ∙ get_or-append xs ys d j h;
  }

  behind_meeting : {n : ℕ} → length xs ≡ n → Part d (k + n) ys l
  behind_meeting e =
      rw (sym e)
      record {
        holds = λ j h.
            ap (λ (i : ℕ). get_or l i d) (add_assoc k (length xs) j)
            ∙ p.holds (length xs + j) (omega (arith, length-append xs ys))
            ∙ get_or-append-add xs ys j d;
      }

-- ---- lengths

module _ (b : List ℕ) where
  length_starts : length (start_numbers (sections_of b)) ≡ starts_length
  unfolding start_numbers
  length_starts = refl

  pub length_bases : (κ : Kind) → length (kind_bases κ b) ≡ bases_length κ b
  unfolding bases_of
  length_bases κ = length-table (bases_length κ b) (base_of (starts_of κ b))

  length_entries : (entry : Entry) (κ : Kind) → length (entries_of entry κ b) ≡ size_of κ (scene_of b)
  length_entries entry κ = length-map (locations_of κ b) (entry_of entry) ∙ sym (size_locations b κ)

  length-fluid : (entry : Entry) → length (entries_of entry Fluid b) ≡ fluid_size (scene_of b)
  unfolding size_of
  length-fluid entry = length_entries entry Fluid

  length-boundary : length (entries_of Offset Boundary b) ≡ boundary_size (scene_of b)
  unfolding size_of
  length-boundary = length_entries Offset Boundary

  -- what stands behind each section
  abbrev heads_on : List ℕ
  heads_on = entries_of Head Fluid b ++ entries_of Offset Boundary b

  abbrev records_on : List ℕ
  records_on = entries_of Offset Fluid b ++ heads_on

  abbrev boundary_bases_on : List ℕ
  boundary_bases_on = kind_bases Boundary b ++ records_on

  abbrev bases_on : List ℕ
  bases_on = kind_bases Fluid b ++ boundary_bases_on

  pub length_index : length (index_of b) ≡ index_needed b
  unfolding index_of
  length_index =
      omega (
        arith,
        length-append (start_numbers (sections_of b)) bases_on,
        length-append (kind_bases Fluid b) boundary_bases_on,
        length-append (kind_bases Boundary b) records_on,
        length-append (entries_of Offset Fluid b) heads_on,
        length-append (entries_of Head Fluid b) (entries_of Offset Boundary b),
        length_starts,
        length_bases Fluid,
        length_bases Boundary,
        length-fluid Offset,
        length-fluid Head,
        length-boundary,
      )

  -- ---- storing

  on : (xs ys l : List ℕ) (k : ℕ) {n : ℕ} → length xs ≡ n → sets l k (xs ++ ys) ≡ sets (sets l k xs) (k + n) ys
  on xs ys l k e = sets-append xs ys l k ∙ ap (λ (n : ℕ). sets (sets l k xs) (k + n) ys) e

  pub stored_sections : (l : List ℕ)
      → sets l 0 (index_of b)
      ≡ sets
      (sets
      (sets
      (sets
      (sets (sets l 0 (start_numbers (sections_of b))) (bases_at Fluid b) (kind_bases Fluid b)) (bases_at Boundary b)
      (kind_bases Boundary b)) (records_at Fluid b) (entries_of Offset Fluid b)) (heads_at b) (entries_of Head Fluid b))
      (records_at Boundary b) (entries_of Offset Boundary b)
  unfolding index_of
  stored_sections l =
      on (start_numbers (sections_of b)) bases_on l 0 length_starts
      ∙ on (kind_bases Fluid b) boundary_bases_on _ (bases_at Fluid b) (length_bases Fluid)
      ∙ on (kind_bases Boundary b) records_on _ (bases_at Boundary b) (length_bases Boundary)
      ∙ on (entries_of Offset Fluid b) heads_on _ (records_at Fluid b) (length-fluid Offset)
      ∙ on (entries_of Head Fluid b) (entries_of Offset Boundary b) _ (heads_at b) (length-fluid Head)

-- ---- what each section holds

module _ {b index : List ℕ} (ix : Indexed b index) where
  whole : Part 0 0 (start_numbers (sections_of b) ++ bases_on b) index
  unfolding index_of
  whole = ix.holds

  starts_part : Part 0 0 (start_numbers (sections_of b)) index
  starts_part = before_meeting 0 0 _ _ whole

  behind_starts : Part 0 (bases_at Fluid b) (kind_bases Fluid b ++ boundary_bases_on b) index
  behind_starts = behind_meeting 0 0 (start_numbers (sections_of b)) _ whole (length_starts b)

  behind_fluids : Part 0 (bases_at Boundary b) (kind_bases Boundary b ++ records_on b) index
  behind_fluids = behind_meeting 0 (bases_at Fluid b) (kind_bases Fluid b) _ behind_starts (length_bases b Fluid)

  behind_bases : Part 0 (records_at Fluid b) (entries_of Offset Fluid b ++ heads_on b) index
  behind_bases = behind_meeting 0 (bases_at Boundary b) (kind_bases Boundary b) _ behind_fluids
      (length_bases b Boundary)

  behind_records : Part 0 (heads_at b) (entries_of Head Fluid b ++ entries_of Offset Boundary b) index
  behind_records =
      behind_meeting 0 (records_at Fluid b) (entries_of Offset Fluid b) _ behind_bases (length-fluid b Offset)

  pub bases_part : (κ : Kind) → Part 0 (bases_at κ b) (kind_bases κ b) index
  bases_part Fluid = before_meeting 0 (bases_at Fluid b) _ _ behind_starts
  bases_part Boundary = before_meeting 0 (bases_at Boundary b) _ _ behind_fluids

  pub records_part : (κ : Kind) → Part 0 (records_at κ b) (entries_of Offset κ b) index
  records_part Fluid = before_meeting 0 (records_at Fluid b) _ _ behind_bases
  records_part Boundary = behind_meeting 0 (heads_at b) (entries_of Head Fluid b) _ behind_records (length-fluid b Head)

  pub heads_part : Part 0 (heads_at b) (entries_of Head Fluid b) index
  heads_part = before_meeting 0 (heads_at b) _ _ behind_records

  -- ---- the numbers in front

  pub bases_begin : get_or index 0 0 ≡ bases_at Boundary b
  unfolding start_numbers sections_of
  bases_begin = starts_part.holds 0 (omega (arith, length_starts b))

  pub records_begin : get_or index 1 0 ≡ records_at Fluid b
  unfolding start_numbers sections_of
  records_begin = starts_part.holds 1 (omega (arith, length_starts b))

  pub heads_begin : get_or index 2 0 ≡ heads_at b
  unfolding start_numbers sections_of
  heads_begin = starts_part.holds 2 (omega (arith, length_starts b))

  pub boundary_records_begin : get_or index 3 0 ≡ records_at Boundary b
  unfolding start_numbers sections_of
  boundary_records_begin = starts_part.holds 3 (omega (arith, length_starts b))
