-- The index of an accepted packed scene: where each record stands, in one lent list with a section for each question.
-- Records have varying lengths and contacts name them at random, so offsets are found once. `index_needed` is part of
-- the promise of a step that is lent its index; the rest is scaffolding. Definitions only.
use Rattle.std.specs.Prelude.{ℕ, ◌+◌, ◌*◌, ◌/◌, ◌%◌, ◌≤◌, ◌≡◌, List, [], ◌∷◌, ◌++◌, map, length, get_or}
use Rattle.lists.specs.Lists.{table}
use Rattle.lists.specs.Stores.{Part}
use Rattle.scene_check.specs.Walk.{checked}
use Rattle.scene_format.specs.Bytes.{Bytes}
use Rattle.scene_format.specs.Format.{most_models, most_of_a_kind, nameable_particles, model_number, starts_of}
use Rattle.scene_format.specs.Format.{Location, locations_of}
use Rattle.scene_format.specs.Scene.{fluid_size, boundary_size}
use Rattle.scene_format.specs.SceneOf.{scene_of}
use Rattle.scene_format.specs.declared.Kind.{Kind}
use Rattle.scene_format.specs.declared.Kind.TheVariants.{Fluid, Boundary}
use Rattle.std.specs.declared.result.Result.TheVariants.{Ok}
use Rattle.scene_index.specs.declared.index.Entry.{Entry}
use Rattle.scene_index.specs.declared.index.Sections.{Sections}
use Rattle.scene_index.specs.declared.index.Entry.TheVariants.{Offset, Head}

-- the names of a model's particles fall into blocks of so many numbers, and so many blocks
abbrev pub block_size : ℕ
block_size = 256

abbrev pub model_blocks : ℕ
model_blocks = nameable_particles / block_size

-- ---- sections: where the later ones begin; for each kind the bases of names, one for each block of its models; the
-- ---- offsets of the fluid records, those of their heads, and those of the boundary records

-- so many sections begin where one of the first numbers says
abbrev pub starts_length : ℕ
starts_length = 4

abbrev pub bases_length : Kind → List ℕ → ℕ
bases_length κ b = model_blocks * model_number κ b

abbrev pub bases_at : Kind → List ℕ → ℕ
bases_at Fluid b = starts_length
bases_at Boundary b = starts_length + bases_length Fluid b

abbrev pub fluid_records_at : List ℕ → ℕ
fluid_records_at b = bases_at Boundary b + bases_length Boundary b

abbrev pub heads_at : List ℕ → ℕ
heads_at b = fluid_records_at b + fluid_size (scene_of b)

abbrev pub records_at : Kind → List ℕ → ℕ
records_at Fluid b = fluid_records_at b
records_at Boundary b = heads_at b + fluid_size (scene_of b)

-- how long the index of the bytes b is
abbrev pub index_needed : List ℕ → ℕ
index_needed b = records_at Boundary b + boundary_size (scene_of b)

-- no accepted scene needs more
abbrev pub longest_index : ℕ
longest_index = starts_length + 2 * (model_blocks * most_models) + 3 * most_of_a_kind

-- two shorter ones, for scenes with fewer particles
abbrev pub small_index : ℕ
small_index = 192

abbrev pub middle_index : ℕ
middle_index = 4096

unfoldable pub sections_of : List ℕ → Sections
sections_of b =
    record {
      boundary_bases = bases_at Boundary b;
      records = records_at Fluid b;
      heads = heads_at b;
      boundary_records = records_at Boundary b;
      end = index_needed b;
    }

-- ---- what they hold

-- `starts` has the number of each model's first particle; the base of a block is the number of its first particle, so a
-- target is a base and the particle's number within its block
unfoldable pub base_of : List ℕ → ℕ → ℕ
base_of starts x = get_or starts (x / model_blocks) 0 + block_size * (x % model_blocks)

-- of the blocks of a model whose first particle has that number
unfoldable pub blocks_from : ℕ → List ℕ
blocks_from start = table model_blocks (λ x. start + block_size * x)

-- of the blocks of so many models
unfoldable pub bases_of : ℕ → List ℕ → List ℕ
bases_of number starts = table (model_blocks * number) (base_of starts)

abbrev pub kind_bases : Kind → List ℕ → List ℕ
kind_bases κ b = bases_of (model_number κ b) (starts_of κ b)

-- what is held of a record
unfoldable pub entry_of : Entry → Location → ℕ
entry_of Offset p = p.at
entry_of Head p = p.head

abbrev pub entries_of : Entry → Kind → List ℕ → List ℕ
entries_of entry κ b = map (entry_of entry) (locations_of κ b)

-- where the sections behind the fluids' bases begin
unfoldable pub start_numbers : Sections → List ℕ
start_numbers s = s.boundary_bases ∷ s.records ∷ s.heads ∷ s.boundary_records ∷ []

-- the whole index
unfoldable pub index_of : List ℕ → List ℕ
index_of b =
    start_numbers (sections_of b)
    ++ (kind_bases Fluid b
    ++ (kind_bases Boundary b
    ++ (entries_of Offset Fluid b ++ (entries_of Head Fluid b ++ entries_of Offset Boundary b))))

-- a list with the index of the bytes b, which are accepted, in front
pub record Indexed (b index : List ℕ) : Type 0 where
  pub bytes : Bytes b
  pub accepted : checked b ≡ Ok (length b)
  pub room : index_needed b ≤ length index
  pub few_fluid : fluid_size (scene_of b) ≤ most_of_a_kind
  pub few_boundary : boundary_size (scene_of b) ≤ most_of_a_kind
  pub holds : Part 0 0 (index_of b) index
