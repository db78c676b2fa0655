-- The work list of a step: for each of n fluid particles a row of doubles, what a contact reads together of the
-- particle that it names; then columns of n doubles, each read alone; then the volume of each boundary particle. A
-- pass stores some slots of every particle, one particle after the other; what later passes need of the list is said
-- slot by slot. Scaffolding: no promise rests on it. Definitions only.
use Rattle.std.specs.Prelude.{ℕ, ◌+◌, ◌*◌, List, Float}
use Rattle.std.specs.Float.{nan}
use Rattle.lists.specs.Stores as lists
use Rattle.scene_lengths.specs.Lengths.{work_width}

-- ---- the slots of a row, for d axes

abbrev pub mass_slot : ℕ
mass_slot = 0

-- dij_pjl; before the iterations the advected velocity
abbrev pub dij_slot : ℕ
dij_slot = mass_slot + 1

abbrev pub pressure_slot : ℕ → ℕ
pressure_slot d = dij_slot + d

abbrev pub dii_slot : ℕ → ℕ
dii_slot d = pressure_slot d + 1

abbrev pub row_width : ℕ → ℕ
row_width d = 2 + 2 * d

-- ---- the slots that are columns

abbrev pub density_slot : ℕ → ℕ
density_slot d = row_width d

abbrev pub predicted_slot : ℕ → ℕ
predicted_slot d = density_slot d + 1

abbrev pub aii_slot : ℕ → ℕ
aii_slot d = predicted_slot d + 1

-- a quotient of the particle's pressure; within an iteration then the error term
abbrev pub quotient_slot : ℕ → ℕ
quotient_slot d = aii_slot d + 1

abbrev pub next_pressure_slot : ℕ → ℕ
next_pressure_slot d = quotient_slot d + 1

-- ---- the list, for d axes

-- where the row of particle i begins
abbrev pub row_at : ℕ → ℕ → ℕ
row_at d i = row_width d * i

-- where the volumes begin, behind rows and columns of n particles
abbrev pub volumes_at : ℕ → ℕ → ℕ
volumes_at d n = work_width d * n

-- where slot s of particle i stands, of n particles: in its row, or as element i of column s
abbrev pub slot_at : ℕ → ℕ → ℕ → ℕ → ℕ
slot_at d n i s = lists.in_rows_and_columns (row_width d) n i s

-- the element k, and the vector from element k on
abbrev pub element_at : List Float → ℕ → Float
element_at l k = lists.element_at nan l k

abbrev pub vector_from : ℕ → List Float → ℕ → List Float
vector_from d l k = lists.elements nan d k l

-- of each of n particles the slots from k on hold what f says, or become it
abbrev pub Rows : ℕ → ℕ → ℕ → (ℕ → List Float) → List Float → Type 0
Rows d n k f l = lists.Rows nan (slot_at d n) n k f l

abbrev pub stored : ℕ → ℕ → ℕ → (ℕ → List Float) → List Float → List Float
stored d n k f l = lists.stored_at (slot_at d n) n k f l

-- of particle i, of n, the slots from k on become these values
abbrev pub set_slots : ℕ → ℕ → ℕ → ℕ → List Float → List Float → List Float
set_slots d n i k vs l = lists.set_slots (slot_at d n i) k vs l

-- column k of n particles
abbrev pub column : ℕ → ℕ → List Float → List Float
column n k l = lists.elements nan n (k * n) l

-- behind rows and columns of n particles the list holds xs
abbrev pub Behind : ℕ → ℕ → List Float → List Float → Type 0
Behind d n xs l = lists.Part nan (volumes_at d n) xs l
