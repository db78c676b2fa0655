-- Values of the table, of the floor and of the lookup at their edges, from the request's formulas worked out apart from
-- these definitions. Definitions only.
use Rattle.std.specs.Prelude.{ℕ, ◌+◌, ◌-◌, ◌^◌, List, [], ◌∷◌, ℤ, pos, negsuc, nat_abs}
use Rattle.math.specs.Rows.{Row, number}
use Rattle.weight_table.specs.Table.{entry_of}
use Rattle.weight_table.specs.Lookup.{floor, parts, table_weight}

-- an entry; the size of z / 1024, rounded down; the weight at q / 2 ^ 20
abbrev pub entry : ℕ → ℕ → Row
entry k v = number (entry_of k) v

abbrev pub floored : ℤ → ℕ → Row
floored z v = number (nat_abs (floor z parts)) v

abbrev pub weight : ℕ → ℕ → Row
weight q v = number (nat_abs (table_weight q)) v

abbrev pub rows : List Row
rows =
    -- the table's ends, and around 1 / 3, where it is steepest, and 1 / 2, where its formulas meet
    entry 0 (2 ^ 30)
    ∷ entry 1 1073735686
    ∷ entry 341 597222286
    ∷ entry 342 595125136
    ∷ entry 511 270011386
    ∷ entry 512 (2 ^ 28)
    ∷ entry 513 266865662
    ∷ entry 1022 16
    ∷ entry 1023 2
    ∷ entry 1024 0
    -- 1023, -1, -1024 and -1025 over 1024: 0, -1, -1, -2
    ∷ floored (pos 1023) 0
    ∷ floored (negsuc 0) 1
    ∷ floored (negsuc 1023) 1
    ∷ floored (negsuc 1024) 2
    -- the lookup in the first step, at its ends and in its middle, where it lies furthest from the exact weight
    ∷ weight 0 (2 ^ 30)
    ∷ weight 1 1073741818
    ∷ weight 511 1073738760
    ∷ weight 1023 1073735691
    ∷ weight 1024 1073735686
    -- at 1 / 2 and beside it
    ∷ weight (2 ^ 19 - 1) 268436994
    ∷ weight (2 ^ 19) (2 ^ 28)
    ∷ weight (2 ^ 19 + 1) 268433922
    -- in the last step, and from 1 on
    ∷ weight (2 ^ 20 - 1024) 2
    ∷ weight (2 ^ 20 - 1) 0
    ∷ weight (2 ^ 20) 0
    ∷ weight (2 ^ 32 - 1) 0
    ∷ []
