-- `sum_by_halves` meets its contract: its returns are the three equations of a sum by halves. Assumes nothing.
use Prim.Native.Nat.{◌-◌, ◌/◌, ◌<◌}
use native.Mathlib.Omega.{arith}
use mathlib.Core.Path.{◌≡◌, sym, ap, ap₂, ◌∙◌}
use mathlib.Core.List.{List, [], ◌∷◌}
use lib.Ieee.{Float, nan}
use lib.ListN.{length, get_or, take}
use lib.Seq.{take_all}
use Rattle.math.specs.Real.{◌⊕◌, +0}
use Rattle.sums.specs.Halves.{first_half, second_half, sum_by_halves}
use Rattle.sums.proofs.Halves.{adds_by_halves, length_second}
use Rattle.sums.proofs.+sum_by_halves.Goals as goal

-- ---- the three equations, as the code meets them

of_none : (xs : List Float) → length xs ≡ 0 → +0 ≡ sum_by_halves xs
of_none [] h = sym (adds_by_halves +0 ◌⊕◌).empty
of_none (x ∷ xs) h = absurd (omega arith)

of_one : (xs : List Float) → length xs ≡ 1 → get_or xs 0 nan ≡ sum_by_halves xs
of_one [] h = absurd (omega arith)
of_one (x ∷ []) h = sym ((adds_by_halves +0 ◌⊕◌).single x)
of_one (x ∷ y ∷ xs) h = absurd (omega arith)

-- the second part of the code is counted
abbrev rest : List Float → List Float
rest xs = take (length xs - length xs / 2) (second_half xs)

rest_is : (xs : List Float) → rest xs ≡ second_half xs
rest_is xs = take_all (length xs - length xs / 2) (second_half xs) (omega (arith, length_second xs))

of_more : (xs : List Float) {a b : Float} → 1 < length xs → a ≡ sum_by_halves (first_half xs)
    → b ≡ sum_by_halves (rest xs)
    → a ⊕ b ≡ sum_by_halves xs
of_more xs h p q =
    ap₂ ◌⊕◌ p (q ∙ ap sum_by_halves (rest_is xs)) ∙ sym ((adds_by_halves +0 ◌⊕◌).longer xs h)

-- ---- the returns

pub returns-then-n-eq0 : goal.returns-then-n-eq0
returns-then-n-eq0 t c = of_none c.args.terms.now c.if-n-eq0.true

pub returns-then-n-eq1 : goal.returns-then-n-eq1
returns-then-n-eq1 t c = of_one c.args.terms.now c.if-n-eq1.true

pub returns : goal.returns
returns t c =
    of_more c.args.terms.now (omega arith) c.sum_by_halves-first.ensures c.sum_by_halves-second.ensures
