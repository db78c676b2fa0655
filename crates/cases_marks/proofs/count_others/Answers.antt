-- `cases_marks::count_others` meets its contract: a count over the list's front grows by one at each element that is
-- not the mark. By induction on the front's length. Assumes nothing.
use Prim.Native.Nat.{ℕ, zero, suc, ◌+◌, ◌≤◌}
use mathlib.Core.Path.{◌≡◌, refl, ◌∙◌}
use mathlib.Core.Bool.{Bool, true, false}
use mathlib.Core.List.{List}
use native.Mathlib.Numerals.{add-one}
use native.Mathlib.Omega.{arith}
use lib.ListN.{length, get_or, take}
use lib.Seq.{take-length}
use lib.Ieee.{Float, nan}
use borrow.Author.Rules.{rules}
use Rattle.std.specs.Prelude.{not, eqb}
use Rattle.std.specs.List.{count_by}
use Rattle.std.proofs.lemmas.List.Sums.{count_by_more_no, count_by_more_yes}
use Rattle.lists.specs.Lists.{choose}
use Rattle.math.specs.Real.{bits_of}
use Rattle.cases_marks.specs.Marks.{other, others}
use Rattle.cases_marks.proofs.count_others.Goals as goal

abbrev is_other : Float → Bool
is_other x = not (eqb (bits_of x) 0x3ff8000000000000)

front_counts : (l : List Float) (n : ℕ) → n ≤ length l → count_by is_other (take n l) ≡ others l n
unfolding others other choose
front_counts l zero h = refl
front_counts l (suc n) h = go (eqb (bits_of (get_or l n nan)) 0x3ff8000000000000) refl (front_counts l n (omega arith))
  where
    go : (t : Bool) → eqb (bits_of (get_or l n nan)) 0x3ff8000000000000 ≡ t → count_by is_other (take n l) ≡ others l n
        → count_by is_other (take (suc n) l) ≡ others l n + choose t 0 1
    go true q r = rw (← add-one n) (count_by_more_no is_other l n nan h (rw q) ∙ omega (arith, r))
    go false q r = rw (← add-one n) (count_by_more_yes is_other l n nan h (rw q) ∙ omega (arith, r))

pub returns : goal.returns
returns c =
    let e : c.count.result ≡ count_by is_other c.args.list.now = search rules in
    e ∙ rw take-length at (front_counts c.args.list.now (length c.args.list.now) (omega arith))
