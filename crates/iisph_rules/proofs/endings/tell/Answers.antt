-- `iisph_rules::endings::tell` meets its contract: by the three endings, and what std makes of yes and no is 1 and 0.
-- Assumes nothing.
use mathlib.Core.Path.{◌≡◌, refl}
use mathlib.Core.Bool.{Bool, true, false}
use Rattle.std.specs.Int.{from_bool}
use Rattle.iisph_rules.specs.Endings.{ending_number, ending_values, ending_error, yes_or_no, told_of}
use Rattle.iisph_rules.proofs.endings.tell.Goals as goal

number_is : (answer : Bool) → from_bool answer ≡ yes_or_no answer
number_is true = refl
number_is false = refl

pub returns-in-Unswept : goal.returns-in-Unswept
unfolding told_of ending_number ending_error ending_values
returns-in-Unswept c = rw c.in-Unswept.is

pub returns-in-Settled : goal.returns-in-Settled
unfolding told_of ending_number ending_error ending_values
returns-in-Settled c = rw (c.in-Settled.is, c.from.ensures, number_is)

pub returns-in-RanOut : goal.returns-in-RanOut
unfolding told_of ending_number ending_error ending_values
returns-in-RanOut c = rw (c.in-RanOut.is, c.from-in-RanOut.ensures, number_is)
