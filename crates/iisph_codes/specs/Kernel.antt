-- What the kernel's functions in C return, and every element of their list afterwards. Definitions only.
use Rattle.std.specs.Prelude.{ℕ, ◌≡◌, List, leb, Float, length, set}
use Rattle.lists.specs.Lists.{choose}
use Rattle.cubic_spline.specs.Answer.{number, kernel_answer}
use Rattle.std.specs.declared.result.Result.{Result}
use Rattle.cubic_spline.specs.declared.KernelRefusal.{KernelRefusal}
use Rattle.std.specs.declared.result.Result.TheVariants.{Ok, Err}
use Rattle.iisph_codes.specs.Numbers.{too_short, refused_by}

unfoldable pub refusal_code : KernelRefusal → ℕ
refusal_code k = refused_by (number k)

unfoldable pub kernel_code : Result Float KernelRefusal → ℕ
kernel_code (Ok x) = 0
kernel_code (Err k) = refusal_code k

-- the value at 0; a refusal writes nothing
unfoldable pub value_after : Result Float KernelRefusal → List Float → List Float
value_after (Ok x) old = set old 0 x
value_after (Err k) old = old

-- of a kernel's answer and the list: the result n, and the list afterwards
pub record Gives (a : Result Float KernelRefusal) (out : List Float) (n : ℕ) (out' : List Float) : Type 0 where
  pub result : n ≡ choose (leb 1 (length out)) (kernel_code a) too_short
  pub out_then : out' ≡ choose (leb 1 (length out)) (value_after a out) out

-- at the distance r, with the radius h, where the kernel's value is x
abbrev pub KernelTo : Float → Float → Float → List Float → ℕ → List Float → Type 0
KernelTo r h x out n out' = Gives (kernel_answer r h x) out n out'
