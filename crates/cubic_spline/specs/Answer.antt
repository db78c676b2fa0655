-- What the kernel's two functions answer: the value, or refusal 11 or 12 (METHOD 1.4). Definitions only.
use Rattle.std.specs.Prelude.{ℕ, ◌≡◌, cond, Float}
use Rattle.cubic_spline.specs.Shape.{is_distance, is_radius}
use Rattle.cubic_spline.specs.declared.KernelRefusal.{KernelRefusal}
use Rattle.cubic_spline.specs.declared.KernelRefusal.TheVariants.{Distance, Radius}
use Rattle.std.specs.declared.result.Result.{Result}
use Rattle.std.specs.declared.result.Result.TheVariants.{Ok, Err}

-- a refusal's number (FORMAT 2.1)
abbrev pub number : KernelRefusal → ℕ
number Distance = 11
number Radius = 12

-- the number that an answer gives: 0 for a value
abbrev pub number_of : Result Float KernelRefusal → ℕ
number_of (Ok x) = 0
number_of (Err k) = number k

-- the number that the arguments give: 11 comes before 12
unfoldable pub refusal : Float → Float → ℕ
refusal r h = cond (is_distance r) (cond (is_radius h) 0 12) 11

-- the answer for the distance r and the radius h, where the value is x
unfoldable pub kernel_answer : Float → Float → Float → Result Float KernelRefusal
kernel_answer r h x = cond (is_distance r) (cond (is_radius h) (Ok x) (Err Radius)) (Err Distance)

pub record KernelPromise (r h x : Float) (a : Result Float KernelRefusal) : Type 0 where
  pub answer : a ≡ kernel_answer r h x
  pub numbered : number_of a ≡ refusal r h
