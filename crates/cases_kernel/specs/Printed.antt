-- What the lines show of the kernel's answers. Definitions only.
use Rattle.std.specs.Prelude.{ℕ, Float}
use Rattle.math.specs.Real.{bits_of}
use Rattle.cubic_spline.specs.Shape.{weight, slope}
use Rattle.cubic_spline.specs.Answer.{number, kernel_answer}
use Rattle.cubic_spline.specs.declared.Dimension.{Dimension}
use Rattle.cubic_spline.specs.declared.KernelRefusal.{KernelRefusal}
use Rattle.std.specs.declared.result.Result.{Result}
use Rattle.std.specs.declared.result.Result.TheVariants.{Ok, Err}
use Rattle.cases_kernel.specs.declared.Shown.{Shown}

abbrev pub printed : Result Float KernelRefusal → ℕ
printed (Ok x) = bits_of x
printed (Err f) = number f

unfoldable pub shown : Dimension → Float → Float → Shown
shown d r h =
    record {
      weight = printed (kernel_answer r h (weight d r h));
      slope = printed (kernel_answer r h (slope d r h));
    }
