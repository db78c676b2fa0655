-- An answer carries the number of FORMAT 2.1 that its arguments give. By cases on the two tests. Assumes nothing.
use mathlib.Core.Path.{◌≡◌, refl, ap, ◌∙◌}
use mathlib.Core.Bool.{Bool, true, false}
use lib.Ieee.{Float}
use Rattle.cubic_spline.specs.Shape.{is_distance, is_radius}
use Rattle.cubic_spline.specs.Answer.{number_of, refusal, kernel_answer, KernelPromise}
use Rattle.std.specs.declared.result.Result.{Result}
use Rattle.cubic_spline.specs.declared.KernelRefusal.{KernelRefusal}

numbered : (r h x : Float) → number_of (kernel_answer r h x) ≡ refusal r h
unfolding kernel_answer refusal
numbered r h x = go (is_distance r) (is_radius h) refl refl
  where
    go : (s t : Bool) → is_distance r ≡ s → is_radius h ≡ t → number_of (kernel_answer r h x) ≡ refusal r h
    go false false e f = simp (e, f)
    go false true e f = simp (e, f)
    go true false e f = simp (e, f)
    go true true e f = simp (e, f)

pub kernel_promise : (r h x : Float) (a : Result Float KernelRefusal) → a ≡ kernel_answer r h x → KernelPromise r h x a
kernel_promise r h x a e = record { answer = e; numbered = ap number_of e ∙ numbered r h x }
