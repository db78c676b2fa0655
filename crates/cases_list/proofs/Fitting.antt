-- What fits its room: one that fits the front of a room fits the room, by whether a scene came; and what is made of a
-- scene, which is the front of its room. Assumes nothing.
use Prim.Native.Nat.{ℕ, ◌≤◌}
use mathlib.Core.Path.{◌≡◌, refl}
use mathlib.Core.Bool.{true, false}
use mathlib.Core.List.{List, [], ◌++◌}
use native.Mathlib.Omega.{arith}
use lib.ListN.{length, take, length-append}
use lib.Seq.{length-take-le}
use Rattle.lists.specs.Lists.{choose}
use Rattle.cases_list.specs.Next.{Fits, FromNext}
use Rattle.std.specs.declared.option.Option.{Option}
use Rattle.std.specs.declared.option.Option.TheVariants.{Some, None}

pub fits_whole : (r : Option ℕ) (front rest : List ℕ) → Fits r (length front) → Fits r (length (front ++ rest))
unfolding Fits
fits_whole (Some n) front rest h = omega (arith, h, length-append front rest)
fits_whole None front rest h = tt

pub scene_fits : {r : Option ℕ} {n room : ℕ} → Fits r room → r ≡ Some n → n ≤ room
unfolding Fits
scene_fits f q = rw q at f

-- ---- what is made of a scene, the front of its room

module _ {A : Type 0} (room : ℕ) (f : List ℕ → A) (none : A) where
  pub nothing_came : FromNext room f none none
  unfolding choose
  nothing_came = record { scene = []; short = omega arith; came = false; is = refl }

  pub scene_came : (l : List ℕ) (n : ℕ) → n ≤ length l → length l ≡ room → {r : A} → r ≡ f (take n l)
      → FromNext room f none r
  unfolding choose
  scene_came l n h e q =
      record { scene = take n l; short = omega (arith, length-take-le n l h, h, e); came = true; is = q }
