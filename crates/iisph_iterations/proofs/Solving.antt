-- The loop of `pressure_solve`: what remains from iteration i on is the whole, since each turn either goes on as the
-- rule does or stops where it stops. By one unfolding of the rule at a turn. Assumes nothing.
use Rattle.std.proofs.Common.{◌≡◌, ℕ, zero, suc, ◌+◌, ◌-◌, ◌<◌, ◌≤◌, Bool, true, false, ◌&&◌, List, length, sym, refl}
use Rattle.std.proofs.Common.{ap, ◌∙◌, add-one, arith, le-leb}
use lib.Ieee
use lib.Ieee.{Float}
use borrow.Author.Tests.{lt-leb}
use Rattle.lists.specs.Lists.{choose}
use Rattle.scene_format.specs.Format.{axes_of}
use Rattle.scene_format.specs.Scene.{Scene, fluid_size}
use Rattle.scene_format.specs.SceneOf.{scene_of}
use Rattle.iisph_rules.specs.Coefficients.{coefficients}
use Rattle.iisph_rules.specs.Iteration.{iteration}
use Rattle.iisph_rules.specs.Step.{first_pressures, is_last, settled_with, ran_out_with, Solution, iterate_from}
use Rattle.iisph_rules.specs.Step.{solution}
use Rattle.iisph_rules.specs.declared.Ending.{Ending}
use Rattle.iisph_rules.specs.declared.Ending.TheVariants.{Unswept}
use Rattle.iisph_rules.specs.declared.IterationError.{IterationError}
use Rattle.iisph_pressures.specs.IterationRows.{pressures_in, IterationReady}
use Rattle.iisph_iterations.specs.PressureSolve.{iterated_times, ending_after, Iterates, Solves}
use Rattle.iisph_iterations.specs.declared.pressure_solve.Solved.{Solved}
use Rattle.iisph_iterations.proofs.Iterated.{again-ready, again_pressures, length-iterated}

-- ---- one turn of the rule

-- iteration i of the rule, by whether it is the last
turn_go : (s : Scene) (k i : ℕ) (ps : List Float) (e : Ending) (t : Bool)
    → is_last s.header i (iteration s (coefficients s) ps).error.value ≡ t
    → iterate_from (suc k) s (coefficients s) i ps e
    ≡ choose t
    (record {
      iterations = suc i;
      ending = settled_with (iteration s (coefficients s) ps).error;
      pressures = (iteration s
          (coefficients s) ps).pressures;
    })
    (iterate_from k s (coefficients s) (suc i) (iteration s (coefficients s) ps).pressures
    (ran_out_with (iteration s (coefficients s) ps).error))
unfolding iterate_from
turn_go s k i ps e t q = rw q

module _ (s : Scene) (k i : ℕ) (ps : List Float) (e : Ending) where
  goes_on : is_last s.header i (iteration s (coefficients s) ps).error.value ≡ false
      → iterate_from (suc k) s (coefficients s) i ps e
      ≡ iterate_from k s (coefficients s) (suc i) (iteration s (coefficients s) ps).pressures
      (ran_out_with (iteration s (coefficients s) ps).error)
  unfolding choose
  goes_on q = turn_go s k i ps e false q

  stops : is_last s.header i (iteration s (coefficients s) ps).error.value ≡ true
      → iterate_from (suc k) s (coefficients s) i ps e
      ≡ record {
        iterations = suc i;
        ending = settled_with (iteration s (coefficients s) ps).error;
        pressures = (iteration s
            (coefficients s) ps).pressures;
      }
  unfolding choose
  stops q = turn_go s k i ps e true q

-- ---- the loop

-- after i of at most `most` iterations, the last with this error; `l` is the list before the first, `work` the list now
pub record Solving (b : List ℕ) (d n : ℕ) (l : List Float) (i : ℕ) (error : IterationError) (work : List Float)
    : Type 0 where
  pub within : i ≤ (scene_of b).header.max_pressure_iter
  pub long : length work ≡ length l
  pub list : work ≡ iterated_times i d (scene_of b) l
  pub ready : IterationReady (scene_of b) (pressures_in d n work) d n work
  pub rest :
      iterate_from ((scene_of b).header.max_pressure_iter - i) (scene_of b) (coefficients (scene_of b)) i
      (pressures_in d n work)
      (ending_after i error) ≡ solution (scene_of b)

module _ (b : List ℕ) {d n : ℕ} (is : d ≡ axes_of b) (size : n ≡ fluid_size (scene_of b)) (l : List Float) where
  pub none_solved : pressures_in d n l ≡ first_pressures (scene_of b)
      → IterationReady (scene_of b) (pressures_in d n l) d n l
      → (error : IterationError) → Solving b d n l 0 error l
  unfolding solution iterated_times ending_after
  none_solved e ready error =
      record {
        within = omega arith;
        long = refl;
        list = refl;
        ready = ready;
        rest = let z : (scene_of
            b).header.max_pressure_iter - 0 ≡ (scene_of b).header.max_pressure_iter = omega arith in rw (e, z);
      }

  module _ {i : ℕ} {error : IterationError} {work : List Float} (here : Solving b d n l i error work)
      (below : i < (scene_of b).header.max_pressure_iter)
      {x : IterationError} {after : List Float} (made : Iterates d (scene_of b) work x after) where
    -- this iteration, from the pressures that stand there
    abbrev it : IterationError
    it = (iteration (scene_of b) (coefficients (scene_of b)) (pressures_in d n work)).error

    error_is : x ≡ it
    error_is = made.error
        ∙ ap (λ (j : ℕ). (iteration (scene_of b) (coefficients (scene_of b)) (pressures_in d j work)).error) (sym size)

    list_next : after ≡ iterated_times (i + 1) d (scene_of b) l
    unfolding iterated_times
    list_next = made.list ∙ rw (add-one i, here.list)

    left : (scene_of b).header.max_pressure_iter - i ≡ suc ((scene_of b).header.max_pressure_iter - suc i)
    left = omega arith

    pub next_solved : is_last (scene_of b).header i x.value ≡ false → Solving b d n l (i + 1) x after
    unfolding ending_after
    next_solved q =
        let on =
        goes_on (scene_of b) ((scene_of b).header.max_pressure_iter - suc i) i (pressures_in d n work)
        (ending_after i error)
        (rw error_is at q) in
        let p : pressures_in d n after ≡ (iteration (scene_of b) (coefficients (scene_of b))
        (pressures_in d n work)).pressures =
        rw made.list (again_pressures b is size work here.ready) in
        record {
          within = omega arith;
          long = ap length made.list ∙ length-iterated b is work ∙ here.long;
          list = list_next;
          ready = rw made.list (again-ready b is size work here.ready);
          rest = rw (p, error_is, add-one i) (sym on ∙ rw left at here.rest);
        }

    pub solved_early : is_last (scene_of b).header i x.value ≡ true → {r : Solved} → r.iterations ≡ i + 1
        → r.ending ≡ settled_with x → Solves d (scene_of b) l r after
    solved_early q {r} ie ee =
        let at_once : solution (scene_of b)
        ≡ record {
          iterations = suc i;
          ending = settled_with it;
          pressures = (iteration (scene_of b) (coefficients (scene_of b))
              (pressures_in d n work)).pressures;
        } =
        sym here.rest
        ∙ rw left
        (stops (scene_of b) ((scene_of b).header.max_pressure_iter - suc i) i (pressures_in d n work)
        (ending_after i error)
        (rw error_is at q)) in
        record {
          iterations = ie ∙ add-one i ∙ sym (ap (λ (w : Solution). w.iterations) at_once);
          ending = ee ∙ ap settled_with error_is ∙ sym (ap (λ (w : Solution). w.ending) at_once);
          list = list_next
              ∙ ap (λ (j : ℕ). iterated_times j d (scene_of b) l)
              (add-one i ∙ sym (ap (λ (w : Solution). w.iterations) at_once));
        }

  module _ {i : ℕ} {error : IterationError} {work : List Float} (here : Solving b d n l i error work) where
    pub solved : (scene_of b).header.max_pressure_iter ≤ i → {r : Solved} → r.iterations ≡ i
        → r.ending ≡ ending_after i error → Solves d (scene_of b) l r work
    unfolding iterate_from
    solved h {r} ie ee =
        let none : (scene_of b).header.max_pressure_iter - i ≡ 0 = omega arith in
        let whole : record { iterations = i; ending = ending_after i error; pressures = pressures_in d n work }
        ≡ solution (scene_of b) = rw none at here.rest in
        record {
          iterations = ie ∙ ap (λ (w : Solution). w.iterations) whole;
          ending = ee ∙ ap (λ (w : Solution). w.ending) whole;
          list = here.list
              ∙ ap (λ (j : ℕ). iterated_times j d (scene_of b) l) (ap (λ (w : Solution). w.iterations) whole);
        }

-- ---- the stopping test

pub is_last_lem : (s : Scene) (i : ℕ) (x : Float) → Ieee.le x s.header.max_density_error ≡ true
    → s.header.min_pressure_iter ≤ i → is_last s.header i x ≡ true
is_last_lem s i x e h = rw (e, le-leb s.header.min_pressure_iter i h)

pub not_least : (s : Scene) (i : ℕ) (x : Float) → i < s.header.min_pressure_iter → is_last s.header i x ≡ false
not_least s i x h = rw (lt-leb s.header.min_pressure_iter i h) (and_false (Ieee.le x s.header.max_density_error))
  where
    and_false : (t : Bool) → t && false ≡ false
    and_false true = refl
    and_false false = refl

pub not_small : (s : Scene) (i : ℕ) (x : Float) → Ieee.le x s.header.max_density_error ≡ false
    → is_last s.header i x ≡ false
not_small s i x e = rw e

-- ---- the ending

pub unswept : (i : ℕ) (error : IterationError) → i ≡ 0 → Unswept ≡ ending_after i error
unfolding ending_after
unswept zero error e = refl
unswept (suc i) error e = absurd (omega arith)

pub ran_out : (i : ℕ) (error : IterationError) → 0 < i → ran_out_with error ≡ ending_after i error
unfolding ending_after
ran_out zero error h = absurd (omega arith)
ran_out (suc i) error h = refl
