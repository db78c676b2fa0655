-- `iisph_preparation::zero_refusal` meets its contract: each search's answer is the first zero of its column, or
-- none. Assumes nothing.
use Prim.Native.Nat.{ℕ}
use mathlib.Core.Path.{◌≡◌, sym, ap, ◌∙◌}
use mathlib.Core.List.{List}
use lib.Ieee.{Float}
use Rattle.std.specs.declared.option.Option.{Option}
use Rattle.std.specs.declared.result.Result.TheVariants.{Ok, Err}
use Rattle.lists.proofs.Lists.{length-table}
use Rattle.scene_format.specs.declared.Refusal.TheVariants.{ZeroDensity, ZeroPredictedDensity}
use Rattle.scene_format.specs.Format.{location_of}
use Rattle.scene_format.specs.declared.Kind.TheVariants.{Fluid}
use Rattle.iisph_rows.specs.Passes.{found_below}
use Rattle.iisph_rows.specs.Rows.{density_slot, predicted_slot, column}
use Rattle.iisph_rules.specs.Step.{first_zero}
use Rattle.iisph_rows.proofs.Particles.{record_asked}
use Rattle.iisph_rows.proofs.FirstZero.{found_lt, unless_found, unless_nothing}
use Rattle.iisph_preparation.specs.Prepare.{readiness}
use Rattle.iisph_preparation.proofs.zero_refusal.Goals as goal

-- what a search in the column of that slot gave
found_in : (n : ℕ) (l : List Float) {k slot : ℕ} {r x : Option ℕ} → k ≡ slot
    → r ≡ found_below n (first_zero (column n k l)) → r ≡ x → x ≡ found_below n (first_zero (column n slot l))
found_in n l e q h = sym h ∙ q ∙ ap (λ (j : ℕ). found_below n (first_zero (column n j l))) e

pub record_of-at-requires : goal.record_of-at-requires
record_of-at-requires c =
    record_asked c.requires.0 (found_lt _ _ (found_in _ _ c.density_column.ensures c.first_zero.ensures c.in-Some.is))

pub returns-in-Some : goal.returns-in-Some
unfolding readiness
returns-in-Some c =
    let o = c.args.over in
    let at = λ (i : ℕ). (location_of Fluid o.scene.now i).at in
    let densities = column o.n (density_slot o.dim) c.args.work.now in
    let found = found_in _ _ c.density_column.ensures c.first_zero.ensures c.in-Some.is in
    λ report.
    sym (ap readiness
    (unless_found at ZeroDensity densities _ (length-table o.n _) found
    ∙ sym (ap (λ (k : ℕ). Err (ZeroDensity k)) c.record_of-at.ensures)))

pub record_of-at-requires-in-Some-first_zero : goal.record_of-at-requires-in-Some-first_zero
record_of-at-requires-in-Some-first_zero c =
    record_asked c.requires.0
    (found_lt _ _ (found_in _ _ c.predicted_column.ensures c.first_zero-2.ensures c.in-Some-first_zero.is))

pub returns-in-Some-first_zero : goal.returns-in-Some-first_zero
unfolding readiness
returns-in-Some-first_zero c =
    let o = c.args.over in
    let at = λ (i : ℕ). (location_of Fluid o.scene.now i).at in
    let densities = column o.n (density_slot o.dim) c.args.work.now in
    let nothing = found_in _ _ c.density_column.ensures c.first_zero.ensures c.in_default.is in
    let predicted = column o.n (predicted_slot o.dim) c.args.work.now in
    let found = found_in _ _ c.predicted_column.ensures c.first_zero-2.ensures c.in-Some-first_zero.is in
    λ report.
    sym (ap readiness
    (unless_nothing at ZeroDensity densities _ (length-table o.n _) nothing
    ∙ unless_found at ZeroPredictedDensity predicted _ (length-table o.n _) found
    ∙ sym (ap (λ (k : ℕ). Err (ZeroPredictedDensity k)) c.record_of-at-in-Some-first_zero.ensures)))

pub returns : goal.returns
unfolding readiness
returns c =
    let o = c.args.over in
    let at = λ (i : ℕ). (location_of Fluid o.scene.now i).at in
    let densities = column o.n (density_slot o.dim) c.args.work.now in
    let nothing = found_in _ _ c.density_column.ensures c.first_zero.ensures c.in_default.is in
    let predicted = column o.n (predicted_slot o.dim) c.args.work.now in
    let none = found_in _ _ c.predicted_column.ensures c.first_zero-2.ensures c.in_default-first_zero.is in
    λ report.
    sym (ap readiness
    (unless_nothing at ZeroDensity densities _ (length-table o.n _) nothing
    ∙ unless_nothing at ZeroPredictedDensity predicted (Ok report)
    (length-table o.n _) none))
