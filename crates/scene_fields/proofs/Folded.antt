-- A `try_fold` over n numbers, whose closure takes one and the same step at each of them, is n steps one after the
-- other. By the numbers that come: after none, the end or the refusal that broke it off; after one, a step is done.
-- Assumes nothing.
use Prim.Native.Nat.{ℕ, suc, ◌-◌, ◌<◌}
use mathlib.Core.Path.{◌≡◌, sym, ◌∙◌, ap, subst}
use mathlib.Core.List.{List, [], ◌∷◌}
use native.Mathlib.Nat.{sub-zero}
use native.Mathlib.Omega.{arith}
use denote.Param.Members.{Mut, Called}
use Rattle.std.specs.List.{FoldsTo}
use Rattle.std.specs.Option.{MatchOption}
use Rattle.std.specs.Result.{IsErr, IsErrAnd, result_from_control_flow}
use Rattle.std.specs.Iterator.{Yields, TryFoldTurn, TryFoldsItems}
use Rattle.std.specs.declared.option.Option.{Option}
use Rattle.std.specs.declared.option.Option.TheVariants.{Some, None}
use Rattle.std.specs.declared.ops.ControlFlow.TheVariants.{Break}
use Rattle.std.specs.declared.ops.Range.{Range}
use Rattle.std.specs.declared.result.Result.TheVariants.{Ok}
use Rattle.std.proofs.iter.Yields.{nat_range_steps}
use Rattle.scene_format.specs.declared.Refusal.{Refusal}
use Rattle.scene_format.specs.Refusals.{Walk}
use Rattle.scene_fields.specs.Fields.{◌▹◌, times}
use Rattle.scene_fields.proofs.Walks.{handed_on}

module _ {F : Type 0} (g : Mut F (ℕ × (ℕ × Unit {0})) Walk) where
  -- calls of the closure c at numbers xs have led on from an offset to b, and left d
  abbrev LedOn : F → ℕ → List ℕ → F → ℕ → Type 0
  LedOn c at xs d b = FoldsTo {P = F × ℕ} (TryFoldTurn g (λ w x. w ≡ result_from_control_flow x)) (c, at) xs (d, b)

  -- no more number comes and the walk w is at b, or one comes, at which d refuses, and so does w
  abbrev Ends : Option ℕ → F → ℕ → Walk → Type 0
  Ends o d b w =
      MatchOption o (w ≡ Ok b)
      (λ x. (v : Walk) × (h : F) × (e : _) × Called g d (b, (x, tt)) v h × (v ≡ result_from_control_flow (Break e))
      × (IsErr w × IsErrAnd w (λ (r : Refusal). r ≡ e.0)))

  module _ (f : ℕ → Walk) (c : F)
      (step : (at k : ℕ) (w : Walk) (d : F) → Called g c (at, (k, tt)) w d → (d ≡ c) × (w ≡ f at)) where
    turns : (xs : List ℕ) (n at : ℕ) (s t u : Range ℕ) (o : Option ℕ) (d : F) (b : ℕ) {w : Walk} → s.end - s.start ≡ n
        → Yields nat_range_steps s xs t → nat_range_steps t o u → LedOn c at xs d b → Ends o d b w → w ≡ times n f at
    unfolding times ◌▹◌
    turns [] n at s t u None d b e y l k out =
        let none : n ≡ 0 = sym e ∙ ap (λ (z : Range ℕ). z.end - z.start) y ∙ l.1.0 in
        rw none (out ∙ ap (λ (p : F × ℕ). Ok p.1) (sym k))
    turns [] n at s t u (Some x) d b e y l k (v, h, r, called, broke, refused) =
        let some : 0 < s.end - s.start = rw y l.1.0 in
        let more : n ≡ suc (n - 1) = omega arith in
        let here = step at x v h (subst (λ (p : F × ℕ). Called g p.0 (p.1, (x, tt)) v h) (sym k) called) in
        rw (more, sym here.1 ∙ broke) (handed_on refused.1)
    turns (x ∷ xs) n at s t u o d b e (j, l, y) m (q, (v, called, on), k) out =
        let more : n ≡ suc (n - 1) = omega arith in
        let here = step at x v q.0 called in
        rw (more, sym here.1 ∙ on)
        (turns xs (n - 1) q.1 j t u o d b (omega arith) y m (subst (λ (z : F). LedOn z q.1 xs d b) here.0 k) out)

    pub times_folded : {n at : ℕ} {u : Range ℕ} {w : Walk}
        → TryFoldsItems nat_range_steps g (λ v x. v ≡ result_from_control_flow x)
        (λ e v. IsErr v × IsErrAnd v (λ (r : Refusal). r ≡ e.0)) (record { start = 0; end = n }) c at w u
        → w ≡ times n f at
    times_folded {n} (xs, o, d, b, (t, y, l), k, out) = turns xs n _ _ t _ o d b (sub-zero n) y l k out
