-- Calls of `step` and accepted scenes, and locality of two calls: the claims of specs/Calls.antt. From the step's
-- contract, which gives a call's answer lists by the rules, and the rules' theorems. Assumes nothing.
use mathlib.Core.Path.{refl, sym, ap, ◌∙◌}
use mathlib.Core.List.{List}
use Prim.Native.Nat.{ℕ}
use lib.ListN.{length}
use Rattle.iisph_rules.specs.Answer.{LongEnough}
use Rattle.iisph_rules.specs.Locality.{Matched, answers_for}
use Rattle.iisph_rules.specs.declared.Report.{Report}
use Rattle.iisph_rules.proofs.Reports.{step_done, done_accepted, accepted_answered}
use Rattle.iisph_rules.proofs.Locality.{most_iterations, fluid_answer_locality}
use Rattle.iisph_solver.specs.Calls.{DoneCall, AcceptedCalled, CallAccepted, CallTakesMost, StepLocality}
use Rattle.iisph_solver.specs.Calls.{StepSameNumber}

-- ---- one call

pub accepted_called : AcceptedCalled
accepted_called b a answers work answers' work' r h s =
    let (q, e) = accepted_answered b a (length answers) (length work) h answers in
    (s.answer ∙ q, s.answers_then ∙ e)

pub call_accepted : CallAccepted
call_accepted b x = done_accepted b _ _ x.report (sym x.steps.answer)

-- its lists were long enough
call_long : {b : List ℕ} (x : DoneCall b) → LongEnough b (length x.answers) (length x.work)
call_long {b} x = (step_done b _ _ (sym x.steps.answer)).long

pub call_takes_most : CallTakesMost
call_takes_most b x h =
    let (a, e) = call_accepted b x in
    sym (ap (λ r. r.iterations) e) ∙ most_iterations b a h

-- ---- two calls

pub step_locality : StepLocality
step_locality k b b' x y shape e q i h near =
    let (a, r) = call_accepted b x in
    let (a', r') = call_accepted b' y in
    let m : Matched b b' =
    record { bytes = x.bytes; bytes' = y.bytes; shape = shape; accepted = a; accepted' = a' } in
    let n = ap (λ (z : Report). z.iterations) r ∙ e in
    let n' = ap (λ (z : Report). z.iterations) r' ∙ q in
    ap (answers_for b i) x.steps.answers_then
    ∙ fluid_answer_locality k b b' (record { matched = m; iterations = n; iterations' = n' }) i h near
    _ _ _ _ (call_long x) (call_long y) x.answers y.answers
    ∙ sym (ap (answers_for b' i) y.steps.answers_then)

pub step_same_number : StepSameNumber
step_same_number b b' x y shape e = step_locality _ b b' x y shape refl (sym e)
