-- A step that is lent its index, from the one that is not: by whether the index is lacking, which only a scene that the
-- passes begin on can find. Assumes nothing.
use Prim.Native.Nat.{ℕ, ◌≤◌, ◌<◌}
use mathlib.Core.Path.{◌≡◌, refl, sym, ap, ◌∙◌}
use mathlib.Core.Bool.{Bool, true, false, ◌&&◌, true≢false}
use mathlib.Core.List.{List}
use native.Mathlib.Omega.{arith}
use lib.Dec.{ltb}
use lib.Ieee.{Float}
use lib.ListN.{length}
use borrow.Author.Tests.{lt-ltb, le-ltb, ltb-true, le-leb, lt-leb}
use Rattle.lists.specs.Lists.{choose}
use Rattle.scene_check.specs.Walk.{checked}
use Rattle.scene_check.proofs.Early.{refused_early}
use Rattle.scene_format.specs.Refusals.{number_of}
use Rattle.scene_format.specs.declared.Refusal.{Refusal}
use Rattle.std.specs.declared.result.Result.TheVariants.{Ok, Err}
use Rattle.scene_index.specs.Index.{index_needed}
use Rattle.iisph_rules.specs.Answer.{step_answer, LongEnough, clears_work}
use Rattle.iisph_rules.specs.Step.{StepAnswer}
use Rattle.iisph_rules.proofs.Cases.{scene_answer_lem, scene_clears}
use Rattle.iisph_lent.specs.Lent.{answered, lacks_index, lent_answer, StepsLent, uses_index, IndexAfter}
use Rattle.iisph_lent.specs.Step.{Steps}
use Rattle.iisph_lent.specs.declared.LentRefusal.TheVariants.{ShortIndex}

-- ---- whether the index is lacking

and_false : (t : Bool) → t && false ≡ false
and_false true = refl
and_false false = refl

module _ (b : List ℕ) (answers work index : ℕ) where
  long_enough : index_needed b ≤ index → lacks_index b answers work index ≡ false
  unfolding lacks_index
  long_enough h =
      ap (λ (t : Bool). clears_work (step_answer b answers work) && t) (le-ltb index (index_needed b) h)
      ∙ and_false (clears_work (step_answer b answers work))

  -- 1 to 8
  pub refused_first : clears_work (step_answer b answers work) ≡ false → lacks_index b answers work index ≡ false
  unfolding lacks_index
  refused_first q = rw q

  lacking : clears_work (step_answer b answers work) ≡ true → index < index_needed b
      → lacks_index b answers work index ≡ true
  unfolding lacks_index
  lacking q h = rw (q, lt-ltb index (index_needed b) h)

  and_last : (s : Bool) → s && ltb index (index_needed b) ≡ true → index < index_needed b
  and_last true e = ltb-true index (index_needed b) e
  and_last false e = absurd (let z : ◌≡◌ {A = ℕ} 0 1 = cc in omega arith)

  lacking_short : lacks_index b answers work index ≡ true → index < index_needed b
  unfolding lacks_index
  lacking_short e = and_last (clears_work (step_answer b answers work)) e

-- ---- whether the index is used

used : (b : List ℕ) (answers work : ℕ) {e : ℕ} → checked b ≡ Ok e → LongEnough b answers work
    → (index : ℕ) → index_needed b ≤ index → uses_index b answers work index ≡ true
unfolding uses_index
used b answers work w long index h =
    let a = scene_answer_lem b answers work w long.enough_answers long.enough_work in
    rw (a, scene_clears b, le-leb (index_needed b) index h)

-- then nothing is said of it
pub scratch : {b : List ℕ} (answers work : List Float) {index index' : List ℕ} {e : ℕ} → checked b ≡ Ok e
    → LongEnough b (length answers) (length work) → index_needed b ≤ length index
    → IndexAfter b answers work index index'
scratch {b} answers work {index} w long h q =
    absurd (true≢false (sym (used b (length answers) (length work) w long (length index) h) ∙ q))

-- 1 to 7 come before the passes
pub refused_clears : (b : List ℕ) {r : Refusal} → checked b ≡ Err r → clears_work (Err r) ≡ false
unfolding clears_work
refused_clears b {r} q = lt-leb 9 (number_of r) (early (refused_early b q))
  where
    early : {n : ℕ} → n ≤ 7 → n < 9
    early h = omega arith

-- ---- an answer that the index plays no part in

-- it tells which step's answer it is, and is not that the index is too short
answered_same : (r r' : StepAnswer) → answered r ≡ answered r' → r ≡ r'
unfolding answered
answered_same (Ok x) (Ok y) e = cc
answered_same (Err x) (Err y) e = cc
answered_same (Ok x) (Err y) e = let z : ◌≡◌ {A = ℕ} 0 1 = cc in absurd (omega arith)
answered_same (Err x) (Ok y) e = let z : ◌≡◌ {A = ℕ} 0 1 = cc in absurd (omega arith)

answered_not_short : (r : StepAnswer) {k : ℕ} → answered r ≡ Err (ShortIndex k) → ⊥
unfolding answered
answered_not_short (Ok x) e = let z : ◌≡◌ {A = ℕ} 0 1 = cc in omega arith
answered_not_short (Err x) e = let z : ◌≡◌ {A = ℕ} 0 1 = cc in omega arith

-- ---- the contract

module _ (b : List ℕ) (answers work : List Float) (index : ℕ) where
  abbrev lacks : Bool
  lacks = lacks_index b (length answers) (length work) index

  not_lacking : lacks ≡ false → {r : StepAnswer} {answers' work' : List Float} → Steps b answers work r answers' work'
      → StepsLent b answers work index (answered r) answers' work'
  unfolding lent_answer choose
  not_lacking q s =
      record { answer = rw (q, s.answer); answers_then = rw q s.answers_then; work_then = rw q s.work_then }

  -- with a long enough index, and where 1 to 8 refused
  pub steps_lent : index_needed b ≤ index → {r : StepAnswer} {answers' work' : List Float}
      → Steps b answers work r answers' work' → StepsLent b answers work index (answered r) answers' work'
  steps_lent h = not_lacking (long_enough b (length answers) (length work) index h)

  pub early_lent : {r : StepAnswer} {answers' work' : List Float} → clears_work r ≡ false
      → Steps b answers work r answers' work' → StepsLent b answers work index (answered r) answers' work'
  early_lent q s =
      not_lacking (refused_first b (length answers) (length work) index (rw (sym s.answer) q)) s

  -- with one that is too short
  pub short_lent : {e : ℕ} → checked b ≡ Ok e → LongEnough b (length answers) (length work) →
      index < index_needed b
      → StepsLent b answers work index (Err (ShortIndex (index_needed b))) answers work
  unfolding lent_answer choose
  short_lent w long h =
      let a = scene_answer_lem b (length answers) (length work) w long.enough_answers long.enough_work in
      let q : lacks ≡ true = lacking b (length answers) (length work) index (rw a (scene_clears b)) h in
      record { answer = rw q; answers_then = rw q; work_then = rw q }

  -- ---- what an answer says

  module _ {answers' work' : List Float} where
    answered_go : (t : Bool) → lacks ≡ t → {r : StepAnswer} → StepsLent b answers work index (answered r) answers' work'
        → Steps b answers work r answers' work'
    unfolding lent_answer choose
    answered_go true q {r} s = let e = rw q at s.answer in absurd (answered_not_short r e)
    answered_go false q {r} s =
        let e = rw q at s.answer in
        record { answer = answered_same r _ e; answers_then = rw q at s.answers_then; work_then = rw q at s.work_then }

    pub answered-steps : {r : StepAnswer} → StepsLent b answers work index (answered r) answers' work'
        → Steps b answers work r answers' work'
    answered-steps s = answered_go lacks refl s

    short_go : (t : Bool) → lacks ≡ t → {k : ℕ} → StepsLent b answers work index (Err (ShortIndex k)) answers' work'
        → (k ≡ index_needed b) × (index < index_needed b) × (answers' ≡ answers) × (work' ≡ work)
    unfolding lent_answer choose
    short_go true q s =
        let e = rw q at s.answer in
        (cc, lacking_short b (length answers) (length work) index q, rw q at s.answers_then, rw q at s.work_then)
    short_go false q s = let e = rw q at s.answer in absurd (answered_not_short _ (sym e))

    -- the length needed, which is more than is there, and lists that are as they were
    pub short_index_lem : {k : ℕ} → StepsLent b answers work index (Err (ShortIndex k)) answers' work'
        → (k ≡ index_needed b) × (index < index_needed b) × (answers' ≡ answers) × (work' ≡ work)
    short_index_lem s = short_go lacks refl s
