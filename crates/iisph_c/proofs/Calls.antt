-- What the C interface's calls come to, case by case: lists that are too short, done, or refused. Each case unfolds the
-- call's definitions once. Assumes nothing.
use Prim.Native.Nat.{ℕ, ◌<◌, ◌≤◌}
use mathlib.Core.Path.{◌≡◌, refl, sym, ap, ◌∙◌}
use mathlib.Core.Bool.{true, false}
use mathlib.Core.List.{List, [], ◌∷◌}
use native.Mathlib.Omega.{arith}
use lib.Ieee.{Float}
use lib.ListN.{length, set}
use lib.Seq.{sets}
use borrow.Author.Tests.{le-leb, lt-leb}
use Rattle.lists.specs.Lists.{choose}
use Rattle.scene_format.specs.SceneOf.{scene_of}
use Rattle.scene_check.specs.Walk.{checked}
use Rattle.scene_format.specs.declared.Refusal.{Refusal}
use Rattle.scene_format.specs.Refusals.{Walk}
use Rattle.std.specs.declared.result.Result.TheVariants.{Ok, Err}
use Rattle.iisph_preparation.specs.Prepare.{readiness}
use Rattle.iisph_rules.specs.Step.{Readiness}
use Rattle.iisph_rules.specs.Step.{StepAnswer}
use Rattle.scene_lengths.specs.Lengths.{lengths_needed, needs_after, needs_of}
use Rattle.iisph_lent.specs.Lent.{StepsLent, IndexAfter}
use Rattle.iisph_lent.specs.Step.{Steps}
use Rattle.iisph_lent.specs.Lent.{LentAnswer}
use Rattle.iisph_lent.specs.declared.LentRefusal.TheVariants.{Refused, ShortIndex}
use Rattle.iisph_validation.specs.Validate.{Validates}
use Rattle.scene_lengths.specs.declared.Lengths.{Lengths}
use Rattle.std.specs.declared.result.Result.{Result}
use Rattle.iisph_c.specs.Needs.{lengths_after, NeedsTo}
use Rattle.iisph_codes.specs.Numbers.{too_short, short_index, counts_needed, refused_code, walk_code, refused_counts}
use Rattle.iisph_codes.specs.Report.{numbers_needed, report_numbers, report_counts}
use Rattle.iisph_rules.specs.Endings.{ending_number}
use Rattle.iisph_rules.specs.declared.Report.{Report}
use Rattle.iisph_c.specs.Step.{step_code, numbers_after, counts_after, has_room, StepsTo}
use Rattle.iisph_c.specs.Step.{lent_code, numbers_lent, counts_lent, LentTo, LentIndex}
use Rattle.iisph_c.specs.Validate.{validate_code, validate_counts, ValidatesTo}

-- ---- the step

-- whether `numbers` and `counts` have room
module _ (numbers : List Float) (counts : List ℕ) where
  numbers_lack : length numbers < numbers_needed → has_room numbers counts ≡ false
  unfolding has_room
  numbers_lack h = rw (lt-leb numbers_needed (length numbers) h)

  counts_lack : numbers_needed ≤ length numbers → length counts < counts_needed → has_room numbers counts ≡ false
  unfolding has_room
  counts_lack l h = rw (le-leb numbers_needed (length numbers) l, lt-leb counts_needed (length counts) h)

  room : numbers_needed ≤ length numbers → counts_needed ≤ length counts → has_room numbers counts ≡ true
  unfolding has_room
  room l m = rw (le-leb numbers_needed (length numbers) l, le-leb counts_needed (length counts) m)

module _ (b : List ℕ) (answers work numbers : List Float) (counts : List ℕ) where
  -- 99
  unchanged : has_room numbers counts ≡ false
      → StepsTo (has_room numbers counts) b answers work numbers counts too_short answers work numbers counts
  unfolding choose
  unchanged h = record { result = rw h; answers_then = rw h; work_then = rw h; numbers_then = rw h; counts_then = rw h }

  pub numbers_short : length numbers < numbers_needed
      → StepsTo (has_room numbers counts) b answers work numbers counts too_short answers work numbers counts
  numbers_short h = unchanged (numbers_lack numbers counts h)

  pub counts_short : numbers_needed ≤ length numbers → length counts < counts_needed
      → StepsTo (has_room numbers counts) b answers work numbers counts too_short answers work numbers counts
  counts_short l h = unchanged (counts_lack numbers counts l h)

  -- the answer is written
  pub stepped_to : numbers_needed ≤ length numbers → counts_needed ≤ length counts
      → {a : StepAnswer} {answers' work' numbers' : List Float} {n : ℕ} {counts' : List ℕ}
      → Steps b answers work a answers' work' → n ≡ step_code a → numbers' ≡ numbers_after a numbers
      → counts' ≡ counts_after a counts
      → StepsTo (has_room numbers counts) b answers work numbers counts n answers' work' numbers' counts'
  unfolding choose
  stepped_to l m s e f g =
      let t = room numbers counts l m in
      record {
        result = rw t (e ∙ ap step_code s.answer);
        answers_then = rw t s.answers_then;
        work_then = rw t s.work_then;
        numbers_then = rw t (f ∙ ap (λ (a : StepAnswer). numbers_after a numbers) s.answer);
        counts_then = rw t (g ∙ ap (λ (a : StepAnswer). counts_after a counts) s.answer);
      }

-- the same with a lent index
module _ (b : List ℕ) (answers work : List Float) (index : ℕ) (numbers : List Float) (counts : List ℕ) where
  unchanged_lent : has_room numbers counts ≡ false
      → LentTo (has_room numbers counts) b answers work index numbers counts too_short answers work numbers counts
  unfolding choose
  unchanged_lent h =
      record { result = rw h; answers_then = rw h; work_then = rw h; numbers_then = rw h; counts_then = rw h }

  pub numbers_short_lent : length numbers < numbers_needed
      → LentTo (has_room numbers counts) b answers work index numbers counts too_short answers work numbers counts
  numbers_short_lent h = unchanged_lent (numbers_lack numbers counts h)

  pub counts_short_lent : numbers_needed ≤ length numbers → length counts < counts_needed
      → LentTo (has_room numbers counts) b answers work index numbers counts too_short answers work numbers counts
  counts_short_lent l h = unchanged_lent (counts_lack numbers counts l h)

  module _ (l : numbers_needed ≤ length numbers) (m : counts_needed ≤ length counts) {x : LentAnswer}
      {answers' work' : List Float} (s : StepsLent b answers work index x answers' work')
      {n : ℕ} {counts' : List ℕ} where
    lent_to : {numbers' : List Float} → n ≡ lent_code x → numbers' ≡ numbers_lent x numbers
        → counts' ≡ counts_lent x counts
        → LentTo (has_room numbers counts) b answers work index numbers counts n answers' work' numbers' counts'
    unfolding choose
    lent_to e f g =
        let t = room numbers counts l m in
        record {
          result = rw t (e ∙ ap lent_code s.answer);
          answers_then = rw t s.answers_then;
          work_then = rw t s.work_then;
          numbers_then = rw t (f ∙ ap (λ (a : LentAnswer). numbers_lent a numbers) s.answer);
          counts_then = rw t (g ∙ ap (λ (a : LentAnswer). counts_lent a counts) s.answer);
        }

    pub reported_to : {r : Report} {numbers' : List Float} → x ≡ Ok r → n ≡ ending_number r.ending
        → numbers' ≡ sets numbers 0 (report_numbers r) → counts' ≡ sets counts 0 (report_counts r)
        → LentTo (has_room numbers counts) b answers work index numbers counts n answers' work' numbers' counts'
    unfolding lent_code numbers_lent counts_lent step_code numbers_after counts_after
    reported_to q e f g = lent_to (rw q e) (rw q f) (rw q g)

    pub refused_to : {r : Refusal} → x ≡ Err (Refused r) → n ≡ refused_code r → counts' ≡ refused_counts r counts
        → LentTo (has_room numbers counts) b answers work index numbers counts n answers' work' numbers counts'
    unfolding lent_code numbers_lent counts_lent step_code counts_after
    refused_to q e g = lent_to (rw q e) (rw q) (rw q g)

    pub short_to : {k : ℕ} → x ≡ Err (ShortIndex k) → n ≡ short_index → counts' ≡ set counts 0 k
        → LentTo (has_room numbers counts) b answers work index numbers counts n answers' work' numbers counts'
    unfolding lent_code numbers_lent counts_lent
    short_to q e g = lent_to (rw q e) (rw q) (rw q g)

-- the index, where there is room
pub index_after : (b : List ℕ) (answers work numbers : List Float) (counts index : List ℕ)
    → numbers_needed ≤ length numbers → counts_needed ≤ length counts → {index' : List ℕ}
    → IndexAfter b answers work index index' → LentIndex (has_room numbers counts) b answers work index index'
index_after b answers work numbers counts index l m s q = s (rw (room numbers counts l m) at q)

-- ---- whether a step would be refused

module _ (a : StepAnswer) where
  ready_code : Ok tt ≡ readiness a
      → (0 ≡ validate_code a) × ((counts : List ℕ) → counts ≡ validate_counts a counts)
  unfolding readiness validate_code validate_counts
  ready_code q = go a q
    where
      go : (a : StepAnswer) → Ok tt ≡ readiness a
          → (0 ≡ validate_code a) × ((counts : List ℕ) → counts ≡ validate_counts a counts)
      go (Ok r) p = (refl, λ _. refl)
      go (Err r) p = let z : ◌≡◌ {A = ℕ} 0 1 = cc in absurd (omega arith)

  refused_code_lem : {r : Refusal} → Err r ≡ readiness a → a ≡ Err r
  unfolding readiness
  refused_code_lem q = go a q
    where
      go : {r : Refusal} (a : StepAnswer) → Err r ≡ readiness a → a ≡ Err r
      go (Ok r) p = let z : ◌≡◌ {A = ℕ} 0 1 = cc in absurd (omega arith)
      go (Err r) p = cc

module _ (b : List ℕ) (work : List Float) (counts : List ℕ) where
  pub validate_short : length counts < counts_needed → ValidatesTo b work counts too_short work counts
  unfolding choose
  validate_short h =
      let f = lt-leb counts_needed (length counts) h in
      record { result = rw f; work_then = rw f; counts_then = rw f }

  module _ (m : counts_needed ≤ length counts) {a : Readiness} {work' : List Float} (v : Validates b work a work') where
    pub ready_to : a ≡ Ok tt → ValidatesTo b work counts 0 work' counts
    unfolding choose
    ready_to q =
        let t = le-leb counts_needed (length counts) m in
        let c = ready_code _ (sym q ∙ v.answer) in
        record { result = rw t c.0; work_then = rw t v.list; counts_then = rw t (c.1 counts) }

    pub unready_to : {r : Refusal} {n : ℕ} {counts' : List ℕ} → a ≡ Err r → n ≡ refused_code r
        → counts' ≡ refused_counts r counts → ValidatesTo b work counts n work' counts'
    unfolding choose validate_code validate_counts
    unready_to q e g =
        let t = le-leb counts_needed (length counts) m in
        let c = refused_code_lem _ (sym q ∙ v.answer) in
        record { result = rw (t, c) e; work_then = rw t v.list; counts_then = rw (t, c) g }

-- ---- what a step needs

-- the check, from what is said of a scene
module _ (b : List ℕ) where
  refused_check : {r : Refusal} → Err r ≡ needs_of b → checked b ≡ Err r
  unfolding needs_of needs_after
  refused_check q = go (checked b) q
    where
      go : {r : Refusal} (w : Walk) → Err r ≡ needs_after b w → w ≡ Err r
      go (Ok e) p = let z : ◌≡◌ {A = ℕ} 0 1 = cc in absurd (omega arith)
      go (Err r) p = cc

  -- of an accepted scene: where its check ended, and the lengths
  record Told (l : Lengths) : Type 0 where
    pub end : ℕ
    pub ended : checked b ≡ Ok end
    pub lengths : l ≡ lengths_needed (scene_of b)

  lists_check : {l : Lengths} → Ok l ≡ needs_of b → Told l
  unfolding needs_of needs_after
  lists_check {l} q = go (checked b) refl q
    where
      go : (w : Walk) → checked b ≡ w → Ok l ≡ needs_after b w → Told l
      go (Ok e) t p = record { end = e; ended = t; lengths = cc }
      go (Err r) t p = let z : ◌≡◌ {A = ℕ} 0 1 = cc in absurd (omega arith)

  module _ (counts : List ℕ) where
    pub needs_short : length counts < counts_needed → NeedsTo b counts too_short counts
    unfolding choose
    needs_short h = let f = lt-leb counts_needed (length counts) h in record { result = rw f; counts_then = rw f }

    module _ (m : counts_needed ≤ length counts) {s : Result Lengths Refusal} (is : s ≡ needs_of b)
        {n : ℕ} {counts' : List ℕ} where
      pub needs_refused : {r : Refusal} → s ≡ Err r → n ≡ refused_code r
          → counts' ≡ refused_counts r counts → NeedsTo b counts n counts'
      unfolding choose walk_code lengths_after
      needs_refused q e g =
          let t = le-leb counts_needed (length counts) m in
          let w = refused_check (sym q ∙ is) in
          record { result = rw (t, w) e; counts_then = rw (t, w) g }

      pub needs_lists : {l : Lengths} → s ≡ Ok l → n ≡ 0 → counts' ≡ sets counts 0 (l.answers ∷ l.work ∷ [])
          → NeedsTo b counts n counts'
      unfolding choose walk_code lengths_after
      needs_lists q e g =
          let t = le-leb counts_needed (length counts) m in
          let w = lists_check (sym q ∙ is) in
          record {
            result = rw (t, w.ended) e;
            counts_then = rw (t, w.ended)
                (g ∙ ap (λ (l : Lengths). sets counts 0 (l.answers ∷ l.work ∷ [])) w.lengths);
          }
