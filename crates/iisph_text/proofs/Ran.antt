-- What a run does, from what its parts did: by the tests that it makes. Assumes nothing.
use Prim.Native.Nat.{ℕ, ◌+◌, ◌*◌, ◌≤◌, ◌<◌}
use mathlib.Core.Path.{◌≡◌, ◌∙◌}
use mathlib.Core.List.{List, ◌++◌}
use native.Mathlib.Nat.{zero-add}
use native.Mathlib.Omega.{arith}
use lib.ListN.{length, drop}
use lib.Seq.{sets-eq}
use lib.Ieee.{Float}
use borrow.Author.Tests.{lt-ltb, le-ltb}
use Rattle.lists.specs.Lists.{choose}
use Rattle.lists.specs.Stores.{Writes}
use Rattle.lists.proofs.Writing.{none_written}
use Rattle.scene_format.specs.Bytes.{Bytes}
use Rattle.scene_format.specs.Format.{axes_of}
use Rattle.scene_format.specs.Scene.{fluid_size}
use Rattle.scene_format.specs.SceneOf.{scene_of}
use Rattle.scene_format.specs.declared.Refusal.{Refusal}
use Rattle.scene_format.specs.declared.Kind.TheVariants.{Fluid, Boundary}
use Rattle.scene_lengths.specs.Lengths.{fluid_answer_width, answers_in}
use Rattle.iisph_words.specs.declared.text.Text.{Text}
use Rattle.iisph_words.specs.Texts.{HasRoom, Adds}
use Rattle.iisph_words.proofs.Texts.{◌then◌}
use Rattle.iisph_lines.specs.Lines.{step_line, clock_line, models_text, particles_text, refused_line}
use Rattle.iisph_rules.specs.declared.Report.{Report}
use Rattle.iisph_rules.specs.Step.{StepAnswer}
use Rattle.std.specs.declared.result.Result.TheVariants.{Err}
use Rattle.iisph_lent.specs.Step.{Steps}
use Rattle.iisph_text.specs.Text.{most_bytes, too_long, text_with, text_of, answer_text}
use Rattle.iisph_text.specs.Run.{text_room, enough_answers, enough_work, written, if_stepped, text_in, Runs, behind}
use Rattle.iisph_text.specs.Run.{LinesReady}
use Rattle.iisph_text.proofs.Texts.{text_same}

-- where the boundaries' answers begin
pub behind-is : (b : List ℕ) {w d n : ℕ} → w ≡ fluid_answer_width d → d ≡ axes_of b → n ≡ fluid_size (scene_of b)
    → w * n ≡ behind b
behind-is b e q l = rw (e, q, l)

-- the four parts of the text of a step that is done
pub parts-added : (b : List ℕ) (xs : List Float) (r : Report) {t t₁ t₂ t₃ t₄ : Text} {k : ℕ} → k ≡ behind b
    → Adds t (step_line r) t₁ → Adds t₁ (clock_line r.clock) t₂ → Adds t₂ (models_text Fluid b 0 xs) t₃
    → Adds t₃ (models_text Boundary b k xs) t₄
    → Adds t (step_line r ++ clock_line r.clock ++ particles_text b xs) t₄
unfolding particles_text
parts-added b xs r e p q v w = p then q then (v then (rw e at w))

-- the last two have room behind the others
module _ {b : List ℕ} {xs : List Float} {r : Report} {t : Text} (ready : LinesReady b xs r t) {t₁ t₂ : Text}
    (p : Adds t (step_line r) t₁) (q : Adds t₁ (clock_line r.clock) t₂) where
  pub fluids_room : (0 + answers_in Fluid b ≤ length xs) × HasRoom t₂ (length (models_text Fluid b 0 xs))
  fluids_room = (
    omega (arith, ready.fluids),
    omega (arith, ready.room, p.written.ends, p.written.long, q.written.ends, q.written.long),
  )

  pub boundaries_room : {k : ℕ} → k ≡ behind b → {t₃ : Text} → Adds t₂ (models_text Fluid b 0 xs) t₃
      → (k + answers_in Boundary b ≤ length xs) × HasRoom t₃ (length (models_text Boundary b k xs))
  boundaries_room e v =
      rw e (
        ready.boundaries,
        omega (
          arith,
          ready.room,
          p.written.ends,
          p.written.long,
          q.written.ends,
          q.written.long,
          v.written.ends,
          v.written.long,
        ),
      )

module _ {b : List ℕ} {answers work : List Float} {out : List ℕ} where
  pub no_room : length out < text_room → Runs b answers work out 0 answers work out
  unfolding written if_stepped choose
  no_room h =
      let t = lt-ltb (length out) text_room h in
      record { text = rw t (none_written (omega arith)); answers_then = rw t; work_then = rw t }

  module _ (room : text_room ≤ length out) {r : ℕ} {o : List ℕ} where
    pub too_long_lem : most_bytes < length b → Writes out 0 too_long o r → Runs b answers work out r answers work o
    unfolding written if_stepped text_with choose
    too_long_lem h w =
        let t = le-ltb (length out) text_room room in
        let l = lt-ltb most_bytes (length b) h in
        record { text = rw (t, l) w; answers_then = rw (t, l); work_then = rw (t, l) }

    scene_run : length b ≤ most_bytes → {answer : StepAnswer} {answers' work' : List Float}
        → Steps b answers work answer answers' work' → Writes out 0 (answer_text b answer) o r
        → Runs b answers work out r answers' work' o
    unfolding written if_stepped text_with choose
    scene_run h s w =
        let t = le-ltb (length out) text_room room in
        let l = le-ltb most_bytes (length b) h in
        record {
          text = rw (t, l, ← s.answer) w;
          answers_then = rw (t, l) s.answers_then;
          work_then = rw (t, l) s.work_then;
        }

    -- by a text that begins in front of the list
    pub text_run : length b ≤ most_bytes → {answer : StepAnswer} {answers' work' : List Float}
        → Steps b answers work answer answers' work' → {t t' : Text} → Adds t (answer_text b answer) t'
        → t.out.now ≡ out → t.at ≡ 0 → t'.out.now ≡ o → t'.at ≡ r
        → Runs b answers work out r answers' work' o
    text_run h s w e z f n = scene_run h s (rw (e, z, f, n) at w.written)

-- a refused step
pub refused_added : (b : List ℕ) {answer : StepAnswer} {refusal : Refusal} {t t' : Text} → answer ≡ Err refusal
    → Adds t (refused_line refusal) t' → Adds t (answer_text b answer) t'
unfolding answer_text
refused_added b q w = rw q w

-- ---- with long enough lists

-- the text is what the program writes
pub text_written : {b : List ℕ} {answers work : List Float} {out out' : List ℕ} {r : ℕ} {answers' work' : List Float}
    → Bytes b → enough_answers ≤ length answers → enough_work ≤ length work
    → Runs b answers work out r answers' work' out' → Writes out 0 (text_in b (length out)) out' r
unfolding written text_in
text_written {b} y a w p = rw (text_same b y a w) at p.text

-- it stands in front of the list, whose rest is as it was
pub text_in_front : (b out : List ℕ) {out' : List ℕ} {r : ℕ} → text_room ≤ length out
    → Writes out 0 (text_in b (length out)) out' r → (r ≡ length (text_of b)) × (out' ≡ text_of b ++ drop r out)
unfolding text_in choose
text_in_front b out room p =
    let e = rw (le-ltb (length out) text_room room) at p in
    let n = e.ends ∙ zero-add (length (text_of b)) in (
      n,
      e.stored
          ∙ sets-eq (text_of b) out 0 (rw (zero-add, ← n) (omega (arith, e.within, e.long)))
          ∙ rw (zero-add, ← n),
    )
