-- The lines of a model's particles and of the models of a kind, one more at a time: each fits where all fit, and reads
-- answers that are there. By the laws of lists stored one behind the other. Assumes nothing.
use Prim.Native.Nat.{ℕ, suc, ◌+◌, ◌-◌, ◌*◌, ◌≤◌, ◌<◌}
use mathlib.Core.Path.{◌≡◌, ap}
use mathlib.Core.List.{List, flatten}
use native.Mathlib.Nat.{mul-suc, mul-le-mul_left}
use native.Mathlib.Omega.{arith}
use lib.ListN.{length, get_or}
use lib.Ieee.{Float}
use Rattle.lists.specs.Lists.{table, sum}
use Rattle.lists.proofs.Numbering.{sum_next, sum_more}
use Rattle.lists.proofs.Writing.{room_upto}
use Rattle.scene_format.specs.declared.Kind.{Kind}
use Rattle.scene_lengths.specs.Lengths.{width_in, answers_before}
use Rattle.scene_lengths.proofs.Needed.{answers_next}
use Rattle.iisph_words.specs.declared.text.Text.{Text}
use Rattle.iisph_words.specs.Texts.{HasRoom, Adds}
use Rattle.iisph_words.specs.Words.{doubles_text}
use Rattle.iisph_words.proofs.Texts.{none_added, next_added}
use Rattle.iisph_lines.specs.Lines.{particle_line, model_text, models_upto}

-- ---- the particles of model m

-- i particles are done: the next one's answers are there
pub turn_fits : (w k : ℕ) {n i from l : ℕ} → i < n → from ≡ k + w * i → k + w * n ≤ l → from + w ≤ l
turn_fits w k {n} {i} h e r = omega (arith, mul-suc w i, mul-le-mul_left w h)

module _ (κ : Kind) (m w k : ℕ) (xs : List Float) where
  line : ℕ → List ℕ
  line i = particle_line κ m i (doubles_text xs (k + w * i) w)

  module _ {t : Text} where
    pub none_lined : HasRoom t 0 → Adds t (model_text κ m 0 w k xs) t
    unfolding model_text table flatten
    none_lined h = none_added h

    module _ (i : ℕ) {from : ℕ} {a : Text} (e : from ≡ k + w * i) (here : Adds t (model_text κ m i w k xs) a) where
      pub line_fits : {n : ℕ} → i < n → HasRoom t (length (model_text κ m n w k xs))
          → HasRoom a (length (particle_line κ m i (doubles_text xs from w)))
      unfolding model_text line
      line_fits {n} h r = rw e (omega (arith, room_upto line n i h, here.written.ends, here.written.long))

      pub line_written : {b : Text} → Adds a (particle_line κ m i (doubles_text xs from w)) b
          → Adds t (model_text κ m (i + 1) w k xs) b
      unfolding model_text line
      line_written q = next_added line here (rw e at q)

-- ---- the models of a kind

module _ (d : ℕ) (κ : Kind) (keeps counts : List ℕ) where
  abbrev count : ℕ → ℕ
  count m = get_or counts m 0

  -- the answers of model m end where those of the next begin, and are there
  module _ (k m : ℕ) {from w c : ℕ} (e : from ≡ k + answers_before d κ keeps counts m) (v : w ≡ width_in d κ keeps m)
      (u : c ≡ count m) where
    pub model_next : from + w * c ≡ k + answers_before d κ keeps counts (m + 1)
    model_next = rw (v, u, answers_next d κ keeps counts m) (omega (arith, e))

    pub model_fits : {n l : ℕ} → m < n → k + answers_before d κ keeps counts n ≤ l → from + w * c ≤ l
    unfolding answers_before
    model_fits {n} h r =
        let f : ℕ → ℕ = λ j. width_in d κ keeps j * count j in
        let q : suc m + (n - suc m) ≡ n = omega arith in
        rw (v, u) (omega (arith, e, sum_next m f, sum_more f (suc m) (n - suc m), ap (λ j. sum (table j f)) q))

  module _ (k : ℕ) (xs : List Float) where
    model : ℕ → List ℕ
    model m = model_text κ m (count m) (width_in d κ keeps m) (k + answers_before d κ keeps counts m) xs

    module _ {t : Text} where
      pub none_modelled : HasRoom t 0 → Adds t (models_upto 0 d κ keeps counts k xs) t
      unfolding models_upto table flatten
      none_modelled h = none_added h

      module _ (m : ℕ) {from w c : ℕ} {a : Text} (e : from ≡ k + answers_before d κ keeps counts m)
          (v : w ≡ width_in d κ keeps m) (u : c ≡ count m) (here : Adds t (models_upto m d κ keeps counts k xs) a) where
        pub model_room : {n : ℕ} → m < n → HasRoom t (length (models_upto n d κ keeps counts k xs))
            → HasRoom a (length (model_text κ m c w from xs))
        unfolding models_upto model
        model_room {n} h r =
            rw (e, v, u) (omega (arith, room_upto model n m h, here.written.ends, here.written.long))

        pub model_written : {b : Text} → Adds a (model_text κ m c w from xs) b
            → Adds t (models_upto (m + 1) d κ keeps counts k xs) b
        unfolding models_upto model
        model_written q = next_added model here (rw (e, v, u) at q)
