-- How long the parts of a line are: each by the lengths of what it is made of. Assumes nothing.
use Prim.Native.Nat.{ℕ, ◌+◌, ◌*◌, ◌≤◌}
use mathlib.Core.Path.{◌≡◌, refl, sym, ◌∙◌}
use mathlib.Core.Bool.{Bool, true, false}
use mathlib.Core.List.{List, [], ◌∷◌, ◌++◌, flatten, append-nil}
use native.Mathlib.Omega.{arith}
use lib.Ieee.{Float}
use lib.ListN.{length, length-append}
use Rattle.lists.specs.Lists.{choose}
use Rattle.timestep_manager.specs.declared.Clock.{Clock}
use Rattle.scene_format.specs.declared.Kind.{Kind}
use Rattle.iisph_rules.specs.Endings.{ending_number, ending_values, ending_error, yes_or_no, told_of}
use Rattle.iisph_rules.specs.declared.Ending.{Ending}
use Rattle.iisph_rules.specs.declared.Ending.TheVariants.{Unswept, Settled, RanOut}
use Rattle.iisph_rules.specs.declared.IterationError.{IterationError}
use Rattle.iisph_rules.specs.declared.Report.{Report}
use Rattle.iisph_rules.specs.declared.endings.Told.{Told}
use Rattle.iisph_words.specs.Digits.{places_within, decimal_of}
use Rattle.iisph_words.specs.Words.{pair_text, double_text_width, kind_word, ending_word}
use Rattle.iisph_lines.specs.Lines.{error_words, error_text, error_text_width, ending_text, step_line, clock_line}
use Rattle.iisph_lines.specs.Lines.{particle_line}
use Rattle.iisph_words.proofs.Numbers.{length_decimal}
use Rattle.iisph_words.proofs.WordWidths.{length-double}

-- ---- an ending, from what is told of it: the error follows where the number is not 0

pub length_error : (error : Float) (passed_over : ℕ)
    → length (error_words error passed_over) ≡ double_text_width + 1 + length (decimal_of passed_over)
unfolding error_words
length_error error passed_over = simp (length-append, length-double)

no_values : (e : Ending) → ending_number e ≡ 0 → ending_values e ≡ []
unfolding ending_number ending_values
no_values Unswept q = refl
no_values (Settled x t) q = absurd (omega arith)
no_values (RanOut x t) q = absurd (omega arith)

one_value : (e : Ending) → (ending_number e ≡ 0 → ⊥) → ending_values e ≡ ending_error e ∷ []
unfolding ending_number ending_values ending_error
one_value Unswept h = absurd (h refl)
one_value (Settled x t) h = refl
one_value (RanOut x t) h = refl

module _ (e : Ending) {t : Told} (q : t ≡ told_of e) where
  number_told : t.number ≡ ending_number e
  unfolding told_of
  number_told = rw q

  pub unswept_text : (n : ℕ) → t.number ≡ 0 → ending_word t.number ++ decimal_of n ≡ ending_text n e
  unfolding ending_text flatten
  unswept_text n h =
      rw (
        no_values e (sym number_told ∙ h),
        number_told,
        append-nil (ending_word (ending_number e) ++ decimal_of n),
      )

  pub swept_text : (n : ℕ) → (t.number ≡ 0 → ⊥)
      → ending_word t.number ++ decimal_of n ++ error_words t.error t.passed_over ≡ ending_text n e
  unfolding ending_text flatten told_of
  swept_text n h = rw (one_value e (λ z. h (number_told ∙ z)), q, append-nil (error_text (ending_error e)))

  pub ending_room_lem : (n : ℕ) → length (ending_word t.number) + length (decimal_of n) ≤ length (ending_text n e)
  unfolding ending_text
  ending_room_lem n = rw number_told (simp length-append (omega arith))

  pub swept_room : (n : ℕ) → (t.number ≡ 0 → ⊥)
      → length (ending_word t.number) + length (decimal_of n) + length (error_words t.error t.passed_over)
      ≤ length (ending_text n e)
  swept_room n h = rw (← swept_text n h) (simp length-append (omega arith))

-- a yes or no has one digit
told_error : (e : IterationError) → length (error_text e) ≡ error_text_width
unfolding places_within choose
told_error e = omega (arith, length_error e.value (yes_or_no e.passed_over), one_digit e.passed_over)
  where
    one_digit : (t : Bool) → length (decimal_of (yes_or_no t)) ≡ 1
    one_digit true = length_decimal 1
    one_digit false = length_decimal 0

-- the longest word has eight letters
pub ending_most : (n : ℕ) (e : Ending) → length (ending_text n e) ≤ 8 + length (decimal_of n) + error_text_width
unfolding ending_text ending_number ending_values ending_word choose flatten
ending_most n Unswept = simp length-append (omega arith)
ending_most n (Settled x t) = simp (length-append, told_error) (omega arith)
ending_most n (RanOut x t) = simp (length-append, told_error) (omega arith)

-- ---- lines

pub length_step : (r : Report) → length (step_line r) ≡ 5 + length (ending_text r.iterations r.ending) + 1
unfolding step_line
length_step r = simp length-append (omega arith)

pub length_clock : (c : Clock) → length (clock_line c) ≡ 5 + 3 * double_text_width + 1
unfolding clock_line
length_clock c = simp (length-append, length-double)

pub length_line : (κ : Kind) (m i : ℕ) (answers : List ℕ)
    → length (particle_line κ m i answers) ≡ length (kind_word κ) + length (pair_text m i) + length answers + 1
unfolding particle_line
length_line κ m i answers = simp length-append
