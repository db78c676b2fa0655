-- How wide words and numbers of a line are, and where they end. By the lengths of their parts. Assumes nothing.
use Prim.Native.Nat.{ℕ, suc, ◌+◌, ◌*◌, ◌^◌, ◌<◌, ◌≤◌}
use mathlib.Core.Path.{◌≡◌, ap, ◌∙◌}
use mathlib.Core.List.{List}
use native.Mathlib.Omega.{arith}
use lib.ListN.{length, get_or, length-append}
use lib.Ieee.{Float, nan}
use Rattle.lists.specs.Stores.{Writes}
use Rattle.lists.proofs.Numbering.{sum_same}
use Rattle.lists.proofs.Rows.{length-rows}
use Rattle.iisph_words.specs.Digits.{decimal_of, most_digits}
use Rattle.iisph_words.specs.Words.{pair_text, double_text_width, double_text, doubles_text}
use Rattle.iisph_words.proofs.Numbers.{length_hex, digits_most}

pub length-pair : (m n : ℕ) → length (pair_text m n) ≡ length (decimal_of m) + 1 + length (decimal_of n)
unfolding pair_text
length-pair m n = simp length-append

pub pair_most : (m n : ℕ) → m < 2 ^ 64 → n < 2 ^ 64 → length (pair_text m n) ≤ most_digits + 1 + most_digits
pair_most m n h k = omega (arith, length-pair m n, digits_most m h, digits_most n k)

-- ---- doubles

pub length-double : (x : Float) → length (double_text x) ≡ double_text_width
unfolding double_text
length-double x = ap suc (length_hex x)

-- where what follows a double begins
pub double_ends : (x : Float) {out o : List ℕ} {at next : ℕ} → Writes out at (double_text x) o next
    → next ≡ at + double_text_width
double_ends x w = omega (arith, w.ends, length-double x)

pub length-doubles : (xs : List Float) (k w : ℕ) → length (doubles_text xs k w) ≡ double_text_width * w
unfolding doubles_text
length-doubles xs k w =
    length-rows w (λ e. double_text (get_or xs (k + e) nan)) (λ e. double_text_width) (λ e h. length-double _)
    ∙ sum_same double_text_width w

-- ---- lines
