-- What is told of one contact list's check: no room, or what is written. Each case unfolds the definitions once.
-- Assumes nothing.
use Prim.Native.Nat.{ℕ, ◌<◌, ◌≤◌}
use mathlib.Core.Path.{◌≡◌, ap, ◌∙◌}
use mathlib.Core.List.{List}
use lib.ListN.{length}
use borrow.Author.Tests.{le-leb, lt-leb}
use Rattle.lists.specs.Lists.{choose}
use Rattle.iisph_c_lists.specs.Lists.{list_code, list_counts, ListTo}
use Rattle.iisph_codes.specs.Numbers.{too_short, counts_needed}
use Rattle.scene_lists.specs.Lists.{ListAnswer}

module _ (a : ListAnswer) (counts : List ℕ) where
  pub no_room : length counts < counts_needed → ListTo a counts too_short counts
  unfolding choose
  no_room h = let f = lt-leb counts_needed (length counts) h in record { result = rw f; counts_then = rw f }

  -- what is written of an answer x, which is a
  pub told : counts_needed ≤ length counts → {x : ListAnswer} {n : ℕ} {counts' : List ℕ} → x ≡ a → n ≡ list_code x
      → counts' ≡ list_counts x counts → ListTo a counts n counts'
  unfolding choose
  told l q e g =
      let t = le-leb counts_needed (length counts) l in
      record {
        result = rw t (e ∙ ap list_code q);
        counts_then = rw t
            (g ∙ ap (λ (x : ListAnswer). list_counts x counts) q);
      }
