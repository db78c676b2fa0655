-- Bytes added to a text: none, some behind others, and one more of a loop's. By the stores of which each consists.
-- Assumes nothing.
use Prim.Native.Nat.{ℕ, ◌+◌, ◌≤◌}
use mathlib.Core.Path.{◌≡◌, refl, ◌∙◌}
use mathlib.Core.List.{List, [], ◌++◌, flatten}
use native.Mathlib.Omega.{arith}
use lib.ListN.{length}
use Rattle.lists.specs.Lists.{table}
use Rattle.lists.proofs.Writing as writing
use Rattle.lists.proofs.Writing.{none_written, next_written}
use Rattle.iisph_words.specs.declared.text.Text.{Text}
use Rattle.iisph_words.specs.Texts.{HasRoom, Adds}

module _ {t : Text} where
  pub none_added : HasRoom t 0 → Adds t [] t
  none_added h = record { written = none_written (omega (arith, h)); same = refl }

  infixl 50 ◌then◌
  pub ◌then◌ : {xs ys : List ℕ} {a b : Text} → Adds t xs a → Adds a ys b → Adds t (xs ++ ys) b
  p then q = record { written = writing.◌then◌ p.written q.written; same = q.same ∙ p.same }

  -- the next of n lists
  pub next_added : (f : ℕ → List ℕ) {i : ℕ} {a b : Text} → Adds t (flatten (table i f)) a → Adds a (f i) b
      → Adds t (flatten (table (i + 1) f)) b
  next_added f p q = record { written = next_written f p.written q.written; same = q.same ∙ p.same }
