-- `iisph_words::text::Text::put_word` meets its contract: a part that becomes the word is the stores of its bytes.
-- Assumes nothing.
use Prim.Native.Nat.{ℕ, ◌+◌, ◌≤◌}
use mathlib.Core.Path.{◌≡◌, refl, sym}
use mathlib.Core.List.{List, append_assoc}
use native.Mathlib.Omega.{arith}
use lib.ListN.{length}
use lib.Seq.{sets, drop-drop}
use borrow.Rule.Slice.PartMut.{put_mid}
use Rattle.std.proofs.lemmas.List.Edits.{sets-eq}
use Rattle.lists.proofs.Writing.{stores}
use Rattle.iisph_words.proofs.text.Text.put_word.Goals as goal

part_stored : (out part xs : List ℕ) (at k : ℕ) → part ≡ xs → k ≡ length xs → at + length xs ≤ length out
    → put_mid at k out part ≡ sets out at xs
part_stored out part xs at k e n h = rw (e, n, drop-drop) (sym (rw append_assoc at (sets-eq xs out at h)))

pub returns : goal.returns
returns c =
    let part = part_stored _ _ _ _ _ c.copy_from_slice.ensures.after (omega arith) c.requires in
    record { written = stores part refl (omega arith); same = refl }
