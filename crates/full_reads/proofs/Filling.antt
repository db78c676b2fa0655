-- A list that is filled from its front: what was read into the part from `done` on stands after what came before.
-- Assumes nothing.
use Rattle.std.specs.Prelude.{Option}
use Rattle.std.proofs.Common.{◌≡◌, ℕ, ◌+◌, ◌≤◌, List, ◌++◌, length, take, drop}
use Rattle.std.proofs.Common.{sym, ap, subst, ◌∙◌, arith, drop_at, length-take-le}
use lib.Seq.{take-add, take-append-le}
use borrow.Rule.Slice.PartMut.{put_mid, post_of}
use Rattle.std.proofs.lemmas.Slice.{take-put_mid_below}
use Rattle.std.specs.Io.KnownBytes.{Consumes}
use Rattle.std.proofs.KnownBytes.{Consumes-trans}

-- the front of the list after n more bytes
pub front_filled : (done room n : ℕ) (list part : List ℕ) → done ≤ length list → n ≤ length part
    → take done list ++ take n part ≡ take (done + n) (put_mid done room list part)
front_filled done room n list part within fits =
    let all = put_mid done room list part in
    let front : take done all ≡ take done list = take-put_mid_below _ _ _ _ _ (omega arith) within in
    let after : take n (drop done all) ≡ take n part =
    ap (take n) (drop_at (take done list) (part ++ post_of done room list) done (length-take-le done list within))
    ∙ take-append-le n part (post_of done room list) fits in
    ap (λ l. l ++ take n part) (sym front) ∙ ap (λ l. take done all ++ l) (sym after) ∙ sym (take-add done n all)

pub consumes_more : (a b c : Option (List ℕ)) (done room n : ℕ) (list part : List ℕ)
    → done ≤ length list → n ≤ length part → Consumes a b (take done list) → Consumes b c (take n part)
    → Consumes a c (take (done + n) (put_mid done room list part))
consumes_more a b c done room n list part within fits before here =
    subst (Consumes a c) (front_filled done room n list part within fits) (Consumes-trans a b c _ _ before here)
