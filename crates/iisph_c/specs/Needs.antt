-- What `iisph_needed` returns, and every element of its list afterwards. Definitions only.
use Rattle.std.specs.Prelude.{ℕ, ◌≡◌, List, [], ◌∷◌}
use Rattle.std.proofs.lemmas.List.Edits.{sets}
use Rattle.lists.specs.Lists.{choose}
use Rattle.scene_lengths.specs.Lengths.{answers_needed, work_needed}
use Rattle.scene_format.specs.SceneOf.{scene_of}
use Rattle.scene_check.specs.Walk.{checked}
use Rattle.scene_format.specs.Refusals.{Walk}
use Rattle.std.specs.declared.result.Result.TheVariants.{Ok, Err}
use Rattle.iisph_codes.specs.Numbers.{too_short, walk_code, counts_room, refused_counts}

-- by the check of the scene: refusals 1 to 7, or the lengths of the answer list and the work list at 0 and 1
unfoldable pub lengths_after : List ℕ → Walk → List ℕ → List ℕ
lengths_after b (Ok end) old = sets old 0 (answers_needed (scene_of b) ∷ work_needed (scene_of b) ∷ [])
lengths_after b (Err r) old = refused_counts r old

-- of the bytes b and the list: the result r, and the list afterwards
pub record NeedsTo (b counts : List ℕ) (r : ℕ) (counts' : List ℕ) : Type 0 where
  pub result : r ≡ choose (counts_room counts) (walk_code (checked b)) too_short
  pub counts_then : counts' ≡ choose (counts_room counts) (lengths_after b (checked b) counts) counts
