-- What `iisph_check_list` asks, returns and writes. Definitions only.
use Rattle.std.specs.Prelude.{ℕ, ◌≡◌, List, eqb, set}
use Rattle.lists.specs.Lists.{choose}
use Rattle.scene_check.specs.declared.contact_list.Looked.{Looked}
use Rattle.scene_lists.specs.Lists.{list_answer}
use Rattle.scene_lists.specs.declared.Contacts.TheVariants.{FluidFluid, FluidBoundary, BoundaryBoundary}
use Rattle.iisph_codes.specs.Numbers.{too_short, no_list, refused_code, walk_code, counts_room, refused_counts}
use Rattle.iisph_codes.specs.Numbers.{walk_counts}
use Rattle.scene_lists.specs.Lists.{ListAnswer}
use Rattle.std.specs.declared.result.Result.TheVariants.{Ok, Err}
use Rattle.std.specs.declared.option.Option.TheVariants.{Some, None}

-- contacts by their number: 0 those of a fluid particle with fluids, 1 with boundaries, 2 those of a boundary particle;
-- there is no other list, whatever the scene
unfoldable pub list_asked : List ℕ → ℕ → ℕ → ℕ → ListAnswer
list_asked b contacts m j =
    choose (eqb contacts 0) (list_answer b FluidFluid m j)
    (choose (eqb contacts 1) (list_answer b FluidBoundary m j)
    (choose (eqb contacts 2) (list_answer b BoundaryBoundary m j) (Ok None)))

-- of a list that is there: 0 or refusal 7; the looks at 0, and the offset of a refused contact at 1
abbrev pub looked_code : Looked → ℕ
looked_code a = walk_code a.walk

abbrev pub looked_counts : Looked → List ℕ → List ℕ
looked_counts a old = walk_counts a.walk (set old 0 a.looks)

unfoldable pub list_code : ListAnswer → ℕ
list_code (Ok (Some a)) = looked_code a
list_code (Ok None) = no_list
list_code (Err r) = refused_code r

unfoldable pub list_counts : ListAnswer → List ℕ → List ℕ
list_counts (Ok (Some a)) old = looked_counts a old
list_counts (Ok None) old = old
list_counts (Err r) old = refused_counts r old

-- of an answer and the list: the result r, and the list afterwards
pub record ListTo (a : ListAnswer) (counts : List ℕ) (r : ℕ) (counts' : List ℕ) : Type 0 where
  pub result : r ≡ choose (counts_room counts) (list_code a) too_short
  pub counts_then : counts' ≡ choose (counts_room counts) (list_counts a counts) counts
