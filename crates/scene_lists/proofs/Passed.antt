-- What the check of one contact list tells, and that each list of an accepted scene is passed. The answer is the walk
-- through the list's names, of which Looks tells. By Accepted the contacts of each record, and so of each list, all
-- name particles, and such a list is passed contact by contact. Assumes nothing.
use Prim.Native.Nat.{ℕ, ◌+◌, ◌*◌, ◌≤◌, ◌<◌}
use mathlib.Core.Path.{◌≡◌, refl, sym, ◌∙◌, ap, subst}
use mathlib.Core.Bool.{Bool, true, false, ◌&&◌}
use mathlib.Core.List.{List}
use native.Mathlib.Omega.{arith}
use borrow.Author.Tests.{ltb-true, lt-leb}
use Rattle.lists.specs.Lists.{choose}
use Rattle.scene_walk.specs.Walk.{fields}
use Rattle.scene_fields.specs.Fields.{refused_if}
use Rattle.scene_fields.proofs.Reached.{both}
use Rattle.scene_fields.proofs.Walks.{parts_there}
use Rattle.scene_format.specs.Format.{name_width, model_number, particles_at, head_at, counts_of, Location}
use Rattle.scene_format.specs.declared.Kind.{Kind}
use Rattle.scene_format.specs.declared.Kind.TheVariants.{Fluid, Boundary}
use Rattle.scene_format.specs.Refusals.{Walk}
use Rattle.scene_check.specs.Looks.{LooksTold}
use Rattle.scene_check.specs.Walk.{name, names, checked}
use Rattle.scene_check.specs.declared.contact_list.Looked.{Looked}
use Rattle.scene_check.proofs.Accepted.{NameOk, NamesOk, RecordNamed, accepted}
use Rattle.scene_check.proofs.Looks.{all_looked, looks_told}
use Rattle.scene_lists.specs.Lists.{owner_of, named_of, list_width, list_count, list_start, list_looked, list_there}
use Rattle.scene_lists.specs.Lists.{owner_at, answer_after, list_answer}
use Rattle.scene_lists.specs.Order.{list_passed}
use Rattle.scene_lists.specs.declared.Contacts.{Contacts}
use Rattle.scene_lists.specs.declared.Contacts.TheVariants.{FluidFluid, FluidBoundary, BoundaryBoundary}
use Rattle.scene_lists.proofs.Listed.{list_answered}
use Rattle.std.specs.declared.result.Result.TheVariants.{Ok, Err}
use Rattle.std.specs.declared.option.Option.TheVariants.{Some}

-- ---- the answer

-- a contact of any list has room for its name
list_wide : (c : Contacts) (b : List ℕ) → name_width ≤ list_width c b
unfolding list_width
list_wide FluidFluid b = omega arith
list_wide FluidBoundary b = omega arith
list_wide BoundaryBoundary b = omega arith

module _ (b : List ℕ) (c : Contacts) (m j : ℕ) where
  -- what a list that is checked is answered
  checked_is : {a : Looked} → list_answer b c m j ≡ Ok (Some a) → list_looked c b (owner_at b c m j) ≡ a
  unfolding list_answer answer_after choose
  checked_is {a} q = told (fields b) refl (list_there b c m j) refl
    where
      told : (w : Walk) → fields b ≡ w → (t : Bool) → list_there b c m j ≡ t → list_looked c b (owner_at b c m j) ≡ a
      told (Ok end) e true h = let p = rw (e, h) at q in cc
      told (Ok end) e false h = let p = rw (e, h) at q in cc
      told (Err r) e t h = let p = rw e at q in cc

  -- the looks, told of the answer alone
  pub checked_told : {a : Looked} → list_answer b c m j ≡ Ok (Some a)
      → let p = owner_at b c m j in LooksTold (list_width c b) (list_count c b p) (list_start c b p) a
  unfolding list_looked
  checked_told q = subst (LooksTold _ _ _) (checked_is q) (looks_told _ _ _ _ _ (list_wide c b))

-- ---- a list that is there

and_both : (s t : Bool) → (s && t) ≡ true → (s ≡ true) × (t ≡ true)
and_both true t q = (refl, q)
and_both false t q = (q, cc)

module _ (b : List ℕ) (c : Contacts) (m j : ℕ) where
  pub there_list : list_there b c m j ≡ true
      → (m < model_number (owner_of c) b) × (j < particles_at (owner_of c) b (head_at (owner_of c) b m))
  unfolding list_there
  there_list t = let h = and_both _ _ t in (ltb-true _ _ h.0, ltb-true _ _ h.1)

-- ---- a list that is passed

module _ (b : List ℕ) (κ : Kind) (w : ℕ) where
  name_passed : (at : ℕ) → NameOk κ b at → name b (counts_of κ b) w at ≡ Ok (at + w)
  unfolding name refused_if choose
  name_passed at h = rw (lt-leb _ _ h.number)

  names_passed : (n at : ℕ) → NamesOk κ b w n at → names b (counts_of κ b) w n at ≡ Ok (at + w * n)
  unfolding names
  names_passed n at h = parts_there _ w n at (λ k l. name_passed _ (h k l))

-- the contacts of a list all name particles
abbrev pub ListNamed : Contacts → List ℕ → Location → Type 0
ListNamed c b p = NamesOk (named_of c) b (list_width c b) (list_count c b p) (list_start c b p)

-- a record's do, so each of its lists' do
pub list_named : (c : Contacts) (b : List ℕ) (p : Location) → RecordNamed (owner_of c) b p → ListNamed c b p
unfolding RecordNamed owner_of named_of list_width list_count list_start
list_named FluidFluid b p h = h Fluid
list_named FluidBoundary b p h = h Boundary
list_named BoundaryBoundary b p h = h

module _ (b : List ℕ) (c : Contacts) (m j : ℕ) where
  pub list_passed_lem : {end : ℕ} → fields b ≡ Ok end → list_there b c m j ≡ true →
      ListNamed c b (owner_at b c m j)
      → list_answer b c m j ≡ Ok (Some (list_passed c b (owner_at b c m j)))
  unfolding list_looked
  list_passed_lem q t h =
      list_answered b c m j q t
      ∙ ap (λ (a : Looked). Ok (Some a)) (sym (all_looked _ _ _ _ _ (sym (names_passed _ _ _ _ _ h)) refl))

  -- in an accepted scene every list that is there is passed, and each of its contacts looked at once
  pub accepted_looked : {e : ℕ} → checked b ≡ Ok e → list_there b c m j ≡ true
      → list_answer b c m j ≡ Ok (Some (list_passed c b (owner_at b c m j)))
  unfolding checked
  accepted_looked q t =
      let (k, l) = there_list b c m j t in
      list_passed_lem (both _ _ q).1 t (list_named c b _ ((accepted b q).names _ m k j l))
