-- The walk through the fields gives no other refusals than 1 to 6, the check no other than 1 to 7. Each way to join
-- walks keeps such a bound, and the refusals of each field and of each name are within it. Assumes nothing.
use Prim.Native.Nat.{ℕ, zero, suc, ◌≤◌}
use mathlib.Core.Path.{◌≡◌, sym}
use mathlib.Core.Bool.{Bool, true, false}
use mathlib.Core.List.{List}
use native.Mathlib.Omega.{arith}
use lib.Dec.{lit≤}
use Rattle.lists.specs.Lists.{choose}
use Rattle.scene_fields.specs.Fields as field
use Rattle.scene_fields.specs.Fields.{◌▹◌, times, refused_if}
use Rattle.scene_fields.proofs.Reached.{never}
use Rattle.scene_format.specs.Refusals.{number_of}
use Rattle.scene_format.specs.declared.Kind.{Kind}
use Rattle.scene_format.specs.declared.Kind.TheVariants.{Fluid, Boundary}
use Rattle.scene_format.specs.declared.Refusal.{Refusal}
use Rattle.scene_format.specs.Refusals.{Walk}
use Rattle.std.specs.declared.result.Result.TheVariants.{Ok, Err}
use Rattle.scene_fields.specs.declared.fields.Half.{Half}
use Rattle.scene_fields.specs.declared.fields.Half.TheVariants.{Version, Rule, ModelCount}
use Rattle.scene_walk.specs.Walk as fields
use Rattle.scene_check.specs.Walk as walk
use Rattle.scene_check.specs.Walk.{checked}

-- if the walk w is refused, then by a number up to the last
abbrev Early : ℕ → Walk → Type 0
Early last w = (r : Refusal) → w ≡ Err r → number_of r ≤ last

-- ---- walks joined

module _ {last : ℕ} where
  passed_early : {at : ℕ} → Early last (Ok at)
  passed_early r q = never (sym q)

  then_early : (w : Walk) (f : ℕ → Walk) → Early last w → ((at : ℕ) → Early last (f at)) → Early last (w ▹ f)
  unfolding ◌▹◌
  then_early (Ok at) f h k = k at
  then_early (Err r) f h k = h

  times_early : (n : ℕ) (f : ℕ → Walk) → ((at : ℕ) → Early last (f at)) → (at : ℕ) → Early last (times n f at)
  unfolding times
  times_early zero f h at = passed_early
  times_early (suc n) f h at = then_early (f at) (times n f) (h at) (times_early n f h)

  refused_if_early : (t : Bool) (r : Refusal) (w : Walk) → number_of r ≤ last → Early last w
      → Early last (refused_if t r w)
  unfolding refused_if choose
  refused_if_early true r w n h s q = let e : s ≡ r = cc in rw e n
  refused_if_early false r w n h s q = h s q

-- a higher bound serves as well
raised : {last higher : ℕ} {w : Walk} → last ≤ higher → Early last w → Early higher w
raised l h r q = omega (arith, l, h r q)

-- ---- fields

half_early : (rule : Half) (x at : ℕ) (w : Walk) → Early 6 w → Early 6 (field.half_byte rule x at w)
unfolding field.half_byte
half_early Version x at w h = refused_if_early _ _ _ (lit≤ tt) h
half_early (Rule most) x at w h = refused_if_early _ _ _ (lit≤ tt) h
half_early ModelCount x at w h = refused_if_early _ _ _ (lit≤ tt) h

module _ (b : List ℕ) where
  field_early : (k : ℕ) (rule : ℕ → Walk) → ((at : ℕ) → Early 6 (rule at)) → (at : ℕ)
      → Early 6 (field.field b k rule at)
  unfolding field.field
  field_early k rule h at = refused_if_early _ _ _ (lit≤ tt) (h at)

  plain_early : (k at : ℕ) → Early 6 (field.plain b k at)
  unfolding field.plain
  plain_early k = field_early k _ (λ at. passed_early)

  double_early : (at : ℕ) → Early 6 (field.double b at)
  unfolding field.double
  double_early = field_early _ _ (λ at. refused_if_early _ _ _ (lit≤ tt) passed_early)

  count_early : (κ : Kind) (at : ℕ) → Early 6 (field.count κ b at)
  unfolding field.count
  count_early κ = field_early _ _ (λ at. refused_if_early _ _ _ (lit≤ tt) passed_early)

  halves_early : (upper lower : Half) (at : ℕ) → Early 6 (field.halves b upper lower at)
  unfolding field.halves
  halves_early upper lower = field_early 1 _ (λ at. half_early upper _ at _ (half_early lower _ at _ passed_early))

  header_early : (at : ℕ) → Early 6 (fields.header b at)
  unfolding fields.header
  header_early at =
      then_early _ _
      (then_early _ _
      (then_early _ _ (then_early _ _ (halves_early _ _ at) (halves_early _ _)) (plain_early 1))
      (plain_early 1))
      (times_early _ _ double_early)

  contact_early : (n at : ℕ) → Early 6 (fields.contact n b at)
  unfolding fields.contact
  contact_early n at = then_early _ _ (plain_early _ at) (times_early _ _ double_early)

  record_early : (κ : Kind) (head at : ℕ) → Early 6 (fields.record_of κ b head at)
  unfolding fields.record_of fields.fluid_record fields.boundary_record
  record_early Fluid head at =
      then_early _ _
      (then_early _ _
      (then_early _ _ (then_early _ _ (times_early _ _ double_early at) (plain_early 1)) (plain_early 1))
      (times_early _ _ (contact_early _)))
      (times_early _ _ (contact_early _))
  record_early Boundary head at =
      then_early _ _ (then_early _ _ (times_early _ _ double_early at) (plain_early 1))
      (times_early _ _ (contact_early _))

  head_early : (κ : Kind) (at : ℕ) → Early 6 (fields.head_of κ b at)
  unfolding fields.head_of
  head_early Fluid at = then_early _ _ (count_early Fluid at) double_early
  head_early Boundary at = count_early Boundary at

  models_early : (κ : Kind) (at : ℕ) → Early 6 (fields.models_of κ b at)
  unfolding fields.models_of fields.model_of
  models_early κ = times_early _ _ (λ head. then_early _ _ (head_early κ head) (times_early _ _ (record_early κ head)))

  fields_early : Early 6 (fields.fields b)
  unfolding fields.fields field.ended
  fields_early =
      then_early _ _
      (then_early _ _ (then_early _ _ (header_early 0) (models_early Fluid)) (models_early Boundary))
      (λ at. refused_if_early _ _ _ (lit≤ tt) passed_early)

  pub fields_refused_early : {r : Refusal} → fields.fields b ≡ Err r → number_of r ≤ 6
  fields_refused_early q = fields_early _ q

-- ---- names, and the whole check

module _ (b : List ℕ) where
  names_early : (counts : List ℕ) (w n at : ℕ) → Early 7 (walk.names b counts w n at)
  unfolding walk.names walk.name
  names_early counts w n = times_early n _ (λ at. refused_if_early _ _ _ (lit≤ tt) passed_early)

  record_names_early : (κ : Kind) (head at : ℕ) → Early 7 (walk.record_names_of κ b head at)
  unfolding walk.record_names_of
  record_names_early Fluid head at = then_early _ _ (names_early _ _ _ _) (names_early _ _ _)
  record_names_early Boundary head at = names_early _ _ _ _

  models_names_early : (κ : Kind) (at : ℕ) → Early 7 (walk.models_names_of κ b at)
  unfolding walk.models_names_of walk.model_names_of
  models_names_early κ = times_early _ _ (λ head. times_early _ _ (record_names_early κ head) _)

  checked_early : Early 7 (checked b)
  unfolding checked walk.all_names
  checked_early =
      then_early _ _ (raised (lit≤ tt) (fields_early b))
      (λ end. then_early _ _ (models_names_early Fluid _) (models_names_early Boundary))

  pub refused_early : {r : Refusal} → checked b ≡ Err r → number_of r ≤ 7
  refused_early q = checked_early _ q
