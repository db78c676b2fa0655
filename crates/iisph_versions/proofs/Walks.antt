-- Two packed scenes that are the same but for version and rule are checked alike: their walks go side by side, one law
-- for each way of joining steps, since every step behind byte 1 reads the same and leads on. In byte 0 and byte 1 a
-- known version and a known rule are passed, whichever they are. Assumes nothing.
use Prim.Native.Nat.{ℕ, zero, suc, ◌+◌, ◌≤◌}
use mathlib.Core.Path.{◌≡◌, refl, ap}
use mathlib.Core.Bool.{Bool, true, false, not}
use mathlib.Core.List.{List}
use native.Mathlib.Omega.{arith}
use lib.Dec.{leb, ltb}
use borrow.Author.Tests.{le-ltb}
use Rattle.lists.specs.Lists.{choose}
use Rattle.scene_format.specs.Bytes.{double_width}
use Rattle.scene_format.specs.Format.{version_of, version_known, most_rule, header_doubles, header_width}
use Rattle.scene_format.specs.Format.{contact_doubles, contact_width, record_doubles, record_width}
use Rattle.scene_format.specs.Format.{boundary_record_doubles}
use Rattle.scene_format.specs.Format.{boundary_record_width, keeps_at, first_record}
use Rattle.scene_format.specs.declared.Kind.{Kind}
use Rattle.scene_format.specs.declared.Kind.TheVariants.{Fluid, Boundary}
use Rattle.scene_format.specs.declared.Refusal.{Refusal}
use Rattle.scene_format.specs.Refusals.{Walk}
use Rattle.std.specs.declared.result.Result.TheVariants.{Ok, Err}
use Rattle.scene_fields.specs.Fields.{◌▹◌, times, refused_if, field, plain, double, count, half_byte, halves, ended}
use Rattle.scene_fields.specs.declared.fields.Half.TheVariants.{Version, Rule, ModelCount}
use Rattle.scene_walk.specs.Walk.{header, contact, fluid_record, boundary_record, record_of, head_of, model_of}
use Rattle.scene_walk.specs.Walk.{models_of}
use Rattle.scene_walk.specs.Walk.{fields}
use Rattle.scene_check.specs.Walk.{name, names, record_names_of, model_names_of, models_names_of, all_names, checked}
use Rattle.scene_check.proofs.OwnBytes.{same_be64}
use Rattle.iisph_versions.specs.Versions.{SameButForm, KnownForm, SameChecks}
use Rattle.iisph_versions.proofs.Scenes.{bytes_from, be16_same, particles_at_same}
use Rattle.iisph_versions.proofs.Scenes.{keeps_at_same, contact_count_same, boundary_contact_count_same}
use Rattle.iisph_versions.proofs.Scenes.{counts_same}

-- ---- walks side by side

-- both are refused alike, or both come to one offset, of which P holds
data Together (P : ℕ → Type 0) : Walk → Walk → Type 0 where
  reached : {at : ℕ} → P at → Together P (Ok at) (Ok at)
  refused : {r : Refusal} → Together P (Err r) (Err r)

-- so do two steps, from every offset of which P holds to one of which Q does
abbrev StepsTogether : (ℕ → Type 0) → (ℕ → Type 0) → (ℕ → Walk) → (ℕ → Walk) → Type 0
StepsTogether P Q f f' = (at : ℕ) → P at → Together Q (f at) (f' at)

-- from behind byte 1 on
abbrev Behind : ℕ → Type 0
Behind at = 2 ≤ at

abbrev Alongside : (ℕ → Walk) → (ℕ → Walk) → Type 0
Alongside f f' = StepsTogether Behind Behind f f'

together_same : {P : ℕ → Type 0} {w w' : Walk} → Together P w w' → w ≡ w'
together_same (reached p) = refl
together_same refused = refl

infixl 60 ◌then◌
◌then◌ : {P Q : ℕ → Type 0} {w w' : Walk} {f f' : ℕ → Walk} → Together P w w' → StepsTogether P Q f f'
    → Together Q (w ▹ f) (w' ▹ f')
unfolding ◌▹◌
reached p then s = s _ p
refused then s = refused

times_alongside : {f f' : ℕ → Walk} {n n' : ℕ} → n ≡ n' → Alongside f f' → Alongside (times n f) (times n' f')
unfolding times
times_alongside {f} {f'} {n} e s = rw (← e) (go n)
  where
    go : (n : ℕ) → Alongside (times n f) (times n f')
    go zero at h = reached h
    go (suc n) at h = s at h then go n

-- from offsets that are the same
from_same : {f f' : ℕ → Walk} {at at' : ℕ} → at ≡ at' → 2 ≤ at → Alongside f f' → Together Behind (f at) (f' at')
from_same {at = at} e h s = rw (← e) (s at h)

-- a test that both meet alike
tested : {P : ℕ → Type 0} {t t' : Bool} (r : Refusal) {w w' : Walk} → t ≡ t' → Together P w w'
    → Together P (refused_if t r w) (refused_if t' r w')
unfolding refused_if choose
tested {P} {t} r {w} {w'} e s = rw (← e) (go t)
  where
    go : (t : Bool) → Together P (refused_if t r w) (refused_if t r w')
    go true = refused
    go false = s

-- half a byte that both pass, whichever number it holds: a version, and a rule
version_passed : {P : ℕ → Type 0} (x x' at : ℕ) {w w' : Walk} → version_known x ≡ true → version_known x' ≡ true
    → Together P w w' → Together P (half_byte Version x at w) (half_byte Version x' at w')
unfolding half_byte
version_passed x x' at h h' t = tested _ (cc (h, h')) t

rule_passed : {P : ℕ → Type 0} {most most' x x' : ℕ} (at : ℕ) {w w' : Walk} → x ≤ most → x' ≤ most' → Together P w w'
    → Together P (half_byte (Rule most) x at w) (half_byte (Rule most') x' at w')
unfolding half_byte
rule_passed at h h' t = tested _ (cc (le-ltb _ _ h, le-ltb _ _ h')) t

-- half a byte that counts as many models in both
half_counted : {P : ℕ → Type 0} {x x' : ℕ} (at : ℕ) {w w' : Walk} → x ≡ x' → Together P w w'
    → Together P (half_byte ModelCount x at w) (half_byte ModelCount x' at w')
unfolding half_byte
half_counted at e t = tested _ (cc) t

module _ {b b' : List ℕ} (s : SameButForm b b') where
  -- ---- single fields

  field-steps : {P Q : ℕ → Type 0} (k : ℕ) {rule rule' : ℕ → Walk} → StepsTogether P Q rule rule'
      → StepsTogether P Q (field b k rule) (field b' k rule')
  unfolding field
  field-steps k r at p = tested _ (ap (λ (n : ℕ). not (leb (at + k) n)) s.long) (r at p)

  plain_alongside : (k : ℕ) → Alongside (plain b k) (plain b' k)
  unfolding plain
  plain_alongside k = field-steps k (λ at h. reached (omega arith))

  double_alongside : Alongside (double b) (double b')
  unfolding double
  double_alongside =
      field-steps double_width
      (λ at h. tested _ (cc (same_be64 (bytes_from s at double_width h) (omega arith))) (reached (omega arith)))

  count_alongside : (κ : Kind) → Alongside (count κ b) (count κ b')
  unfolding count
  count_alongside κ = field-steps _ (λ at h. tested _ (cc (particles_at_same s κ at h)) (reached (omega arith)))

  ended_alongside : Alongside (ended b) (ended b')
  unfolding ended
  ended_alongside at h = tested _ (ap (ltb at) s.long) (reached h)

  doubles_alongside : {n n' : ℕ} → n ≡ n' → Alongside (times n (double b)) (times n' (double b'))
  doubles_alongside e = times_alongside e double_alongside

  -- ---- the fields in their order

  contact_alongside : {n n' : ℕ} → n ≡ n' → Alongside (contact n b) (contact n' b')
  unfolding contact
  contact_alongside e at h = plain_alongside _ at h then doubles_alongside e

  fluid_record_alongside : Alongside (fluid_record b) (fluid_record b')
  unfolding fluid_record
  fluid_record_alongside at h =
      let contacts = contact_alongside (ap contact_doubles s.axes) in
      doubles_alongside (ap record_doubles s.axes) at h then plain_alongside 1 then plain_alongside 1
      then times_alongside (contact_count_same s Fluid at h) contacts
      then times_alongside (contact_count_same s Boundary at h) contacts

  boundary_record_alongside : (k : ℕ) → Alongside (boundary_record b k) (boundary_record b' k)
  unfolding boundary_record
  boundary_record_alongside k at h =
      doubles_alongside (ap (λ d. boundary_record_doubles d k) s.axes) at h then plain_alongside 1
      then times_alongside (boundary_contact_count_same s k at h) (contact_alongside refl)

  record_alongside : (κ : Kind) (head : ℕ) → 2 ≤ head → Alongside (record_of κ b head) (record_of κ b' head)
  unfolding record_of
  record_alongside Fluid head l = fluid_record_alongside
  record_alongside Boundary head l = rw (← keeps_at_same s head l) (boundary_record_alongside (keeps_at b head))

  head_alongside : (κ : Kind) → Alongside (head_of κ b) (head_of κ b')
  unfolding head_of
  head_alongside Fluid at h = count_alongside Fluid at h then double_alongside
  head_alongside Boundary at h = count_alongside Boundary at h

  model_alongside : (κ : Kind) → Alongside (model_of κ b) (model_of κ b')
  unfolding model_of
  model_alongside κ head h =
      head_alongside κ head h then times_alongside (particles_at_same s κ head h) (record_alongside κ head h)

  models_alongside : (κ : Kind) → Alongside (models_of κ b) (models_of κ b')
  unfolding models_of
  models_alongside κ = times_alongside (s.models κ) (model_alongside κ)

  -- ---- names

  names_alongside : {counts counts' : List ℕ} {w w' n n' : ℕ} → w ≡ w' → counts ≡ counts' → n ≡ n'
      → Alongside (names b counts w n) (names b' counts' w' n')
  unfolding names name
  names_alongside a e q =
      rw (← a) (times_alongside q (λ at h. tested _ (cc (be16_same s at h)) (reached (omega arith))))

  record_names_alongside : (κ : Kind) (head : ℕ) → 2 ≤ head
      → Alongside (record_names_of κ b head) (record_names_of κ b' head)
  unfolding record_names_of
  record_names_alongside Fluid head l at h =
      let wide = ap contact_width s.axes in
      from_same (ap (λ d. at + record_width d) s.axes) (omega arith)
      (names_alongside wide (counts_same s Fluid) (contact_count_same s Fluid at h))
      then names_alongside wide (counts_same s Boundary) (contact_count_same s Boundary at h)
  record_names_alongside Boundary head l at h =
      rw (← keeps_at_same s head l)
      (from_same (ap (λ d. at + boundary_record_width d (keeps_at b head)) s.axes) (omega arith)
      (names_alongside refl (counts_same s Boundary) (boundary_contact_count_same s (keeps_at b head) at h)))

  model_names_alongside : (κ : Kind) → Alongside (model_names_of κ b) (model_names_of κ b')
  unfolding model_names_of
  model_names_alongside κ head h =
      times_alongside (particles_at_same s κ head h) (record_names_alongside κ head h) (first_record κ head)
      (omega arith)

  models_names_alongside : (κ : Kind) → Alongside (models_names_of κ b) (models_names_of κ b')
  unfolding models_names_of
  models_names_alongside κ = times_alongside (s.models κ) (model_names_alongside κ)

  names_together : Together Behind (all_names b) (all_names b')
  unfolding all_names
  names_together =
      from_same (ap header_width s.axes) (omega arith) (models_names_alongside Fluid)
      then models_names_alongside Boundary

  -- ---- the header, and with it the whole check

  module _ (f : KnownForm b) (f' : KnownForm b') where
    -- byte 0: the version is passed, and there are as many fluids
    first_byte : StepsTogether (λ at. at ≡ 0) (λ at. at ≡ 1) (halves b Version ModelCount)
        (halves b' Version ModelCount)
    unfolding halves
    first_byte = field-steps 1
        (λ at e.
        rw e (version_passed _ _ 0 f.version f'.version (half_counted 0 (s.models Fluid) (reached refl))))

    -- byte 1: there are as many boundaries, and the rule is passed
    second_byte : StepsTogether (λ at. at ≡ 1) Behind (halves b ModelCount (Rule (most_rule (version_of b))))
        (halves b' ModelCount (Rule (most_rule (version_of b'))))
    unfolding halves
    second_byte = field-steps 1
        (λ at e.
        rw e (half_counted 1 (s.models Boundary) (rule_passed 1 f.rule f'.rule (reached (omega arith)))))

    header_together : Together Behind (header b 0) (header b' 0)
    unfolding header
    header_together =
        first_byte 0 refl then second_byte then plain_alongside 1 then plain_alongside 1
        then doubles_alongside (ap header_doubles s.axes)

    checked_together : Together Behind (checked b) (checked b')
    unfolding checked fields
    checked_together =
        header_together then models_alongside Fluid then models_alongside Boundary then ended_alongside
        then (λ end h. names_together)

pub same_checks : SameChecks
same_checks b b' s f f' = together_same (checked_together s f f')
