-- A scene that is refused by 7 is refused in one contact list, and all lists before it are passed. The walk through the
-- fields gives no 7; the walk through the names is refused in one kind, model, record and list, and what it has met
-- before holds, by the laws of Stopped. Assumes nothing.
use Prim.Native.Nat.{ℕ, ◌<◌}
use mathlib.Core.Path.{◌≡◌, refl, sym, ◌∙◌, ap}
use mathlib.Core.Bool.{true}
use mathlib.Core.List.{List}
use mathlib.Core.Logic.{inl, inr}
use native.Mathlib.Omega.{arith}
use Rattle.scene_walk.specs.Walk.{fields}
use Rattle.scene_walk.proofs.Walked.{EachRecord}
use Rattle.scene_fields.proofs.Stopped.{either_refused, then_refused, times_refused}
use Rattle.scene_format.specs.Format.{axes_of, header_width, model_number, particles_at, first_head, head_at, counts_of}
use Rattle.scene_format.specs.Format.{record_at}
use Rattle.scene_format.specs.declared.Kind.{Kind}
use Rattle.scene_format.specs.declared.Kind.TheVariants.{Fluid, Boundary}
use Rattle.scene_format.specs.declared.Refusal.{Refusal}
use Rattle.scene_format.specs.declared.Refusal.TheVariants.{DanglingContact}
use Rattle.std.specs.declared.result.Result.TheVariants.{Ok, Err}
use Rattle.scene_check.specs.Walk.{names, record_names_of, model_names_of, models_names_of, all_names, checked}
use Rattle.scene_check.proofs.Accepted.{RecordNamed, names-steps, record_names-steps, model_names-steps}
use Rattle.scene_check.proofs.Accepted.{models_names-steps}
use Rattle.scene_check.proofs.Early.{fields_refused_early}
use Rattle.scene_check.proofs.Looks.{walk_is}
use Rattle.scene_lists.specs.Lists.{owner_of, named_of, list_width, list_count, list_start, list_looked, list_there}
use Rattle.scene_lists.specs.Lists.{owner_at}
use Rattle.scene_lists.specs.Order.{Before, RefusedList}
use Rattle.scene_lists.specs.Order.Before.{kinds, models, particles, lists}
use Rattle.scene_lists.specs.declared.Contacts.{Contacts}
use Rattle.scene_lists.specs.declared.Contacts.TheVariants.{FluidFluid, FluidBoundary, BoundaryBoundary}
use Rattle.scene_lists.proofs.Listed.{list_there_lem, list_answered}
use Rattle.scene_lists.proofs.Passed.{there_list, ListNamed, list_named, list_passed_lem}

-- ---- the record

-- the contacts of the first n models of a kind all name particles
abbrev ModelsNamed : Kind → List ℕ → ℕ → Type 0
ModelsNamed κ b n = (m : ℕ) → m < n → EachRecord κ b (head_at κ b m) (RecordNamed κ b)

-- the names of this record are refused; those of the records of its kind before it are passed
record RecordRefused (κ : Kind) (b : List ℕ) (r : Refusal) : Type 0 where
  model : ℕ
  particle : ℕ
  model_there : model < model_number κ b
  there : particle < particles_at κ b (head_at κ b model)
  refused : let p = record_at κ b (head_at κ b model) particle in record_names_of κ b p.head p.at ≡ Err r
  models : ModelsNamed κ b model
  records : (j : ℕ) → j < particle → RecordNamed κ b (record_at κ b (head_at κ b model) j)

record_refused : (κ : Kind) (b : List ℕ) {r : Refusal} → models_names_of κ b (first_head κ b) ≡ Err r
    → RecordRefused κ b r
unfolding models_names_of model_names_of
record_refused κ b q =
    let m = times_refused (model_names-steps b κ) _ _ q in
    let j = times_refused (record_names-steps b κ (head_at κ b m.step)) _ _ m.refused in
    record {
      model = m.step;
      particle = j.step;
      model_there = m.below;
      there = j.below;
      refused = j.refused;
      models = m.before;
      records = j.before;
    }

-- ---- the lists before a list

-- the kinds differ
apart : {A : Type 0} → Fluid ≡ Boundary → A
apart e = let z : ◌≡◌ {A = ℕ} 0 1 = cc in absurd (omega arith)

-- what the walk has met when it comes to the list c of particle j of model m
record Met (b : List ℕ) (c : Contacts) (m j : ℕ) : Type 0 where
  fluids : owner_of c ≡ Boundary → ModelsNamed Fluid b (model_number Fluid b)
  models : ModelsNamed (owner_of c) b m
  records : (i : ℕ) → i < j → RecordNamed (owner_of c) b (record_at (owner_of c) b (head_at (owner_of c) b m) i)
  own : c ≡ FluidBoundary → ListNamed FluidFluid b (owner_at b FluidFluid m j)

-- so the contacts of the lists before that one all name particles
before_named : {b : List ℕ} {c c' : Contacts} {m j m' j' : ℕ} → Before c m j c' m' j' → Met b c' m' j'
    → list_there b c m j ≡ true → ListNamed c b (owner_at b c m j)
before_named {b} {c} {m = m} {j = j} (kinds e e') h t =
    let (k, l) = rw e at (there_list b c m j t) in
    list_named c b _ (rw e (h.fluids e' m k j l))
before_named {b} {c} {m = m} {j = j} (models e k) h t =
    let l = rw e at (there_list b c m j t).1 in
    list_named c b _ (rw e (h.models m k j l))
before_named {b} {c} {j = j} (particles e l) h t = list_named c b _ (rw e (h.records j l))
before_named lists h t = h.own refl

-- ---- the list

module _ (b : List ℕ) {end : ℕ} (q : fields b ≡ Ok end) {at : ℕ} where
  -- a list whose walk is refused
  refused_here : (c : Contacts) (m j : ℕ) → m < model_number (owner_of c) b
      → j < particles_at (owner_of c) b (head_at (owner_of c) b m)
      → let p = owner_at b c m j in
      names b (counts_of (named_of c) b) (list_width c b) (list_count c b p) (list_start c b p)
      ≡ Err (DanglingContact at)
      → Met b c m j → RefusedList b at
  unfolding list_looked
  refused_here c m j k l p met =
      let t = list_there_lem b c m j k l in
      record {
        contacts = c;
        model = m;
        particle = j;
        there = t;
        answer = list_looked c b (owner_at b c m j);
        answered = list_answered b c m j q t;
        refused = walk_is _ _ _ _ _ refl ∙ p;
        before = λ c' m' j' o t'. list_passed_lem b c' m' j' q t' (before_named o met t');
      }

  -- of a fluid record's two lists the one or the other
  of_fluid : RecordRefused Fluid b (DanglingContact at) → RefusedList b at
  unfolding record_names_of owner_of named_of list_width list_count list_start
  of_fluid s =
      elim (then_refused _ (names-steps b Fluid _ _ _) s.refused) [
        | inl p ↦
            refused_here FluidFluid s.model s.particle s.model_there s.there p
            (record { fluids = apart; models = s.models; records = s.records; own = λ e. apart (ap named_of e) })
        | inr h ↦
            refused_here FluidBoundary s.model s.particle s.model_there s.there h.1
            (record { fluids = apart; models = s.models; records = s.records; own = λ e. h.0 })
      ]

  of_boundary : ModelsNamed Fluid b (model_number Fluid b) → RecordRefused Boundary b (DanglingContact at)
      → RefusedList b at
  unfolding record_names_of owner_of named_of list_width list_count list_start
  of_boundary fluids s =
      refused_here BoundaryBoundary s.model s.particle s.model_there s.there s.refused
      (record {
        fluids = λ e. fluids;
        models = s.models;
        records = s.records;
        own = λ e. apart (sym (ap owner_of e));
      })

  in_names : all_names b ≡ Err (DanglingContact at) → RefusedList b at
  unfolding all_names first_head
  in_names p =
      elim (then_refused _ (models_names-steps b Fluid (header_width (axes_of b))) p) [
        | inl f ↦ of_fluid (record_refused Fluid b f)
        | inr h ↦ of_boundary h.0 (record_refused Boundary b h.1)
      ]

-- the refusal of a scene by 7 is that of one of its lists, the first that is refused
pub refused_list : (b : List ℕ) {at : ℕ} → checked b ≡ Err (DanglingContact at) → RefusedList b at
unfolding checked
refused_list b q =
    elim (either_refused _ _ q) [
      | inl p ↦ absurd (omega (arith, fields_refused_early b p))
      | inr s ↦ in_names b s.1 s.2
    ]
