-- The looks at a contact list, from how its walk ended. A refusal is at the start of one of the list's contacts, by
-- taking the walk apart contact by contact, and that contact's number is its distance from the list's start by the
-- width of a contact. Assumes nothing.
use Prim.Native.Nat.{ℕ, ◌+◌, ◌-◌, ◌*◌, ◌/◌, ◌≤◌, ◌<◌}
use mathlib.Core.Path.{◌≡◌, sym, ap, ◌∙◌}
use mathlib.Core.List.{List}
use native.Mathlib.Nat.{mul_comm, mul-div_cancel}
use native.Mathlib.Omega.{arith}
use Rattle.scene_fields.proofs.Reached.{stay, refused_if_leads}
use Rattle.scene_fields.proofs.Stopped.{parts_refused, refused_if_by}
use Rattle.scene_format.specs.Format.{name_width}
use Rattle.scene_format.specs.declared.Refusal.{Refusal}
use Rattle.scene_format.specs.declared.Refusal.TheVariants.{DanglingContact}
use Rattle.std.specs.declared.result.Result.TheVariants.{Ok, Err}
use Rattle.scene_check.specs.Looks.{looks_of, names_looked, LooksTold}
use Rattle.scene_check.specs.Walk.{name, names}
use Rattle.scene_check.specs.declared.contact_list.Looked.{Looked}

-- before contact k of a list there are k
number_in : (w from k : ℕ) → name_width ≤ w → (from + w * k - from) / w ≡ k
number_in w from k wide =
    let e : from + w * k - from ≡ k * w = omega (arith, mul_comm w k) in
    ap (λ (x : ℕ). x / w) e ∙ mul-div_cancel k (omega (arith, wide))

stopped_at : (w n from : ℕ) {r : Refusal} → name_width ≤ w → (k : ℕ) → r ≡ DanglingContact (from + w * k)
    → looks_of w n from (Err r) ≡ k + 1
unfolding looks_of
stopped_at w n from wide k e = rw (e, number_in w from k wide)

-- a refusal is of one of the list's contacts
refused_contact : (b counts : List ℕ) (w n from : ℕ) {r : Refusal} → names b counts w n from ≡ Err r
    → (k : ℕ) × (k < n) × (r ≡ DanglingContact (from + w * k))
unfolding names name
refused_contact b counts w n from q =
    let (k, l, p) = parts_refused w (λ at. refused_if_leads _ _ (stay _)) n from q in
    (k, l, refused_if_by _ _ _ p)

module _ (b counts : List ℕ) (w n from : ℕ) where
  -- the answer's parts
  pub walk_is : {a : Looked} → a ≡ names_looked b counts w n from → a.walk ≡ names b counts w n from
  unfolding names_looked
  walk_is e = ap (λ (a : Looked). a.walk) e

  pub all_looked : {end looks : ℕ} → Ok end ≡ names b counts w n from → looks ≡ n
      → ◌≡◌ {A = Looked} (record { walk = Ok end; looks = looks }) (names_looked b counts w n from)
  unfolding names_looked looks_of
  all_looked q e = rw (sym q, e)

  pub looked_up_to : {at looks : ℕ} → name_width ≤ w → Err (DanglingContact at) ≡ names b counts w n from → (k : ℕ)
      → at ≡ from + w * k → looks ≡ k + 1
      → ◌≡◌ {A = Looked} (record { walk = Err (DanglingContact at); looks = looks })
      (names_looked b counts w n from)
  unfolding names_looked
  looked_up_to wide q k p e = rw (sym q, e, stopped_at w n from wide k (ap DanglingContact p))

-- the looks in plain words, from the answer alone
pub looks_told : (b counts : List ℕ) (w n from : ℕ) → name_width ≤ w →
    LooksTold w n from (names_looked b counts w n from)
unfolding names_looked looks_of
looks_told b counts w n from wide =
    record {
      passed = λ q. rw q;
      refused = λ q.
          let (k, l, e) = refused_contact b counts w n from q in
          (k, l, e, ap (looks_of w n from) q ∙ stopped_at w n from wide k e);
    }
