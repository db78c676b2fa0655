-- What the check of one contact list answers, from what its parts have found: each by opening the definitions. Assumes
-- nothing.
use Prim.Native.Nat.{ℕ, ◌≤◌, ◌<◌}
use mathlib.Core.Path.{◌≡◌, sym, ap, ◌∙◌}
use mathlib.Core.Bool.{true}
use mathlib.Core.List.{List}
use borrow.Author.Tests.{lt-ltb, le-ltb}
use Rattle.lists.specs.Lists.{choose}
use Rattle.scene_walk.specs.Walk.{fields}
use Rattle.scene_format.specs.Format.{model_number, particles_at, head_at, counts_of, record_at}
use Rattle.scene_format.specs.declared.Kind.{Kind}
use Rattle.scene_format.specs.declared.Refusal.{Refusal}
use Rattle.scene_check.specs.Check.{CountsOfKind}
use Rattle.scene_check.specs.Looks.{names_looked}
use Rattle.scene_check.specs.declared.contact_list.Looked.{Looked}
use Rattle.scene_check.proofs.Named.{names_same}
use Rattle.scene_lists.specs.Lists.{owner_of, list_looked, list_there, owner_at, answer_after, list_answer}
use Rattle.scene_lists.specs.declared.Contacts.{Contacts}
use Rattle.std.specs.declared.result.Result.TheVariants.{Ok, Err}
use Rattle.std.specs.declared.option.Option.TheVariants.{Some, None}

-- the check of a list depends only on what each model number counts
pub looked_same : {κ : Kind} {b counts : List ℕ} → CountsOfKind κ b counts → (w n from : ℕ)
    → names_looked b counts w n from ≡ names_looked b (counts_of κ b) w n from
unfolding names_looked
looked_same are w n from = rw (names_same are w n from)

module _ (b : List ℕ) (c : Contacts) (m j : ℕ) where
  pub refused_before : {r : Refusal} → fields b ≡ Err r → Err r ≡ list_answer b c m j
  unfolding list_answer answer_after
  refused_before q = rw q

  -- a list that is there
  pub list_there_lem : m < model_number (owner_of c) b → j < particles_at (owner_of c) b (head_at (owner_of c) b m)
      → list_there b c m j ≡ true
  unfolding list_there
  list_there_lem k i = rw (lt-ltb _ _ k, lt-ltb _ _ i)

  pub list_answered : {end : ℕ} → fields b ≡ Ok end → list_there b c m j ≡ true
      → list_answer b c m j ≡ Ok (Some (list_looked c b (owner_at b c m j)))
  unfolding list_answer answer_after choose
  list_answered q t = rw (q, t)

  module _ {end : ℕ} (q : fields b ≡ Ok end) {κ : Kind} (is : κ ≡ owner_of c) where
    pub no_model : model_number κ b ≤ m → (Ok None) ≡ list_answer b c m j
    unfolding list_answer answer_after list_there choose
    no_model k = rw (q, ← is, le-ltb _ _ k)

    module _ (k : m < model_number κ b) where
      pub no_particle : particles_at κ b (head_at κ b m) ≤ j → (Ok None) ≡ list_answer b c m j
      unfolding list_answer answer_after list_there choose
      no_particle i = rw (q, ← is, lt-ltb _ _ k, le-ltb _ _ i)

      pub list_checked : j < particles_at κ b (head_at κ b m) → {a : Looked}
          → a ≡ list_looked c b (record_at κ b (head_at κ b m) j) → Ok (Some a) ≡ list_answer b c m j
      list_checked i e =
          ap (λ (a : Looked). Ok (Some a)) (e ∙ rw is)
          ∙ sym (list_answered q (list_there_lem (rw is at k) (rw is at i)))
