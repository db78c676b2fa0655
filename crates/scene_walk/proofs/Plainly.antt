-- A walk through contacts that are there and plainly finite is not refused, by the laws of such steps; and a test of
-- every number below n, in a loop that ends with the first that fails or by `all`. Assumes nothing.
use Prim.Native.Nat.{ℕ, zero, suc, ◌+◌, ◌*◌, ◌≤◌, ◌<◌}
use mathlib.Core.Path.{◌≡◌, refl, sym, ◌∙◌, ap}
use mathlib.Core.Bool.{Bool, true, false, ◌&&◌}
use mathlib.Core.List.{List}
use mathlib.Core.Logic.{⊎_elim}
use native.Mathlib.Nat.{not-suc-le-zero, le_of_suc-le-suc, eq-or-lt_of_le, mul-suc, mul-le-mul_left}
use native.Mathlib.Nat.{add-zero, zero-add, add-suc, suc-add, sub-zero}
use native.Mathlib.Numerals.{add-one}
use native.Mathlib.Omega.{arith}
use lib.ListN.{length}
use denote.Param.Members.{Mut, Called}
use Rattle.std.specs.Iterator.{ChecksAll}
use Rattle.std.specs.declared.ops.Range.{Range}
use Rattle.std.specs.List.{list_all, range_with_len}
use Rattle.std.proofs.iter.Yields.{nat_range_steps}
use Rattle.std.proofs.lemmas.Iterator.{YieldsList-from_range}
use Rattle.std.proofs.lemmas.Iterator.Search.{all_from_yields_List}
use Rattle.std.proofs.Math.Bool.{and_assoc, and-true}
use Rattle.scene_fields.specs.Fields.{◌▹◌, times, double}
use Rattle.scene_fields.proofs.Found.{double_there}
use Rattle.scene_fields.proofs.Walks.{plain_there, parts_there}
use Rattle.scene_format.specs.Bytes.{Bytes, double_width}
use Rattle.scene_format.specs.Format.{name_width, contact_doubles, contact_width}
use Rattle.std.specs.declared.result.Result.TheVariants.{Ok}
use Rattle.scene_format.proofs.Exponents.{plainly_finite_lem}
use Rattle.scene_walk.specs.Plainly.{every, doubles_plainly_finite, contact_bytes, contacts_plainly_finite}
use Rattle.scene_walk.specs.Walk.{contact}

-- ---- tests, one after the other

both_hold : (s t : Bool) → s && t ≡ true → (s ≡ true) × (t ≡ true)
both_hold true t e = (refl, e)
both_hold false t e = let z : ◌≡◌ {A = ℕ} 0 1 = cc in absurd (omega arith)

every_holds : (test : ℕ → Bool) (n : ℕ) → every n test ≡ true → (k : ℕ) → k < n → test k ≡ true
unfolding every
every_holds test zero e k h = absurd (not-suc-le-zero h)
every_holds test (suc n) e k h =
    let p = both_hold (every n test) (test n) e in
    ⊎_elim (λ q. rw q p.1) (λ l. every_holds test n p.0 k l) (eq-or-lt_of_le (le_of_suc-le-suc h))

-- of n numbers the first i have passed
pub record Passed (test : ℕ → Bool) (n i : ℕ) : Type 0 where
  pub within : i ≤ n
  pub each : every i test ≡ true

module _ {test : ℕ → Bool} {n : ℕ} where
  pub none_passed : Passed test n 0
  unfolding every
  none_passed = record { within = omega arith; each = refl }

  module _ {i : ℕ} (here : Passed test n i) where
    pub all_passed : n ≤ i → true ≡ every n test
    all_passed h = let e : n ≡ i = omega arith in rw (e, here.each)

    pub one_more_passed : i < n → test i ≡ true → Passed test n (i + 1)
    unfolding every
    one_more_passed h t = record { within = omega arith; each = rw (add-one i, here.each, t) }

    pub one_failed : i < n → test i ≡ false → false ≡ every n test
    one_failed h t = told (every n test) refl
      where
        told : (x : Bool) → every n test ≡ x → false ≡ x
        told true e = sym t ∙ every_holds test n e i h
        told false e = refl

range_more : (test : ℕ → Bool) (a n : ℕ)
    → list_all test (range_with_len a (suc n)) ≡ list_all test (range_with_len a n) && test (a + n)
range_more test a zero = rw add-zero (and-true _)
range_more test a (suc n) =
    rw (range_more test (a + 1) n, add-suc a n, add-one a, suc-add a n)
    (sym (and_assoc (test a) (list_all test (range_with_len (suc a) n)) (test (suc (a + n)))))

every_of_range : (test : ℕ → Bool) (n : ℕ) → list_all test (range_with_len 0 n) ≡ every n test
unfolding every
every_of_range test zero = refl
every_of_range test (suc n) = range_more test 0 n ∙ rw (every_of_range test n, zero-add n)

-- `all` over n numbers, by a closure that is the test
pub every_tested : {F : Type 0} {g : Mut F (ℕ × Unit {0}) Bool} (test : ℕ → Bool) (c : F)
    → ((k : ℕ) (b : Bool) (d : F) → Called g c (k, tt) b d → (d ≡ c) × (b ≡ test k))
    → {n : ℕ} {u : Range ℕ} {r : Bool} → ChecksAll nat_range_steps g (record { start = 0; end = n }) c r u
    → r ≡ every n test
every_tested test c h {n} ran =
    all_from_yields_List test _ c _ ran (YieldsList-from_range 0 n n refl (sub-zero n)) h ∙ every_of_range test n

-- ---- contacts

-- part k of n parts of c bytes, all of which end within the first l
pub part_within : (c n at l : ℕ) → at + c * n ≤ l → {k : ℕ} → k < n → at + c * k + c ≤ l
part_within c n at l h {k} b = omega (arith, mul-suc c k, mul-le-mul_left c b)

module _ (b : List ℕ) (bytes : Bytes b) where
  doubles_there : (n at : ℕ) → at + double_width * n ≤ length b → doubles_plainly_finite b n at ≡ true
      → times n (double b) at ≡ Ok (at + double_width * n)
  unfolding doubles_plainly_finite
  doubles_there n at h t =
      parts_there _ double_width n at
      (λ k l.
      double_there b
      (record {
        present = part_within double_width n at _ h l;
        finite = plainly_finite_lem b _ bytes (every_holds _ n t k l);
      }))

  contact_there : (d at : ℕ) → at + contact_bytes d ≤ length b → doubles_plainly_finite b d (at + name_width) ≡ true
      → contact d b at ≡ Ok (at + contact_bytes d)
  unfolding contact ◌▹◌
  contact_there d at h t =
      rw (plain_there b name_width at (omega arith), doubles_there d (at + name_width) (omega arith) t)
      (ap Ok (omega arith))

  contacts_there : (d n at : ℕ) → at + contact_bytes d * n ≤ length b → contacts_plainly_finite b d n at ≡ true
      → times n (contact d b) at ≡ Ok (at + contact_bytes d * n)
  unfolding contacts_plainly_finite
  contacts_there d n at h t =
      parts_there _ (contact_bytes d) n at
      (λ k l. contact_there d _ (part_within (contact_bytes d) n at _ h l) (every_holds _ n t k l))

  -- contacts of fluid records, for d axes
  pub fluid_contacts_there : (d n at : ℕ) → at + contact_width d * n ≤ length b
      → contacts_plainly_finite b (contact_doubles d) n at ≡ true
      → times n (contact (contact_doubles d) b) at ≡ Ok (at + contact_width d * n)
  fluid_contacts_there d n at h t =
      let e : at + contact_bytes (contact_doubles d) * n ≡ at + contact_width d * n = omega arith in
      contacts_there (contact_doubles d) n at (omega (arith, h)) t ∙ ap Ok e
