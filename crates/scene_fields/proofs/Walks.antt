-- What the functions of a walk cite: a field that is there or not, steps one after the other, and a loop of which some
-- turns are done, where what remains from here is the whole. By cases on the test of a field, and by the turns left.
-- Assumes nothing.
use Prim.Native.Nat.{ℕ, zero, suc, ◌+◌, ◌*◌, ◌-◌, ◌≤◌, ◌<◌}
use mathlib.Core.Path.{◌≡◌, refl, sym, ◌∙◌, ap, subst}
use mathlib.Core.Bool.{Bool, true, false}
use mathlib.Core.List.{List}
use native.Mathlib.Nat.{sub-zero, zero-add, suc-add, add-zero, mul-zero, mul-suc}
use native.Mathlib.Omega.{arith}
use lib.Dec.{leb}
use lib.ListN.{length}
use borrow.Author.Tests.{leb-true, leb-false, le-leb, lt-leb}
use Rattle.lists.specs.Lists.{choose, iter}
use Rattle.scene_fields.specs.Fields.{◌▹◌, times, refused_if, field, plain}
use Rattle.scene_format.specs.declared.Refusal.{Refusal}
use Rattle.scene_format.specs.declared.Refusal.TheVariants.{MissingField}
use Rattle.scene_format.specs.Refusals.{Walk}
use Rattle.std.specs.declared.result.Result.{Result}
use Rattle.std.specs.declared.result.Result.TheVariants.{Ok, Err}
use Rattle.std.proofs.Common.{IsErrAnd}
use Rattle.std.proofs.lemmas.Result.{err_from_is_err_and}
use Rattle.scene_fields.proofs.Reached.{never}

-- ---- fields

module _ (b : List ℕ) (k : ℕ) (rule : ℕ → Walk) (at : ℕ) where
  pub field_there : at + k ≤ length b → field b k rule at ≡ rule at
  unfolding field refused_if choose
  field_there h = rw (le-leb _ _ h)

  pub field_missing : length b < at + k → field b k rule at ≡ Err (MissingField at)
  unfolding field refused_if choose
  field_missing h = rw (lt-leb _ _ h)

pub plain_there : (b : List ℕ) (k at : ℕ) → at + k ≤ length b → plain b k at ≡ Ok (at + k)
unfolding plain
plain_there b k at h = field_there b k _ at h

-- a field whose bytes are refused is refused so
pub field_refused : (b : List ℕ) (k : ℕ) (rule : ℕ → Walk) (at : ℕ) {w : Walk} {r : Refusal}
    → w ≡ plain b k at → w ≡ Err r → w ≡ field b k rule at
unfolding plain
field_refused b k rule at {w} {r} e q = told (leb (at + k) (length b)) refl
  where
    told : (t : Bool) → leb (at + k) (length b) ≡ t → w ≡ field b k rule at
    told true h = never (sym q ∙ e ∙ field_there b k _ at (leb-true _ _ h))
    told false h = let l = leb-false (at + k) (length b) h in e ∙ field_missing b k _ at l
        ∙ sym (field_missing b k rule at l)

-- ---- refusals that are handed on

-- what `?` hands on is the refusal
pub handed_on : {T : Type 0} {w : Result T Refusal} {r : Refusal} → IsErrAnd w (λ (e : Refusal). e ≡ r) → w ≡ Err r
handed_on {w} h = let p = err_from_is_err_and w h in p.1 ∙ ap Err p.2

-- so it is the walk v that was refused
pub same_walk : {w v : Walk} {r : Refusal} → IsErrAnd w (λ (e : Refusal). e ≡ r) → v ≡ Err r → w ≡ v
same_walk h q = handed_on h ∙ sym q

-- ---- steps one after the other

-- a step h that is f and then g
in_two : (w : Walk) (f g h : ℕ → Walk) → ((at : ℕ) → h at ≡ f at ▹ g) → w ▹ h ≡ w ▹ f ▹ g
unfolding ◌▹◌
in_two (Ok at) f g h e = e at
in_two (Err r) f g h e = refl

pub times-add : (n m : ℕ) (f : ℕ → Walk) (at : ℕ) → times (n + m) f at ≡ times n f at ▹ times m f
unfolding times ◌▹◌
times-add zero m f at = rw (zero-add m)
times-add (suc n) m f at = rw (suc-add n m) (in_two (f at) _ _ _ (times-add n m f))

-- n steps of c bytes each, none of which is refused
pub parts_there : (f : ℕ → Walk) (c n at : ℕ) → ((k : ℕ) → k < n → f (at + c * k) ≡ Ok (at + c * k + c))
    → times n f at ≡ Ok (at + c * n)
unfolding times ◌▹◌
parts_there f c zero at h = rw (mul-zero, add-zero)
parts_there f c (suc n) at h =
    rw (step 0 at (rw (mul-zero, add-zero)) (omega arith))
    (parts_there f c n (at + c) (λ k l. step (suc k) _ (omega (arith, mul-suc c k)) (omega arith))
    ∙ ap Ok (omega (arith, mul-suc c n)))
  where
    step : (k x : ℕ) → at + c * k ≡ x → k < suc n → f x ≡ Ok (x + c)
    step k x e l = subst (λ (y : ℕ). f y ≡ Ok (y + c)) e (h k l)

-- ---- loops

-- of n turns from an offset i are done and have led to at: what remains from there is the whole
pub record Remains (f : ℕ → Walk) (n from i at : ℕ) : Type 0 where
  pub within : i ≤ n
  pub whole : times n f from ≡ times (n - i) f at

module _ {f : ℕ → Walk} {n from : ℕ} where
  pub none_done : Remains f n from 0 from
  none_done = record { within = omega arith; whole = rw sub-zero }

  module _ {i at : ℕ} (here : Remains f n from i at) where
    pub all_done : n ≤ i → Ok at ≡ times n f from
    unfolding times
    all_done h = let e : n - i ≡ zero = omega arith in rw (here.whole, e)

    module _ {w : Walk} (h : i < n) (step : w ≡ f at) where
      pub turn_refused : {r : Refusal} → w ≡ Err r → w ≡ times n f from
      unfolding times ◌▹◌
      turn_refused q = let e : n - i ≡ suc (n - (i + 1)) = omega arith in rw (here.whole, e, sym step ∙ q) q

      pub one_more_done : {next : ℕ} → w ≡ Ok next → Remains f n from (i + 1) next
      unfolding times ◌▹◌
      one_more_done q =
          let e : n - i ≡ suc (n - (i + 1)) = omega arith in
          record { within = omega arith; whole = here.whole ∙ rw (e, sym step ∙ q) }

-- the same of steps by a function: the end is the whole's, and P holds of all offsets that are left
pub record Ahead (g : ℕ → ℕ) (P : ℕ → Type 0) (n from i at : ℕ) : Type 0 where
  pub within : i ≤ n
  pub end : iter n g from ≡ iter (n - i) g at
  pub each : (j : ℕ) → j < n - i → P (iter j g at)

module _ {g : ℕ → ℕ} {P : ℕ → Type 0} {n from : ℕ} where
  pub none_stepped : ((j : ℕ) → j < n → P (iter j g from)) → Ahead g P n from 0 from
  none_stepped h = record { within = omega arith; end = rw sub-zero; each = λ j l. h j (omega arith) }

  module _ {i at : ℕ} (here : Ahead g P n from i at) where
    pub all_stepped : n ≤ i → at ≡ iter n g from
    unfolding iter
    all_stepped h = let e : n - i ≡ zero = omega arith in rw (here.end, e)

    pub holds_here : i < n → P at
    unfolding iter
    holds_here h = here.each 0 (omega arith)

    pub one_more_stepped : {x : ℕ} → i < n → x ≡ g at → Ahead g P n from (i + 1) x
    unfolding iter
    one_more_stepped h q =
        let e : n - i ≡ suc (n - (i + 1)) = omega arith in
        record {
          within = omega arith;
          end = here.end
              ∙ rw (e, q);
          each = λ j l. rw q (here.each (suc j) (omega arith));
        }
