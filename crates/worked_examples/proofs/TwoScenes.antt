-- The instance of locality: acceptance, counts and bytes by evaluation, slice by slice; links by evaluation of what the
-- contacts of the first fluid name, which stays in it; the iterations by the law on their least and most. Assumes
-- nothing.
use Prim.Native.Nat.{ℕ, zero, suc, ◌+◌, ◌<◌}
use mathlib.Core.Path.{◌≡◌, refl, sym, ap, ◌∙◌}
use mathlib.Core.Bool.{Bool, true, false, ◌&&◌}
use mathlib.Core.List.{List, [], ◌∷◌, Memᴰ}
use native.Mathlib.Omega.{arith}
use lib.Dec.{ltb}
use lib.ListN.{length, get_or, take, drop}
use lib.Seq.{get_or-take, get_or-drop}
use borrow.Author.Tests.{ltb-true}
use Rattle.scene_format.specs.Bytes.{Bytes, byte_at}
use Rattle.scene_format.specs.Format.{axes_of, contact_width, counts_of, location_of}
use Rattle.scene_format.specs.Scene.{Scene, particle}
use Rattle.scene_format.specs.SceneOf.{scene_of}
use Rattle.scene_format.specs.declared.Kind.{Kind}
use Rattle.scene_format.specs.declared.Kind.TheVariants.{Fluid, Boundary}
use Rattle.scene_check.specs.Same.{SameBytes, SameRecord, SameShape}
use Rattle.scene_lengths.specs.Lengths.{answers_needed, work_needed}
use Rattle.iisph_rules.specs.Step.{report_of}
use Rattle.iisph_rules.specs.Answer.{step_answer, Accepted}
use Rattle.iisph_rules.specs.Locality.{contacts_with, Names, Within, Compared, SameAt}
use Rattle.iisph_rules.specs.Locality.Within.{itself, onward}
use Rattle.std.specs.declared.result.Result.TheVariants.{Ok}
use Rattle.iisph_rules.proofs.Reports.{done_accepted}
use Rattle.iisph_rules.proofs.Locality.{most_iterations, fluid_locality}
use Rattle.worked_examples.specs.TwoScenes.{pair_at_boundary, apart, two_fluids, calm, stirred, Instance}
use Rattle.worked_examples.proofs.Evaluation.{evaluation}

-- how the two scenes are written, and all that a step does with them
unfoldable evaluated : ℕ
unfolding evaluation pair_at_boundary apart two_fluids calm stirred
evaluated = 0

-- ---- tests that are evaluated, and what they show

both : (s t : Bool) → (s && t) ≡ true → (s ≡ true) × (t ≡ true)
both true t q = (refl, q)
both false t q = (q, let z : ◌≡◌ {A = ℕ} 0 1 = cc in absurd (omega arith))

module _ {A : Type 0} (p : A → Bool) where
  every : List A → Bool
  every [] = true
  every (x ∷ xs) = p x && every xs

  every_at : (xs : List A) → every xs ≡ true → (d : A) → p d ≡ true → (i : ℕ) → p (get_or xs i d) ≡ true
  unfolding every
  every_at [] q d h i = h
  every_at (x ∷ xs) q d h zero = (both (p x) (every xs) q).0
  every_at (x ∷ xs) q d h (suc i) = every_at xs (both (p x) (every xs) q).1 d h i

  every_in : (xs : List A) → every xs ≡ true → (x : A) → Memᴰ x xs → p x ≡ true
  unfolding every
  every_in [] q x m = elim m [ ]
  every_in (y ∷ xs) q x (Memᴰ.head e) = ap p e ∙ (both (p y) (every xs) q).0
  every_in (y ∷ xs) q x (Memᴰ.tail m) = every_in xs (both (p y) (every xs) q).1 x m

bytes_shown : (b : List ℕ) → every (λ x. ltb x 256) b ≡ true → Bytes b
bytes_shown b q i = ltb-true (byte_at b i) 256 (every_at (λ x. ltb x 256) b q 0 refl i)

-- n bytes from an offset on
slice : List ℕ → ℕ → ℕ → List ℕ
slice b at n = take n (drop at b)

slice_shown : {b b' : List ℕ} {at at' n : ℕ} → slice b at n ≡ slice b' at' n → SameBytes b at b' at' n
unfolding slice
slice_shown {b} {b'} {at} {at'} {n} q =
    record {
      each = λ k l.
          sym (get_or-take n (drop at b) k 0 l ∙ get_or-drop at b k 0)
          ∙ ap (λ xs. byte_at xs k) q
          ∙ get_or-take n (drop at' b') k 0 l
          ∙ get_or-drop at' b' k 0;
    }

-- of a scene: the contacts of fluid particle i with particles of a kind name such below n
below : Kind → ℕ → Scene → ℕ → Bool
below κ n s i = every (λ c. ltb c.target n) (contacts_with κ (particle s i))

below_shown : {κ : Kind} {n : ℕ} {s : Scene} {i : ℕ} → below κ n s i ≡ true → (j : ℕ) → Names κ s i j → j < n
unfolding below
below_shown {κ} {n} {s} {i} q j w =
    ltb-true j n
    (ap (λ k. ltb k n) (sym w.target)
    ∙ every_in (λ c. ltb c.target n) (contacts_with κ (particle s i)) q w.contact w.listed)

-- links that stay below n lead nowhere else
stays : {s : Scene} {n : ℕ} → ((i j : ℕ) → i < n → Names Fluid s i j → j < n)
    → {m i j : ℕ} → i < n → Within s m i j → j < n
stays h l itself = l
stays h l (onward w more) = stays h (h _ _ l w) more

-- ---- the two scenes

calm_bytes : Bytes calm
unfolding evaluated every
calm_bytes = bytes_shown calm refl

stirred_bytes : Bytes stirred
unfolding evaluated every
stirred_bytes = bytes_shown stirred refl

-- of a step with lists that are just long enough
abbrev IsDone : List ℕ → Type 0
IsDone b = step_answer b (answers_needed (scene_of b)) (work_needed (scene_of b)) ≡ Ok (report_of (scene_of b))

calm_done : IsDone calm
unfolding evaluated
calm_done = refl

stirred_done : IsDone stirred
unfolding evaluated
stirred_done = refl

accepted : (b : List ℕ) → IsDone b → Accepted b
accepted b q = (done_accepted b _ _ _ q).0

-- the least plus one is the most
calm-iterations : (accepted calm calm_done).report.iterations ≡ 2
unfolding evaluated
calm-iterations = most_iterations calm (accepted calm calm_done) (omega arith)

stirred-iterations : (accepted stirred stirred_done).report.iterations ≡ 2
unfolding evaluated
stirred-iterations = most_iterations stirred (accepted stirred stirred_done) (omega arith)

shape : SameShape calm stirred
unfolding evaluated slice
shape = record { header = slice_shown refl; counts = counts }
  where
    counts : (κ : Kind) → counts_of κ calm ≡ counts_of κ stirred
    counts Fluid = refl
    counts Boundary = refl

-- one is longer by a contact
longer : length stirred ≡ length calm + contact_width (axes_of calm)
unfolding evaluated
longer = refl

different : calm ≡ stirred → ⊥
different e = omega (arith, ap length e, longer)

compared : Compared 2 calm stirred
compared =
    record {
      matched =
          record {
            bytes = calm_bytes;
            bytes' = stirred_bytes;
            shape = shape;
            accepted = accepted calm calm_done;
            accepted' = accepted stirred stirred_done;
          };
      iterations = calm-iterations;
      iterations' = stirred-iterations;
    }

-- ---- the condition

-- the only boundary particle
boundary_same : (l : ℕ) → l < 1
    → SameRecord Boundary calm (location_of Boundary calm l) stirred (location_of Boundary stirred l)
unfolding evaluated slice
boundary_same zero h = record { long = refl; bytes = slice_shown refl }
boundary_same (suc l) h = absurd (omega arith)

-- both particles of the first fluid
same_at : (j : ℕ) → j < 2 → SameAt calm stirred j
unfolding evaluated slice below every
same_at zero h =
    record {
      own = record { density0 = slice_shown refl; own = record { long = refl; bytes = slice_shown refl } };
      named = λ l w. boundary_same l (below_shown refl l w);
    }
same_at (suc zero) h =
    record {
      own = record { density0 = slice_shown refl; own = record { long = refl; bytes = slice_shown refl } };
      named = λ l w. boundary_same l (below_shown refl l w);
    }
same_at (suc (suc j)) h = absurd (omega arith)

links_stay : (i j : ℕ) → i < 2 → Names Fluid (scene_of calm) i j → j < 2
unfolding evaluated below every
links_stay zero j h w = below_shown refl j w
links_stay (suc zero) j h w = below_shown refl j w
links_stay (suc (suc i)) j h w = absurd (omega arith)

pub two_scenes : Instance
two_scenes =
    record {
      different = different;
      compared = compared;
      around = λ i h j w. same_at j (stays links_stay h w);
      values = λ i h. fluid_locality 2 calm stirred compared i (λ j w. same_at j (stays links_stay h w));
    }
