-- The heads of a layout, stored model by model: what is still to be stored, over what is stored, is the whole. By what
-- one model more adds. Assumes nothing.
use Prim.Native.Nat.{ℕ, zero, suc, ◌+◌, ◌*◌, ◌-◌, ◌≤◌, ◌<◌}
use mathlib.Core.Path.{◌≡◌, refl, sym, ap, ◌∙◌}
use mathlib.Core.List.{List, [], ◌∷◌, ◌++◌, map}
use native.Mathlib.Nat.{sub-zero, zero-add, add-zero}
use native.Mathlib.Numerals.{add-one}
use native.Mathlib.Omega.{arith}
use lib.ListN.{length, get_or, drop, set, take, replicate, length-replicate}
use lib.Seq.{sets, sets-eq}
use Rattle.std.proofs.lemmas.List.{append-nil}
use Rattle.lists.specs.Lists.{sum, trail}
use Rattle.scene_format.specs.Format.{most_models, model_number, particles_at, model_end, first_head, head_at, heads_of}
use Rattle.scene_format.specs.Format.{counts_of, count_modulus}
use Rattle.scene_format.specs.declared.Kind.{Kind}
use Rattle.scene_format.specs.declared.Kind.TheVariants.{Fluid}
use Rattle.scene_layout.specs.Layout.{padded, layout_models}
use Rattle.scene_layout.specs.declared.Models.{Models}
use Rattle.scene_layout.proofs.Locations.{length_heads}

abbrev pub zeros : ℕ → List ℕ
zeros k = replicate k 0

-- ---- lists with 0 behind

get_d_zeros : (k m : ℕ) → get_or (zeros k) m 0 ≡ 0
get_d_zeros zero m = refl
get_d_zeros (suc k) zero = refl
get_d_zeros (suc k) (suc m) = get_d_zeros k m

zeros_behind : (ns : List ℕ) (k m : ℕ) → get_or (ns ++ zeros k) m 0 ≡ get_or ns m 0
zeros_behind [] k m = get_d_zeros k m
zeros_behind (n ∷ ns) k zero = refl
zeros_behind (n ∷ ns) k (suc m) = zeros_behind ns k m

-- past the last entry too
pub padded_at : (w : ℕ) (ns : List ℕ) (m : ℕ) → get_or (padded w ns) m 0 ≡ get_or ns m 0
unfolding padded
padded_at w ns m = zeros_behind ns (w - length ns) m

drop_zeros : (k n : ℕ) → drop k (zeros n) ≡ zeros (n - k)
drop_zeros zero n = rw sub-zero
drop_zeros (suc k) zero = let e : 0 - suc k ≡ zero = omega arith in rw e
drop_zeros (suc k) (suc n) = let e : suc n - suc k ≡ n - k = omega arith in rw e (drop_zeros k n)

take_zeros : (k n : ℕ) → k ≤ n → take k (zeros n) ≡ zeros k
take_zeros zero n h = refl
take_zeros (suc k) zero h = absurd (omega arith)
take_zeros (suc k) (suc n) h = ap (λ (l : List ℕ). 0 ∷ l) (take_zeros k n (omega arith))

-- the heads that there is room for
pub room_is : (κ : Kind) (b : List ℕ) → model_number κ b ≤ most_models → {n : ℕ} → n ≡ model_number κ b
    → length (take n (zeros most_models)) ≡ model_number κ b
room_is κ b few e = rw (e, take_zeros (model_number κ b) most_models few, length-replicate)

-- ns stored over zeros
pub stored-padded : (w : ℕ) (ns : List ℕ) → length ns ≤ w → sets (zeros w) 0 ns ≡ padded w ns
unfolding padded
stored-padded w ns h =
    sets-eq ns (zeros w) 0 (rw (zero-add, length-replicate) h) ∙ rw (zero-add, drop_zeros (length ns) w)

-- as many of them
stored_whole : (ns : List ℕ) (n : ℕ) → length ns ≡ n → sets (zeros n) 0 ns ≡ ns
unfolding padded
stored_whole ns n e =
    let none : n - length ns ≡ zero = omega arith in
    stored-padded n ns (omega arith) ∙ rw (none, append-nil)

-- ---- model by model

module _ (κ : Kind) (b : List ℕ) where
  -- of all models the heads of the first i are stored in a list that has room for as many as there are; their particles
  -- are `before`, and the next head is at `at`
  pub record Filled (heads : List ℕ) (before at i : ℕ) : Type 0 where
    pub few : before ≤ count_modulus Fluid * i
    pub all_heads : sets (zeros (model_number κ b)) 0 (heads_of κ b)
        ≡ sets heads i (trail (model_number κ b - i) (model_end κ b) at)
    pub total : sum (counts_of κ b)
        ≡ before + sum (map (particles_at κ b) (trail (model_number κ b - i) (model_end κ b) at))

  pub none_filled : model_number κ b ≤ most_models
      → Filled (take (model_number κ b) (zeros most_models)) 0 (first_head κ b) 0
  unfolding heads_of counts_of
  none_filled few =
      rw (take_zeros (model_number κ b) most_models few)
      (record { few = omega arith; all_heads = rw sub-zero; total = rw (sub-zero, zero-add) })

  module _ {heads : List ℕ} {before at i : ℕ} (here : Filled heads before at i) where
    pub one_more_filled : {count next : ℕ} → i < model_number κ b → count ≡ particles_at κ b at
        → count < count_modulus Fluid
        → next ≡ model_end κ b at
        → Filled (set heads i at) (before + count) next (i + 1)
    unfolding trail sum
    one_more_filled h c l q =
        let e : model_number κ b - i ≡ suc (model_number κ b - (i + 1)) = omega arith in
        record {
          few = omega (arith, here.few);
          all_heads = here.all_heads ∙ rw (e, q, add-one);
          total = here.total ∙ rw (e, q) (omega arith);
        }

    pub all_filled : model_number κ b ≤ most_models → model_number κ b ≤ i → at ≡ head_at κ b (model_number κ b)
        → {n : ℕ} → n ≡ model_number κ b
        → ◌≡◌ {A = Models}
        (record { number = n; total = before; heads = heads ++ drop n (zeros most_models); end = at })
        (layout_models κ b)
    unfolding layout_models padded trail sum
    all_filled few h q n =
        let e : model_number κ b - i ≡ zero = omega arith in
        let hs : heads ≡ heads_of κ b =
        sym (here.all_heads ∙ rw e) ∙ stored_whole _ _ (length_heads κ b) in
        let t : before ≡ sum (counts_of κ b) = sym (here.total ∙ rw (e, add-zero)) in
        rw (n, hs, t, q, drop_zeros, ← length_heads κ b)
