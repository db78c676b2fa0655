-- The laws of stores in rows: a pass stores one row after the other, what it stored stands in the rows, and all else is
-- as it was. By induction on the rows stored, once for every addressing, slot and number of values. Assumes nothing.
use Prim.Native.Nat.{ℕ, zero, suc, ◌+◌, ◌*◌, ◌<◌, ◌≤◌}
use mathlib.Core.Path.{◌≡◌, refl, sym, ◌∙◌, ap}
use mathlib.Core.List.{List, [], ◌∷◌, ◌++◌}
use mathlib.Core.Logic.{◌≢◌, ◌⊎◌, inl, inr, ⊎_elim}
use native.Mathlib.Omega.{arith}
use native.Mathlib.Nat.{not-suc-le-zero, le_of_suc-le-suc, add-zero}
use native.Mathlib.Numerals.{add-one}
use lib.ListN.{length, get_or, set, length-set}
use lib.Seq.{sets, get_or-set_same, get_or-set_other}
use Rattle.lists.specs.Stores.{in_rows, set_slots, stored_at, Rows, Part}
use Rattle.lists.proofs.Addressings.{Addressing, compared}

-- ---- one run of stores

module _ {A : Type 0} (d : A) where
  pub sets_below : (vs l : List A) (i j : ℕ) → j < i → get_or (sets l i vs) j d ≡ get_or l j d
  sets_below [] l i j h = refl
  sets_below (v ∷ vs) l i j h = sets_below vs (set l i v) (suc i) j (omega arith)
      ∙ get_or-set_other l i j v d (λ e. omega arith)

  pub sets_above : (vs l : List A) (i j : ℕ) → i + length vs ≤ j → get_or (sets l i vs) j d ≡ get_or l j d
  sets_above [] l i j h = refl
  sets_above (v ∷ vs) l i j h = sets_above vs (set l i v) (suc i) j (omega arith)
      ∙ get_or-set_other l i j v d (λ e. omega arith)

  pub sets_in : (vs l : List A) (i e : ℕ) → i + length vs ≤ length l → e < length vs
      → get_or (sets l i vs) (i + e) d ≡ get_or vs e d
  sets_in [] l i e room h = absurd (not-suc-le-zero h)
  sets_in (v ∷ vs) l i zero room h =
      ap (λ (j : ℕ). get_or (sets (set l i v) (suc i) vs) j d) (add-zero i)
      ∙ sets_below vs (set l i v) (suc i) i (omega arith)
      ∙ get_or-set_same l i v d (omega arith)
  sets_in (v ∷ vs) l i (suc e) room h =
      ap (λ (j : ℕ). get_or (sets (set l i v) (suc i) vs) j d) (omega arith)
      ∙ sets_in vs (set l i v) (suc i) e (omega (arith, length-set l i v)) (le_of_suc-le-suc h)

-- ---- the slots of one row

module _ {A : Type 0} (at : ℕ → ℕ) where
  pub length_slots : (vs l : List A) (k : ℕ) → length (set_slots at k vs l) ≡ length l
  unfolding set_slots
  length_slots [] l k = refl
  length_slots (v ∷ vs) l k = length_slots vs (set l (at k) v) (suc k) ∙ length-set l (at k) v

  pub slots_one : (v : A) (l : List A) (k : ℕ) → set_slots at k (v ∷ []) l ≡ set l (at k) v
  unfolding set_slots
  slots_one v l k = refl

  pub slots_append : (vs us l : List A) (k : ℕ)
      → set_slots at k (vs ++ us) l ≡ set_slots at (k + length vs) us (set_slots at k vs l)
  unfolding set_slots
  slots_append [] us l k = ap (λ (j : ℕ). set_slots at j us l) (sym (add-zero k))
  slots_append (v ∷ vs) us l k =
      slots_append vs us (set l (at k) v) (suc k)
      ∙ ap (λ (j : ℕ). set_slots at j us (set_slots at (suc k) vs (set l (at k) v))) (omega arith)

  -- slots that stand one behind the other, from element b on
  pub slots_run : (vs l : List A) (k b : ℕ) → ((e : ℕ) → e < length vs → at (k + e) ≡ b + e)
      → set_slots at k vs l ≡ sets l b vs
  unfolding set_slots
  slots_run [] l k b h = refl
  slots_run (v ∷ vs) l k b h =
      let first : at k ≡ b = ap at (sym (add-zero k)) ∙ h 0 (omega arith) ∙ add-zero b in
      slots_run vs (set l (at k) v) (suc k) (suc b)
      (λ e m. let p : suc k + e ≡ k + suc e = omega arith in ap at p ∙ h (suc e) (omega arith) ∙ omega arith)
      ∙ ap (λ (j : ℕ). sets (set l j v) (suc b) vs) first

  module _ (d : A) where
    pub slots_other : (vs l : List A) (k j : ℕ) → ((e : ℕ) → e < length vs → j ≢ at (k + e))
        → get_or (set_slots at k vs l) j d ≡ get_or l j d
    unfolding set_slots
    slots_other [] l k j h = refl
    slots_other (v ∷ vs) l k j h =
        slots_other vs (set l (at k) v) (suc k) j
        (λ e m q. let p : suc k + e ≡ k + suc e = omega arith in h (suc e) (omega arith) (q ∙ ap at p))
        ∙ get_or-set_other l (at k) j v d (λ q. h 0 (omega arith) (q ∙ ap at (sym (add-zero k))))

    -- of a row of w slots, no two in one place, all within the list
    module _ (w : ℕ) (apart : (s t : ℕ) → s < w → t < w → at s ≡ at t → s ≡ t) where
      pub slots_in : (vs l : List A) (k e : ℕ) → ((s : ℕ) → s < w → at s < length l) → k + length vs ≤ w
          → e < length vs → get_or (set_slots at k vs l) (at (k + e)) d ≡ get_or vs e d
      unfolding set_slots
      slots_in [] l k e room fits h = absurd (not-suc-le-zero h)
      slots_in (v ∷ vs) l k zero room fits h =
          ap (λ (j : ℕ). get_or (set_slots at (suc k) vs (set l (at k) v)) (at j) d) (add-zero k)
          ∙ slots_other vs (set l (at k) v) (suc k) (at k)
          (λ e m q. let p : k ≡ suc k + e = apart k (suc k + e) (omega arith) (omega arith) q in omega arith)
          ∙ get_or-set_same l (at k) v d (room k (omega arith))
      slots_in (v ∷ vs) l k (suc e) room fits h =
          ap (λ (j : ℕ). get_or (set_slots at (suc k) vs (set l (at k) v)) (at j) d) (omega arith)
          ∙ slots_in vs (set l (at k) v) (suc k) e (λ s m. rw (length-set l (at k) v) (room s m)) (omega arith)
          (le_of_suc-le-suc h)

-- in rows of one width
pub slots_in_row : {A : Type 0} (w i : ℕ) (vs l : List A) (k : ℕ)
    → set_slots (in_rows w i) k vs l ≡ sets l (w * i + k) vs
slots_in_row w i vs l k = slots_run (in_rows w i) vs l k (w * i + k) (λ e m. omega arith)

-- ---- a store in each row: c values from slot k on

module _ {A : Type 0} (d : A) (at : ℕ → ℕ → ℕ) (k : ℕ) (f : ℕ → List A) (l : List A) where
  pub length-stored : (n : ℕ) → length (stored_at at n k f l) ≡ length l
  unfolding stored_at
  length-stored zero = refl
  length-stored (suc n) = length_slots (at n) (f n) (stored_at at n k f l) k ∙ length-stored n

  -- before the first row, and one row more
  pub stored_none : l ≡ stored_at at 0 k f l
  unfolding stored_at
  stored_none = refl

  pub stored_next : (i : ℕ) {x y : List A} → x ≡ stored_at at i k f l → y ≡ set_slots (at i) k (f i) x
      → y ≡ stored_at at (i + 1) k f l
  unfolding stored_at
  stored_next i e q = q ∙ ap (λ (x : List A). set_slots (at i) k (f i) x) e
      ∙ ap (λ (j : ℕ). stored_at at j k f l) (sym (add-one i))

  -- each of r rows of w slots takes c values
  module _ (r w : ℕ) (places : Addressing r w at) (c : ℕ) (wide : (i : ℕ) → i < r → length (f i) ≡ c)
      (fits : k + c ≤ w) where
    -- a slot that is not among the stored ones
    pub stored_other : (n : ℕ) → n ≤ r → (j e : ℕ) → j < r → e < w → (e < k) ⊎ (k + c ≤ e)
        → get_or (stored_at at n k f l) (at j e) d ≡ get_or l (at j e) d
    unfolding stored_at
    stored_other zero m j e hj he h = refl
    stored_other (suc n) m j e hj he h =
        slots_other (at n) d (f n) (stored_at at n k f l) k (at j e)
        (λ a b q. let s : e ≡ k + a = (places.apart hj he m (omega (arith, wide n m)) q).1 in
        ⊎_elim (λ u. omega arith) (λ u. omega (arith, wide n m)) h)
        ∙ stored_other n (omega arith) j e hj he h

    -- beyond the rows
    pub stored_beyond : (n : ℕ) → n ≤ r → (j : ℕ) → w * r ≤ j → get_or (stored_at at n k f l) j d ≡ get_or l j d
    unfolding stored_at
    stored_beyond zero m j h = refl
    stored_beyond (suc n) m j h =
        slots_other (at n) d (f n) (stored_at at n k f l) k j
        (λ a b q. let s : at n (k + a) < w * r = places.within m (omega (arith, wide n m)) in omega arith)
        ∙ stored_beyond n (omega arith) j h

    -- what a row's turn stored stays
    pub stored_at_lem : (n : ℕ) → n ≤ r → (j e : ℕ) → j < n → e < c → w * r ≤ length l
        → get_or (stored_at at n k f l) (at j (k + e)) d ≡ get_or (f j) e d
    unfolding stored_at
    stored_at_lem zero m j e hj he room = absurd (not-suc-le-zero hj)
    stored_at_lem (suc n) m j e hj he room =
        let s = stored_at at n k f l in
        compared j n
        (λ b.
        slots_other (at n) d (f n) s k (at j (k + e))
        (λ a u q.
        let p : j ≡ n = (places.apart (omega arith) (omega arith) m (omega (arith, wide n m)) q).0 in
        omega arith)
        ∙ stored_at_lem n (omega arith) j e b he room)
        (λ q.
        ap (λ (x : ℕ). get_or (set_slots (at n) k (f n) s) (at x (k + e)) d) q
        ∙ slots_in (at n) d w (λ x y hx hy u. (places.apart m hx m hy u).1) (f n) s k e
        (λ x hx. omega (arith, length-stored n, places.within m hx)) (omega (arith, wide n m))
        (omega (arith, wide n m))
        ∙ ap (λ (x : ℕ). get_or (f x) e d) (sym q))
        (λ b. absurd (omega arith))

    -- ---- what a list holds after a pass over all r rows

    pub stored-rows : w * r ≤ length l → Rows d at r k f (stored_at at r k f l)
    stored-rows room = record { holds = λ i h e b. stored_at_lem r (omega arith) i e h (omega (arith, wide i h)) room }

    -- and during it: other slots, and what stands beyond the rows
    module _ (n : ℕ) (m : n ≤ r) where
      pub rows_kept : (k' c' : ℕ) {g : ℕ → List A} → ((i : ℕ) → i < r → length (g i) ≡ c') → k' + c' ≤ w
          → (k' + c' ≤ k) ⊎ (k + c ≤ k')
          → Rows d at r k' g l → Rows d at r k' g (stored_at at n k f l)
      rows_kept k' c' wide' fits' apart q =
          record {
            holds = λ i h e b.
                stored_other n m i (k' + e) h (omega (arith, wide' i h))
                (⊎_elim (λ u. inl (omega (arith, wide' i h))) (λ u. inr (omega arith)) apart)
                ∙ q.holds i h e b;
          }

      pub part_kept : (b : ℕ) {xs : List A} → w * r ≤ b → Part d b xs l → Part d b xs (stored_at at n k f l)
      part_kept b room q =
          record { holds = λ j h. stored_beyond n m (b + j) (omega arith) ∙ q.holds j h }
