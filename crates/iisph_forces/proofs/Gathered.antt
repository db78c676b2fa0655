-- Gathering the forces in the answer list is what the rules say of each force: a contact changes the force that it
-- names and no other, and so do a list of contacts and all fluid particles. By induction on the contacts, over rows
-- that are as long as the offsets say. Assumes nothing.
use Prim.Native.Nat.{ℕ, zero, suc, ◌+◌, ◌*◌, ◌<◌, ◌≤◌}
use mathlib.Core.Path.{◌≡◌, refl, sym, ap, subst, ◌∙◌}
use mathlib.Core.Bool.{Bool, true, false}
use mathlib.Core.List.{List, [], ◌∷◌, Memᴰ, flatten}
use native.Mathlib.Omega.{arith}
use lib.Dec.{eqb}
use lib.Ieee.{Float, nan}
use lib.ListN.{length, get_or}
use lib.Seq.{sets, ext_get_or}
use borrow.Author.Tests.{eqb-true, eq-eqb, ne_eqb}
use Rattle.iisph_rows.specs.Rows.{vector_from}
use Rattle.iisph_rules.specs.Coefficients.{boundary_volume, coefficients}
use Rattle.iisph_rules.specs.Step.{boundary_acceleration, force_from, boundary_force, boundary_answer}
use Rattle.iisph_rules.proofs.Iterations.{chosen}
use Rattle.lists.specs.Lists.{fold, table, choose, sum}
use Rattle.lists.proofs.Lists.{length-table, table_at, table_same, in_table}
use Rattle.lists.proofs.Rows.{sets-cons, sets_whole, sets_inside, length-rows, row_read, row_store}
use Rattle.lists.proofs.Stores.{sets_in}
use Rattle.math.specs.Vector.{Vector, ◌⊞◌}
use Rattle.math.proofs.Vectors.{sum_sized, scaled_sized}
use Rattle.scene_check.specs.Walk.{checked}
use Rattle.scene_check.proofs.Records.{fluid-particle_ok}
use Rattle.scene_format.specs.Bytes.{vector_at}
use Rattle.scene_format.specs.Format.{axes_of}
use Rattle.scene_format.specs.Scene.{Scene, Contact, fluid_size, boundary_size, size_of, particle, boundary}
use Rattle.scene_format.specs.SceneOf.{contact_at, contact_list, fluid_particle_at, force_at, boundary_particle_at}
use Rattle.scene_format.specs.SceneOf.{scene_of}
use Rattle.scene_format.specs.declared.Kind.TheVariants.{Boundary}
use Rattle.std.specs.declared.result.Result.TheVariants.{Ok}
use Rattle.scene_layout.proofs.Locations.{boundary_at}
use Rattle.scene_lengths.specs.Lengths.{fluid_answer_width, kept_answer_width, answer_width}
use Rattle.scene_lengths.specs.Lengths.{boundary_answer_width, answers_needed}
use Rattle.iisph_forces.specs.Forces.{width_at, answer_offset, boundary_with, boundary_initial, gathered, force_gain}
use Rattle.iisph_forces.specs.Forces.{gathered_from, gathered_all}
use Rattle.iisph_forces.proofs.Offsets.{offset_next, offset_more, offset_all, width_kept}

-- ---- rows

-- kept forces are vectors
abbrev pub Fits : ℕ → Scene → (ℕ → Vector) → Type 0
Fits d s F = (j : ℕ) → j < boundary_size s → (boundary s j).keeps_forces ≡ true → length (F j) ≡ d

width_go : (d : ℕ) (t : Bool) (v : Float) (u : Vector) → (t ≡ true → length u ≡ d)
    → length (v ∷ choose t u []) ≡ answer_width d Boundary (choose t 1 0)
unfolding answer_width choose
width_go d true v u q = omega (arith, q refl)
width_go d false v u q = refl

module _ (d : ℕ) (s : Scene) (F : ℕ → Vector) (fits : Fits d s F) where
  pub with_length : (j : ℕ) → j < boundary_size s → length (boundary_with s F j) ≡ width_at d s j
  unfolding boundary_with boundary_answer_width
  with_length j h = width_go d (boundary s j).keeps_forces (boundary_volume (boundary s j)) (F j) (fits j h)

  -- all of them
  pub with_all : length (flatten (table (boundary_size s) (boundary_with s F)))
      ≡ sum (table (boundary_size s) (width_at d s))
  with_all = length-rows (boundary_size s) (boundary_with s F) (width_at d s) with_length

-- a row with a kept force
kept_row : (s : Scene) (F : ℕ → Vector) (j : ℕ) → (boundary s j).keeps_forces ≡ true
    → boundary_with s F j ≡ boundary_volume (boundary s j) ∷ F j
unfolding boundary_with choose
kept_row s F j e = rw e

-- a row depends on a kept force only
same_go : (t : Bool) (v : Float) (u w : Vector) → (t ≡ true → u ≡ w)
    → ◌≡◌ {A = List Float} (v ∷ choose t u []) (v ∷ choose t w [])
unfolding choose
same_go true v u w q = ap (λ (x : Vector). v ∷ x) (q refl)
same_go false v u w q = refl

row_same : (s : Scene) (F G : ℕ → Vector) (j : ℕ) → ((boundary s j).keeps_forces ≡ true → F j ≡ G j)
    → boundary_with s F j ≡ boundary_with s G j
unfolding boundary_with
row_same s F G j h = same_go (boundary s j).keeps_forces _ (F j) (G j) h

-- ---- the answer list `old` with these forces

abbrev pub held : ℕ → Scene → List Float → (ℕ → Vector) → List Float
held d s old F = sets old (fluid_answer_width d * fluid_size s) (flatten (table (boundary_size s) (boundary_with s F)))

pub held_same : (d : ℕ) (s : Scene) (old : List Float) (F G : ℕ → Vector)
    → ((j : ℕ) → j < boundary_size s → (boundary s j).keeps_forces ≡ true → F j ≡ G j)
    → held d s old F ≡ held d s old G
held_same d s old F G h =
    ap (λ (rows : List (List Float)). sets old (fluid_answer_width d * fluid_size s) (flatten rows))
    (table_same (boundary_size s) (boundary_with s F) (boundary_with s G) (λ j l. row_same s F G j (h j l)))

-- what a gain makes of the forces: the one on particle t grows
abbrev pub grown : ℕ → Vector → (ℕ → Vector) → ℕ → Vector
grown t gain F j = choose (eqb t j) (F j ⊞ gain) (F j)

grown_here : (t : ℕ) (gain : Vector) (F : ℕ → Vector) → grown t gain F t ≡ F t ⊞ gain
unfolding choose
grown_here t gain F = rw (eq-eqb t t refl)

grown_other : (t : ℕ) (gain : Vector) (F : ℕ → Vector) (j : ℕ) → (j ≡ t → ⊥) → grown t gain F j ≡ F j
unfolding choose
grown_other t gain F j h = rw (ne_eqb t j (λ e. h (sym e)))

not_both : false ≡ true → ⊥
unfolding choose
not_both e = let z : ◌≡◌ {A = ℕ} 1 0 = ap (λ (t : Bool). choose t 0 1) e in omega arith

module _ (d : ℕ) (s : Scene) (old : List Float) (room : answer_offset d s (boundary_size s) ≤ length old) where
  module _ (F : ℕ → Vector) (fits : Fits d s F) (t : ℕ) (below : t < boundary_size s) where
    grown_fits : (gain : Vector) → length gain ≡ d → Fits d s (grown t gain F)
    grown_fits gain sized j h k =
        chosen (λ (u : Vector). length u ≡ d) (eqb t j) _ _ (λ _. sum_sized (F j) gain (fits j h k) sized)
        (λ _. fits j h k)

    module _ (kept : (boundary s t).keeps_forces ≡ true) where
      -- the row of t ends within the rows, and these within the list
      row_room : (answer_offset d s t + kept_answer_width d ≤ answer_offset d s (boundary_size s))
          × (fluid_answer_width d * fluid_size s + length (flatten (table (boundary_size s) (boundary_with s F)))
          ≡ answer_offset d s (boundary_size s))
      unfolding answer_offset
      row_room = (
        omega (arith, offset_next d s t, width_kept d s t kept, offset_more d s (suc t) (boundary_size s) below),
        omega (arith, with_all d s F fits),
      )

      held_force : vector_from d (held d s old F) (answer_offset d s t + 1) ≡ F t
      unfolding answer_offset
      held_force =
          let at = fluid_answer_width d * fluid_size s in
          let before = sum (table t (width_at d s)) in
          let rows = flatten (table (boundary_size s) (boundary_with s F)) in
          let size = length-table d (λ e. get_or (held d s old F) (at + before + 1 + e) nan) in
          let is_row = kept_row s F t kept in
          ext_get_or nan _ _ (size ∙ sym (fits t below kept))
          (λ e l.
          let here : e < d = omega (arith, size) in
          let offset : at + before + 1 + e ≡ at + (before + suc e) = omega arith in
          table_at d (λ e. get_or (held d s old F) (at + before + 1 + e) nan) e nan here
          ∙ ap (λ (k : ℕ). get_or (held d s old F) k nan) offset
          ∙ sets_in nan rows old at (before + suc e) (omega (arith, room, row_room.1)) (omega (arith, row_room))
          ∙ row_read (boundary_size s) (boundary_with s F) (width_at d s) (with_length d s F fits) t (suc e) nan below
          (omega (arith, with_length d s F fits t below, width_kept d s t kept))
          ∙ ap (λ (row : List Float). get_or row (suc e) nan) is_row)

      held_grown : (gain : Vector) → length gain ≡ d
          → sets (held d s old F) (answer_offset d s t + 1) (F t ⊞ gain) ≡ held d s old (grown t gain F)
      unfolding answer_offset
      held_grown gain sized =
          let at = fluid_answer_width d * fluid_size s in
          let before = sum (table t (width_at d s)) in
          let rows = flatten (table (boundary_size s) (boundary_with s F)) in
          let volume = boundary_volume (boundary s t) in
          let force = F t ⊞ gain in
          let size : length force ≡ d = sum_sized (F t) gain (fits t below kept) sized in
          let offset : at + before + 1 ≡ at + (before + 1) = omega arith in
          let is_row : boundary_with s (grown t gain F) t ≡ sets (boundary_with s F t) 1 force =
          kept_row s (grown t gain F) t kept
          ∙ ap (λ (u : Vector). volume ∷ u) (grown_here t gain F)
          ∙ sym
          (ap (λ (row : List Float). sets row 1 force) (kept_row s F t kept)
          ∙ sets-cons volume (F t) 0 force
          ∙ ap (λ (u : Vector). volume ∷ u) (sets_whole (F t) force (size ∙ sym (fits t below kept)))) in
          ap (λ (k : ℕ). sets (held d s old F) k force) offset
          ∙ sets_inside force rows old at (before + 1) (omega (arith, size, row_room))
          ∙ ap (λ (r : List Float). sets old at r)
          (row_store (boundary_size s) (boundary_with s F) (boundary_with s (grown t gain F)) (width_at d s)
          (with_length d s F fits) t 1 force below
          (omega (arith, size, with_length d s F fits t below, width_kept d s t kept)) is_row
          (λ j l h. row_same s (grown t gain F) F j (λ _. grown_other t gain F j h)))

  -- ---- contacts

  module _ (F : ℕ → Vector) (fits : Fits d s F) (gain : Contact → Vector) (c : Contact)
      (below : c.target < boundary_size s)
      (sized : length (gain c) ≡ d) where
    gather_go : (t : Bool) → (boundary s c.target).keeps_forces ≡ t
        → let k = answer_offset d s c.target + 1 in
        choose t (sets (held d s old F) k (vector_from d (held d s old F) k ⊞ gain c)) (held d s old F)
        ≡ held d s old (grown c.target (gain c) F)
    unfolding choose
    gather_go true e =
        ap (λ (u : Vector). sets (held d s old F) (answer_offset d s c.target + 1) (u ⊞ gain c))
        (held_force F fits c.target below e)
        ∙ held_grown F fits c.target below e (gain c) sized
    gather_go false e =
        held_same d s old F (grown c.target (gain c) F)
        (λ j h k.
        sym
        (grown_other c.target (gain c) F j
        (λ q. not_both (sym (ap (λ (i : ℕ). (boundary s i).keeps_forces) q ∙ e) ∙ k))))

    gather_one : gathered d s gain (held d s old F) c ≡ held d s old (grown c.target (gain c) F)
    unfolding gathered
    gather_one = gather_go (boundary s c.target).keeps_forces refl

  module _ (gain : Contact → Vector) where
    -- what a list of contacts makes of the forces
    abbrev grown_by : List Contact → (ℕ → Vector) → ℕ → Vector
    grown_by cs F j = fold (λ f c. choose (eqb c.target j) (f ⊞ gain c) f) (F j) cs

    gather_list : (cs : List Contact)
        → ((c : Contact) → Memᴰ c cs → (c.target < boundary_size s) × (length (gain c) ≡ d))
        → (F : ℕ → Vector) → Fits d s F
        → (fold (gathered d s gain) (held d s old F) cs ≡ held d s old (grown_by cs F)) × Fits d s (grown_by cs F)
    unfolding fold
    gather_list [] good F fits = (refl, fits)
    gather_list (c ∷ cs) good F fits =
        let g = good c (Memᴰ.head refl) in
        let fits' = grown_fits F fits c.target g.0 (gain c) g.1 in
        let next = gather_list cs (λ c m. good c (Memᴰ.tail m)) (grown c.target (gain c) F) fits' in
        let one = gather_one F fits gain c g.0 g.1 in
        (ap (λ (l : List Float). fold (gathered d s gain) l cs) one ∙ next.0, next.1)

  -- ---- fluid particles, whose boundary contacts name boundary particles and have gradients that are vectors

  module _ (ps : List Float)
      (good : (i : ℕ) → i < fluid_size s → (c : Contact) → Memᴰ c (particle s i).boundary_contacts
      → (c.target < boundary_size s) × (length c.gradient ≡ d)) where
    gain_sized : (i : ℕ) (c : Contact) → length c.gradient ≡ d → length (force_gain s ps i c) ≡ d
    unfolding boundary_acceleration
    gain_sized i c h = scaled_sized _ _ (scaled_sized _ _ h)

    gather_from : (i : ℕ) → i < fluid_size s → (F : ℕ → Vector) → Fits d s F
        → (gathered_from d s ps (held d s old F) i ≡ held d s old (λ j. force_from s (coefficients s) ps j (F j) i))
        × Fits d s (λ j. force_from s (coefficients s) ps j (F j) i)
    unfolding gathered_from force_from
    gather_from i h F fits =
        gather_list (force_gain s ps i) (particle s i).boundary_contacts
        (λ c m. ((good i h c m).0, gain_sized i c (good i h c m).1)) F fits

    gather_all : (is : List ℕ) → ((i : ℕ) → Memᴰ i is → i < fluid_size s) → (F : ℕ → Vector) → Fits d s F
        → fold (gathered_from d s ps) (held d s old F) is
        ≡ held d s old (λ j. fold (force_from s (coefficients s) ps j) (F j) is)
    unfolding fold
    gather_all [] h F fits = refl
    gather_all (i ∷ is) h F fits =
        let one = gather_from i (h i (Memᴰ.head refl)) F fits in
        ap (λ (l : List Float). fold (gathered_from d s ps) l is) one.0
        ∙ gather_all is (λ k m. h k (Memᴰ.tail m)) (λ j. force_from s (coefficients s) ps j (F j) i) one.1

-- ---- an accepted scene

module _ (b : List ℕ) {e : ℕ} (q : checked b ≡ Ok e) where
  contacts_good : (i : ℕ) → i < fluid_size (scene_of b) → (c : Contact)
      → Memᴰ c (particle (scene_of b) i).boundary_contacts
      → (c.target < boundary_size (scene_of b)) × (length c.gradient ≡ axes_of b)
  unfolding fluid_particle_at contact_list contact_at vector_at size_of
  contacts_good i h c m =
      let ok = fluid-particle_ok b q i h in
      let here = in_table _ _ (subst (λ p. Memᴰ c p.boundary_contacts) ok.particle m) in (
        rw here.value (ok.targets Boundary here.index here.below).below,
        rw here.value (length-table (axes_of b) _),
      )

  force_go : (k at : ℕ) → eqb k 1 ≡ true → length (force_at k b at) ≡ axes_of b
  unfolding force_at vector_at
  force_go zero at e = absurd (omega (arith, eqb-true 0 1 e))
  force_go (suc k) at e = length-table (axes_of b) _

  pub initial_fits : {d : ℕ} → d ≡ axes_of b → Fits d (scene_of b) (λ j. (boundary (scene_of b) j).force)
  unfolding boundary_particle_at
  initial_fits axes j h k =
      let e = boundary_at b j h in
      ap (λ p. length p.force) e ∙ force_go _ _ (sym (ap (λ p. p.keeps_forces) e) ∙ k) ∙ sym axes

  pub all_gathered : (ps old : List Float) {d n : ℕ} → d ≡ axes_of b → n ≡ fluid_size (scene_of b)
      → answers_needed (scene_of b) ≤ length old
      → let s = scene_of b in
      let at = fluid_answer_width d * n in
      gathered_all d s ps n (sets old at (flatten (table (boundary_size s) (boundary_initial s))))
      ≡ sets old at (flatten (table (boundary_size s) (boundary_answer s (coefficients s) ps)))
  unfolding gathered_all boundary_answer boundary_force boundary_with
  all_gathered ps old axes size room =
      let s = scene_of b in
      let all = gather_all (axes_of b) s old (omega (arith, room, offset_all b refl)) ps contacts_good
      (table (fluid_size s) (λ i. i))
      (λ i m. let r = in_table (fluid_size s) (λ i. i) m in rw r.value r.below)
      (λ j. (boundary s j).force) (initial_fits refl) in
      rw (axes, size) all
