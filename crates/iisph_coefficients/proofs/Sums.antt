-- The sums of the coefficients over contacts of one kind, as a loop makes them: a turn takes in one contact more. From
-- the law of a fold over a list of contacts, for both kinds and d axes; each over variables for the results of the
-- code's calls, w for the width of a contact. Assumes nothing.
use Prim.Native.Nat.{ℕ, ◌+◌, ◌*◌}
use mathlib.Core.Path.{◌≡◌}
use mathlib.Core.List.{List}
use lib.Ieee.{Float}
use Rattle.iisph_rules.specs.Coefficients.{Neighbour}
use Rattle.math.specs.Real.{◌⊕◌, ◌⊗◌}
use Rattle.math.specs.Vector.{Vector, ◌⊞◌, ◌⊟◌, ◌⊡◌, ◌·◌}
use Rattle.scene_format.specs.Bytes.{double_at, vector_at}
use Rattle.scene_format.specs.Format.{contact_width, weight_offset, gradient_offset, starts_of}
use Rattle.scene_format.specs.Scene.{Contact}
use Rattle.scene_format.specs.SceneOf.{contact_at, scene_of}
use Rattle.scene_format.specs.declared.Kind.{Kind}
use Rattle.scene_index.specs.declared.contacts.ContactList.{ContactList}
use Rattle.scene_index.proofs.ContactLists.{fold_next}
use Rattle.iisph_coefficients.specs.Neighbours.{mass_of, velocity_of, neighbour_of, weighed, approached, pushed}
use Rattle.iisph_coefficients.specs.Neighbours.{returned, summed}

-- f takes what a contact names
summed_next : {A : Type 0} (κ : Kind) (d : ℕ) (b : List ℕ) (list : ContactList) (f : Neighbour → A → Contact → A)
    (a : A) (k : ℕ) {w : ℕ} {x y : A}
    → w ≡ contact_width d
    → let c = contact_at d (starts_of κ b) b (list.at + w * k) in
    x ≡ summed κ d b list f a k
    → y ≡ f (neighbour_of κ (scene_of b) list.density0 c) x c
    → y ≡ summed κ d b list f a (k + 1)
summed_next κ d b list f a k we e q =
    fold_next (λ sum c. f (neighbour_of κ (scene_of b) list.density0 c) sum c) a κ d b list.at k we e q

-- contact k of the list has the mass m
module _ (κ : Kind) (d : ℕ) (b : List ℕ) (list : ContactList) (k : ℕ) {w : ℕ} (we : w ≡ contact_width d) {m : Float}
    (me : m ≡ mass_of κ (scene_of b) list.density0
    (contact_at d (starts_of κ b) b (list.at + w * k))) where
  pub weighed_next : (a : Float) {x y : Float} → x ≡ summed κ d b list weighed a k
      → y ≡ double_at b (list.at + w * k + weight_offset)
      → x ⊕ m ⊗ y ≡ summed κ d b list weighed a (k + 1)
  unfolding contact_at
  weighed_next a xe ye = summed_next κ d b list weighed a k we xe (rw (me, ye))

  -- and the gradient g
  module _ {g : Vector} (ge : g ≡ vector_at d b (list.at + w * k + gradient_offset)) where
    pub approached_next : (v : Vector) (a : Float) {u s : Vector} {x r : Float}
        → x ≡ summed κ d b list (approached v) a k
        → u ≡ velocity_of κ (scene_of b) (contact_at d (starts_of κ b) b (list.at + w * k))
        → s ≡ v ⊟ u → r ≡ s · g
        → x ⊕ m ⊗ r ≡ summed κ d b list (approached v) a (k + 1)
    unfolding contact_at
    approached_next v a xe ue se re =
        summed_next κ d b list (approached v) a k we xe (rw (re, se, ue, ge, me))

    pub pushed_next : (factor : Float) (a : Vector) {x s y : Vector} → x ≡ summed κ d b list (pushed factor) a k
        → s ≡ g ⊡ (m ⊗ factor) → y ≡ x ⊞ s
        → y ≡ summed κ d b list (pushed factor) a (k + 1)
    unfolding contact_at
    pushed_next factor a xe se ye = summed_next κ d b list (pushed factor) a k we xe (rw (ye, se, ge, me))

    pub returned_next : (u : Vector) (factor a : Float) {s t : Vector} {x r : Float}
        → x ≡ summed κ d b list (returned u factor) a k
        → s ≡ g ⊡ factor → t ≡ u ⊟ s → r ≡ t · g
        → x ⊕ m ⊗ r ≡ summed κ d b list (returned u factor) a (k + 1)
    unfolding contact_at
    returned_next u factor a xe se te re =
        summed_next κ d b list (returned u factor) a k we xe (rw (re, te, se, ge, me))
