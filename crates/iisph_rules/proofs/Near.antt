-- How far the numbers of fluid particle i look: its coefficients one link, a next pressure two links further than the
-- old ones, its velocity and position one link further than the pressures. Every sum goes over the contacts of i, so it
-- is the same where they are and where what they name is; the rest is congruence. Assumes nothing.
use Prim.Native.Nat.{ℕ, suc}
use mathlib.Core.Path.{◌≡◌, refl, sym, ap, ◌∙◌}
use mathlib.Core.List.{List, [], Memᴰ}
use lib.ListN.{get_or, get_or-map}
use lib.Ieee.{Float}
use Rattle.math.specs.Vector.{Vector}
use Rattle.lists.specs.Lists.{fold, table}
use Rattle.lists.proofs.Lists.{table_same_at, fold_same}
use Rattle.scene_format.specs.Scene.{Scene, FluidParticle, Contact, fluid_size, particle, boundary}
use Rattle.scene_format.specs.declared.Kind.{Kind}
use Rattle.scene_format.specs.declared.Kind.TheVariants.{Boundary}
use Rattle.iisph_rules.specs.Coefficients.{clock_of, dt, over_contacts, particle_mass, fluid_mass, boundary_mass}
use Rattle.iisph_rules.specs.Coefficients.{velocity_change, advected_velocity, Neighbour, fluid_neighbour}
use Rattle.iisph_rules.specs.Coefficients.{boundary_neighbour, over_neighbours, density, delta, predicted_density}
use Rattle.iisph_rules.specs.Coefficients.{dii_factor, dii, dji_factor, aii, coefficients_of, coefficients}
use Rattle.iisph_rules.specs.Coefficients.{coefficient, no_coefficients}
use Rattle.iisph_rules.specs.Iteration.{pressure, dij_sum, dij_pjl, dij_pjls, dij, pressure_sum, no_pressure}
use Rattle.iisph_rules.specs.Iteration.{next_pressure, next_pressures, iteration}
use Rattle.iisph_rules.specs.Step.{pressure_share, boundary_acceleration, final_velocity_change, new_velocity}
use Rattle.iisph_rules.specs.Step.{new_position}
use Rattle.iisph_rules.specs.Locality.{contacts_with, Names, Within}
use Rattle.iisph_rules.specs.Locality.Within.{itself, onward}

-- ---- two scenes that are the same around a particle

-- fluid particle j is the same in both, and so is every boundary particle that it names
pub record SameIn (s s' : Scene) (j : ℕ) : Type 0 where
  pub own : particle s j ≡ particle s' j
  pub named : (l : ℕ) → Names Boundary s j l → boundary s l ≡ boundary s' l

-- every fluid particle within n links of i is
abbrev pub Near : Scene → Scene → ℕ → ℕ → Type 0
Near s s' n i = (j : ℕ) → Within s n i j → SameIn s s' j

-- a contact names its target
names : {κ : Kind} {s : Scene} {i : ℕ} (c : Contact) → Memᴰ c (contacts_with κ (particle s i))
    → Names κ s i c.target
names c m = record { contact = c; listed = m; target = refl }

further : {s : Scene} {n i j : ℕ} → Within s n i j → Within s (suc n) i j
further itself = itself
further (onward m w) = onward m (further w)

pub closer : {s s' : Scene} {n i : ℕ} → Near s s' (suc n) i → Near s s' n i
closer h j w = h j (further w)

pub own : {s s' : Scene} {n i : ℕ} → Near s s' n i → particle s i ≡ particle s' i
own {i = i} h = (h i itself).own

-- two scenes with the same header and as many fluid particles
pub record SameSize (s s' : Scene) : Type 0 where
  pub headers : s.header ≡ s'.header
  pub sizes : fluid_size s ≡ fluid_size s'

-- pressures that look n links far, where n is at least 1
pub record Looks (s s' : Scene) (n : ℕ) (ps ps' : List Float) : Type 0 where
  pub one : (i : ℕ) → Near s s' n i → Near s s' 1 i
  pub known : (i : ℕ) → Near s s' n i → pressure ps i ≡ pressure ps' i

module _ {s s' : Scene} (alike : SameSize s s') where
  dt_same : dt s ≡ dt s'
  unfolding clock_of
  dt_same = cc

  -- entry i of two tables over all fluid particles
  pub entry : {A : Type 0} (f g : ℕ → A) (i : ℕ) (d : A) → f i ≡ g i
      → get_or (table (fluid_size s) f) i d ≡ get_or (table (fluid_size s') g) i d
  entry f g i d q = table_same_at f g (fluid_size s) i d q ∙ ap (λ n. get_or (table n g) i d) alike.sizes

  -- ---- sums over the contacts of i

  around_fluid : {A : Type 0} {f f' : A → Contact → A} {a a' : A} (n i : ℕ)
      → Near s s' (suc n) i
      → ((c : Contact) → Near s s' n c.target → (x : A) → f x c ≡ f' x c)
      → a ≡ a'
      → fold f a (particle s i).fluid_contacts ≡ fold f' a' (particle s' i).fluid_contacts
  around_fluid {f' = f'} {a' = a'} n i h hf q =
      fold_same (particle s i).fluid_contacts (λ c m. hf c (λ j w. h j (onward (names c m) w))) q
      ∙ ap (λ p. fold f' a' p.fluid_contacts) (own h)

  around_boundary : {A : Type 0} {g g' : A → Contact → A} {a a' : A} (n i : ℕ)
      → Near s s' n i
      → ((c : Contact) → boundary s c.target ≡ boundary s' c.target → (x : A) → g x c ≡ g' x c)
      → a ≡ a'
      → fold g a (particle s i).boundary_contacts ≡ fold g' a' (particle s' i).boundary_contacts
  around_boundary {g' = g'} {a' = a'} n i h hg q =
      fold_same (particle s i).boundary_contacts (λ c m. hg c ((h i itself).named c.target (names c m))) q
      ∙ ap (λ p. fold g' a' p.boundary_contacts) (own h)

  around : {A : Type 0} {f f' g g' : A → Contact → A} {a a' : A} (n i : ℕ)
      → Near s s' (suc n) i
      → ((c : Contact) → Near s s' n c.target → (x : A) → f x c ≡ f' x c)
      → ((c : Contact) → boundary s c.target ≡ boundary s' c.target → (x : A) → g x c ≡ g' x c)
      → a ≡ a'
      → over_contacts f g a (particle s i) ≡ over_contacts f' g' a' (particle s' i)
  unfolding over_contacts
  around n i h hf hg q = around_boundary (suc n) i h hg (around_fluid n i h hf q)

  -- ---- coefficients

  fluid_mass_same : (n : ℕ) (c : Contact) → Near s s' n c.target → fluid_mass s c ≡ fluid_mass s' c
  unfolding fluid_mass
  fluid_mass_same n c h = ap particle_mass (own h)

  boundary_mass_same : {r r' : Float} (c : Contact) → r ≡ r' → boundary s c.target ≡ boundary s' c.target
      → boundary_mass s r c ≡ boundary_mass s' r' c
  unfolding boundary_mass
  boundary_mass_same c q w = cc

  velocity_change_same : {p p' : FluidParticle} → p ≡ p' → velocity_change s p ≡ velocity_change s' p'
  unfolding velocity_change
  velocity_change_same q = cc dt_same

  advected_velocity_same : {p p' : FluidParticle} → p ≡ p' → advected_velocity s p ≡ advected_velocity s' p'
  unfolding advected_velocity
  advected_velocity_same q = cc (velocity_change_same q)

  fluid_neighbour_same : (c : Contact) → Near s s' 0 c.target → fluid_neighbour s c ≡ fluid_neighbour s' c
  unfolding fluid_neighbour
  fluid_neighbour_same c h = cc (fluid_mass_same 0 c h, advected_velocity_same (own h))

  boundary_neighbour_same : {r r' : Float} (c : Contact) → r ≡ r' → boundary s c.target ≡ boundary s' c.target
      → boundary_neighbour s r c ≡ boundary_neighbour s' r' c
  unfolding boundary_neighbour
  boundary_neighbour_same c q w = cc (boundary_mass_same c q w)

  -- a sum over what the contacts name, by steps that are the same
  neighbours_around : {A : Type 0} {f f' : Neighbour → A → Contact → A} {a a' : A} (i : ℕ)
      → Near s s' 1 i
      → ((j : Neighbour) (x : A) (c : Contact) → f j x c ≡ f' j x c)
      → a ≡ a'
      → over_neighbours s (particle s i) f a ≡ over_neighbours s' (particle s' i) f' a'
  unfolding over_neighbours
  neighbours_around {f = f} i h same q =
      around 0 i h
      (λ c k x. ap (λ j. f j x c) (fluid_neighbour_same c k) ∙ same _ x c)
      (λ c k x. ap (λ j. f j x c) (boundary_neighbour_same c (ap (λ p. p.density0) (own h)) k) ∙ same _ x c)
      q

  density_same : (i : ℕ) → Near s s' 1 i → density s (particle s i) ≡ density s' (particle s' i)
  unfolding density
  density_same i h = neighbours_around i h (λ j x c. refl) refl

  delta_same : (i : ℕ) → Near s s' 1 i → delta s (particle s i) ≡ delta s' (particle s' i)
  unfolding delta
  delta_same i h = neighbours_around i h (λ j x c. cc (advected_velocity_same (own h))) refl

  dii_factor_same : {r r' : Float} → r ≡ r' → dii_factor s r ≡ dii_factor s' r'
  unfolding dii_factor
  dii_factor_same q = cc dt_same

  dii_same : (i : ℕ) {r r' : Float} → r ≡ r' → Near s s' 1 i → dii s (particle s i) r ≡ dii s' (particle s' i) r'
  unfolding dii
  dii_same i q h = neighbours_around i h (λ j x c. cc (dii_factor_same q)) (cc)

  dji_factor_same : {p p' : FluidParticle} {r r' : Float} → p ≡ p' → r ≡ r' → dji_factor s p r ≡ dji_factor s' p' r'
  unfolding dji_factor
  dji_factor_same q q' = cc dt_same

  aii_same : (i : ℕ) {r r' : Float} {d d' : Vector} → r ≡ r' → d ≡ d' → Near s s' 1 i
      → aii s (particle s i) r d ≡ aii s' (particle s' i) r' d'
  unfolding aii
  aii_same i q q' h = neighbours_around i h (λ j x c. cc (dji_factor_same (own h) q)) refl

  coefficients_of_same : (i : ℕ) → Near s s' 1 i → coefficients_of s (particle s i) ≡ coefficients_of s' (particle s' i)
  unfolding coefficients_of predicted_density
  coefficients_of_same i h =
      let r = density_same i h in
      let d = dii_same i r h in
      cc (delta_same i h, aii_same i r d h, dt_same)

  coefficient_same : (i : ℕ) → Near s s' 1 i → coefficient (coefficients s) i ≡ coefficient (coefficients s') i
  unfolding coefficients
  coefficient_same i h = entry _ _ i no_coefficients (coefficients_of_same i h)

  -- ---- an iteration, from pressures that look n links far

  module _ {n : ℕ} {ps ps' : List Float} (look : Looks s s' n ps ps') where
    dij_sum_same : (i : ℕ) → Near s s' (suc n) i
        → dij_sum s (coefficients s) ps (particle s i) ≡ dij_sum s' (coefficients s') ps' (particle s' i)
    unfolding dij_sum
    dij_sum_same i h =
        around_fluid n i h
        (λ c k x. cc (fluid_mass_same n c k, look.known c.target k, coefficient_same c.target (look.one _ k)))
        (cc)

    dij_same : (i : ℕ) → Near s s' (suc n) i
        → dij (dij_pjls s (coefficients s) ps) i ≡ dij (dij_pjls s' (coefficients s') ps') i
    unfolding dij_pjls dij_pjl
    dij_same i h = entry _ _ i [] (cc (dij_sum_same i h, dt_same))

    pressure_sum_same : (i : ℕ) → Near s s' (suc (suc n)) i
        → pressure_sum s (coefficients s) ps (dij_pjls s (coefficients s) ps) i
        ≡ pressure_sum s' (coefficients s') ps' (dij_pjls s' (coefficients s') ps') i
    unfolding pressure_sum
    pressure_sum_same i h =
        let o = own h in
        let near = closer (closer h) in
        let e = dji_factor_same o (ap (λ k. k.density) (coefficient_same i (look.one i near))) in
        let own-pressure = look.known i near in
        let d = dij_same i (closer h) in
        around (suc n) i h
        (λ c k x.
        let close = closer k in
        cc (
          fluid_mass_same _ c k,
          look.known c.target close,
          coefficient_same c.target (look.one _ close),
          dij_same c.target k,
        ))
        (λ c w x. cc (boundary_mass_same c (ap (λ p. p.density0) o) w))
        refl

    next_pressure_same : (i : ℕ) → Near s s' (suc (suc n)) i
        → next_pressure s (coefficients s) ps (dij_pjls s (coefficients s) ps) i
        ≡ next_pressure s' (coefficients s') ps' (dij_pjls s' (coefficients s') ps') i
    unfolding next_pressure
    next_pressure_same i h =
        let near = closer (closer h) in
        cc (own h, coefficient_same i (look.one i near), look.known i near, pressure_sum_same i h)

    pub iteration_same : (i : ℕ) → Near s s' (suc (suc n)) i
        → pressure (iteration s (coefficients s) ps).pressures i
        ≡ pressure (iteration s' (coefficients s') ps').pressures i
    unfolding iteration next_pressures
    iteration_same i h =
        get_or-map (λ x. x.pressure) (next_pressures s (coefficients s) ps) i no_pressure
        ∙ ap (λ x. x.pressure) (entry _ _ i no_pressure (next_pressure_same i h))
        ∙ sym (get_or-map (λ x. x.pressure) (next_pressures s' (coefficients s') ps') i no_pressure)

    -- ---- the last part of the step, from these pressures

    share_same : (i : ℕ) → Near s s' n i → pressure_share (coefficients s) ps i ≡ pressure_share (coefficients s') ps' i
    unfolding pressure_share
    share_same i h = cc (coefficient_same i (look.one i h), look.known i h)

    acceleration_same : (i : ℕ) → Near s s' n i → (c : Contact) → boundary s c.target ≡ boundary s' c.target
        → boundary_acceleration s (coefficients s) ps i c ≡ boundary_acceleration s' (coefficients s') ps' i c
    unfolding boundary_acceleration
    acceleration_same i h c w =
        cc (
          coefficient_same i (look.one i h),
          look.known i h,
          boundary_mass_same c (ap (λ p. p.density0) (own h)) w,
        )

    change_same : (i : ℕ) → Near s s' (suc n) i
        → final_velocity_change s (coefficients s) ps i ≡ final_velocity_change s' (coefficients s') ps' i
    unfolding final_velocity_change
    change_same i h =
        let near = closer h in
        around n i h
        (λ c k x. cc (fluid_mass_same n c k, share_same i near, share_same c.target k, dt_same))
        (λ c w x. cc (acceleration_same i near c w, dt_same))
        (velocity_change_same (own h))

    pub velocity_same : (i : ℕ) → Near s s' (suc n) i
        → new_velocity s (coefficients s) ps i ≡ new_velocity s' (coefficients s') ps' i
    unfolding new_velocity
    velocity_same i h = cc (own h, change_same i h)

    pub position_same : (i : ℕ) → Near s s' (suc n) i
        → new_position s (coefficients s) ps i ≡ new_position s' (coefficients s') ps' i
    unfolding new_position
    position_same i h = cc (own h, velocity_same i h, dt_same)
