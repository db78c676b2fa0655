-- How far the line between two neighbours k / u of the exact weight lies from it: at most 1.5 / u ^ 2. In each piece
-- the weight is a sum of squares and cubes, and their lines lie above them by multiples of f * g. Assumes nothing.
use mathlib.Core.Path.{◌≡◌, ap, subst}
use Prim.Native.Nat.{ℕ, ◌+◌, ◌-◌, ◌*◌, ◌≤◌, ◌<◌}
use native.Mathlib.Nat.{mul-le-mul_left, mul-le-mul_right}
use native.Mathlib.Decide.{dec_le}
use native.Mathlib.Omega.{arith}
use Rattle.rounding.specs.Exact.{Near}
use Rattle.cubic_spline.specs.Exact.{exact_weight}
use Rattle.cubic_spline.proofs.Errors.{four_times}
use Rattle.cubic_spline.proofs.Exact.{near_weight_whole, far_weight_whole}

-- f + g times what lies f parts of f + g on from a to b
abbrev pub line : ℕ → ℕ → ℕ → ℕ → ℕ
line a b f g = a * g + b * f

abbrev square : ℕ → ℕ
square n = n * n

abbrev cube : ℕ → ℕ
cube n = n * n * n

square_line : (k f g : ℕ) → (f + g) * line (square k) (square (k + 1)) f g ≡ square ((f + g) * k + f) + f * g
square_line k f g = omega arith

cube_line : (k f g : ℕ) → (f + g) * (f + g) * line (cube k) (cube (k + 1)) f g
    ≡ cube ((f + g) * k + f) + f * g * (3 * ((f + g) * k) + (f + g) + f)
cube_line k f g = omega arith

-- the line of what is a square and a cube is the line of each
mixed_line : (u f g a b s s' c c' : ℕ) → f + g ≡ u → a + 6 * (s * u) ≡ cube u + 6 * c
    → b + 6 * (s' * u) ≡ cube u + 6 * c' → line a b f g + 6 * (line s s' f g * u) ≡ cube u * u + 6 * line c c' f g
mixed_line u f g a b s s' c c' h A B =
    omega (arith, ap (λ z. z * g) A, ap (λ z. z * f) B, ap (λ z. cube u * z) h)

-- m, s and c are lines of the weight, of squares and of cubes; n is the place between, where the weight is e
near_sum : (u m s c n e w v : ℕ) → m + 6 * (s * u) ≡ cube u * u + 6 * c → u * s ≡ square n + w
    → u * u * c ≡ cube n + v → e + 6 * (n * n * (u * u)) ≡ cube (u * u) + 6 * cube n
    → m * (u * u) + 6 * (w * (u * u)) ≡ e + 6 * v
near_sum u m s c n e w v M S C E = omega (arith, ap (λ z. z * (u * u)) M, ap (λ z. z * (u * u)) S)

far_sum : (i f g : ℕ) → line (2 * cube (i + 1)) (2 * cube i) f g * ((f + g) * (f + g))
    ≡ 2 * cube ((f + g) * i + g) + 2 * (f * g * (3 * ((f + g) * i) + (f + g) + g))
far_sum i f g = omega (arith, cube_line i g f)

-- ---- f parts of u on from k, in steps of u parts

module _ (u f g : ℕ) (h : f + g ≡ u) where
  abbrev chord : ℕ → ℕ
  chord k = line (exact_weight u k) (exact_weight u (k + 1)) f g * (u * u)

  abbrev curve : ℕ → ℕ
  curve k = exact_weight (u * u) (u * k + f)

  near_chord : (k : ℕ) → (k + 1) * 2 ≤ u
      → chord k + 6 * (f * g * (u * u)) ≡ curve k + 6 * (f * g * (3 * (u * k) + u + f))
  near_chord k l =
      let m : u * ((k + 1) * 2) ≤ u * u = mul-le-mul_left u l in
      near_sum u _ _ _ (u * k + f) (curve k) (f * g) (f * g * (3 * (u * k) + u + f))
      (mixed_line u f g _ _ (square k) (square (k + 1)) (cube k) (cube (k + 1)) h
      (near_weight_whole u k (omega arith)) (near_weight_whole u (k + 1) l))
      (subst (λ z. z * line (square k) (square (k + 1)) f g ≡ square (z * k + f) + f * g) h (square_line k f g))
      (subst (λ z. z * z * line (cube k) (cube (k + 1)) f g ≡ cube (z * k + f) + f * g * (3 * (z * k) + z + f)) h
      (cube_line k f g))
      (near_weight_whole (u * u) (u * k + f) (omega arith))

  -- i is how many steps are left behind k + 1
  far_chord : (k i : ℕ) → i + 1 + k ≡ u → u ≤ k * 2 → chord k ≡ curve k + 2 * (f * g * (3 * (u * i) + u + g))
  far_chord k i s l =
      let m : u * u ≤ u * (k * 2) = mul-le-mul_left u l in
      let t : u * (i + 1 + k) ≡ u * u = ap (λ z. u * z) s in
      let p : u * i + g + (u * k + f) ≡ u * u = omega arith in
      let A : exact_weight u k ≡ 2 * cube (i + 1) = far_weight_whole u k (i + 1) l s in
      let B : exact_weight u (k + 1) ≡ 2 * cube i = far_weight_whole u (k + 1) i (omega arith) (omega arith) in
      let C : curve k ≡ 2 * cube (u * i + g) = far_weight_whole (u * u) (u * k + f) (u * i + g) (omega arith) p in
      rw (A, B, C)
      (subst (λ z. line (2 * cube (i + 1)) (2 * cube i) f g * (z * z)
      ≡ 2 * cube (z * i + g) + 2 * (f * g * (3 * (z * i) + z + g))) h (far_sum i f g))

  -- f * g is at most a quarter of u ^ 2
  quarter : 4 * (f * g) * (u * u) ≤ u * u * (u * u)
  quarter = mul-le-mul_right (u * u) (subst (λ z. 4 * (f * g) ≤ z * z) h (four_times f g))

  -- within 3 / 2 of u ^ 4, which stands for 1.5 / u ^ 2
  abbrev ChordNear : ℕ → Type 0
  ChordNear k = Near (2 * chord k) (2 * curve k) (3 * (u * u * (u * u)))

  near_error : (k : ℕ) → (k + 1) * 2 ≤ u → ChordNear k
  near_error k l =
      let m : u * ((k + 1) * 2) ≤ u * u = mul-le-mul_left u l in
      let v : f * g * (2 * (3 * (u * k) + u + f)) ≤ f * g * (3 * (u * u)) = mul-le-mul_left (f * g) (omega arith) in
      omega (arith, near_chord k l, quarter)

  far_error : (k i : ℕ) → i + 1 + k ≡ u → u ≤ k * 2 → ChordNear k
  far_error k i s l =
      let m : u * ((i + 1) * 2) ≤ u * u = mul-le-mul_left u (omega arith) in
      let v : f * g * (2 * (3 * (u * i) + u + g)) ≤ f * g * (3 * (u * u)) = mul-le-mul_left (f * g) (omega arith) in
      omega (arith, far_chord k i s l, quarter)

  -- 1 / 2 is one of the neighbours, so that no line goes across it
  pub chord_near : (j : ℕ) → u ≡ j * 2 → (k : ℕ) → k < u → Near (2 * chord k) (2 * curve k) (3 * (u * u * (u * u)))
  chord_near j e k l =
      elim (dec_le ((k + 1) * 2) u) [
        | yes a ↦ near_error k a
        | no a ↦ far_error k (u - (k + 1)) (omega arith) (omega arith)
      ]
