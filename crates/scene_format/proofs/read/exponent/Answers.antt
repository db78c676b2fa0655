-- `scene_format::read::exponent` meets its contract: the exponent stands in the first two bytes. Assumes nothing.
use Prim.Native.Nat.{ℕ, ◌/◌, ◌%◌}
use mathlib.Core.Path.{◌≡◌, ap, ◌∙◌}
use native.Mathlib.Omega.{arith}
use Rattle.scene_format.specs.Bytes.{be16_at, exponent_modulus}
use Rattle.scene_format.proofs.Exponents.{front_modulus, exponent_front}
use Rattle.scene_format.proofs.read.exponent.Goals as goal

pub returns : goal.returns
returns c =
    let e : _ ≡ be16_at c.args.s.now c.args.at = c.be16.ensures.0 in
    ap (λ (x : ℕ). x / front_modulus % exponent_modulus) e
    ∙ exponent_front _ _ (λ i. omega (arith, c.shared_slice_known-1.given i))
