-- Doubles that their first bytes alone tell to be finite: what a walk through contacts looks at before it goes from
-- field to field. Scaffolding: no promise rests on it. Definitions only.
use Rattle.std.specs.Prelude.{ℕ, zero, suc, ◌+◌, ◌*◌, Bool, true, ◌&&◌, List}
use Rattle.scene_format.specs.Bytes.{double_width, plainly_finite}
use Rattle.scene_format.specs.Format.{name_width}

-- a test holds of every number below n
unfoldable pub every : ℕ → (ℕ → Bool) → Bool
every zero test = true
every (suc n) test = every n test && test n

-- n doubles from an offset on
unfoldable pub doubles_plainly_finite : List ℕ → ℕ → ℕ → Bool
doubles_plainly_finite b n at = every n (λ k. plainly_finite b (at + double_width * k))

-- the bytes of a contact of d doubles
abbrev pub contact_bytes : ℕ → ℕ
contact_bytes d = name_width + double_width * d

-- n contacts of d doubles each, from an offset on
unfoldable pub contacts_plainly_finite : List ℕ → ℕ → ℕ → ℕ → Bool
contacts_plainly_finite b d n at = every n (λ k. doubles_plainly_finite b d (at + contact_bytes d * k + name_width))
