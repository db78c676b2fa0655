-- Steps of a walk through the bytes of a packed scene, and its single fields: each is tested present (refusal 1) and
-- then by its own rule (2, 3, 4, 6) (FORMAT 2.2). A step goes from an offset to the next one or refuses, and nothing
-- follows a refusal. Definitions only.
use Rattle.std.specs.Prelude.{ℕ, zero, suc, ◌+◌, Bool, not, List, leb, ltb, eqb, length}
use Rattle.lists.specs.Lists.{choose}
use Rattle.scene_format.specs.Bytes.{byte_at, exponent_at, double_width, non_finite_exponent}
use Rattle.scene_format.specs.Format.{most_models, most_particles, upper_half, lower_half, version_known, count_width}
use Rattle.scene_format.specs.Format.{particles_at}
use Rattle.scene_format.specs.declared.Kind.{Kind}
use Rattle.scene_format.specs.Refusals.{Walk}
use Rattle.std.specs.declared.result.Result.TheVariants.{Ok, Err}
use Rattle.scene_fields.specs.declared.fields.Half.{Half}
use Rattle.scene_fields.specs.declared.fields.Half.TheVariants.{Version, Rule, ModelCount}
use Rattle.scene_format.specs.declared.Refusal.{Refusal}
use Rattle.scene_format.specs.declared.Refusal.TheVariants.{MissingField, UnknownForm, TooManyModels, TooManyParticles}
use Rattle.scene_format.specs.declared.Refusal.TheVariants.{TrailingBytes, NotFinite}

-- ---- steps

infixl 60 ◌▹◌
-- a step from where a walk has come to
unfoldable pub ◌▹◌ : Walk → (ℕ → Walk) → Walk
Ok at ▹ f = f at
Err r ▹ f = Err r

-- n times
unfoldable pub times : ℕ → (ℕ → Walk) → ℕ → Walk
times zero f at = Ok at
times (suc n) f at = f at ▹ times n f

-- refused if a test holds, else a walk goes on
unfoldable pub refused_if : Bool → Refusal → Walk → Walk
refused_if b r w = choose b (Err r) w

-- a field of k bytes: present, then its own rule
unfoldable pub field : List ℕ → ℕ → (ℕ → Walk) → ℕ → Walk
field b k rule at = refused_if (not (leb (at + k) (length b))) (MissingField at) (rule at)

-- ---- single fields

-- k bytes with no rule of their own
unfoldable pub plain : List ℕ → ℕ → ℕ → Walk
plain b k = field b k (λ at. Ok (at + k))

-- a double is finite
unfoldable pub double : List ℕ → ℕ → Walk
double b =
    field b double_width
    (λ at. refused_if (eqb (exponent_at b at) non_finite_exponent) (NotFinite at) (Ok (at + double_width)))

-- the count of a model of a kind
unfoldable pub count : Kind → List ℕ → ℕ → Walk
count κ b =
    field b count_width
    (λ at. refused_if (ltb most_particles (particles_at κ b at)) (TooManyParticles at) (Ok (at + count_width)))

-- half a byte x at an offset, and how the walk goes on
unfoldable pub half_byte : Half → ℕ → ℕ → Walk → Walk
half_byte Version x at onward = refused_if (not (version_known x)) (UnknownForm at) onward
half_byte (Rule most) x at onward = refused_if (ltb most x) (UnknownForm at) onward
half_byte ModelCount x at onward = refused_if (ltb most_models x) (TooManyModels at) onward

-- a byte of two halves, the upper one first
unfoldable pub halves : List ℕ → Half → Half → ℕ → Walk
halves b upper lower =
    field b 1
    (λ at. half_byte upper (upper_half (byte_at b at)) at
    (half_byte lower (lower_half (byte_at b at)) at (Ok (at + 1))))

-- nothing follows
unfoldable pub ended : List ℕ → ℕ → Walk
ended b at = refused_if (ltb at (length b)) (TrailingBytes at) (Ok at)
