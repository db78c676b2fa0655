-- `scene_format::read::axes` meets its contract: by whether there are bytes, and by the version. Assumes nothing.
use mathlib.Core.Path.{sym, ap, ◌∙◌}
use Rattle.scene_format.specs.Format.{upper_half}
use Rattle.scene_format.proofs.Forms.{flat-axes, other-axes, no_axes, in_plane, in_space}
use Rattle.scene_format.proofs.read.axes.Goals as goal

pub returns-then-s-eq0 : goal.returns-then-s-eq0
returns-then-s-eq0 c = (sym (no_axes _ c.if-s-eq0.true), in_space)

pub returns-then-byte-eq-FLAT_VERSION : goal.returns-then-byte-eq-FLAT_VERSION
returns-then-byte-eq-FLAT_VERSION c =
    let version = ap upper_half c.byte.ensures.0 in
    (sym (flat-axes _ (sym version ∙ c.if-byte-eq-FLAT_VERSION.true)), in_plane)

pub returns-else-byte-eq-FLAT_VERSION : goal.returns-else-byte-eq-FLAT_VERSION
returns-else-byte-eq-FLAT_VERSION c =
    let version = ap upper_half c.byte.ensures.0 in
    (sym (other-axes _ (λ e. c.if-byte-eq-FLAT_VERSION.false (version ∙ e))), in_space)
