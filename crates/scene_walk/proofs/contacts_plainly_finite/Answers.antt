-- `scene_walk::contacts_plainly_finite` meets its contract: the closure is the test, at each number. Assumes nothing.
use Rattle.std.proofs.Common.{◌+◌, ◌*◌, rules, tests}
use Rattle.scene_format.specs.Format.{name_width}
use Rattle.scene_walk.specs.Plainly.{doubles_plainly_finite, contact_bytes, contacts_plainly_finite}
use Rattle.scene_walk.proofs.Plainly.{every_tested}
use Rattle.scene_walk.proofs.contacts_plainly_finite.Goals as goal

pub returns : goal.returns
unfolding contacts_plainly_finite
returns c =
    let a = c.args in
    every_tested (λ k. doubles_plainly_finite a.s.now a.d (a.from + contact_bytes a.d * k + name_width)) _
    (λ k b d h. search (rules, tests)) c.all.ensures.ran
