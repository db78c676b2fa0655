-- `scene_index::index::fill_model` meets its contract: by the entry, and a part that is filled with the head has stored
-- copies of it. Assumes nothing.
use Rattle.scene_index.proofs.Indexes.{heads_filled}
use Rattle.scene_index.proofs.index.fill_model.Goals as goal

pub returns-in-Head : goal.returns-in-Head
returns-in-Head c =
    let a = c.args in
    rw c.in-Head.is (heads_filled a.kind a.scene.now a.head c.requires.n_value.0 _ _ c.requires.n_value.1
    (c.fill.ensures.after (λ y e. e)))
