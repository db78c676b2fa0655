-- `iisph_words::text::Text::put_kind` meets its contract: each branch writes the word of its kind. Assumes nothing.
use Rattle.iisph_words.specs.Words.{kind_word}
use Rattle.iisph_words.proofs.text.Text.put_kind.Goals as goal

pub put_word-requires : goal.put_word-requires
unfolding kind_word
put_word-requires c =
    rw c.in-Fluid.is at c.requires

pub put_word-requires-in-Boundary : goal.put_word-requires-in-Boundary
unfolding kind_word
put_word-requires-in-Boundary c =
    rw c.in-Boundary.is at c.requires

pub returns-in-Fluid : goal.returns-in-Fluid
unfolding kind_word
returns-in-Fluid c =
    rw c.in-Fluid.is c.put_word.ensures

pub returns-in-Boundary : goal.returns-in-Boundary
unfolding kind_word
returns-in-Boundary c =
    rw c.in-Boundary.is c.put_word-in-Boundary.ensures
