-- `iisph_words::text::Text::put_ending_word` meets its contract: each branch writes the word of its number.
-- Assumes nothing.
use borrow.Author.Tests.{ne_eqb}
use Rattle.lists.specs.Lists.{choose}
use Rattle.iisph_words.specs.Words.{ending_word}
use Rattle.iisph_words.proofs.text.Text.put_ending_word.Goals as goal

pub put_word-requires : goal.put_word-requires
unfolding ending_word choose
put_word-requires c =
    rw c.in-0.is at c.requires

pub put_word-requires-in-1 : goal.put_word-requires-in-1
unfolding ending_word choose
put_word-requires-in-1 c =
    rw c.in-1.is at c.requires

pub put_word-requires-in_default : goal.put_word-requires-in_default
unfolding ending_word choose
put_word-requires-in_default c =
    rw (ne_eqb _ _ c.in_default.in_default-own.rest.0.1, ne_eqb _ _ c.in_default.in_default-own.rest.1) at c.requires

pub returns-in-0 : goal.returns-in-0
unfolding ending_word choose
returns-in-0 c =
    rw c.in-0.is c.put_word.ensures

pub returns-in-1 : goal.returns-in-1
unfolding ending_word choose
returns-in-1 c =
    rw c.in-1.is c.put_word-in-1.ensures

pub returns-in_default : goal.returns-in_default
unfolding ending_word choose
returns-in_default c =
    rw (ne_eqb _ _ c.in_default.in_default-own.rest.0.1, ne_eqb _ _ c.in_default.in_default-own.rest.1)
    c.put_word-in_default.ensures
