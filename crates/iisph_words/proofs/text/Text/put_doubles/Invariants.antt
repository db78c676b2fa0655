-- `iisph_words::text::Text::put_doubles` meets its contract. The loop's invariant: the doubles so far are written.
-- Assumes nothing.
use Rattle.iisph_words.specs.Texts.{Adds}
use Rattle.iisph_words.specs.Words.{doubles_text}
use Rattle.iisph_words.proofs.text.Text.put_doubles.Given as goal

abbrev pub invariant-loop-x : goal.invariant-loop-x
invariant-loop-x l = Adds l.initial.self (doubles_text l.xs l.k l.x-index) l.self
