-- What a run writes with the lists that are lent to it, and what these then are. Definitions only.
use Rattle.std.specs.Prelude.{ℕ, ◌≡◌, List, length, Float}
use Rattle.iisph_rules.specs.Answer.{answers_after, work_after}
use Rattle.iisph_text.specs.Text.{text_with}
use Rattle.iisph_text.specs.Run.{text_room, if_stepped}

-- on the bytes b; the text's length is answered
pub record Prints (b : List ℕ) (answers work : List Float) (n : ℕ) (answers' work' : List Float) : Type 0 where
  pub text : n ≡ length (text_with b (length answers) (length work))
  pub answers_then : answers' ≡ if_stepped b text_room (answers_after b (length answers) (length work) answers) answers
  pub work_then : work' ≡ if_stepped b text_room (work_after b (length answers) (length work) work) work
