-- `iisph_lines::lines::put_particle` meets its contract: its parts one after the other. Assumes nothing.
use Rattle.iisph_words.proofs.Texts.{◌then◌}
use Rattle.iisph_lines.specs.Lines.{particle_line}
use Rattle.iisph_lines.proofs.lines.put_particle.Goals as goal

pub returns : goal.returns
unfolding particle_line
returns c =
    c.put_kind.ensures then c.put_pair.ensures then c.put_doubles.ensures then c.put_byte.ensures
