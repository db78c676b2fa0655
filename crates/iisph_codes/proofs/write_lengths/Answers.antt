-- `iisph_codes::write_lengths` meets its contract: two stores, in the order of the definition. Assumes nothing.
use mathlib.Core.Path.{refl}
use Rattle.iisph_codes.proofs.write_lengths.Goals as goal

pub returns : goal.returns
returns c = (refl, refl)
