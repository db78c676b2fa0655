-- `iisph_codes::refusal_code` meets its contract: by the two refusals. Assumes nothing.
use Rattle.iisph_codes.specs.Kernel.{refusal_code}
use Rattle.iisph_codes.proofs.refusal_code.Goals as goal

pub returns-in-Distance : goal.returns-in-Distance
unfolding refusal_code
returns-in-Distance c = rw c.in-Distance.is

pub returns-in-Radius : goal.returns-in-Radius
unfolding refusal_code
returns-in-Radius c = rw c.in-Radius.is
