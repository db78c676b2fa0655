-- `iisph_print::print_text` meets its contract: the buffer has room for every text. Assumes nothing.
use Prim.Native.Nat.{ℕ, ◌≤◌}
use mathlib.Core.Path.{sym}
use native.Mathlib.Omega.{arith}
use lib.ListN.{length, replicate, length-replicate}
use lib.Seq.{length-take-le}
use Rattle.iisph_text.specs.Run.{text_room}
use Rattle.iisph_text.proofs.Ran.{text_in_front}
use Rattle.iisph_print.proofs.print_text.Goals as goal

long : (n : ℕ) → n ≤ length (replicate {A = ℕ} n 0)
long n = omega (arith, length-replicate {A = ℕ} n 0)

pub slice_bounds-write_all-end : goal.slice_bounds-write_all-end
slice_bounds-write_all-end g c =
    let t = c.text-n.ensures in
    sym (length-take-le _ _ t.within)

pub returns : goal.returns
returns g c = (text_in_front c.args.scene.now _ (long text_room)
    c.text-n.ensures).0
