-- `iisph_print::print_from` meets its contract: what was read is the front of the list. Assumes nothing.
use Prim.Native.Nat.{ℕ, suc, ◌≤◌}
use mathlib.Core.Path.{◌≡◌, ◌∙◌}
use native.Mathlib.Omega.{arith}
use lib.ListN.{length, take, length-replicate}
use lib.Seq.{length-take-le}
use Rattle.std.proofs.lemmas.Result.{IfOk-weaker}
use Rattle.iisph_text.specs.Text.{most_bytes}
use Rattle.iisph_print.specs.Printed.{FromInput}
use Rattle.iisph_print.proofs.print_from.Goals as goal

pub returns : goal.returns
returns g c =
    let list = c.read_full.new.list in
    let got = c.in_ok-got.got in
    let room : length list ≡ suc most_bytes = c.read_full.auto.list ∙ length-replicate {A = ℕ} (suc most_bytes) 0 in
    let within : got ≤ length list = c.in_ok-got.ensures.within in
    record {
      written = IfOk-weaker c.print_text.result _ FromInput
          (λ n is. record { input = list; room = room; came = got; within = within; is = is }) c.print_text.ensures;
      left = (take got list, omega (arith, length-take-le got list within), c.in_ok-got.ensures.came);
    }
