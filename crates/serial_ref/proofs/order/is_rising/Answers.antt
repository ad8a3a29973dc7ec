-- Items of which each is earlier than the next rise.
use Rattle.std.proofs.Common.{refl, arith}
use Rattle.serial_ref.proofs.OrderLemmas.{rises_by_steps}
use Rattle.serial_ref.proofs.order.is_rising.Goals as goal

pub returns : goal.returns
returns c = (λ end. rises_by_steps c.args.items.now (λ k d within. c.loop-i.invariant k d (omega arith)), λ rising. refl)
