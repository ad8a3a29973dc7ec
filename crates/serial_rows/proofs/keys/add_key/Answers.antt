use Rattle.std.proofs.Common.{ap}
use Rattle.serial_rows.proofs.KeyLemmas.{one_more_key}
use Rattle.serial_rows.proofs.keys.add_key.Goals as goal

pub returns : goal.returns
returns c = λ m are.
    one_more_key m c.args.entry c.entry.inside.key c.args.keys.now c.insert.new.self (ap (λ e. e.key) c.entry.view_is) are c.in_ok-insert.ensures.updates.0
