-- It is a client that has begun nothing.
use Rattle.std.proofs.Common.{refl}
use Rattle.client_tests.proofs.ClientLemmas.{started}
use Rattle.client_tests.proofs.client.Client.new.Goals as goal

pub invariant_of-result : goal.invariant_of-result
invariant_of-result c = λ whole.
    started c.in_ok-code.code c.args.prog.now c.in_ok-coordinator.coordinator (record { client = c.args.number; rules = c.rules.result; txns = c.in_ok-txns.txns })
    _ c.in_ok-code.ensures c.in_ok-txns.ensures refl c.in_ok-coordinator.ensures
