-- An envelope comes.
use Rattle.client_tests.proofs.ClientLemmas.{came, not_so}
use Rattle.client_tests.proofs.client.Client.handle.Goals as goal

pub invariant_of-self-2 : goal.invariant_of-self-2
invariant_of-self-2 c = λ whole.
    came c.self.inside.code c.self.inside.coordinator c.handle.new.self c.args.env.now.from c.args.env.now.body _ _
    (c.self.invariant (not_so _ (λ b. c.in_ok-handle.ensures.broken b))) c.in_ok-handle.ensures.turn
