-- An attempt begins.
use Rattle.std.proofs.Common.{◌∙◌, sym}
use Rattle.client_tests.proofs.ClientLemmas.{not_so, went}
use Rattle.client_tests.proofs.client.Client.go.Goals as goal

pub invariant_of-self-2 : goal.invariant_of-self-2
invariant_of-self-2 c = λ whole.
    went c.self.inside.code c.self.inside.coordinator c.go.new.self (c.self.invariant (not_so _ (λ b. c.in_ok-go.ensures.broken b)))
    (λ g k s. sym c.if-not-can_go.false ∙ c.can_go.ensures g k s) c.in_ok-go.ensures.stands
