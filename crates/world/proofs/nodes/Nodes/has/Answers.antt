-- The nodes that are there are those of the plan.
use Rattle.std.proofs.Common.{ap, sym, ◌∙◌}
use Rattle.protocol.specs.Words.{Client, Replica, Warden}
use Rattle.protocol.specs.World.State.{exists}
use Rattle.world.specs.Nodes.{has_node}
use Rattle.world.specs.NodeJobs.{has_is}
use Rattle.world.proofs.nodes.Nodes.has.Goals as goal

pub returns-in-Client-clause-is : goal.returns-in-Client-clause-is
returns-in-Client-clause-is c = c.has.ensures ∙ ap (has_node c.args.self.now) (sym c.in-Client.is)

pub returns-in-Client-clause-exists : goal.returns-in-Client-clause-exists
returns-in-Client-clause-exists c = λ l w are.
    c.has.ensures ∙ has_is l w c.args.self.now (Client c.in-Client.number) are ∙ ap (exists l.plan) (sym c.in-Client.is)

pub returns-in-Replica-clause-is : goal.returns-in-Replica-clause-is
returns-in-Replica-clause-is c = c.has-in-Replica.ensures ∙ ap (has_node c.args.self.now) (sym c.in-Replica.is)

pub returns-in-Replica-clause-exists : goal.returns-in-Replica-clause-exists
returns-in-Replica-clause-exists c = λ l w are.
    c.has-in-Replica.ensures ∙ has_is l w c.args.self.now (Replica c.in-Replica.number) are ∙ ap (exists l.plan) (sym c.in-Replica.is)

pub returns-in-Warden-clause-is : goal.returns-in-Warden-clause-is
returns-in-Warden-clause-is c = c.has-in-Warden.ensures ∙ ap (has_node c.args.self.now) (sym c.in-Warden.is)

pub returns-in-Warden-clause-exists : goal.returns-in-Warden-clause-exists
returns-in-Warden-clause-exists c = λ l w are.
    c.has-in-Warden.ensures ∙ has_is l w c.args.self.now (Warden c.in-Warden.number) are ∙ ap (exists l.plan) (sym c.in-Warden.is)
