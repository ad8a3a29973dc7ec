-- What a node can do by itself, by its kind.
use Rattle.std.proofs.Common.{ap, sym, ◌∙◌}
use Rattle.world_rows.specs.Machine.{can_pick}
use Rattle.world.proofs.PickLemmas.{replica_not}
use Rattle.world.proofs.nodes.Nodes.can_pick.Goals as goal

pub returns-in-Client : goal.returns-in-Client
returns-in-Client c = λ l w are views. c.can_client.ensures l w are ∙ ap (λ n. can_pick l.plan w n c.args.pick) (sym c.in-Client.is)

pub returns-in-Replica : goal.returns-in-Replica
returns-in-Replica c = λ l w are views. replica_not l.plan w c.in-Replica.field-0 c.args.pick ∙ ap (λ n. can_pick l.plan w n c.args.pick) (sym c.in-Replica.is)

pub returns-in-Warden : goal.returns-in-Warden
returns-in-Warden c = λ l w are views. c.can_warden.ensures l w are views ∙ ap (λ n. can_pick l.plan w n c.args.pick) (sym c.in-Warden.is)
