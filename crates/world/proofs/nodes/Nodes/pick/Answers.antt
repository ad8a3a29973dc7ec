-- A node does what is picked, by its kind.
use Rattle.std.proofs.Common.{◌≡◌, Some, sym, subst, ◌∙◌}
use Rattle.std.proofs.lemmas.Result.{on_ok_weaker}
use Rattle.protocol.specs.World.Events.{pick_moves}
use Rattle.protocol.proofs.TestLemmas.{true_false}
use Rattle.world.specs.Nodes.{CanPick}
use Rattle.world.proofs.PickLemmas.{replica_not}
use Rattle.world.proofs.nodes.Nodes.pick.Goals as goal

pub pick_client-requires-clause-can : goal.pick_client-requires-clause-can
pick_client-requires-clause-can c = subst (λ n. CanPick c.args.self.now n c.args.pick) c.in-Client.is c.requires.can

pub pick_warden-requires-clause-can : goal.pick_warden-requires-clause-can
pick_warden-requires-clause-can c = subst (λ n. CanPick c.args.self.now n c.args.pick) c.in-Warden.is c.requires.can

pub unreachable-requires : goal.unreachable-requires
unreachable-requires c =
    let q = subst (λ n. CanPick c.args.self.now n c.args.pick) c.in-Replica.is c.requires.can in
    true_false (sym (replica_not q.loads.plan q.world c.in-Replica.field-0 c.args.pick ∙ q.can))

pub returns-in-Client : goal.returns-in-Client
returns-in-Client c = on_ok_weaker c.pick_client.result (λ f. λ l w v are e.
    f l w v are (subst (λ n. pick_moves l.plan w n c.args.pick ≡ Some v) c.in-Client.is e)) c.pick_client.ensures

pub returns-in-Warden : goal.returns-in-Warden
returns-in-Warden c = on_ok_weaker c.pick_warden.result (λ f. λ l w v are e.
    f l w v are (subst (λ n. pick_moves l.plan w n c.args.pick ≡ Some v) c.in-Warden.is e)) c.pick_warden.ensures
