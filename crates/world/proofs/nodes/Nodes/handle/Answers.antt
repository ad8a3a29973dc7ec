-- A node that handles an envelope moves the world.
use Rattle.std.proofs.Common.{◌≡◌, Some, subst}
use Rattle.std.proofs.lemmas.Result.{on_ok_weaker}
use Rattle.protocol.specs.Client.Step.Input.{Comes}
use Rattle.protocol.specs.Warden.State.{WardenTurn}
use Rattle.protocol.specs.Warden.Step.{warden_step}
use Rattle.protocol.specs.Warden.Step.WardenInput.{Hears}
use Rattle.protocol.specs.World.Events.{receives}
use Rattle.world.specs.Wardens.{AreTurned}
use Rattle.world.proofs.Results.{on_ok_given, on_ok_at}
use Rattle.world.proofs.NodesLemmas.{client_does, replica_does, some_same, warden_does}
use Rattle.world.proofs.nodes.Nodes.handle.Goals as goal

pub returns-in-Client : goal.returns-in-Client
returns-in-Client c = on_ok_weaker c.handle.result (λ f. λ l w v are e.
    let n = c.in-Client.number in
    let m = c.args.env.now in
    client_does l w c.args.self.now n (Comes m.from m.body) v c.handle.new.self c.args.out.now c.handle.new.out are
    (subst (λ x. receives l.plan w x m ≡ Some v) c.in-Client.is e) (λ t step. f l w.client t are.clients step)) c.handle.ensures

pub returns-in-Replica : goal.returns-in-Replica
returns-in-Replica c = on_ok_given c.handle-in-Replica.result _ (λ a q l w v are e.
    let n = c.in-Replica.number in
    let m = c.args.env.now in
    let done = c.handle-in-Replica.ensures in
    replica_does l w c.args.self.now n m v c.handle-in-Replica.new.self c.args.out.now c.handle-in-Replica.new.out are
    (subst (λ x. receives l.plan w x m ≡ Some v) c.in-Replica.is e)
    (on_ok_at c.handle-in-Replica.result _ a done.stands q l.plan w.replica are.replicas)
    (on_ok_at c.handle-in-Replica.result _ a done.says q l.plan w.replica are.replicas))

pub returns-in-Warden : goal.returns-in-Warden
unfolding warden_step
returns-in-Warden c = on_ok_weaker c.hear.result (λ f. λ l w v are e.
    let k = c.in-Warden.number in
    let m = c.args.env.now in
    warden_does l w c.args.self.now k (Hears m.from m.body) v c.hear.new.self c.args.out.now c.hear.new.out are
    (subst (λ x. receives l.plan w x m ≡ Some v) c.in-Warden.is e)
    (λ t step. subst (λ (u : WardenTurn). AreTurned l.plan w.warden k u c.hear.new.self c.args.out.now c.hear.new.out) (some_same _ t step)
    (f l.plan w.warden are.wardens))) c.hear.ensures
