-- A client that goes or hurries moves the world.
use Rattle.std.proofs.Common.{◌≡◌, Some, refl, sym, subst, ◌∙◌}
use Rattle.std.proofs.lemmas.Result.{on_ok_weaker}
use Rattle.protocol.specs.Words.{Client}
use Rattle.protocol.specs.Client.Step.Input.{Goes, Hurries}
use Rattle.protocol.specs.World.Events.{pick_moves}
use Rattle.protocol.proofs.TestLemmas.{true_false}
use Rattle.world.proofs.NodesLemmas.{client_does, goes_does}
use Rattle.world.proofs.PickLemmas.{client_not}
use Rattle.world.proofs.nodes.Nodes.pick_client.Goals as goal

pub unreachable-requires : goal.unreachable-requires
unreachable-requires c =
    let q = c.requires.can in
    true_false (sym (client_not q.loads.plan q.world c.args.number c.args.pick c.in_default.not-Go c.in_default.not-Hurry ∙ q.can))

pub returns-in-Go : goal.returns-in-Go
unfolding pick_moves
returns-in-Go c = on_ok_weaker c.go.result (λ f. λ l w v are e.
    let n = c.args.number in
    client_does l w c.args.self.now n Goes v c.go.new.self c.args.out.now c.args.out.now are
    (subst (λ x. pick_moves l.plan w (Client n) x ≡ Some v) c.in-Go.is e)
    (λ t step. goes_does l n w.client t c.go.new.self c.args.out.now c.args.out.now step (f l w.client t are.clients step) refl)) c.go.ensures

pub returns-in-Hurry : goal.returns-in-Hurry
unfolding pick_moves
returns-in-Hurry c = on_ok_weaker c.hurry.result (λ f. λ l w v are e.
    let n = c.args.number in
    client_does l w c.args.self.now n Hurries v c.hurry.new.self c.args.out.now c.hurry.new.out are
    (subst (λ x. pick_moves l.plan w (Client n) x ≡ Some v) c.in-Hurry.is e) (λ t step. f l w.client t are.clients step)) c.hurry.ensures
