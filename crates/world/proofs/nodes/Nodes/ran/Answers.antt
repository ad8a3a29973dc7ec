-- A client that takes the run of its job moves the world.
use Rattle.std.proofs.lemmas.Result.{on_ok_weaker}
use Rattle.protocol.specs.Client.Step.Input.{Runs}
use Rattle.world.proofs.NodesLemmas.{client_does}
use Rattle.world.proofs.nodes.Nodes.ran.Goals as goal

pub returns : goal.returns
returns c = on_ok_weaker c.ran.result (λ f. λ l w v are e named.
    client_does l w c.args.self.now c.args.client Runs v c.ran.new.self c.args.out.now c.ran.new.out are e
    (λ t step. f l w.client t are.clients step named)) c.ran.ensures
