use Rattle.std.proofs.Common.{◌≡◌, ◌++◌, sym, ap, ◌∙◌}
use Rattle.std.specs.Prelude.{slice_get}
use Rattle.protocol.specs.Words.{Ran}
use Rattle.protocol.specs.Client.Step.Input.{Runs}
use Rattle.world_rows.proofs.Enabling.{move_enabled}
use Rattle.world.proofs.Happening.{has}
use Rattle.world.proofs.Keeping.{client_keeps}
use Rattle.world.proofs.WorldLemmas.{node_moved}
use Rattle.world.proofs.parts.Parts.ran.Goals as goal

pub ran-requires-clause-has : goal.ran-requires-clause-has
ran-requires-clause-has c = has c.args.self.now (Ran c.args.client) c.requires.can

pub returns : goal.returns
returns c = λ l w v is sound e.
    let does = move_enabled l.plan w (Ran c.args.client) v e in
    let code = ap (λ codes. slice_get codes c.args.done.now.job.prog) (sym is.codes) ∙ c.requires.code in
    let moved = c.in_ok-ran.ensures l w v is.nodes does code in
    let keeps = client_keeps l.plan w c.args.client Runs v (λ q. cc) does in
    record {
      world = node_moved l w v c.args.self.now c.ran.new.self is keeps moved.stands;
      sent = moved.sent ∙ ap (λ b. b ++ v.sent) c.new-sent.ensures;
    }
