use Rattle.std.proofs.Common.{◌≡◌, ◌++◌, ap, ◌∙◌}
use Rattle.std.specs.Prelude.{is_some}
use Rattle.protocol.specs.Words.{Picked}
use Rattle.world_rows.proofs.Enabling.{move_enabled}
use Rattle.world.proofs.Happening.{has, doing, itself_can}
use Rattle.world.proofs.Keeping.{itself_keeps}
use Rattle.world.proofs.WorldLemmas.{node_moved}
use Rattle.world.proofs.parts.Parts.act.Goals as goal

pub pick-requires-clause-has : goal.pick-requires-clause-has
pick-requires-clause-has c = has c.args.self.now (Picked c.args.node c.args.pick) c.requires.can

pub pick-requires-clause-can : goal.pick-requires-clause-can
pick-requires-clause-can c =
    let h = c.requires.can in
    record {
      loads = h.loads;
      world = h.world;
      stands = h.stands.nodes;
      views = h.sound.views;
      can = itself_can h.loads.plan h.world c.args.node c.args.pick c.requires.alone (ap is_some (doing c.args.self.now (Picked c.args.node c.args.pick) h));
    }

pub returns : goal.returns
returns c = λ l w v is sound e.
    let does = move_enabled l.plan w (Picked c.args.node c.args.pick) v e in
    let moved = c.in_ok-pick.ensures l w v is.nodes does in
    let keeps = itself_keeps l.plan w c.args.node c.args.pick v c.requires.alone does in
    record {
      world = node_moved l w v c.args.self.now c.pick.new.self is keeps moved.stands;
      sent = moved.sent ∙ ap (λ b. b ++ v.sent) c.new-sent.ensures;
    }
