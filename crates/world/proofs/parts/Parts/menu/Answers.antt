use Rattle.protocol.specs.World.Committed.{nodes as nodes_of}
use Rattle.world_rows.specs.Machine.{menu_in}
use Rattle.world.proofs.parts.Parts.menu.Goals as goal

pub returns : goal.returns
unfolding menu_in
returns c = λ l w is views at.
    let ns = nodes_of l.plan in
    let fresh = c.fresh.ensures ns w.mail w.delivered w.stopped c.args.node is.boxes at in
    let old = c.old.ensures ns w.mail w.delivered w.stopped c.args.node is.boxes at in
    λ i. record {
      now = is.moved i;
      go = c.can.ensures l w is views i;
      hurry = c.can-2.ensures l w is views i;
      fresh = fresh i;
      old = old i;
      stuck = c.stuck.ensures l w is i;
    }
