use Rattle.std.proofs.Common.{◌≡◌, ◌++◌, false, true, Some, sym, ap, ◌∙◌, subst}
use Rattle.std.specs.Prelude.{slice_get}
use Rattle.protocol.specs.Words.{Deliver, Picked}
use Rattle.protocol.specs.World.Events.{mark, receives}
use Rattle.protocol.specs.World.Committed.{nodes as nodes_of}
use Rattle.protocol.proofs.EventSteps.{IsIn-get}
use Rattle.protocol.proofs.TestLemmas.{true_false}
use Rattle.law_frames.proofs.SendableIsWithinLimits.{sendable_is_within_limits}
use Rattle.menus.specs.Shown.{is_to}
use Rattle.menus.specs.Slots.{has_node, nodes_of as slots_of}
use Rattle.world_rows.proofs.Enabling.{is_delivered, move_enabled}
use Rattle.world.specs.World.{IsMoved}
use Rattle.world.proofs.Happening.{has, move, doing, some_same}
use Rattle.world.proofs.Keeping.{receives_keeps}
use Rattle.world.proofs.NodeSlots.{at_slot, has_slot}
use Rattle.world.proofs.WorldLemmas.{node_moved, envelope_marked}
use Rattle.world.proofs.parts.Parts.deliver.Goals as goal

pub unreachable-requires : goal.unreachable-requires
unreachable-requires c =
    let h = c.requires in
    let e = Picked c.args.node (Deliver c.args.i) in
    let d = is_delivered h.loads.plan h.world c.args.node c.args.i (move c.args.self.now e h) (doing c.args.self.now e h) in
    c.in_default.not-Some d.m
    (c.in_ok-env.ensures (nodes_of h.loads.plan) h.world.mail h.world.delivered h.world.stopped h.stands.boxes ∙ d.there)

pub unreachable-requires-in_default-slot : goal.unreachable-requires-in_default-slot
unreachable-requires-in_default-slot c =
    let h = c.requires in
    let e = Picked c.args.node (Deliver c.args.i) in
    let there = has_slot h.loads h.world c.args.self.now h.stands c.args.node (has c.args.self.now e h) in
    let none : false ≡ true = c.in_default-slot.ensures.there ∙ ap (λ v. has_node v c.args.node) c.slots.ensures ∙ there in
    true_false (sym none)

pub handle-requires-clause-has : goal.handle-requires-clause-has
handle-requires-clause-has c = has c.args.self.now (Picked c.args.node (Deliver c.args.i)) c.requires

pub handle-requires-clause-fits : goal.handle-requires-clause-fits
handle-requires-clause-fits c =
    let h = c.requires in
    let at = sym (c.in_ok-env.ensures (nodes_of h.loads.plan) h.world.mail h.world.delivered h.world.stopped h.stands.boxes) ∙ c.in-Some.is in
    sendable_is_within_limits c.in-Some.env (h.sound.mail c.in-Some.env (IsIn-get h.world.mail c.args.i c.in-Some.env at))

pub deliver-requires-clause-own : goal.deliver-requires-clause-own
deliver-requires-clause-own c =
    let h = c.requires in
    let e = Picked c.args.node (Deliver c.args.i) in
    let d = is_delivered h.loads.plan h.world c.args.node c.args.i (move c.args.self.now e h) (doing c.args.self.now e h) in
    let found = ap (λ v. slice_get (slots_of v) c.in-Some-slot.slot) (sym c.slots.ensures) ∙ c.in-Some-slot.ensures.found in
    record {
      nodes = nodes_of h.loads.plan;
      mail = h.world.mail;
      delivered = h.world.delivered;
      stopped = h.world.stopped;
      stand = h.stands.boxes;
      node = c.args.node;
      there = at_slot h.loads h.world c.args.self.now h.stands c.in-Some-slot.slot c.args.node found;
      own = ap (is_to c.args.node) d.there ∙ d.own;
    }

pub returns : goal.returns
returns c = λ l w v is sound e.
    let d = is_delivered l.plan w c.args.node c.args.i v (move_enabled l.plan w (Picked c.args.node (Deliver c.args.i)) v e) in
    let same = some_same d.m c.in-Some.env
    (sym d.there ∙ sym (c.in_ok-env.ensures (nodes_of l.plan) w.mail w.delivered w.stopped is.boxes) ∙ c.in-Some.is) in
    let handles = ap (receives l.plan w c.args.node) (sym same) ∙ d.handles in
    let moved = c.in_ok-handle.ensures l w d.handled is.nodes handles in
    let keeps = receives_keeps l.plan w c.args.node d.m d.handled d.handles in
    let mid = node_moved l w d.handled c.args.self.now c.handle.new.self is keeps moved.stands in
    let boxes = c.in_ok-deliver.ensures.delivered (nodes_of l.plan) d.handled.world.mail d.handled.world.delivered d.handled.world.stopped mid.boxes in
    let world = envelope_marked l c.args.i d.handled (record c.args.self.now { nodes = c.handle.new.self }) c.deliver.new.self c.in_ok-deliver.ensures.slots mid boxes in
    subst (λ u. IsMoved l u c.handle.new.out (record c.args.self.now { nodes = c.handle.new.self; boxes = c.deliver.new.self })) (sym d.marked)
    (record { world = world; sent = moved.sent ∙ ap (λ b. b ++ d.handled.sent) c.new-sent.ensures })
