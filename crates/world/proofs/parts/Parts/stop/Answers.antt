use Rattle.std.proofs.Common.{◌≡◌, false, true, [], sym, ap, ◌∙◌, subst}
use Rattle.std.specs.Prelude.{slice_get}
use Rattle.protocol.specs.Words.{Picked, Stop}
use Rattle.protocol.specs.World.Committed.{nodes as nodes_of}
use Rattle.protocol.proofs.TestLemmas.{true_false}
use Rattle.menus.specs.Slots.{has_node, nodes_of as slots_of}
use Rattle.world_rows.proofs.Enabling.{move_enabled}
use Rattle.world.specs.World.{IsMoved}
use Rattle.world.proofs.Happening.{has, stop_is}
use Rattle.world.proofs.NodeSlots.{at_slot, has_slot}
use Rattle.world.proofs.WorldLemmas.{node_stopped}
use Rattle.world.proofs.parts.Parts.stop.Goals as goal

pub unreachable-requires : goal.unreachable-requires
unreachable-requires c =
    let h = c.requires in
    let there = has_slot h.loads h.world c.args.self.now h.stands c.args.node (has c.args.self.now (Picked c.args.node Stop) h) in
    let none : false ≡ true = c.in_default.ensures.there ∙ ap (λ v. has_node v c.args.node) c.slots.ensures ∙ there in
    true_false (sym none)

pub returns : goal.returns
returns c = λ l w v is sound e.
    let does = stop_is l.plan w c.args.node v (move_enabled l.plan w (Picked c.args.node Stop) v e) in
    let found = ap (λ u. slice_get (slots_of u) c.in-Some.slot) (sym c.slots.ensures) ∙ c.in-Some.ensures.found in
    let at = at_slot l w c.args.self.now is c.in-Some.slot c.args.node found in
    let boxes = c.stop.ensures.stopped (nodes_of l.plan) w.mail w.delivered w.stopped c.args.node is.boxes at in
    subst (λ u. IsMoved l u c.new.result (record c.args.self.now { boxes = c.stop.new.self })) does
    (record { world = node_stopped l w c.args.node c.args.self.now c.stop.new.self c.stop.ensures.slots is boxes; sent = c.new.ensures })
