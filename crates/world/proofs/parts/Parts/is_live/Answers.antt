use Rattle.std.proofs.Common.{◌≡◌, Bool, true, false, not, None, Some, ap, sym, ◌∙◌, subst}
use Rattle.std.specs.Prelude.{◌&&◌, is_some, slice_get}
use Rattle.std.specs.List.{list_any}
use Rattle.protocol.specs.Words.{same_node}
use Rattle.protocol.specs.World.State.{exists}
use Rattle.protocol.specs.World.Committed.{nodes as nodes_of}
use Rattle.menus.specs.Slots.{has_node, nodes_of as slots_of}
use Rattle.world.proofs.NodeSlots.{at_slot, has_slot}
use Rattle.world.proofs.parts.Parts.is_live.Goals as goal

pub returns-in-None-clause-live : goal.returns-in-None-clause-live
returns-in-None-clause-live c = λ l w is.
    let has = sym c.has.ensures.is ∙ c.if-not-has.false in
    let there = has_slot l w c.args.self.now is c.args.node has in
    let none : false ≡ true = ap is_some (sym c.in-None.is) ∙ c.slot.ensures.there ∙ ap (λ v. has_node v c.args.node) c.slots.ensures ∙ there in
    absurd (cc)

pub returns-in-Some-clause-live : goal.returns-in-Some-clause-live
returns-in-Some-clause-live c = λ l w is.
    let there = sym (c.has.ensures.exists l w is.nodes) ∙ c.if-not-has.false in
    let found = ap (λ v. slice_get (slots_of v) c.in-Some.slot) (sym c.slots.ensures) ∙ c.in-Some.ensures.found in
    let at = at_slot l w c.args.self.now is c.in-Some.slot c.args.node found in
    let stopped = c.is_stopped.ensures (nodes_of l.plan) w.mail w.delivered w.stopped c.args.node is.boxes at in
    ap not stopped ∙ sym (ap (λ t. t && not (list_any (same_node c.args.node) w.stopped)) there)
