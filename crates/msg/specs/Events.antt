-- What an event is about.
use Rattle.morty_base.specs.declared.names.NodeId.{NodeId}
use Rattle.morty_base.specs.declared.names.NodeId.TheVariants.{Client}
use Rattle.msg.specs.declared.Event.{Event}
use Rattle.msg.specs.declared.Event.TheVariants.{Picked, Ran}

-- the node that moves
abbrev pub node_of : Event → NodeId
node_of (Picked node pick) = node
node_of (Ran c) = Client c
