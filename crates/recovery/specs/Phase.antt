-- What a phase says of its view.
use Rattle.std.specs.Prelude.{ℕ, List, [], Option, Some, None}
use Rattle.protocol.specs.Warden.State.{Proposal}
use Rattle.recovery.specs.declared.round.Phase.{Phase}
use Rattle.recovery.specs.declared.round.Phase.TheVariants.{Asking, Proposed}

-- the proposal, once the choice is fixed
abbrev pub proposal_in : Phase → Option Proposal
proposal_in Asking = None
proposal_in (Proposed p accepts) = Some p

-- who accepted it
abbrev pub accepts_in : Phase → List ℕ
accepts_in Asking = []
accepts_in (Proposed p accepts) = accepts
