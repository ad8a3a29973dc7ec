-- What a Recoverer stands for, and what its calls tell and do.
use Rattle.std.specs.Prelude.{◌≡◌, Bool, false, ◌&&◌, nat_le, List, ◌++◌, Option, is_none, flat_map}
use Rattle.std.specs.Option.{option_map, option_and_then}
use Rattle.protocol.specs.Words.{Exec, Warden, Choice, Content, Envelope}
use Rattle.protocol.specs.Warden.State.{WardenRules, WardenState, WardenTurn, decision_on}
use Rattle.protocol.specs.Warden.Recovery.{next_view}
use Rattle.protocol.specs.World.Events.{parcel}
use Rattle.recovery.specs.Round.{last_view}

-- what a warden is given and remembers, and whether it is broken, as a call that changed it ran out of memory
pub record RecoveringWarden : Type 0 where
  pub rules : WardenRules
  pub state : WardenState
  pub broken : Bool

-- x is undecided, and the next view for it is a number that an envelope can carry
abbrev pub can_recover : RecoveringWarden → Exec → Bool
can_recover w x = is_none (decision_on w.state x) && nat_le (next_view w.rules w.state x) last_view

-- the choice that this warden decided
abbrev pub decided_choice : WardenState → Exec → Option Choice
decided_choice s x = option_map (λ d. d.proposal.choice) (decision_on s x)

-- the content that it decided, which is there for Commit alone
abbrev pub decided_content : WardenState → Exec → Option Content
decided_content s x = option_and_then (λ d. d.proposal.content) (decision_on s x)

-- the state after a turn, and its envelopes behind those that were there before
pub record TakesTurn (r : WardenRules) (t : WardenTurn) (state : WardenState) (before after : List Envelope) : Type 0 where
  pub state_is : state ≡ t.state
  pub sent : after ≡ before ++ flat_map (parcel r.replicas (Warden r.warden)) t.sent

-- a warden that is not broken takes a turn
pub record Does (t : WardenTurn) (old new : RecoveringWarden) (before after : List Envelope) : Type 0 where
  pub whole : old.broken ≡ false
  pub still_whole : new.broken ≡ false
  pub rules : new.rules ≡ old.rules
  pub turn : TakesTurn old.rules t new.state before after
