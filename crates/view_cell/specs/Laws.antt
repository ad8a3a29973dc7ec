-- What the cell of an execution becomes by what its replica hears beside an Ask and a Finalize.
use Rattle.std.specs.Prelude.{◌≡◌, Bool, false, ◌∷◌, Option, Some}
use Rattle.std.specs.Option.{option_or}
use Rattle.protocol.specs.Words.{Exec, NodeId, same_exec, Choice, Content, Envelope, Body, Prepare, Finalize, Decide, Ask}
use Rattle.protocol.specs.Replica.Taken.{Handled}
use Rattle.protocol.specs.Replica.Votes.{casts, verdict}
use Rattle.view_cell.specs.declared.Cell.{Cell}
use Rattle.view_cell.specs.Cell.{StandsFor, with_vote}

-- a Prepare of x brings its cell the vote by the rule on votes
abbrev pub VotesStand : Type 0
VotesStand = (h : Handled) (x : Exec) (c : Cell) (content : Content) (from to : NodeId) → StandsFor h x c →
    StandsFor (record { from = from; to = to; body = Prepare x content } ∷ h) x (with_vote c (verdict h (casts h) x content))

-- a Decide of x brings its cell the decision, unless one stands
abbrev pub DecisionsStand : Type 0
DecisionsStand = (h : Handled) (x : Exec) (c : Cell) (choice : Choice) (content : Option Content) (from to : NodeId) → StandsFor h x c →
    StandsFor (record { from = from; to = to; body = Decide x choice content } ∷ h) x (record c { decided = option_or c.decided (Some choice) })

-- the body votes, proposes, decides or asks for a promise on x
abbrev pub may_change : Exec → Body → Bool
may_change x (Prepare y c) = same_exec x y
may_change x (Finalize y v d c) = same_exec x y
may_change x (Decide y d c) = same_exec x y
may_change x (Ask y v) = same_exec x y
may_change x _ = false

-- any other envelope leaves the cell of x as it is
abbrev pub OthersLeaveIt : Type 0
OthersLeaveIt = (h : Handled) (x : Exec) (c : Cell) (m : Envelope) → may_change x m.body ≡ false → StandsFor h x c → StandsFor (m ∷ h) x c
