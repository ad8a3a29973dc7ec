-- A cell as what a replica's list says of one execution.
use Rattle.std.specs.Prelude.{◌≡◌, ℕ, Bool, cond, ◌&&◌, ◌==◌, List, [], ◌∷◌, Option, Some, None, is_none}
use Rattle.protocol.specs.Words.{Exec, NodeId, Vote, Choice, Content, Body, Finalize, Accepted, Ask, Told}
use Rattle.protocol.specs.Lists.{one_when}
use Rattle.protocol.specs.Replica.Taken.{Handled}
use Rattle.protocol.specs.Replica.Acceptor.{promised, accepted, decided}
use Rattle.protocol.specs.Replica.Votes.{vote, known}
use Rattle.protocol.specs.Replica.Says.{answer}
use Rattle.protocol.specs.declared.First2.{First2}
use Rattle.view_cell.specs.declared.Cell.{Cell}
use Rattle.view_cell.specs.declared.ToldPart.{ToldPart}

-- the cell is that of execution x after the list h
pub record StandsFor (h : Handled) (x : Exec) (c : Cell) : Type 0 where
  pub promise : c.promised ≡ promised h x
  pub vote : c.vote ≡ vote h x
  pub accept : c.accepted ≡ accepted h x
  pub decision : c.decided ≡ decided h x

-- the cell without its promise
abbrev pub told_of : Cell → ToldPart
told_of c = record { vote = c.vote; accepted = c.accepted; decided = c.decided }

-- the cell with the view promised, and the choice accepted in it
abbrev pub with_pair : Cell → ℕ → Choice → Cell
with_pair c view choice = record c { promised = view; accepted = Some (record { view = view; choice = choice }) }

-- the cell of an execution becomes the new one when an Ask of that execution in the view comes
abbrev pub AskLeadsTo : ℕ → Cell → Cell → Type 0
AskLeadsTo view old new = (h : Handled) (x : Exec) (from to : NodeId) → StandsFor h x old →
    StandsFor (record { from = from; to = to; body = Ask x view } ∷ h) x new

-- the answer to an Ask that was promised this, from a replica that knows this content
abbrev pub told : Exec → ℕ → Option ToldPart → Option Content → List Body
told x view (Some p) content = Told x view p.vote p.accepted p.decided content ∷ []
told x view None content = []

-- an Ask in the view is answered with what the cell tells
abbrev pub TellsAsk : ℕ → Cell → Option ToldPart → Type 0
TellsAsk view old part = (firsts : List First2) (h : Handled) (x : Exec) → StandsFor h x old →
    answer firsts h (Ask x view) ≡ told x view part (known h x)

-- the cell of an execution becomes the new one when a Finalize of that execution with this view and choice comes
abbrev pub FinalizeLeadsTo : ℕ → Choice → Cell → Cell → Type 0
FinalizeLeadsTo view choice old new = (h : Handled) (x : Exec) (content : Option Content) (from to : NodeId) → StandsFor h x old →
    StandsFor (record { from = from; to = to; body = Finalize x view choice content } ∷ h) x new

-- a Finalize is answered with Accepted exactly where the cell takes it
abbrev pub TellsFinalize : ℕ → Choice → Cell → Bool → Type 0
TellsFinalize view choice old taken = (firsts : List First2) (h : Handled) (x : Exec) (content : Option Content) → StandsFor h x old →
    answer firsts h (Finalize x view choice content) ≡ one_when taken (Accepted x view)

-- no view above 0 is promised, no vote is cast and nothing is decided
abbrev pub open_to_vote : Cell → Bool
open_to_vote c = (c.promised == 0) && (is_none c.vote && is_none c.decided)

-- the cell with the vote, where it is open to one
abbrev pub with_vote : Cell → Vote → Cell
with_vote c v = cond (open_to_vote c) (record c { vote = Some v }) c
