-- What a replica keeps of each execution, and when that stands for the envelopes that it took.
use Rattle.std.specs.Prelude.{◌≡◌, true, Option, Some, None}
use Rattle.std.specs.BTreeMap.{get}
use Rattle.protocol.specs.Words.{Exec, before}
use Rattle.protocol.specs.Replica.Taken.{Handled, dropped}
use Rattle.protocol.specs.Replica.Votes.{known}
use Rattle.view_cell.specs.Cell.{StandsFor as IsCellOf}
use Rattle.mv_index.specs.Orders.{exec_cmp}
use Rattle.replica.specs.declared.ballots.Ballot.{Ballot}
use Rattle.replica.specs.declared.ballots.Ballots.{Ballots}

-- the ballot of an execution of which nothing came
abbrev pub blank : Ballot
blank = record { cell = record { promised = 0; vote = None; accepted = None; decided = None }; content = None }

-- the ballot, or a blank one
abbrev pub or_blank : Option Ballot → Ballot
or_blank None = blank
or_blank (Some b) = b

-- what is kept of x
abbrev pub ballot_at : Ballots → Exec → Ballot
ballot_at bs x = or_blank (get exec_cmp bs.ballots x)

-- the ballot is what the list says of x
pub record IsBallotOf (h : Handled) (x : Exec) (b : Ballot) : Type 0 where
  pub cell : IsCellOf h x b.cell
  pub content : b.content ≡ known h x

-- so it is for each execution above the dropped version
pub record StandsFor (h : Handled) (bs : Ballots) : Type 0 where
  pub each : (x : Exec) → before (dropped h) x.ver ≡ true → IsBallotOf h x (ballot_at bs x)
