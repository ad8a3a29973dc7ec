-- What counts in a round: a view of an execution that a warden asks about.
use Rattle.std.specs.Prelude.{ℕ, Bool, not, ◌&&◌, ◌==◌, [], ◌∷◌, ◌++◌, is_none, is_some}
use Rattle.std.specs.List.{list_any}
use Rattle.protocol.specs.Words.{Exec, same_exec}
use Rattle.protocol.specs.Warden.State.{Round}

-- the greatest view that an envelope can carry
abbrev pub last_view : ℕ
last_view = 4294967295

-- the round is of x in this view
abbrev pub is_of : Exec → ℕ → Round → Bool
is_of x view a = same_exec x a.exec && (a.view == view)

-- a Told of the replica counts: the choice is not fixed, and none of its own came before
abbrev pub counts_told : Round → ℕ → Bool
counts_told a j = is_none a.proposal && not (list_any (λ u. u.replica == j) a.tolds)

-- an Accepted of the replica counts: there is a proposal, and it has not accepted it before
abbrev pub counts_accept : Round → ℕ → Bool
counts_accept a j = is_some a.proposal && not (list_any (λ i. i == j) a.accepts)

-- one more replica accepted what is proposed
abbrev pub accepted_by : Round → ℕ → Round
accepted_by a j = record a { accepts = a.accepts ++ j ∷ [] }
