-- A Prepare brings its cell the vote by the rule on votes, where the cell is open to one.
use Rattle.std.proofs.Common.{◌≡◌, refl, sym, ◌∙◌, true, false, Bool, ◌∷◌, Some, arith}
use Rattle.std.specs.Prelude.{cond}
use Rattle.protocol.specs.Words.{Vote, Prepare}
use Rattle.protocol.specs.Replica.Acceptor.{decided}
use Rattle.protocol.specs.Replica.Votes.{casts, may_vote, verdict}
use Rattle.protocol.proofs.NamesLemmas.{same_exec_refl}
use Rattle.view_cell.specs.Cell.{StandsFor, open_to_vote}
use Rattle.view_cell.specs.Laws.{VotesStand}
use Rattle.view_cell.proofs.CellLemmas.{first_alone, open_is}

pub votes_stand : VotesStand
votes_stand h x c content from to cell = go (open_to_vote c) (open_is h x c cell)
  where
    v : Vote
    v = verdict h (casts h) x content

    go : (t : Bool) → may_vote h (casts h) x ≡ t → StandsFor (record { from = from; to = to; body = Prepare x content } ∷ h) x (cond t (record c { vote = Some v }) c)
    go true e = record {
      promise = let p = cell.promise in omega arith;
      vote = rw (e, same_exec_refl) refl;
      accept = cell.accept;
      decision = cell.decision ∙ sym (first_alone (decided h x));
    }
    go false e = record {
      promise = let p = cell.promise in omega arith;
      vote = rw e cell.vote;
      accept = cell.accept;
      decision = cell.decision ∙ sym (first_alone (decided h x));
    }
