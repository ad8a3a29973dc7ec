use Rattle.std.proofs.Common.{◌∙◌, ap, sym}
use Rattle.protocol.specs.Words.{Commit, Tentative, Final, Prepare}
use Rattle.protocol.specs.Replica.Votes.{is_commit_vote}
use Rattle.mv_index.proofs.Unseen.{stands_other}
use Rattle.replica.proofs.ReplicaTurns.{not_voted, voted_now, other_unseen}
use Rattle.replica.proofs.recording.record_vote.Goals as goal

pub returns-in-Commit-clause-stands : goal.returns-in-Commit-clause-stands
returns-in-Commit-clause-stands c = λ firsts h from to s b may is.
    let x = c.args.exec in
    let content = c.args.content.now in
    c.voted.ensures.ok firsts h from to s b (not_voted h x may) (voted_now h from to x content Commit may (sym c.in-Commit.is ∙ is))

pub returns-in-Tentative : goal.returns-in-Tentative
returns-in-Tentative c = record {
  stands = λ firsts h from to s b may is.
      stands_other firsts h from to (Prepare c.args.exec c.args.content.now) c.args.records.now (other_unseen h c.args.exec c.args.content.now
      (ap is_commit_vote (sym is ∙ c.in-Tentative.is))) s;
  told = λ firsts h t. t;
}

pub returns-in-Final : goal.returns-in-Final
returns-in-Final c = record {
  stands = λ firsts h from to s b may is.
      stands_other firsts h from to (Prepare c.args.exec c.args.content.now) c.args.records.now (other_unseen h c.args.exec c.args.content.now
      (ap is_commit_vote (sym is ∙ c.in-Final.is))) s;
  told = λ firsts h t. t;
}
