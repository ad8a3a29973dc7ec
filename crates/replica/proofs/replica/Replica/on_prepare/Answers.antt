use Rattle.std.proofs.Common.{◌∙◌, sym, refl, true, false}
use Rattle.std.specs.Prelude.{not}
use Rattle.protocol.specs.Words.{Prepare}
use Rattle.mv_index.proofs.Unseen.{stands_other}
use Rattle.replica.proofs.ReplicaTurns.{keeps_with, answer_unvoted, answer_voted, unvoted_unseen, ballots_unvoted}
use Rattle.replica.proofs.replica.Replica.on_prepare.Goals as goal

pub returns-then-not-may_vote-clause-answers : goal.returns-then-not-may_vote-clause-answers
returns-then-not-may_vote-clause-answers c = λ firsts number h k b.
    answer_unvoted firsts h c.args.exec c.args.content.now (sym (c.may_vote.ensures h k.ballots b) ∙ c.if-not-may_vote.true)

pub returns-then-not-may_vote-clause-stands : goal.returns-then-not-may_vote-clause-stands
returns-then-not-may_vote-clause-stands c = λ firsts number h from to k b.
    let x = c.args.exec in
    let content = c.args.content.now in
    let may = sym (c.may_vote.ensures h k.ballots b) ∙ c.if-not-may_vote.true in
    keeps_with firsts number h from to (Prepare x content) c.args.self.now c.args.self.now.records c.args.self.now.ballots refl refl k
    (stands_other firsts h from to (Prepare x content) c.args.self.now.records (unvoted_unseen h x content may) k.records) k.told
    (ballots_unvoted h from to x content c.args.self.now.ballots b may k.ballots)

pub returns-clause-answers : goal.returns-clause-answers
returns-clause-answers c = λ firsts number h k b.
    answer_voted firsts h c.args.exec c.args.content.now c.verdict-vote.result (sym (c.may_vote.ensures h k.ballots b) ∙ c.if-not-may_vote.false)
    (c.verdict-vote.ensures firsts h c.args.exec k.records k.fence_is refl)

pub returns-clause-stands : goal.returns-clause-stands
returns-clause-stands c = λ firsts number h from to k b.
    let x = c.args.exec in
    let content = c.args.content.now in
    let may = sym (c.may_vote.ensures h k.ballots b) ∙ c.if-not-may_vote.false in
    let is = c.verdict-vote.ensures firsts h x k.records k.fence_is refl in
    keeps_with firsts number h from to (Prepare x content) c.args.self.now _ _ refl refl k
    (c.in_ok-record_vote.ensures.stands firsts h from to k.records b may is)
    (c.in_ok-record_vote.ensures.told firsts h k.told)
    (c.in_ok-vote.ensures h from to k.ballots b may is)
