-- A hurried client proposes what a majority voted.
use Rattle.std.proofs.Common.{◌≡◌, ◌≤◌, ◌<◌, refl, sym, arith}
use Rattle.protocol.specs.Quorums.{quorum}
use Rattle.vote_tally.proofs.CountingLemmas.{counts, hurried_commit, hurried_abandon}
use Rattle.vote_tally.proofs.Tally.hurry.Goals as goal

pub returns-then-commit_count-quorum : goal.returns-then-commit_count-quorum
returns-then-commit_count-quorum c =
    let t = c.self.inside in
    let slice : c.deref.result.now ≡ t.votes.items = c.deref.ensures.0 in
    let many : quorum t.replicas ≤ c.commit_count.result = omega (arith, c.quorum.ensures, c.if-commit_count-quorum.true) in
    rw (← c.self.view_is) (sym (hurried_commit t.replicas t.votes.items c.commit_count.result _ _ (counts t.votes.items c.commit_count.result _ (rw slice at c.commit_count.ensures.value) refl) many))

pub returns-else-commit_count-quorum : goal.returns-else-commit_count-quorum
returns-else-commit_count-quorum c =
    let t = c.self.inside in
    let slice : c.deref.result.now ≡ t.votes.items = c.deref.ensures.0 in
    let few : c.commit_count.result < quorum t.replicas = omega (arith, c.quorum.ensures, c.if-commit_count-quorum.false) in
    rw (← c.self.view_is) (sym (hurried_abandon t.replicas t.votes.items c.commit_count.result _ _ (counts t.votes.items c.commit_count.result _ (rw slice at c.commit_count.ensures.value) refl) few))
