-- Each case of the code is the case of the rule on votes.
use Rattle.std.proofs.Common.{◌≤◌, ◌<◌, ◌-◌, ◌⊎◌, inl, inr, refl, sym, length, arith}
use Rattle.protocol.specs.Quorums.{quorum}
use Rattle.vote_tally.proofs.CountingLemmas.{counts, says_fast_commit, says_fast_abandon, says_commit, says_abandon, says_wait}
use Rattle.vote_tally.proofs.called_for.Goals as goal
use Rattle.vote_tally.proofs.called_for.Goals.{else-has_others-via-then-has_others+else-commits-quorum, else-has_others-via-else-has_others}

pub returns-then-commits-all : goal.returns-then-commits-all
returns-then-commits-all c =
    let n = c.args.replicas in
    let k = c.commit_count-commits in
    sym (says_fast_commit n c.args.votes.now k.result _ _ (counts c.args.votes.now k.result _ k.ensures.value refl) c.if-commits-all.true)

pub returns-then-has_final : goal.returns-then-has_final
returns-then-has_final c =
    let n = c.args.replicas in
    let k = c.commit_count-commits in
    sym (says_fast_abandon n c.args.votes.now k.result c.has_final-has_final.result _ (counts c.args.votes.now k.result c.has_final-has_final.result k.ensures.value c.has_final-has_final.ensures) c.if-commits-all.false c.if-has_final.true)

pub returns-then-commits-quorum : goal.returns-then-commits-quorum
returns-then-commits-quorum c =
    let n = c.args.replicas in
    let k = c.commit_count-commits in
    let many : quorum n ≤ k.result = omega (arith, c.quorum-quorum.ensures, c.if-commits-quorum.true) in
    sym (says_commit n c.args.votes.now k.result c.has_final-has_final.result _ (counts c.args.votes.now k.result c.has_final-has_final.result k.ensures.value c.has_final-has_final.ensures) c.if-commits-all.false c.if-has_final.false c.if-has_others.true many)

pub returns-then-others-quorum : goal.returns-then-others-quorum
returns-then-others-quorum c =
    let n = c.args.replicas in
    let k = c.commit_count-commits in
    let few : (length c.args.votes.now - k.result ≤ 0) ⊎ (k.result < quorum n) = elim c.else-has_others.branch [
      | else-has_others-via-then-has_others+else-commits-quorum w ↦ inr (omega (arith, c.quorum-quorum.ensures, w.if-commits-quorum.false))
      | else-has_others-via-else-has_others w ↦ inl w.if-has_others.false
    ] in
    let many : quorum n ≤ length c.args.votes.now - k.result = omega (arith, c.quorum-quorum.ensures, c.if-others-quorum.true) in
    sym (says_abandon n c.args.votes.now k.result c.has_final-has_final.result _ (counts c.args.votes.now k.result c.has_final-has_final.result k.ensures.value c.has_final-has_final.ensures) c.if-commits-all.false c.if-has_final.false few many)

pub returns-else-others-quorum : goal.returns-else-others-quorum
returns-else-others-quorum c =
    let n = c.args.replicas in
    let k = c.commit_count-commits in
    let few : (length c.args.votes.now - k.result ≤ 0) ⊎ (k.result < quorum n) = elim c.else-has_others.branch [
      | else-has_others-via-then-has_others+else-commits-quorum w ↦ inr (omega (arith, c.quorum-quorum.ensures, w.if-commits-quorum.false))
      | else-has_others-via-else-has_others w ↦ inl w.if-has_others.false
    ] in
    let short : length c.args.votes.now - k.result < quorum n = omega (arith, c.quorum-quorum.ensures, c.if-others-quorum.false) in
    sym (says_wait n c.args.votes.now k.result c.has_final-has_final.result _ (counts c.args.votes.now k.result c.has_final-has_final.result k.ensures.value c.has_final-has_final.ensures) c.if-commits-all.false c.if-has_final.false few short)
