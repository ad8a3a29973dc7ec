-- The vote is that of the worst conflict.
use Rattle.std.proofs.Common.{◌≡◌, ◌∙◌, Bool, true, false, cond, ap, sym, refl, ◌||◌}
use Rattle.std.specs.Prelude.{not}
use Rattle.std.specs.List.{list_any}
use Rattle.protocol.specs.Words.{Exec, Version, before, Vote, Commit, Tentative, Final, Content}
use Rattle.protocol.specs.Replica.Taken.{Handled, fence, base}
use Rattle.protocol.specs.Replica.Acceptor.{commits}
use Rattle.protocol.specs.Replica.Votes.{casts, verdict, clashes_with_commit, clashes_with_vote, conflicts_with_base}
use Rattle.mv_index.specs.Clash.{at_version, clash_of}
use Rattle.mv_index.specs.declared.clash.Clash.{Clash}
use Rattle.mv_index.specs.declared.clash.Clash.TheVariants.{Committed, Voted, Clear}

abbrev pub vote_of : Clash → Vote
vote_of Committed = Final
vote_of Voted = Tentative
vote_of Clear = Commit

pub verdict_by_clash : (h : Handled) (x : Exec) (c : Content) → before (fence h) x.ver ≡ true → vote_of (clash_of h x.ver c) ≡ verdict h (casts h) x c
unfolding verdict
verdict_by_clash h x c e =
    by (list_any (clashes_with_commit h (at_version x.ver) c) (commits h) || list_any (conflicts_with_base x.ver c) (base h)) (list_any
    (clashes_with_vote h (at_version x.ver) c) (casts h))
    ∙ ap (λ t. cond (not t) Tentative (cond (list_any (clashes_with_commit h x c) (commits h) || list_any (conflicts_with_base x.ver c) (base h)) Final
    (cond (list_any (clashes_with_vote h x c) (casts h)) Tentative Commit))) (sym e)
  where
    by : (s t : Bool) → vote_of (cond s Committed (cond t Voted Clear)) ≡ cond s Final (cond t Tentative Commit)
    by true t = refl
    by false true = refl
    by false false = refl

pub verdict_from : (h : Handled) (x : Exec) (c : Content) (ver up_to : Version) (k : Clash) (t : Bool) → t ≡ before up_to ver → t ≡ true → up_to ≡ fence h →
    x.ver ≡ ver → k ≡ clash_of h ver c → vote_of k ≡ verdict h (casts h) x c
verdict_from h x c ver up_to k t e f g v d =
    ap vote_of (d ∙ ap (λ u. clash_of h u c) (sym v))
    ∙ verdict_by_clash h x c (ap (λ u. before (fence h) u) v ∙ (ap (λ w. before w ver) (sym g) ∙ (sym e ∙ f)))
