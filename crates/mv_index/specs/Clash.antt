-- With what a content conflicts at a replica.
use Rattle.std.specs.Prelude.{cond, ◌&&◌, ◌||◌, Option, is_none, Some, None}
use Rattle.std.specs.List.{list_any}
use Rattle.protocol.specs.Words.{Version, Exec, Content}
use Rattle.protocol.specs.Replica.Taken.{Handled, base}
use Rattle.protocol.specs.Replica.Acceptor.{commits, decided}
use Rattle.protocol.specs.Replica.Votes.{Cast, casts, cast_on, is_commit_vote, clashes_with_commit, clashes_with_vote, conflicts_with_base}
use Rattle.mv_index.specs.declared.clash.Clash.{Clash}
use Rattle.mv_index.specs.declared.clash.Clash.TheVariants.{Committed, Voted, Clear}

-- an execution of a version, where its number does not matter
abbrev pub at_version : Version → Exec
at_version v = record { ver = v; eid = 0 }

-- the worst conflict of a content at a version
abbrev pub clash_of : Handled → Version → Content → Clash
clash_of h v c =
    cond (list_any (clashes_with_commit h (at_version v) c) (commits h) || list_any (conflicts_with_base v c) (base h)) Committed
    (cond (list_any (clashes_with_vote h (at_version v) c) (casts h)) Voted Clear)

-- the content of an undecided execution with a Commit vote
abbrev pub standing_vote : Handled → Exec → Option Cast → Option Content
standing_vote h x None = None
standing_vote h x (Some y) = cond (is_commit_vote y.vote && is_none (decided h x)) (Some y.content) None

abbrev pub voted_content : Handled → Exec → Option Content
voted_content h x = standing_vote h x (cast_on x (casts h))
