-- How a replica votes on an execution.
use Rattle.std.specs.Prelude.{Bool, true, false, cond, not, ◌&&◌, ◌||◌, ◌==◌, List, [], ◌∷◌, ◌++◌, Option, is_none, option_map, find}
use Rattle.std.specs.List.{list_any}
use Rattle.protocol.specs.Words.{Version, Exec, Key, Vote, Commit, Tentative, Final, Write, Content, BaseEntry, Body, Prepare, before, same_exec, same_key, Kept}
use Rattle.std.specs.Option.{option_or}
use Rattle.protocol.specs.Lists.{one_when}
use Rattle.protocol.specs.Replica.Taken.{Handled, base, dropped, fence}
use Rattle.protocol.specs.Replica.Acceptor.{accepted_content, commits, decided, promised}

-- a vote that was cast, with the content that it is on
pub record Cast : Type 0 where
  pub exec : Exec
  pub content : Content
  pub vote : Vote

-- some write is of the key
abbrev pub writes_key : Key → List Write → Bool
writes_key k ws = list_any (λ w. same_key k w.key) ws

-- a transaction at version t with content c read a key from a version below x, and another at x, which is below t,
-- wrote it: its read missed that write
abbrev pub misses : Version → Content → Version → List Write → Bool
misses t content x ws = before x t && list_any (λ r. before r.wid.ver x && writes_key r.key ws) content.reads

-- a conflict of two contents: one missed a write of the other
unfoldable pub conflicts : Version → Content → Version → Content → Bool
conflicts t c x d = misses t c x d.writes || misses x d t c.writes

-- a base entry counts as a content at its version that writes its key
unfoldable pub conflicts_with_base : Version → Content → BaseEntry → Bool
conflicts_with_base version content b = misses version content b.wid.ver (record { key = b.key; value = b.value } ∷ [])

-- the vote is Commit
abbrev pub is_commit_vote : Vote → Bool
is_commit_vote Commit = true
is_commit_vote _ = false

-- a conflict of x with a committed content above the dropped version
abbrev pub clashes_with_commit : Handled → Exec → Content → Kept → Bool
clashes_with_commit h x c y = before (dropped h) y.exec.ver && conflicts x.ver c y.exec.ver y.content

-- a conflict of x with a content above the dropped version that has a Commit vote and no decision
abbrev pub clashes_with_vote : Handled → Exec → Content → Cast → Bool
clashes_with_vote h x c y =
    before (dropped h) y.exec.ver
    && (is_commit_vote y.vote && (is_none (decided h y.exec) && conflicts x.ver c y.exec.ver y.content))

-- the vote on x with content c, after h and these votes: the first case that holds
unfoldable pub verdict : Handled → List Cast → Exec → Content → Vote
verdict h casts x content =
    cond (not (before (fence h) x.ver)) Tentative
    (cond (list_any (clashes_with_commit h x content) (commits h) || list_any (conflicts_with_base x.ver content) (base h)) Final
    (cond (list_any (clashes_with_vote h x content) casts) Tentative
    Commit))

-- the vote that was cast on x
abbrev pub cast_on : Exec → List Cast → Option Cast
cast_on x casts = find (λ y. same_exec x y.exec) casts

-- a vote is cast once, before a view above 0 is promised and before a decision
unfoldable pub may_vote : Handled → List Cast → Exec → Bool
may_vote h casts x = (promised h x == 0) && (is_none (cast_on x casts) && is_none (decided h x))

-- the vote that a Prepare lets the replica cast
abbrev pub new_cast : Handled → List Cast → Body → List Cast
new_cast h casts (Prepare x c) = one_when (may_vote h casts x) (record { exec = x; content = c; vote = verdict h casts x c })
new_cast h casts _ = []

-- the votes that were cast, the newest first
abbrev pub casts : Handled → List Cast
casts [] = []
casts (m ∷ h) = new_cast h (casts h) m.body ++ casts h

-- the vote on x
abbrev pub vote : Handled → Exec → Option Vote
vote h x = option_map (λ y. y.vote) (cast_on x (casts h))

-- what a replica knows of the content of x: the committed one, else the one voted on, else one accepted
abbrev pub known : Handled → Exec → Option Content
known h x =
    option_or (option_map (λ y. y.content) (find (λ y. same_exec x y.exec) (commits h)))
    (option_or (option_map (λ y. y.content) (cast_on x (casts h))) (accepted_content h x))
