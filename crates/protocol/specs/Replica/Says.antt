-- What a replica sends on an envelope: its answer, and then the Notes that are due.
use Rattle.std.specs.Prelude.{ℕ, cond, not, ◌&&◌, nat_lt, nat_le, List, [], ◌∷◌, ◌++◌, map, filter, Option, Some, None, is_none}
use Rattle.protocol.specs.Words.{Version, Exec, Key, Vote, Kept, Envelope, Body, Get, Note, Prepare, Finalize, Accepted, Ask, Told, Fence, Fenced, TooOld, Voted, before, exec_before}
use Rattle.protocol.specs.Lists.{one_when}
use Rattle.protocol.specs.Replica.Taken.{Handled, dropped, base, takes}
use Rattle.protocol.specs.Replica.Acceptor.{promised, decided, accepted, commits}
use Rattle.protocol.specs.Replica.Votes.{casts, new_cast, vote, known, is_commit_vote}
use Rattle.protocol.specs.declared.First2.{First2}
use Rattle.protocol.specs.declared.Held.{Held}
use Rattle.protocol.specs.Replica.Held.{latest}
use Rattle.protocol.specs.Replica.Readers.{envelope_from, due}

-- executions stand in rising order
abbrev pub put_kept : Kept → List Kept → List Kept
put_kept c [] = c ∷ []
put_kept c (d ∷ ds) = cond (exec_before c.exec d.exec) (c ∷ d ∷ ds) (d ∷ put_kept c ds)

-- the list in rising order of execution
abbrev pub sorted_kept : List Kept → List Kept
sorted_kept [] = []
sorted_kept (c ∷ cs) = put_kept c (sorted_kept cs)

-- the committed contents at or below w, above the dropped version
unfoldable pub committed_upto : Handled → Version → List Kept
committed_upto h version = sorted_kept (filter (λ c. before (dropped h) c.exec.ver && not (before version c.exec.ver)) (commits h))

-- the undecided contents at or below w, above the dropped version, with a Commit vote
unfoldable pub voted_upto : Handled → Version → List Kept
voted_upto h version =
    sorted_kept (map (λ y. record { exec = y.exec; content = y.content })
    (filter (λ y. (is_commit_vote y.vote && is_none (decided h y.exec)) && (before (dropped h) y.exec.ver && not (before version y.exec.ver))) (casts h)))

-- the answer to a Prepare
abbrev pub vote_answer : Exec → Option Vote → List Body
vote_answer x None = []
vote_answer x (Some v) = Voted x v ∷ []

-- the answer to a Get
abbrev pub note_of : Version → Key → Held → Body
note_of version k a = Note version k a.wid a.value a.sure None

-- what the sender of a body is answered, after h
unfoldable pub answer : List First2 → Handled → Body → List Body
answer firsts h (Get x k) = note_of x.ver k (latest firsts h k x.ver) ∷ []
answer firsts h (Prepare x content) = map (λ y. Voted y.exec y.vote) (new_cast h (casts h) (Prepare x content))
answer firsts h (Finalize x view choice content) = one_when (nat_le (promised h x) view) (Accepted x view)
answer firsts h (Ask x view) = one_when (nat_lt (promised h x) view) (Told x view (vote h x) (accepted h x) (decided h x) (known h x))
answer firsts h (Fence version) = Fenced version (base h) (committed_upto h version) (voted_upto h version) ∷ []
answer firsts h _ = []

-- about a version at or below the dropped one a replica says nothing, but that a Get comes too late
abbrev pub refusal : Handled → Body → List Body
refusal h (Get x k) = TooOld x.ver (dropped h) ∷ []
refusal h _ = []

-- what replica r, which took h, sends on envelope m: the answer, then the due Notes
unfoldable pub says : List First2 → ℕ → Handled → Envelope → List Envelope
says firsts r h m =
    cond (takes h m.body)
    (map (envelope_from r m.from) (answer firsts h m.body) ++ due firsts r h (m ∷ h))
    (map (envelope_from r m.from) (refusal h m.body))
