-- The envelopes that records need not see.
use Rattle.std.specs.Prelude.{Bool, true, false, not, is_none}
use Rattle.std.specs.List.{list_any}
use Rattle.protocol.specs.Words.{Body, Get, Puts, Prepare, Decide, Drops}
use Rattle.protocol.specs.Replica.Taken.{Handled}
use Rattle.protocol.specs.Replica.Acceptor.{decided}
use Rattle.protocol.specs.Replica.Votes.{casts, new_cast, is_commit_vote}

-- it reads, keeps and drops nothing, casts no Commit vote and is no first decision
abbrev pub is_unseen : Handled → Body → Bool
is_unseen h (Get x k) = false
is_unseen h (Puts x ws) = false
is_unseen h (Prepare x c) = not (list_any (λ y. is_commit_vote y.vote) (new_cast h (casts h) (Prepare x c)))
is_unseen h (Decide x d c) = not (is_none (decided h x))
is_unseen h (Drops w b) = false
is_unseen h _ = true
