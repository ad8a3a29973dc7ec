-- What a world has committed, as a list, and its base at a version, as a function of that list.
use Rattle.std.specs.Prelude.{ℕ, Bool, true, false, cond, List, [], ◌∷◌, ◌++◌, map, length, Option, Some, None, find, flat_map}
use Rattle.std.specs.List.{list_any}
use Rattle.protocol.specs.Words.{Version, Exec, NodeId, Client, Replica, Warden, Choice, ToCommit, Content, Kept, BaseEntry, Body, Prepare, same_version, same_exec, exec_before}
use Rattle.protocol.specs.Lists.{upto}
use Rattle.protocol.specs.Client.State.{Attempt}
use Rattle.protocol.specs.Warden.Base.{put_entries, kept_entries}
use Rattle.protocol.specs.World.State.{Plan, World}
use Rattle.protocol.specs.World.Decided.{decided_by}

-- the nodes of a script
abbrev pub nodes : Plan → List NodeId
nodes p = map Client (upto (length p.clients)) ++ (map Replica (upto p.replicas) ++ map Warden (upto p.wardens))

-- there is a choice, and it is Commit
abbrev pub is_commit_choice : Option Choice → Bool
is_commit_choice (Some ToCommit) = true
is_commit_choice _ = false

-- some node, stopped or not, decided x Commit or learnt it
unfoldable pub is_committed : Plan → World → Exec → Bool
is_committed p w x = list_any (λ node. is_commit_choice (decided_by w node x)) (nodes p)

-- a committed execution: what it did, and the try of a transaction that it is one of
pub record CommittedExec : Type 0 where
  pub exec : Exec
  pub content : Content
  pub txn : ℕ
  pub try : ℕ

-- executions stand in rising order of version and then number, each once
abbrev pub put_committed : CommittedExec → List CommittedExec → List CommittedExec
put_committed c [] = c ∷ []
put_committed c (d ∷ ds) =
    cond (exec_before c.exec d.exec) (c ∷ d ∷ ds)
    (cond (same_exec c.exec d.exec) (d ∷ ds) (d ∷ put_committed c ds))

-- the list in that order
abbrev pub sorted_committed : List CommittedExec → List CommittedExec
sorted_committed [] = []
sorted_committed (c ∷ cs) = put_committed c (sorted_committed cs)

-- the try that its client began at a version
abbrev pub attempt_at : World → Version → Option Attempt
attempt_at w version = find (λ a. same_version version a.ver) (w.client version.client).attempts

-- the execution x with content k as one of a try
abbrev pub of_attempt : Exec → Content → Option Attempt → List CommittedExec
of_attempt x content None = []
of_attempt x k (Some a) = record { exec = x; content = k; txn = a.txn; try = a.try } ∷ []

-- a Prepare of a committed execution tells its content
abbrev pub committed_in : Plan → World → Body → List CommittedExec
committed_in p w (Prepare x content) = cond (is_committed p w x) (of_attempt x content (attempt_at w x.ver)) []
committed_in p w _ = []

-- the committed executions by rising version and then number, each with the content of its Prepare, its transaction
-- and its try
unfoldable pub committed_executions : Plan → World → List CommittedExec
committed_executions p w = sorted_committed (flat_map (λ m. committed_in p w m.body) w.mail)

-- the execution and its content alone
abbrev pub kept_of : CommittedExec → Kept
kept_of c = record { exec = c.exec; content = c.content }

-- the base of a world at v: rising by key, for each key with a write at or below v in a committed content the write
-- of the greatest name
unfoldable pub base_at : Plan → World → Version → List BaseEntry
base_at p w version = put_entries [] (kept_entries version (map kept_of (committed_executions p w)))
