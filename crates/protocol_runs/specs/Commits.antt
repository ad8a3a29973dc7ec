-- Runs that commit, or decide not to, with votes alone.
use Rattle.std.specs.Prelude.{◌≡◌, pos, true, false, [], ◌∷◌, Some, None}
use Rattle.protocol.specs.Words.{Client, Replica, Picked, Ran, Deliver, Go, Hurry, Commit, Final, Abandon, ToCommit, Get, Note, Puts, Prepare, Voted}
use Rattle.protocol.specs.Words.{Finalize, Accepted, Decide, first_wid}
use Rattle.protocol.specs.declared.Fate.TheVariants.{Committed, Aborted}
use Rattle.protocol.specs.World.State.{World, first_world}
use Rattle.protocol.specs.World.Events.{to_all, replay_from, enabled}
use Rattle.protocol.specs.World.Decided.{decided_by}
use Rattle.protocol_runs.specs.Samples.{x1, version_at, exec_of, wid_of, one, sent_so, written, increased, looked, put_content, inc, look, put, only, plan}
use Rattle.protocol_runs.specs.Samples.{four}

-- one client and one replica
abbrev pub first_end : World
first_end = replay_from (plan 1 0 (only inc 10 ∷ []) four 1) first_world (
    Picked (Client 1) Go ∷ Ran 1 ∷ Picked (Replica 1) (Deliver 0) ∷ Picked (Client 1) (Deliver 1) ∷ Ran 1 ∷
    Picked (Replica 1) (Deliver 2) ∷ Picked (Replica 1) (Deliver 3) ∷ Picked (Client 1) (Deliver 4) ∷
    Picked (Replica 1) (Deliver 5) ∷ [])

-- a read, a write, a vote and a decision, in nine events
pub record FirstRun : Type 0 where
  pub mail : first_end.mail ≡ sent_so (
      one (Client 1) (Replica 1) (Get (exec_of 10 1) x1) ∷  -- 0
      one (Replica 1) (Client 1) (Note (version_at 10 1) x1 first_wid (pos 4) true None) ∷  -- 1
      one (Client 1) (Replica 1) (Puts (exec_of 10 1) (written x1 (pos 5))) ∷  -- 2
      one (Client 1) (Replica 1) (Prepare (exec_of 10 1) (increased (pos 4))) ∷  -- 3
      one (Replica 1) (Client 1) (Voted (exec_of 10 1) Commit) ∷  -- 4
      one (Client 1) (Replica 1) (Decide (exec_of 10 1) ToCommit (Some (increased (pos 4)))) ∷  -- 5
      [])
  pub events : first_end.moved ≡ 9
  pub client : decided_by first_end (Client 1) (exec_of 10 1) ≡ Some ToCommit
  pub replica : decided_by first_end (Replica 1) (exec_of 10 1) ≡ Some ToCommit
  pub fate : (first_end.client 1).fate ≡ Committed

-- the same with three replicas, each in its turn
abbrev pub fast_end : World
fast_end = replay_from (plan 3 0 (only inc 10 ∷ []) four 1) first_world (
    Picked (Client 1) Go ∷ Ran 1 ∷ Picked (Replica 1) (Deliver 0) ∷ Picked (Replica 2) (Deliver 1) ∷
    Picked (Replica 3) (Deliver 2) ∷ Picked (Client 1) (Deliver 3) ∷ Ran 1 ∷ Picked (Replica 1) (Deliver 6) ∷
    Picked (Replica 2) (Deliver 7) ∷ Picked (Replica 3) (Deliver 8) ∷ Picked (Client 1) (Deliver 4) ∷
    Picked (Replica 1) (Deliver 9) ∷ Picked (Replica 2) (Deliver 10) ∷ Picked (Replica 3) (Deliver 11) ∷
    Picked (Client 1) (Deliver 5) ∷ Picked (Client 1) (Deliver 12) ∷ Picked (Client 1) (Deliver 13) ∷
    Picked (Client 1) (Deliver 14) ∷ Picked (Replica 1) (Deliver 15) ∷ Picked (Replica 2) (Deliver 16) ∷
    Picked (Replica 3) (Deliver 17) ∷ [])

-- all three vote Commit, and the client decides at the third vote
pub record FastPath : Type 0 where
  pub mail : fast_end.mail ≡ sent_so (
      to_all 3 (Client 1) (Get (exec_of 10 1) x1) ∷  -- 0 to 2
      one (Replica 1) (Client 1) (Note (version_at 10 1) x1 first_wid (pos 4) true None) ∷  -- 3
      one (Replica 2) (Client 1) (Note (version_at 10 1) x1 first_wid (pos 4) true None) ∷  -- 4
      one (Replica 3) (Client 1) (Note (version_at 10 1) x1 first_wid (pos 4) true None) ∷  -- 5
      to_all 3 (Client 1) (Puts (exec_of 10 1) (written x1 (pos 5))) ∷  -- 6 to 8
      to_all 3 (Client 1) (Prepare (exec_of 10 1) (increased (pos 4))) ∷  -- 9 to 11
      one (Replica 1) (Client 1) (Voted (exec_of 10 1) Commit) ∷  -- 12
      one (Replica 2) (Client 1) (Voted (exec_of 10 1) Commit) ∷  -- 13
      one (Replica 3) (Client 1) (Voted (exec_of 10 1) Commit) ∷  -- 14
      to_all 3 (Client 1) (Decide (exec_of 10 1) ToCommit (Some (increased (pos 4)))) ∷  -- 15 to 17
      [])
  pub events : fast_end.moved ≡ 21
  pub client : decided_by fast_end (Client 1) (exec_of 10 1) ≡ Some ToCommit
  pub replica : decided_by fast_end (Replica 3) (exec_of 10 1) ≡ Some ToCommit

-- three replicas, and a client that waits for two votes alone; replica 3 accepts, though it never voted
abbrev pub hurried_end : World
hurried_end = replay_from (plan 3 0 (only look 20 ∷ []) [] 1) first_world (
    Picked (Client 1) Go ∷ Ran 1 ∷ Picked (Replica 1) (Deliver 0) ∷ Picked (Client 1) (Deliver 3) ∷ Ran 1 ∷
    Picked (Replica 1) (Deliver 4) ∷ Picked (Replica 2) (Deliver 5) ∷ Picked (Client 1) (Deliver 7) ∷
    Picked (Client 1) (Deliver 8) ∷ Picked (Client 1) Hurry ∷ Picked (Replica 1) (Deliver 9) ∷
    Picked (Replica 3) (Deliver 11) ∷ Picked (Client 1) (Deliver 12) ∷ Picked (Client 1) (Deliver 13) ∷ [])

-- two Commit votes of three replicas decide nothing by themselves; the client proposes, and two replicas that accept decide
pub record HurriedClient : Type 0 where
  pub mail : hurried_end.mail ≡ sent_so (
      to_all 3 (Client 1) (Get (exec_of 20 1) x1) ∷  -- 0 to 2
      one (Replica 1) (Client 1) (Note (version_at 20 1) x1 first_wid (pos 0) true None) ∷  -- 3
      to_all 3 (Client 1) (Prepare (exec_of 20 1) (looked (pos 0))) ∷  -- 4 to 6
      one (Replica 1) (Client 1) (Voted (exec_of 20 1) Commit) ∷  -- 7
      one (Replica 2) (Client 1) (Voted (exec_of 20 1) Commit) ∷  -- 8
      to_all 3 (Client 1) (Finalize (exec_of 20 1) 0 ToCommit (Some (looked (pos 0)))) ∷  -- 9 to 11
      one (Replica 1) (Client 1) (Accepted (exec_of 20 1) 0) ∷  -- 12
      one (Replica 3) (Client 1) (Accepted (exec_of 20 1) 0) ∷  -- 13
      to_all 3 (Client 1) (Decide (exec_of 20 1) ToCommit (Some (looked (pos 0)))) ∷  -- 14 to 16
      [])
  pub events : hurried_end.moved ≡ 14
  pub decision : decided_by hurried_end (Client 1) (exec_of 20 1) ≡ Some ToCommit
  pub over : enabled (plan 3 0 (only look 20 ∷ []) [] 1) hurried_end (Picked (Client 1) Hurry) ≡ None

-- client 2 commits a read of x[1] before client 1 writes it, at a lower version
abbrev pub late_end : World
late_end = replay_from (plan 1 0 (only put 10 ∷ only look 20 ∷ []) [] 1) first_world (
    Picked (Client 2) Go ∷ Ran 2 ∷ Picked (Replica 1) (Deliver 0) ∷ Picked (Client 2) (Deliver 1) ∷ Ran 2 ∷
    Picked (Replica 1) (Deliver 2) ∷ Picked (Client 2) (Deliver 3) ∷ Picked (Replica 1) (Deliver 4) ∷
    Picked (Client 1) Go ∷ Ran 1 ∷ Picked (Replica 1) (Deliver 5) ∷ Picked (Replica 1) (Deliver 6) ∷
    Picked (Client 1) (Deliver 8) ∷ [])

-- that write would have been missed by a committed read, so it gets a Final vote, and is abandoned
pub record FinalVote : Type 0 where
  pub mail : late_end.mail ≡ sent_so (
      one (Client 2) (Replica 1) (Get (exec_of 20 2) x1) ∷  -- 0
      one (Replica 1) (Client 2) (Note (version_at 20 2) x1 first_wid (pos 0) true None) ∷  -- 1
      one (Client 2) (Replica 1) (Prepare (exec_of 20 2) (looked (pos 0))) ∷  -- 2
      one (Replica 1) (Client 2) (Voted (exec_of 20 2) Commit) ∷  -- 3
      one (Client 2) (Replica 1) (Decide (exec_of 20 2) ToCommit (Some (looked (pos 0)))) ∷  -- 4
      one (Client 1) (Replica 1) (Puts (exec_of 10 1) (written x1 (pos 1))) ∷  -- 5
      one (Client 1) (Replica 1) (Prepare (exec_of 10 1) put_content) ∷  -- 6
      one (Replica 1) (Client 2) (Note (version_at 20 2) x1 (wid_of 10 1 1) (pos 1) false None) ∷  -- 7
      one (Replica 1) (Client 1) (Voted (exec_of 10 1) Final) ∷  -- 8
      one (Client 1) (Replica 1) (Decide (exec_of 10 1) Abandon None) ∷  -- 9
      [])
  pub events : late_end.moved ≡ 13
  pub abandoned : decided_by late_end (Client 1) (exec_of 10 1) ≡ Some Abandon
  pub committed : decided_by late_end (Replica 1) (exec_of 20 2) ≡ Some ToCommit
  pub fate : (late_end.client 1).fate ≡ Aborted
