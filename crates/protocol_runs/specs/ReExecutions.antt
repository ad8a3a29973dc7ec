-- Runs in which a read misses a write, and its execution is run again from there.
use Rattle.std.specs.Prelude.{◌≡◌, pos, true, false, [], ◌∷◌, Some, None}
use Rattle.protocol.specs.Words.{Client, Replica, Warden, Picked, Ran, Deliver, Go, Recover, Stop, Commit, Tentative, Abandon, ToCommit, Get, Note, Puts}
use Rattle.protocol.specs.Words.{Prepare, Voted, Finalize, Accepted, Decide, Ask, Told, first_wid}
use Rattle.protocol.specs.World.State.{World, first_world}
use Rattle.protocol.specs.World.Events.{replay_from, enabled}
use Rattle.protocol.specs.World.Decided.{decided_by}
use Rattle.protocol_runs.specs.Samples.{x1, y1, version_at, exec_of, second_of, wid_of, one, sent_so, written, increased, increased_on, looked, inc, look}
use Rattle.protocol_runs.specs.Samples.{half, two, only, plan, four}

-- client 2 reads x[1] before client 1's write of it comes, at a lower version
abbrev pub missed_end : World
missed_end = replay_from (plan 1 0 (only half 10 ∷ only two 20 ∷ []) [] 1) first_world (
    Picked (Client 1) Go ∷ Ran 1 ∷ Picked (Client 2) Go ∷ Ran 2 ∷ Picked (Replica 1) (Deliver 2) ∷
    Picked (Client 2) (Deliver 3) ∷ Ran 2 ∷ Picked (Replica 1) (Deliver 0) ∷ Picked (Client 2) (Deliver 5) ∷
    Ran 2 ∷ [])

-- a Note tells of the missed write, and execution 1 begins at the read
pub record MissedWrite : Type 0 where
  pub mail : missed_end.mail ≡ sent_so (
      one (Client 1) (Replica 1) (Puts (exec_of 10 1) (written x1 (pos 7))) ∷  -- 0
      one (Client 1) (Replica 1) (Get (exec_of 10 1) y1) ∷  -- 1
      one (Client 2) (Replica 1) (Get (exec_of 20 2) x1) ∷  -- 2
      one (Replica 1) (Client 2) (Note (version_at 20 2) x1 first_wid (pos 0) true None) ∷  -- 3
      one (Client 2) (Replica 1) (Get (exec_of 20 2) y1) ∷  -- 4
      one (Replica 1) (Client 2) (Note (version_at 20 2) x1 (wid_of 10 1 1) (pos 7) false None) ∷  -- 5
      one (Client 2) (Replica 1) (Puts (second_of 20 2) []) ∷  -- 6
      one (Client 2) (Replica 1) (Get (second_of 20 2) y1) ∷  -- 7
      [])
  pub events : missed_end.moved ≡ 10
  pub undecided : decided_by missed_end (Client 2) (exec_of 20 2) ≡ None
  pub idle : enabled (plan 1 0 (only half 10 ∷ only two 20 ∷ []) [] 1) missed_end (Ran 2) ≡ None

-- client 2 has prepared what it read before client 1's write of x[1] came, at a lower version
abbrev pub again_end : World
again_end = replay_from (plan 1 0 (only inc 10 ∷ only inc 20 ∷ []) four 1) first_world (
    Picked (Client 2) Go ∷ Ran 2 ∷ Picked (Replica 1) (Deliver 0) ∷ Picked (Client 2) (Deliver 1) ∷ Ran 2 ∷
    Picked (Client 1) Go ∷ Ran 1 ∷ Picked (Replica 1) (Deliver 4) ∷ Picked (Client 1) (Deliver 5) ∷ Ran 1 ∷
    Picked (Replica 1) (Deliver 6) ∷ Picked (Client 2) (Deliver 8) ∷ Picked (Replica 1) (Deliver 7) ∷
    Picked (Replica 1) (Deliver 3) ∷ Picked (Client 1) (Deliver 9) ∷ Picked (Replica 1) (Deliver 11) ∷
    Picked (Client 2) (Deliver 12) ∷ Picked (Client 2) (Deliver 10) ∷ Picked (Replica 1) (Deliver 13) ∷
    Picked (Client 2) (Deliver 14) ∷ Picked (Replica 1) (Deliver 15) ∷ Ran 2 ∷ Picked (Replica 1) (Deliver 16) ∷
    Picked (Replica 1) (Deliver 17) ∷ Picked (Client 2) (Deliver 18) ∷ Picked (Replica 1) (Deliver 19) ∷ [])

-- its vote is Tentative and its execution abandoned; it runs again from the read, on the new value, and commits
pub record ReExecution : Type 0 where
  pub mail : again_end.mail ≡ sent_so (
      one (Client 2) (Replica 1) (Get (exec_of 20 2) x1) ∷  -- 0
      one (Replica 1) (Client 2) (Note (version_at 20 2) x1 first_wid (pos 4) true None) ∷  -- 1
      one (Client 2) (Replica 1) (Puts (exec_of 20 2) (written x1 (pos 5))) ∷  -- 2
      one (Client 2) (Replica 1) (Prepare (exec_of 20 2) (increased (pos 4))) ∷  -- 3
      one (Client 1) (Replica 1) (Get (exec_of 10 1) x1) ∷  -- 4
      one (Replica 1) (Client 1) (Note (version_at 10 1) x1 first_wid (pos 4) true None) ∷  -- 5
      one (Client 1) (Replica 1) (Puts (exec_of 10 1) (written x1 (pos 5))) ∷  -- 6
      one (Client 1) (Replica 1) (Prepare (exec_of 10 1) (increased (pos 4))) ∷  -- 7
      one (Replica 1) (Client 2) (Note (version_at 20 2) x1 (wid_of 10 1 1) (pos 5) false None) ∷  -- 8
      one (Replica 1) (Client 1) (Voted (exec_of 10 1) Commit) ∷  -- 9
      one (Replica 1) (Client 2) (Voted (exec_of 20 2) Tentative) ∷  -- 10
      one (Client 1) (Replica 1) (Decide (exec_of 10 1) ToCommit (Some (increased (pos 4)))) ∷  -- 11
      one (Replica 1) (Client 2) (Note (version_at 20 2) x1 (wid_of 10 1 1) (pos 5) true None) ∷  -- 12
      one (Client 2) (Replica 1) (Finalize (exec_of 20 2) 0 Abandon None) ∷  -- 13
      one (Replica 1) (Client 2) (Accepted (exec_of 20 2) 0) ∷  -- 14
      one (Client 2) (Replica 1) (Decide (exec_of 20 2) Abandon None) ∷  -- 15
      one (Client 2) (Replica 1) (Puts (second_of 20 2) (written x1 (pos 6))) ∷  -- 16
      one (Client 2) (Replica 1) (Prepare (second_of 20 2) (increased_on (wid_of 10 1 1) (pos 5))) ∷  -- 17
      one (Replica 1) (Client 2) (Voted (second_of 20 2) Commit) ∷  -- 18
      one (Client 2) (Replica 1) (Decide (second_of 20 2) ToCommit (Some (increased_on (wid_of 10 1 1) (pos 5)))) ∷  -- 19
      [])
  pub events : again_end.moved ≡ 26
  pub earlier : decided_by again_end (Replica 1) (exec_of 10 1) ≡ Some ToCommit
  pub abandoned : decided_by again_end (Replica 1) (exec_of 20 2) ≡ Some Abandon
  pub committed : decided_by again_end (Replica 1) (second_of 20 2) ≡ Some ToCommit

-- client 1 stops after its Puts, which client 2 has read; a warden abandons client 1's execution
abbrev pub vanished_end : World
vanished_end = replay_from (plan 1 1 (only half 10 ∷ only look 20 ∷ []) [] 1) first_world (
    Picked (Client 1) Go ∷ Ran 1 ∷ Picked (Replica 1) (Deliver 0) ∷ Picked (Client 2) Go ∷ Ran 2 ∷
    Picked (Replica 1) (Deliver 2) ∷ Picked (Client 2) (Deliver 3) ∷ Ran 2 ∷ Picked (Client 1) Stop ∷
    Picked (Warden 1) (Recover (exec_of 10 1)) ∷ Picked (Replica 1) (Deliver 4) ∷ Picked (Warden 1) (Deliver 5) ∷
    Picked (Replica 1) (Deliver 6) ∷ Picked (Warden 1) (Deliver 7) ∷ Picked (Replica 1) (Deliver 8) ∷
    Picked (Client 2) (Deliver 10) ∷ Ran 2 ∷ Picked (Replica 1) (Deliver 12) ∷ Picked (Client 2) (Deliver 13) ∷
    Picked (Replica 1) (Deliver 14) ∷ [])

-- client 2 prepares nothing while its read is unsure; a Note names the write as gone, and it runs again on the value before
pub record VanishedWrite : Type 0 where
  pub mail : vanished_end.mail ≡ sent_so (
      one (Client 1) (Replica 1) (Puts (exec_of 10 1) (written x1 (pos 7))) ∷  -- 0
      one (Client 1) (Replica 1) (Get (exec_of 10 1) y1) ∷  -- 1
      one (Client 2) (Replica 1) (Get (exec_of 20 2) x1) ∷  -- 2
      one (Replica 1) (Client 2) (Note (version_at 20 2) x1 (wid_of 10 1 1) (pos 7) false None) ∷  -- 3
      one (Warden 1) (Replica 1) (Ask (exec_of 10 1) 1) ∷  -- 4
      one (Replica 1) (Warden 1) (Told (exec_of 10 1) 1 None None None None) ∷  -- 5
      one (Warden 1) (Replica 1) (Finalize (exec_of 10 1) 1 Abandon None) ∷  -- 6
      one (Replica 1) (Warden 1) (Accepted (exec_of 10 1) 1) ∷  -- 7
      one (Warden 1) (Replica 1) (Decide (exec_of 10 1) Abandon None) ∷  -- 8
      one (Warden 1) (Client 1) (Decide (exec_of 10 1) Abandon None) ∷  -- 9
      one (Replica 1) (Client 2) (Note (version_at 20 2) x1 first_wid (pos 0) true (Some (wid_of 10 1 1))) ∷  -- 10
      one (Client 2) (Replica 1) (Puts (second_of 20 2) []) ∷  -- 11
      one (Client 2) (Replica 1) (Prepare (second_of 20 2) (looked (pos 0))) ∷  -- 12
      one (Replica 1) (Client 2) (Voted (second_of 20 2) Commit) ∷  -- 13
      one (Client 2) (Replica 1) (Decide (second_of 20 2) ToCommit (Some (looked (pos 0)))) ∷  -- 14
      [])
  pub events : vanished_end.moved ≡ 20
  pub abandoned : decided_by vanished_end (Replica 1) (exec_of 10 1) ≡ Some Abandon
  pub decision : decided_by vanished_end (Replica 1) (second_of 20 2) ≡ Some ToCommit
