-- Runs in which a warden drops the past.
use Rattle.std.specs.Prelude.{◌≡◌, pos, true, [], ◌∷◌, ◌++◌, Some, None}
use Rattle.protocol.specs.Words.{Client, Replica, Warden, Picked, Ran, Deliver, Go, Truncate, Commit, Abandon, ToCommit, Get, Note}
use Rattle.protocol.specs.Words.{Finalize, Accepted, Decide, Ask, Told, Fence, Fenced, Drops, TooOld, first_wid}
use Rattle.protocol.specs.World.State.{World, first_world}
use Rattle.protocol.specs.World.Events.{to_all, replay_from}
use Rattle.protocol.specs.World.Decided.{decided_by}
use Rattle.protocol_runs.specs.Samples.{two_votes, two_votes_mail, x1, version_at, exec_of, wid_of, one, sent_so, entry_of, kept_as, increased, inc}
use Rattle.protocol_runs.specs.Samples.{look, only, plan, four}

-- a warden drops version 20.0, on which an execution is voted and undecided; then client 2 comes too late, and tries again
abbrev pub cut_end : World
cut_end = replay_from (plan 3 1 (only inc 10 ∷ only look 15 ∷ []) four 10) first_world (two_votes ++
    Picked (Warden 1) (Truncate (version_at 20 0)) ∷ Picked (Replica 1) (Deliver 12) ∷
    Picked (Replica 2) (Deliver 13) ∷ Picked (Warden 1) (Deliver 15) ∷ Picked (Warden 1) (Deliver 16) ∷
    Picked (Replica 1) (Deliver 17) ∷ Picked (Replica 2) (Deliver 18) ∷ Picked (Warden 1) (Deliver 20) ∷
    Picked (Warden 1) (Deliver 21) ∷ Picked (Replica 1) (Deliver 22) ∷ Picked (Replica 2) (Deliver 23) ∷
    Picked (Warden 1) (Deliver 25) ∷ Picked (Warden 1) (Deliver 26) ∷ Picked (Replica 1) (Deliver 31) ∷
    Picked (Replica 1) (Deliver 27) ∷ Picked (Replica 1) (Deliver 17) ∷ Picked (Client 2) Go ∷ Ran 2 ∷
    Picked (Replica 1) (Deliver 34) ∷ Picked (Client 2) (Deliver 37) ∷ Picked (Client 2) Go ∷ Ran 2 ∷
    Picked (Replica 1) (Deliver 41) ∷ [])

-- the execution is recovered first, and the Drop carries its write; a Get below is too old, and one above is answered from the base
pub record Truncated : Type 0 where
  pub mail : cut_end.mail ≡ sent_so (two_votes_mail ++  -- 0 to 11
      to_all 3 (Warden 1) (Fence (version_at 20 0)) ∷  -- 12 to 14
      one (Replica 1) (Warden 1) (Fenced (version_at 20 0) [] [] (kept_as (exec_of 10 1) (increased (pos 4)) ∷ [])) ∷  -- 15
      one (Replica 2) (Warden 1) (Fenced (version_at 20 0) [] [] (kept_as (exec_of 10 1) (increased (pos 4)) ∷ [])) ∷  -- 16
      to_all 3 (Warden 1) (Ask (exec_of 10 1) 1) ∷  -- 17 to 19
      one (Replica 1) (Warden 1) (Told (exec_of 10 1) 1 (Some Commit) None None (Some (increased (pos 4)))) ∷  -- 20
      one (Replica 2) (Warden 1) (Told (exec_of 10 1) 1 (Some Commit) None None (Some (increased (pos 4)))) ∷  -- 21
      to_all 3 (Warden 1) (Finalize (exec_of 10 1) 1 ToCommit (Some (increased (pos 4)))) ∷  -- 22 to 24
      one (Replica 1) (Warden 1) (Accepted (exec_of 10 1) 1) ∷  -- 25
      one (Replica 2) (Warden 1) (Accepted (exec_of 10 1) 1) ∷  -- 26
      to_all 3 (Warden 1) (Decide (exec_of 10 1) ToCommit (Some (increased (pos 4)))) ∷  -- 27 to 29
      one (Warden 1) (Client 1) (Decide (exec_of 10 1) ToCommit (Some (increased (pos 4)))) ∷  -- 30
      to_all 3 (Warden 1) (Drops (version_at 20 0) (entry_of x1 (wid_of 10 1 1) (pos 5) ∷ [])) ∷  -- 31 to 33
      to_all 3 (Client 2) (Get (exec_of 15 2) x1) ∷  -- 34 to 36
      one (Replica 1) (Client 2) (TooOld (version_at 15 2) (version_at 20 0)) ∷  -- 37
      to_all 3 (Client 2) (Decide (exec_of 15 2) Abandon None) ∷  -- 38 to 40
      to_all 3 (Client 2) (Get (exec_of 25 2) x1) ∷  -- 41 to 43
      one (Replica 1) (Client 2) (Note (version_at 25 2) x1 (wid_of 10 1 1) (pos 5) true None) ∷  -- 44
      [])
  pub events : cut_end.moved ≡ 30
  pub decision : decided_by cut_end (Warden 1) (exec_of 10 1) ≡ Some ToCommit
  pub abandoned : decided_by cut_end (Client 2) (exec_of 15 2) ≡ Some Abandon

-- client 2 reads at version 15.2, which a truncation of 20.0 drops before it prepares
abbrev pub reader_end : World
reader_end = replay_from (plan 3 1 (only inc 10 ∷ only look 15 ∷ []) four 10) first_world (two_votes ++
    Picked (Client 2) Go ∷ Ran 2 ∷ Picked (Replica 1) (Deliver 12) ∷
    Picked (Warden 1) (Truncate (version_at 20 0)) ∷ Picked (Replica 1) (Deliver 16) ∷
    Picked (Replica 2) (Deliver 17) ∷ Picked (Warden 1) (Deliver 19) ∷ Picked (Warden 1) (Deliver 20) ∷
    Picked (Replica 1) (Deliver 21) ∷ Picked (Replica 2) (Deliver 22) ∷ Picked (Warden 1) (Deliver 24) ∷
    Picked (Warden 1) (Deliver 25) ∷ Picked (Replica 1) (Deliver 26) ∷ Picked (Replica 2) (Deliver 27) ∷
    Picked (Warden 1) (Deliver 29) ∷ Picked (Warden 1) (Deliver 30) ∷ Picked (Replica 1) (Deliver 35) ∷ [])

-- replica 1 drops with a base that would change what that reader saw, and sends it nothing
pub record DroppedReader : Type 0 where
  pub mail : reader_end.mail ≡ sent_so (two_votes_mail ++  -- 0 to 11
      to_all 3 (Client 2) (Get (exec_of 15 2) x1) ∷  -- 12 to 14
      one (Replica 1) (Client 2) (Note (version_at 15 2) x1 first_wid (pos 4) true None) ∷  -- 15
      to_all 3 (Warden 1) (Fence (version_at 20 0)) ∷  -- 16 to 18
      one (Replica 1) (Warden 1) (Fenced (version_at 20 0) [] [] (kept_as (exec_of 10 1) (increased (pos 4)) ∷ [])) ∷  -- 19
      one (Replica 2) (Warden 1) (Fenced (version_at 20 0) [] [] (kept_as (exec_of 10 1) (increased (pos 4)) ∷ [])) ∷  -- 20
      to_all 3 (Warden 1) (Ask (exec_of 10 1) 1) ∷  -- 21 to 23
      one (Replica 1) (Warden 1) (Told (exec_of 10 1) 1 (Some Commit) None None (Some (increased (pos 4)))) ∷  -- 24
      one (Replica 2) (Warden 1) (Told (exec_of 10 1) 1 (Some Commit) None None (Some (increased (pos 4)))) ∷  -- 25
      to_all 3 (Warden 1) (Finalize (exec_of 10 1) 1 ToCommit (Some (increased (pos 4)))) ∷  -- 26 to 28
      one (Replica 1) (Warden 1) (Accepted (exec_of 10 1) 1) ∷  -- 29
      one (Replica 2) (Warden 1) (Accepted (exec_of 10 1) 1) ∷  -- 30
      to_all 3 (Warden 1) (Decide (exec_of 10 1) ToCommit (Some (increased (pos 4)))) ∷  -- 31 to 33
      one (Warden 1) (Client 1) (Decide (exec_of 10 1) ToCommit (Some (increased (pos 4)))) ∷  -- 34
      to_all 3 (Warden 1) (Drops (version_at 20 0) (entry_of x1 (wid_of 10 1 1) (pos 5) ∷ [])) ∷  -- 35 to 37
      [])
  pub events : reader_end.moved ≡ 24
  pub decision : decided_by reader_end (Warden 1) (exec_of 10 1) ≡ Some ToCommit
