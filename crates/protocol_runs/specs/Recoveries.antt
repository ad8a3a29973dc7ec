-- Runs in which wardens finish what a stopped client left open.
use Rattle.std.specs.Prelude.{◌≡◌, pos, [], ◌∷◌, ◌++◌, Some, None}
use Rattle.protocol.specs.Words.{Client, Replica, Warden, Picked, Deliver, Recover, Stop, Commit, Abandon, ToCommit}
use Rattle.protocol.specs.Words.{Finalize, Accepted, Decide, Ask, Told}
use Rattle.protocol.specs.World.State.{World, first_world}
use Rattle.protocol.specs.World.Events.{to_all, replay_from}
use Rattle.protocol.specs.World.Decided.{decided_by}
use Rattle.protocol_runs.specs.Samples.{two_votes, two_votes_mail, exec_of, one, sent_so, pair, increased, inc, only, plan, four}

-- the client stops with no vote delivered; warden 1 proposes in view 1, which one replica accepts; warden 2 asks in view 2
abbrev pub contest_end : World
contest_end = replay_from (plan 3 2 (only inc 10 ∷ []) four 1) first_world (two_votes ++
    Picked (Client 1) Stop ∷ Picked (Warden 1) (Recover (exec_of 10 1)) ∷ Picked (Replica 1) (Deliver 12) ∷
    Picked (Replica 2) (Deliver 13) ∷ Picked (Warden 1) (Deliver 15) ∷ Picked (Warden 1) (Deliver 16) ∷
    Picked (Replica 1) (Deliver 17) ∷ Picked (Warden 2) (Recover (exec_of 10 1)) ∷
    Picked (Replica 1) (Deliver 21) ∷ Picked (Replica 3) (Deliver 23) ∷ Picked (Warden 2) (Deliver 24) ∷
    Picked (Warden 2) (Deliver 25) ∷ Picked (Replica 2) (Deliver 27) ∷ Picked (Replica 3) (Deliver 28) ∷
    Picked (Warden 2) (Deliver 29) ∷ Picked (Warden 2) (Deliver 30) ∷ [])

-- warden 2 proposes what was accepted in view 1, and decides it
pub record ViewContest : Type 0 where
  pub mail : contest_end.mail ≡ sent_so (two_votes_mail ++  -- 0 to 11
      to_all 3 (Warden 1) (Ask (exec_of 10 1) 1) ∷  -- 12 to 14
      one (Replica 1) (Warden 1) (Told (exec_of 10 1) 1 (Some Commit) None None (Some (increased (pos 4)))) ∷  -- 15
      one (Replica 2) (Warden 1) (Told (exec_of 10 1) 1 (Some Commit) None None (Some (increased (pos 4)))) ∷  -- 16
      to_all 3 (Warden 1) (Finalize (exec_of 10 1) 1 ToCommit (Some (increased (pos 4)))) ∷  -- 17 to 19
      one (Replica 1) (Warden 1) (Accepted (exec_of 10 1) 1) ∷  -- 20
      to_all 3 (Warden 2) (Ask (exec_of 10 1) 2) ∷  -- 21 to 23
      one (Replica 1) (Warden 2) (Told (exec_of 10 1) 2 (Some Commit) (Some (pair 1 ToCommit)) None (Some (increased (pos 4)))) ∷  -- 24
      one (Replica 3) (Warden 2) (Told (exec_of 10 1) 2 None None None None) ∷  -- 25
      to_all 3 (Warden 2) (Finalize (exec_of 10 1) 2 ToCommit (Some (increased (pos 4)))) ∷  -- 26 to 28
      one (Replica 2) (Warden 2) (Accepted (exec_of 10 1) 2) ∷  -- 29
      one (Replica 3) (Warden 2) (Accepted (exec_of 10 1) 2) ∷  -- 30
      to_all 3 (Warden 2) (Decide (exec_of 10 1) ToCommit (Some (increased (pos 4)))) ∷  -- 31 to 33
      one (Warden 2) (Client 1) (Decide (exec_of 10 1) ToCommit (Some (increased (pos 4)))) ∷  -- 34
      [])
  pub events : contest_end.moved ≡ 23
  pub decision : decided_by contest_end (Warden 2) (exec_of 10 1) ≡ Some ToCommit
  pub undecided : decided_by contest_end (Client 1) (exec_of 10 1) ≡ None

-- a warden that hears of one Commit vote and of a replica without a vote; then that replica gets the Prepare
abbrev pub abandoning_end : World
abandoning_end = replay_from (plan 3 2 (only inc 10 ∷ []) four 1) first_world (two_votes ++
    Picked (Client 1) Stop ∷ Picked (Warden 1) (Recover (exec_of 10 1)) ∷ Picked (Replica 1) (Deliver 12) ∷
    Picked (Replica 3) (Deliver 14) ∷ Picked (Warden 1) (Deliver 15) ∷ Picked (Warden 1) (Deliver 16) ∷
    Picked (Replica 3) (Deliver 9) ∷ [])

-- the warden proposes Abandon, and a replica that promised its view votes no more
pub record WardenAbandons : Type 0 where
  pub mail : abandoning_end.mail ≡ sent_so (two_votes_mail ++  -- 0 to 11
      to_all 3 (Warden 1) (Ask (exec_of 10 1) 1) ∷  -- 12 to 14
      one (Replica 1) (Warden 1) (Told (exec_of 10 1) 1 (Some Commit) None None (Some (increased (pos 4)))) ∷  -- 15
      one (Replica 3) (Warden 1) (Told (exec_of 10 1) 1 None None None None) ∷  -- 16
      to_all 3 (Warden 1) (Finalize (exec_of 10 1) 1 Abandon None) ∷  -- 17 to 19
      [])
  pub events : abandoning_end.moved ≡ 14
  pub undecided : decided_by abandoning_end (Client 1) (exec_of 10 1) ≡ None

-- view 1 proposes Abandon, which replica 3 accepts; view 2 proposes Commit, which replica 1 accepts; view 3 hears of both
abbrev pub three_end : World
three_end = replay_from (plan 3 2 (only inc 10 ∷ []) four 1) first_world (two_votes ++
    Picked (Client 1) Stop ∷ Picked (Warden 1) (Recover (exec_of 10 1)) ∷ Picked (Replica 1) (Deliver 12) ∷
    Picked (Replica 3) (Deliver 14) ∷ Picked (Warden 1) (Deliver 15) ∷ Picked (Warden 1) (Deliver 16) ∷
    Picked (Replica 3) (Deliver 19) ∷ Picked (Warden 2) (Recover (exec_of 10 1)) ∷
    Picked (Replica 1) (Deliver 21) ∷ Picked (Replica 2) (Deliver 22) ∷ Picked (Warden 2) (Deliver 24) ∷
    Picked (Warden 2) (Deliver 25) ∷ Picked (Replica 1) (Deliver 26) ∷ Picked (Warden 1) (Recover (exec_of 10 1)) ∷
    Picked (Replica 3) (Deliver 32) ∷ Picked (Replica 1) (Deliver 30) ∷ Picked (Warden 1) (Deliver 33) ∷
    Picked (Warden 1) (Deliver 34) ∷ Picked (Replica 1) (Deliver 35) ∷ Picked (Replica 3) (Deliver 37) ∷
    Picked (Warden 1) (Deliver 38) ∷ Picked (Warden 1) (Deliver 39) ∷ [])

-- view 3 proposes what was accepted in view 2, and so decides Commit
pub record ThreeViews : Type 0 where
  pub mail : three_end.mail ≡ sent_so (two_votes_mail ++  -- 0 to 11
      to_all 3 (Warden 1) (Ask (exec_of 10 1) 1) ∷  -- 12 to 14
      one (Replica 1) (Warden 1) (Told (exec_of 10 1) 1 (Some Commit) None None (Some (increased (pos 4)))) ∷  -- 15
      one (Replica 3) (Warden 1) (Told (exec_of 10 1) 1 None None None None) ∷  -- 16
      to_all 3 (Warden 1) (Finalize (exec_of 10 1) 1 Abandon None) ∷  -- 17 to 19
      one (Replica 3) (Warden 1) (Accepted (exec_of 10 1) 1) ∷  -- 20
      to_all 3 (Warden 2) (Ask (exec_of 10 1) 2) ∷  -- 21 to 23
      one (Replica 1) (Warden 2) (Told (exec_of 10 1) 2 (Some Commit) None None (Some (increased (pos 4)))) ∷  -- 24
      one (Replica 2) (Warden 2) (Told (exec_of 10 1) 2 (Some Commit) None None (Some (increased (pos 4)))) ∷  -- 25
      to_all 3 (Warden 2) (Finalize (exec_of 10 1) 2 ToCommit (Some (increased (pos 4)))) ∷  -- 26 to 28
      one (Replica 1) (Warden 2) (Accepted (exec_of 10 1) 2) ∷  -- 29
      to_all 3 (Warden 1) (Ask (exec_of 10 1) 3) ∷  -- 30 to 32
      one (Replica 3) (Warden 1) (Told (exec_of 10 1) 3 None (Some (pair 1 Abandon)) None None) ∷  -- 33
      one (Replica 1) (Warden 1) (Told (exec_of 10 1) 3 (Some Commit) (Some (pair 2 ToCommit)) None (Some (increased (pos 4)))) ∷  -- 34
      to_all 3 (Warden 1) (Finalize (exec_of 10 1) 3 ToCommit (Some (increased (pos 4)))) ∷  -- 35 to 37
      one (Replica 1) (Warden 1) (Accepted (exec_of 10 1) 3) ∷  -- 38
      one (Replica 3) (Warden 1) (Accepted (exec_of 10 1) 3) ∷  -- 39
      to_all 3 (Warden 1) (Decide (exec_of 10 1) ToCommit (Some (increased (pos 4)))) ∷  -- 40 to 42
      one (Warden 1) (Client 1) (Decide (exec_of 10 1) ToCommit (Some (increased (pos 4)))) ∷  -- 43
      [])
  pub events : three_end.moved ≡ 29
  pub decision : decided_by three_end (Warden 1) (exec_of 10 1) ≡ Some ToCommit
