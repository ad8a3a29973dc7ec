-- What the laws of the protocol ask of a plan and its programs, each as what it does on answers.
use Rattle.std.specs.Prelude.{◌≡◌, ℕ, ◌<◌, ℤ, List, ◌++◌, take, Some}
use Rattle.std.specs.List.{slice_get}
use Rattle.protocol.specs.Words.{Key, Write}
use Rattle.protocol.specs.Client.State.{Walk, walk_at}
use Rattle.protocol.specs.World.State.{Plan, rules}

-- the i-th answered read is the one that the program asks after the first i answers
pub record IsProgramWalk (walk : List ℤ → Walk) : Type 0 where
  pub asked : (vs : List ℤ) (i : ℕ) (k : Key) → slice_get (walk vs).keys i ≡ Some k → (walk (take i vs)).asks ≡ Some k

-- more answers only add writes
pub record WritesGrow (walk : List ℤ → Walk) : Type 0 where
  pub more : (vs us : List ℤ) → (ws : List Write) × ((walk (vs ++ us)).writes ≡ (walk vs).writes ++ ws)

-- each transaction of each client has a program
abbrev pub HasPrograms : Plan → Type 0
HasPrograms p = (c n : ℕ) → IsProgramWalk (walk_at (slice_get (rules p c).txns n))

-- what the laws on reads ask of a plan: a replica, programs that ask in order, writes that grow with the answers
pub record MeetsPremises (p : Plan) : Type 0 where
  pub replicas : 0 < p.replicas
  pub programs : HasPrograms p
  pub grow : (c n : ℕ) → WritesGrow (walk_at (slice_get (rules p c).txns n))
