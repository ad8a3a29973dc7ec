-- The invariants on which agreement rests.
use Rattle.std.specs.Prelude.{◌≡◌, ℕ, ◌<◌, ◌≤◌, Option, Some}
use Rattle.protocol.specs.Words.{Exec, NodeId, Client, Replica, Body, Content, Final, Choice, Abandon, ToCommit, Finalize, Accepted, Decide, Voted, Vote}
use Rattle.protocol.specs.Lists.{IsIn}
use Rattle.protocol.specs.Quorums.{Quorum}
use Rattle.protocol.specs.Replica.Acceptor.{Acceptance, acceptances}
use Rattle.protocol.specs.Replica.Votes.{vote}
use Rattle.protocol.specs.World.State.{Plan, World}
use Rattle.protocol.specs.World.Decided.{decided_by, WasSent, WasSentBy, Committed, HasContent}
use Rattle.protocol.specs.Always.{Always, AlwaysOfAny}
use Rattle.law_safety.specs.Locks.{VotedCommit, HasAccepted, Shut, AbandonLock, CommitLock}

-- all contents of x in the mail are equal
abbrev pub OneContentOf : Plan → World → Type 0
OneContentOf p w = (x : Exec) (b c : Body) (k l : Content) → WasSent w b → WasSent w c → HasContent b x k → HasContent c x l → k ≡ l

abbrev pub OneContent : Type 0
OneContent = Always OneContentOf

-- where a node decided Commit of x, or a Finalize of Commit of x was sent, a quorum of the replicas voted Commit on x
pub record CommitNeedsVotesOf (p : Plan) (w : World) : Type 0 where
  pub decided : (x : Exec) → Committed w x → Quorum p.replicas (VotedCommit w x)
  pub proposed : (x : Exec) (view : ℕ) (content : Option Content) → WasSent w (Finalize x view ToCommit content) → Quorum p.replicas (VotedCommit w x)

abbrev pub CommitNeedsVotes : Type 0
CommitNeedsVotes = Always CommitNeedsVotesOf

-- why Abandon of x may be proposed: the client proposed it in view 0, or some replica is shut to x
pub data MayAbandon (p : Plan) (w : World) (x : Exec) : Type 0 where
  Client_proposed : (content : Option Content) → WasSentBy w (Client x.ver.client) (Finalize x 0 Abandon content) → MayAbandon p w x
  One_shut : (r : ℕ) → 0 < r → r ≤ p.replicas → Shut w x r → MayAbandon p w x

-- where a Finalize of Abandon of x was sent, it may be
abbrev pub AbandonProposalsOf : Plan → World → Type 0
AbandonProposalsOf p w = (x : Exec) (view : ℕ) (content : Option Content) → WasSent w (Finalize x view Abandon content) → MayAbandon p w x

abbrev pub AbandonProposals : Type 0
AbandonProposals = Always AbandonProposalsOf

-- all Finalizes of x in one view carry one choice; what a quorum accepted in one view, every Finalize of a higher view carries
pub record ViewsOf (p : Plan) (w : World) : Type 0 where
  pub one : (x : Exec) (v : ℕ) (d c : Choice) (o u : Option Content) → WasSent w (Finalize x v d o) → WasSent w (Finalize x v c u) → d ≡ c
  pub carried : (x : Exec) (u v : ℕ) (d c : Choice) (o : Option Content) → Quorum p.replicas (HasAccepted w x u c) → WasSent w (Finalize x v d o) → u < v → d ≡ c

abbrev pub Views : Type 0
Views = Always ViewsOf

-- where a node decided Abandon of x, or a Final vote on x was sent, Abandon of x is locked;
-- where a node decided Commit of x, Commit of x is locked; the two are never locked both
pub record LocksHoldOf (p : Plan) (w : World) : Type 0 where
  pub abandoned : (n : NodeId) (x : Exec) → decided_by w n x ≡ Some Abandon → AbandonLock p.replicas w x
  pub final : (x : Exec) → WasSent w (Voted x Final) → AbandonLock p.replicas w x
  pub committed : (x : Exec) → Committed w x → CommitLock p.replicas w x
  pub never_both : (x : Exec) → AbandonLock p.replicas w x → CommitLock p.replicas w x → ⊥

abbrev pub LocksHold : Type 0
LocksHold = Always LocksHoldOf

-- what a replica voted and accepted by its list is just what it said in the mail
pub record AnswersTellOf (p : Plan) (w : World) : Type 0 where
  pub votes : (r : ℕ) (x : Exec) (v : Vote) → vote (w.replica r) x ≡ Some v → WasSentBy w (Replica r) (Voted x v)
  pub voted : (r : ℕ) (x : Exec) (v : Vote) → WasSentBy w (Replica r) (Voted x v) → vote (w.replica r) x ≡ Some v
  pub accepts : (r : ℕ) (a : Acceptance) → IsIn a (acceptances (w.replica r)) → WasSentBy w (Replica r) (Accepted a.exec a.view)
  pub accepted : (r : ℕ) (x : Exec) (view : ℕ) → WasSentBy w (Replica r) (Accepted x view) →
      (a : Acceptance) × IsIn a (acceptances (w.replica r)) × (a.exec ≡ x) × (a.view ≡ view)

abbrev pub AnswersTell : Type 0
AnswersTell = AlwaysOfAny AnswersTellOf

-- x is committed just where a Decide of Commit of it was sent
pub record CommitIsSentOf (p : Plan) (w : World) : Type 0 where
  pub sent : (x : Exec) → Committed w x → (content : Option Content) × WasSent w (Decide x ToCommit content)
  pub committed : (x : Exec) (content : Option Content) → WasSent w (Decide x ToCommit content) → Committed w x

abbrev pub CommitIsSent : Type 0
CommitIsSent = Always CommitIsSentOf
