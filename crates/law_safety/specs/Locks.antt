-- What locks a choice.
use Rattle.std.specs.Prelude.{◌≡◌, ◌≢◌, ℕ, ◌<◌, ◌≤◌, true, Option, Some}
use Rattle.protocol.specs.Words.{Exec, Content, Vote, Commit, Choice, Abandon, ToCommit, Prepare, Finalize, Decide}
use Rattle.protocol.specs.Lists.{IsIn}
use Rattle.protocol.specs.Replica.Votes.{casts, vote, Cast, conflicts}
use Rattle.protocol.specs.Replica.Acceptor.{promised, Acceptance, acceptances, decided}
use Rattle.protocol.specs.Replica.Taken.{fence}
use Rattle.protocol.specs.World.State.{World}
use Rattle.law_steps.specs.Executions.{Over}
use Rattle.protocol.specs.Quorums.{Quorum}
use Rattle.protocol.specs.World.Decided.{UpTo, WasSent}

-- replica r voted Commit on x
abbrev pub VotedCommit : World → Exec → ℕ → Type 0
VotedCommit w x r = vote (w.replica r) x ≡ Some Commit

-- replica r accepted d on x in view v
abbrev pub HasAccepted : World → Exec → ℕ → Choice → ℕ → Type 0
HasAccepted w x v d r = (a : Acceptance) × IsIn a (acceptances (w.replica r)) × (a.exec ≡ x) × (a.view ≡ v) × (a.choice ≡ d)

-- the client of x decided d of it, or learnt it
abbrev pub ClientDecided : World → Exec → Choice → Type 0
ClientDecided w x d = IsIn (record { exec = x; choice = d }) (w.client x.ver.client).decisions

-- a replica that has not voted Commit on x and never will: it voted otherwise, promised a view above 0, took a
-- decision, has a fence at or above the version, or voted Commit on a committed execution in conflict with x; or no
-- Prepare of x was sent, and the client is done with x
pub data Shut (w : World) (x : Exec) (r : ℕ) : Type 0 where
  Voted_other : (v : Vote) → v ≢ Commit → vote (w.replica r) x ≡ Some v → Shut w x r
  Has_promised : vote (w.replica r) x ≢ Some Commit → 0 < promised (w.replica r) x → Shut w x r
  Has_decided : vote (w.replica r) x ≢ Some Commit → (d : Choice) → decided (w.replica r) x ≡ Some d → Shut w x r
  Fenced_out : vote (w.replica r) x ≢ Some Commit → UpTo x.ver (fence (w.replica r)) → Shut w x r
  Unsent : ((k : Content) → WasSent w (Prepare x k) → ⊥) → Over x (w.client x.ver.client) → Shut w x r
  Conflicting :
      vote (w.replica r) x ≢ Some Commit →
      (k : Content) → WasSent w (Prepare x k) →
      (c : Cast) → IsIn c (casts (w.replica r)) → c.vote ≡ Commit → conflicts x.ver k c.exec.ver c.content ≡ true →
      (o : Option Content) → WasSent w (Decide c.exec ToCommit o) →
      Shut w x r

-- Abandon of x is locked: a quorum accepted it in one view, or is shut to x
pub data AbandonLock (n : ℕ) (w : World) (x : Exec) : Type 0 where
  Accepted_abandon : (v : ℕ) → Quorum n (HasAccepted w x v Abandon) → AbandonLock n w x
  All_shut : Quorum n (Shut w x) → AbandonLock n w x

-- Commit of x is locked: a quorum accepted it in one view, or the client decided it on the Commit votes of all n
-- replicas and so proposed nothing
pub data CommitLock (n : ℕ) (w : World) (x : Exec) : Type 0 where
  Accepted_commit : (v : ℕ) → Quorum n (HasAccepted w x v ToCommit) → CommitLock n w x
  Fast :
      ((r : ℕ) → 0 < r → r ≤ n → VotedCommit w x r) →
      ClientDecided w x ToCommit →
      ((d : Choice) (o : Option Content) → WasSent w (Finalize x 0 d o) → ⊥) →
      CommitLock n w x
