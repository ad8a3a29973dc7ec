-- What the induction over the small steps of a world carries.
use Rattle.std.proofs.Common.{◌≡◌, ℕ, ◌⊎◌, List, Option, Some}
use Rattle.protocol.specs.Words.{Version, Exec, BaseEntry, Drops, Decide, Content, Final, Abandon, ToCommit}
use Rattle.protocol.specs.World.Decided.{UpTo, WasSent}
use Rattle.protocol.specs.Replica.Votes.{vote}
use Rattle.protocol.specs.Quorums.{Quorum}
use Rattle.protocol.specs.World.State.{World}
use Rattle.law_safety.specs.Locks.{VotedCommit, AbandonLock, CommitLock}
use Rattle.law_safety.proofs.BaseEntries.{Bases}
use Rattle.law_safety.proofs.LocksLemmas.{Proposals}

-- the invariants of proposals and decisions
pub record Safe (n : ℕ) (w : World) : Type 0 where
  pub proposals : Proposals n w
  pub abandoned : (x : Exec) (o : Option Content) → WasSent w (Decide x Abandon o) → AbandonLock n w x
  pub committed : (x : Exec) (o : Option Content) → WasSent w (Decide x ToCommit o) → CommitLock n w x × Quorum n (VotedCommit w x)
  pub final : (x : Exec) (r : ℕ) → vote (w.replica r) x ≡ Some Final → AbandonLock n w x
  pub cut : (v : Version) (bs : List BaseEntry) → WasSent w (Drops v bs) → (x : Exec) → UpTo x.ver v →
      ((o : Option Content) × WasSent w (Decide x ToCommit o)) ⊎ AbandonLock n w x
  pub bases : Bases w
