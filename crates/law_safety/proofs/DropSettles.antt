-- What is at or below a dropped version is committed, or Abandon of it is locked.
use Rattle.std.proofs.Common.{◌<◌, ◌⊎◌, inl, inr, List}
use Rattle.protocol.specs.Words.{Exec, Version, BaseEntry, Drops}
use Rattle.protocol.specs.World.State.{Plan, World}
use Rattle.protocol.specs.World.Decided.{UpTo, WasSent, Committed}
use Rattle.law_steps.proofs.Reach.{Reach}
use Rattle.law_steps.proofs.AlwaysLemmas.{always}
use Rattle.law_safety.specs.Locks.{AbandonLock}
use Rattle.law_safety.specs.Bases.{DropSettles, DropSettlesOf}
use Rattle.law_safety.proofs.InvariantHolds.{safe_reach}
use Rattle.law_safety.proofs.CommitIsSent.{sent_committed}

module _ (p : Plan) (pos : 0 < p.replicas) (w : World) (q : Reach p w) where
  pub drop_settles_now : (v : Version) (bs : List BaseEntry) → WasSent w (Drops v bs) → (x : Exec) → UpTo x.ver v → Committed w x ⊎ AbandonLock p.replicas w x
  drop_settles_now v bs t x u = elim ((safe_reach p pos w q).cut v bs t x u) [ inl c ↦ inl (sent_committed p pos w q x c) | inr l ↦ inr l ]

pub drop_settles : DropSettles
drop_settles = always DropSettlesOf (λ p some w q v bs x t u. drop_settles_now p some w q v bs t x u)
