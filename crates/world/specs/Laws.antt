-- The laws of the protocol, said of worlds of real nodes: of each World and the events that it took.
use Rattle.std.specs.Prelude.{◌≡◌, ℕ, List, reverse}
use Rattle.protocol.specs.Words.{NodeId, Version, Drops, BaseEntry}
use Rattle.protocol.specs.World.State.{World, first_world}
use Rattle.protocol.specs.World.Decided.{WasSent}
use Rattle.protocol.specs.World.Committed.{committed_executions}
use Rattle.protocol_plans.specs.SerialOutcome.{IsSerial, IsBaseAt}
use Rattle.law_safety.specs.Agreement.{AgreementOf}
use Rattle.law_safety.specs.Tries.{OneExecutionOf}
use Rattle.law_progress.specs.Undisturbed.{IsUndisturbed, IsSettled}
use Rattle.law_progress.specs.Apart.{IsApart}
use Rattle.law_progress.specs.FirstCommits.{HasBegun, IsFirstCommit}
use Rattle.net_core.specs.Machine.{History}
use Rattle.world.specs.declared.origin.Origin.{Origin}
use Rattle.world.specs.Origin.{script, plan, world_at}
use Rattle.world.specs.declared.world.World.{World as Kept}
use Rattle.world.specs.World.{Stands}
use Rattle.world.specs.Jobs.{pending_of}

-- a law of each World that stands for the events that it took
abbrev pub OfWorlds : (Origin → History → World → Type 0) → Type 0
OfWorlds L = (k : Kept) (o : Origin) (h : History) → Stands k o h → L o h (world_at o h)

-- no execution is decided Abandon at one node and Commit at another
abbrev pub Agreement : Type 0
Agreement = OfWorlds (λ o h w. AgreementOf (plan o) w)

-- of all executions of all tries of a transaction at most one is committed
abbrev pub OneExecution : Type 0
OneExecution = OfWorlds (λ o h w. OneExecutionOf (plan o) w)

-- the committed executions are the serial run of their programs, by rising version, and each Drop carries its map
pub record IsSerialWorld (o : Origin) (w : World) : Type 0 where
  pub serial : IsSerial (script o) (committed_executions (plan o) w)
  pub based : (v : Version) (bs : List BaseEntry) → WasSent w (Drops v bs) → IsBaseAt (script o) w v bs

abbrev pub SerialReads : Type 0
SerialReads = OfWorlds (λ o h w. IsSerialWorld o w)

-- where nothing disturbs and all that was sent arrived, each transaction that began and shares no key is committed at
-- execution 0 of its first try
abbrev pub FirstCommits : Type 0
FirstCommits = OfWorlds (λ o h w. IsUndisturbed (plan o) first_world (reverse h) → IsSettled w →
    (c n : ℕ) → HasBegun w c n → IsApart w c n → IsFirstCommit w c n)

-- two Worlds of one origin that took the same events have the same pending job at each node, to the place in the code, whether
-- a World ran the jobs before it or was given what was done of them
abbrev pub OnePendingJob : Type 0
OnePendingJob = (k l : Kept) (o : Origin) (h : History) → Stands k o h → Stands l o h → (n : NodeId) → pending_of k n ≡ pending_of l n
