-- The laws of the protocol, of each World and the events that it took.
use Rattle.std.proofs.Common.{◌≡◌, ◌<◌, subst, sym}
use Rattle.std.specs.Prelude.{ℕ, reverse}
use Rattle.protocol.specs.World.State.{World, first_world}
use Rattle.protocol.specs.World.Events.{replay_from}
use Rattle.law_safety.specs.Agreement.{AgreementOf}
use Rattle.law_safety.specs.Tries.{OneExecutionOf}
use Rattle.law_safety.proofs.AgreementLaw as agreement_law
use Rattle.law_safety.proofs.OneExecution as execution_law
use Rattle.law_serial.proofs.SerialReads as serial_law
use Rattle.law_serial.proofs.DropsAreSerial as drops_law
use Rattle.law_progress.specs.Undisturbed.{IsUndisturbed, IsSettled}
use Rattle.law_progress.specs.Apart.{IsApart}
use Rattle.law_progress.specs.FirstCommits.{HasBegun, IsFirstCommit}
use Rattle.law_progress.proofs.FirstCommits as commits_law
use Rattle.net_core.specs.Machine.{History}
use Rattle.world.specs.declared.origin.Origin.{Origin}
use Rattle.world.specs.Origin.{IsOrigin, script, plan, world_at}
use Rattle.world.specs.declared.world.World.{World as Kept}
use Rattle.world.specs.World.{Stands}
use Rattle.world.specs.Laws.{OfWorlds, Agreement, OneExecution, SerialReads, FirstCommits, IsSerialWorld}
use Rattle.world.proofs.SoundWorlds.{replayed, within}

-- what holds of each replay, with a replica, holds of each World
of_worlds : (L : Origin → History → World → Type 0) → ((o : Origin) → 0 < (plan o).replicas → (h : History) → L o h (replay_from (plan o) first_world (reverse h))) →
    OfWorlds L
of_worlds L holds k o h stands = subst (L o h) (sym (replayed o h)) (holds o (within o stands.after.origin).some_replica h)

pub agreement : Agreement
agreement = of_worlds (λ o h w. AgreementOf (plan o) w) (λ o some h. agreement_law.agreement (plan o) some (reverse h))

pub one_execution : OneExecution
one_execution = of_worlds (λ o h w. OneExecutionOf (plan o) w) (λ o some h. execution_law.one_execution (plan o) some (reverse h))

pub serial_reads : SerialReads
serial_reads = of_worlds (λ o h w. IsSerialWorld o w)
    (λ o some h. record { serial = serial_law.serial_reads (script o) some (reverse h); based = drops_law.drops_are_serial (script o) some (reverse h) })

pub first_commits : FirstCommits
first_commits = of_worlds
    (λ o h w. IsUndisturbed (plan o) first_world (reverse h) → IsSettled w → (c n : ℕ) → HasBegun w c n → IsApart w c n → IsFirstCommit w c n)
    (λ o some h. commits_law.first_commits (script o) some (reverse h))
