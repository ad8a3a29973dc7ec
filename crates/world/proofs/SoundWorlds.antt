-- Each world that events lead to from a setup is sound, by the laws of frames and views.
use Rattle.std.proofs.Common.{◌≡◌, ap, ◌∙◌, subst, sym}
use Rattle.std.specs.Prelude.{reverse}
use Rattle.std.proofs.lemmas.List.{reverse-reverse}
use Rattle.protocol.specs.Words.{Event}
use Rattle.protocol.specs.World.State.{Plan, World, first_world}
use Rattle.protocol.specs.World.Events.{replay_from}
use Rattle.protocol_plans.specs.Limits.{IsScript}
use Rattle.law_frames.specs.Limits.{PlanIsWithinLimits}
use Rattle.law_frames.proofs.EnvelopesHaveFrames.{envelopes_have_frames}
use Rattle.law_frames.proofs.ScriptsAreWithinLimits.{scripts_are_within_limits}
use Rattle.law_frames.proofs.ViewsAreLeft.{views_are_left}
use Rattle.script_plans.proofs.SetupsAreScripts.{setups_are_scripts}
use Rattle.world_rows.proofs.CommitsAreTold.{commits_are_told}
use Rattle.net_core.specs.Machine.{History}
use Rattle.world_rows.specs.Machine.{world_after}
use Rattle.world_rows.proofs.HistoriesReplay.{histories_replay}
use Rattle.world.specs.declared.origin.Origin.{Origin}
use Rattle.world.specs.Origin.{IsOrigin, script, plan, world_at}
use Rattle.world.specs.World.{IsSound, IsWhole}
use Rattle.world.specs.Sound.{WorldsAreSound}
use Rattle.world.proofs.Begun.{clients_absent, clients_idle}

-- the world after a history is the replay of its events in order
pub replayed : (o : Origin) (h : History) → world_at o h ≡ replay_from (plan o) first_world (reverse h)
replayed o h = ap (world_after (plan o)) (sym (reverse-reverse h)) ∙ histories_replay (plan o) (reverse h)

pub within : (o : Origin) → IsOrigin o → PlanIsWithinLimits (plan o)
within o is = scripts_are_within_limits (script o) (setups_are_scripts o.setup is.says)

at_replay : (o : Origin) → IsOrigin o → (h : History) → IsWhole o (replay_from (plan o) first_world (reverse h))
at_replay o is h =
    let frames = envelopes_have_frames (plan o) (within o is) (reverse h) in
    record {
      sound = record {
        views = views_are_left (plan o) (within o is) (reverse h);
        mail = frames.mail;
        sent = frames.sent;
        idle = clients_idle (plan o) (reverse h);
        absent = clients_absent (plan o) (reverse h);
      };
      told = commits_are_told (plan o) (within o is).some_replica (reverse h);
    }

pub worlds_are_sound : WorldsAreSound
worlds_are_sound o is h = subst (IsWhole o) (sym (replayed o h)) (at_replay o is h)
