-- A turn that answers a job hands out the pending job of its node.
use Rattle.std.proofs.Common.{◌≡◌, ℕ, set, Some, None, sym, ◌∙◌, ap}
use Rattle.morty_base.specs.declared.names.NodeId.{NodeId}
use Rattle.morty_base.specs.declared.names.Ended.{Ended}
use Rattle.morty_base.specs.declared.names.Ended.TheVariants as ended
use Rattle.net_core.specs.Machine.{Machine, Effect, Moves, Refused, Not_enabled}
use Rattle.net_core.specs.Replay.{IsDue}
use Rattle.hub.specs.declared.turn_out.TurnCase.{TurnCase}
use Rattle.hub.specs.declared.turn_out.TurnOut.{TurnOut}
use Rattle.hub.specs.Views.{HubView, history, job_in}
use Rattle.hub.specs.Turns.{IsCase, Does, asked_out, ended_out}

-- of a run that has not ended, it hands out the pending job
pub record IsHanded {J : Type 0} (m : Machine) (n : NodeId) (slot : ℕ) (old new : HubView J) (j : J) : Type 0 where
  pub due : IsDue m (job_in old.jobs slot) (history old) n j
  pub no_end : old.ended ≡ None
  pub handed : new ≡ record old { handed = set old.handed slot (Some j) }

pub handed_out : {J : Type 0} (m : Machine) (turns slot : ℕ) (n : NodeId) (old new : HubView J) (j : J) (case : TurnCase J) →
    IsCase m turns n slot old case → Does m n slot old new (TurnOut.Job j) case → IsHanded m n slot old new j
handed_out m turns slot n old new j (TurnCase.Over e) is does = over e does.0
  where
    over : (e : Ended) → TurnOut.Job j ≡ ended_out e → IsHanded m n slot old new j
    over ended.Quiet t = absurd (let u : TurnOut.Job j ≡ TurnOut.Quiet = t in cc)
    over ended.Spent t = absurd (let u : TurnOut.Job j ≡ TurnOut.Spent = t in cc)
    over ended.Full t = absurd (let u : TurnOut.Job j ≡ TurnOut.Full = t in cc)
handed_out m turns slot n old new j TurnCase.Quiet is does = absurd (let t : TurnOut.Job j ≡ TurnOut.Quiet = does.0 in cc)
handed_out m turns slot n old new j TurnCase.Stopped is does = absurd (let t : TurnOut.Job j ≡ TurnOut.Stopped = does.0 in cc)
handed_out m turns slot n old new j (TurnCase.Job k) is does =
    let t : TurnOut.Job j ≡ TurnOut.Job k = does.0 in
    let same : j ≡ k = cc in
    record {
      due = record { live = is.1; job = is.2.0 ∙ ap (λ x. Some x) (sym same) };
      no_end = is.0.no_end;
      handed = does.1 ∙ ap (λ x. record old { handed = set old.handed slot (Some x) }) (sym same);
    }
handed_out m turns slot n old new j TurnCase.Marked is does = absurd (let t : TurnOut.Job j ≡ TurnOut.Idle = does.0 in cc)
handed_out m turns slot n old new j TurnCase.Spent is does = absurd (let t : TurnOut.Job j ≡ TurnOut.Spent = does.0 in cc)
handed_out m turns slot n old new j TurnCase.Ask is does = no_job _ does.1
  where
    no_job : (f : Effect) → TurnOut.Job j ≡ asked_out f → IsHanded m n slot old new j
    no_job Moves t = absurd (let u : TurnOut.Job j ≡ TurnOut.Moved = t in cc)
    no_job Refused t = absurd (let u : TurnOut.Job j ≡ TurnOut.Full = t in cc)
    no_job Not_enabled t = absurd (let u : TurnOut.Job j ≡ TurnOut.Idle = t in cc)
