-- What a Note called sure is sure, so each read of a prepared content names a first value or a committed last write.
use Rattle.std.proofs.Common.{◌≡◌, ℤ, refl, subst, true, Option}
use Rattle.protocol.specs.Words.{Wid, NodeId, Client, Replica, Warden, Note, before}
use Rattle.protocol.specs.World.State.{first_world}
use Rattle.protocol.specs.World.Events.{replay_from}
use Rattle.protocol.specs.World.Decided.{WasSent}
use Rattle.law_serial.specs.SureNotes.{IsSure}
use Rattle.law_serial.specs.Reads.{ReadsSure}
use Rattle.law_steps.proofs.Reach.{Reach}
use Rattle.law_steps.proofs.ClientFacts.{CFact, client_facts_reach}
use Rattle.law_steps.proofs.WardenFacts.{WFact, ward_facts_reach}
use Rattle.law_serial.proofs.SureNotes.{sure_notes}
use Rattle.law_serial.proofs.ReadsNoted.{all_noted}

pub reads_sure : ReadsSure
reads_sure p premises events x k r t i = go (all_noted p premises.programs events).reached ((all_noted p premises.programs events).prepared x k t r i).sure
  where
    go : Reach p (replay_from p first_world events) →
        (value : ℤ) × (lost : Option Wid) × WasSent (replay_from p first_world events) (Note x.ver r.key r.wid value true lost) →
        (before r.wid.ver x.ver ≡ true) × ((value : ℤ) × IsSure p (replay_from p first_world events) r.key r.wid value)
    go q n = by n.2.envelope.from refl
      where
        by : (f : NodeId) → n.2.envelope.from ≡ f →
            (before r.wid.ver x.ver ≡ true) × ((value : ℤ) × IsSure p (replay_from p first_world events) r.key r.wid value)
        by (Client c) e = absurd (subst (CFact c ((replay_from p first_world events).client c)) n.2.body ((client_facts_reach p (replay_from p first_world events) q).said n.2.envelope c n.2.there e))
        by (Warden j) e = absurd (subst (WFact p.wardens j ((replay_from p first_world events).warden j)) n.2.body ((ward_facts_reach p (replay_from p first_world events) q).said n.2.envelope j n.2.there e))
        by (Replica j) e = let s = sure_notes p premises.replicas events n.2.envelope j x.ver r.key r.wid n.0 n.1 n.2.there e n.2.body in (s.0, (n.0, s.1))
