-- Each read has the value of the write that it names.
use Rattle.std.proofs.Common.{◌≡◌, ℕ, ℤ, ◌<◌, inl, inr, refl, ap, sym, ◌∙◌, subst, true, Bool, List, [], ◌∷◌, ◌++◌, Option}
use Rattle.std.specs.Prelude.{suc}
use Rattle.protocol.specs.Words.{Exec, Key, Version, Wid, NodeId, Client, Replica, Warden, BaseEntry, Write, Note, Prepare, Puts, no_version, before}
use Rattle.protocol.specs.Lists.{IsIn}
use Rattle.protocol.specs.Warden.Base.{entries_of}
use Rattle.protocol.specs.World.State.{Plan, World, first_world}
use Rattle.protocol.specs.World.Events.{replay_from}
use Rattle.protocol.specs.World.Decided.{WasSent}
use Rattle.protocol.proofs.TestLemmas.{true_false}
use Rattle.protocol.proofs.NamesLemmas.{before_self}
use Rattle.law_steps.proofs.Reach.{Reach, events_reach}
use Rattle.law_steps.proofs.Reach.From.{Begins}
use Rattle.law_steps.proofs.ClientFacts.{CFact, client_facts_reach}
use Rattle.law_steps.proofs.WardenFacts.{WFact, ward_facts_reach}
use Rattle.law_safety.proofs.BaseEntries.{entry_wid}
use Rattle.law_safety.proofs.BaseIsOne.{entry_one}
use Rattle.law_safety.proofs.CommitIsSent.{sent_committed}
use Rattle.law_serial.specs.SureNotes.{IsSure}
use Rattle.law_serial.specs.SureNotes.IsSure.{First_value, Last_write}
use Rattle.law_serial.specs.Reads.{ReadsCurrent}
use Rattle.law_serial.proofs.SureNotes.{Source, note_reach}
use Rattle.law_serial.proofs.SureNotes.Source.{Certain, Put_by}
use Rattle.law_serial.proofs.SureNotes.Sure.{Firsts, Lasts}
use Rattle.txn_lang.specs.Laws.{IsFront}
use Rattle.law_serial.proofs.PutsAreFronts.{Fronts, written_front, fronts_reach}
use Rattle.law_serial.proofs.ReadsNoted.{reads_noted}
use Rattle.law_serial.proofs.ReadsSure.{reads_sure}

entries_front : (x : Exec) (i : ℕ) (ws more : List Write) (d : BaseEntry) → IsIn d (entries_of x i ws) → IsIn d (entries_of x i (ws ++ more))
entries_front x i [] more d j = absurd j
entries_front x i (w ∷ ws) more d (inl e) = inl e
entries_front x i (w ∷ ws) more d (inr j) = inr (entries_front x (suc i) ws more d j)

module _ (p : Plan) (pos : 0 < p.replicas) (w : World) (q : Reach p w) (f : Fronts p w) (k : Key) (wid : Wid) (value : ℤ) where
  -- a write of a Puts whose name is that of a sure one has its value
  same_value : (y : Exec) (ws : List Write) → before no_version y.ver ≡ true → WasSent w (Puts y ws) →
      IsIn (record { key = k; wid = wid; value = value }) (entries_of y 1 ws) → (other : ℤ) → IsSure p w k wid other → IsSure p w k wid value
  same_value y ws n t i other (First_value e g) =
      let a = (entry_wid y 1 ws (record { key = k; wid = wid; value = value }) i).0 in
      let z : y.ver ≡ no_version = sym a ∙ ap (λ (u : Wid). u.ver) e in
      absurd (true_false (sym (subst (λ (v : Version). before no_version v ≡ true) z n) ∙ before_self no_version))
  same_value y ws n t i other (Last_write x l c u last) = go (written_front ws l (f.prepared y ws l t (subst (λ (z : Exec). WasSent w (Prepare z l)) same u))
      (λ e. subst (λ (vs : List Write). IsIn (record { key = k; wid = wid; value = other }) (entries_of x 1 vs)) e last.entry))
    where
      same : x ≡ y
      same =
          let a = entry_wid y 1 ws (record { key = k; wid = wid; value = value }) i in
          let b = entry_wid x 1 l.writes (record { key = k; wid = wid; value = other }) last.entry in
          λ z. record { ver = (sym b.0 ∙ a.0) z; eid = (sym b.1 ∙ a.1) z }

      go : IsFront ws l.writes → IsSure p w k wid value
      go front =
          let mine : IsIn (record { key = k; wid = wid; value = value }) (entries_of x 1 l.writes) = subst (λ (z : Exec). IsIn (record { key = k; wid = wid; value = value }) (entries_of z 1 l.writes)) (sym same)
          (subst (λ (vs : List Write). IsIn (record { key = k; wid = wid; value = value }) (entries_of y 1 vs)) (sym front.1) (entries_front y 1 ws front.0 (record { key = k; wid = wid; value = value }) i)) in
          let one = entry_one x 1 l.writes (record { key = k; wid = wid; value = other }) (record { key = k; wid = wid; value = value }) last.entry mine refl in
          subst (λ (v : ℤ). IsSure p w k wid v) (ap (λ (d : BaseEntry). d.value) one) (Last_write x l c u last)

  valued : (s : Bool) → Source p w k wid value s → (other : ℤ) → IsSure p w k wid other → IsSure p w k wid value
  valued s (Certain (Firsts e g)) other o = First_value e g
  valued s (Certain (Lasts y l c t i)) other o = Last_write y l (sent_committed p pos w q y c) t i
  valued s (Put_by e y ws n t i) other o = same_value y ws n t i other o

pub reads_current : ReadsCurrent
reads_current p premises events x k r t i =
    let w = replay_from p first_world events in let q = events_reach p first_world first_world Begins events in
    let n = reads_noted p premises events x k r t i in
    let s = reads_sure p premises events x k r t i in
    (s.0, valued p premises.replicas w q (fronts_reach p premises.grow w q) r.key r.wid r.value n.said.0 (told w q n.said.0 n.said.1 n.said.2 n.said.2.envelope.from refl) s.1.0 s.1.1)
  where
    told : (w : World) → Reach p w → (b : Bool) (lost : Option Wid) (n : WasSent w (Note x.ver r.key r.wid r.value b lost)) (g : NodeId) → n.envelope.from ≡ g →
        Source p w r.key r.wid r.value b
    told w q b lost n (Client c) e = absurd (subst (CFact c (w.client c)) n.body ((client_facts_reach p w q).said n.envelope c n.there e))
    told w q b lost n (Warden j) e = absurd (subst (WFact p.wardens j (w.warden j)) n.body ((ward_facts_reach p w q).said n.envelope j n.there e))
    told w q b lost n (Replica j) e = (note_reach p premises.replicas x.ver r.key r.wid r.value b lost w q n.envelope j n.there e n.body).1
