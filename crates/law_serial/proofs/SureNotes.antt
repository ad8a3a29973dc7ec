-- What a Note tells: a first value, the last write of a committed execution, or a write of a Puts.
use Rattle.protocol.specs.Words.{Puts, Exec, Version, Wid, Key, NodeId, Client, Replica, Warden, Envelope, BaseEntry, Body, Content, Write, Get, Note, Prepare, Finalize, Ask, Fence, Voted, Drops, no_version, before, wid_before}
use Rattle.protocol.specs.Replica.Taken.{is_above, version_of, Handled, takes, after_taking, dropped, base}
use Rattle.law_steps.proofs.TakenLemmas.{taken_above, no_base, dropped_taken, takes_above}
use Rattle.protocol.proofs.NamesLemmas.{up_to_none}
use Rattle.law_steps.proofs.ReplicaFacts.{taking_reach}
use Rattle.std.proofs.Common.{◌≡◌, ℕ, ℤ, ◌<◌, ◌⊎◌, inl, inr, refl, ap, sym, ◌∙◌, subst, true, false, Bool, cond, List, ◌∷◌, ◌++◌, Option, Some}
use Rattle.std.specs.Prelude.{map, flat_map}
use Rattle.protocol.specs.Lists.{IsIn}
use Rattle.protocol.specs.Replica.Votes.{casts, new_cast, Cast}
use Rattle.protocol.specs.declared.First2.{First2}
use Rattle.protocol.specs.declared.Held.{Held}
use Rattle.protocol.specs.Replica.Held.{first_held, latest}
use Rattle.protocol.specs.Replica.Readers.{Reader, due, note_for, envelope_from, readers}
use Rattle.protocol.specs.Replica.Says.{says, answer, refusal}
use Rattle.protocol.specs.Warden.Base.{entries_of}
use Rattle.protocol.specs.World.State.{Plan, World, first_world}
use Rattle.protocol.specs.World.Events.{replay_from, to_all, parcel}
use Rattle.protocol.specs.World.Decided.{WasSent}
use Rattle.law_serial.specs.SureNotes.{IsLastWrite, IsSure, SureNotes}
use Rattle.law_serial.specs.SureNotes.IsSure.{First_value, Last_write}
use Rattle.protocol.proofs.TestLemmas.{true_false, and_left}
use Rattle.protocol.proofs.ListsLemmas.{IsIn-cases, IsIn-map, IsIn-flat_map, IsIn-one_when, at_same}
use Rattle.law_steps.proofs.MailLemmas.{took_reach}
use Rattle.law_steps.proofs.Reach.{Step, Reach, events_reach}
use Rattle.law_steps.proofs.Reach.Step.{Stands, Client_acts, Replica_acts, Warden_acts}
use Rattle.law_steps.proofs.Reach.From.{Begins, Next}
use Rattle.law_steps.proofs.SendingLemmas.{from_to_all, from_parcels}
use Rattle.law_safety.proofs.LocksLemmas.{sent_grows}
use Rattle.law_safety.proofs.TruncationSettles.{CommitSent, commit_prepared}
use Rattle.law_safety.proofs.ShapedBodies.{commit_sent}
use Rattle.law_safety.proofs.InvariantHolds.{safe_reach}
use Rattle.law_safety.proofs.BaseOfDrop.{drop_rising}
use Rattle.law_safety.proofs.CommitIsSent.{sent_committed}
use Rattle.law_safety.proofs.BaseEntries.{rising_one}
use Rattle.law_safety.proofs.HeldLemmas.HeldCase.{Is_first, Of_base, Of_commit, Of_put}
use Rattle.law_safety.proofs.HeldLemmas.{last_is, first_is, HeldCase, latest_is, kept_taken}

-- a sure write, as far as what was sent tells
pub data Sure (p : Plan) (w : World) (k : Key) (wid : Wid) (value : ℤ) : Type 0 where
  Firsts : wid ≡ record { ver = no_version; eid = 0; seq = 0 } → value ≡ (first_held p.firsts k).value → Sure p w k wid value
  Lasts : (y : Exec) (l : Content) → CommitSent w y → WasSent w (Prepare y l) → IsLastWrite y l k wid value → Sure p w k wid value

sure_grows : (p : Plan) (w w' : World) → Step p w w' → (k : Key) (wid : Wid) (value : ℤ) → Sure p w k wid value → Sure p w' k wid value
sure_grows p w w' s k wid value (Firsts e f) = Firsts e f
sure_grows p w w' s k wid value (Lasts y l c t i) = Lasts y l (c.0, sent_grows p w w' s _ c.1) (sent_grows p w w' s _ t) i

-- where a value comes from: it is sure, or a Puts has it
pub data Source (p : Plan) (w : World) (k : Key) (wid : Wid) (value : ℤ) (s : Bool) : Type 0 where
  Certain : Sure p w k wid value → Source p w k wid value s
  Put_by : s ≡ false → (y : Exec) (ws : List Write) → before no_version y.ver ≡ true → WasSent w (Puts y ws) →
      IsIn (record { key = k; wid = wid; value = value }) (entries_of y 1 ws) → Source p w k wid value s

source_grows : (p : Plan) (w w' : World) → Step p w w' → (k : Key) (wid : Wid) (value : ℤ) (s : Bool) → Source p w k wid value s → Source p w' k wid value s
source_grows p w w' st k wid value s (Certain c) = Certain (sure_grows p w w' st k wid value c)
source_grows p w w' st k wid value s (Put_by e y ws n t i) = Put_by e y ws n (sent_grows p w w' st _ t) i

module _ (p : Plan) (pos : 0 < p.replicas) (w : World) (q : Reach p w) (r : ℕ) (k : Key) (a : Held) where
  held_source : HeldCase p.firsts (w.replica r) k a → Source p w k a.wid a.value a.sure
  held_source (Is_first e) = Certain (Firsts (ap (λ (y : Held). y.wid) e ∙ first_is p.firsts k) (ap (λ (y : Held). y.value) e))
  held_source (Of_put v u e f) =
      let m = kept_taken (w.replica r) v u e in
      let l = last_is u.exec false 1 k u.writes a f in
      Put_by l.sure u.exec u.writes
      (subst (λ (b : Body). is_above no_version (version_of b) ≡ true) m.2 (taken_above (w.replica r) (taking_reach p w q r) m.0 m.1))
      (record { envelope = m.0; there = ((took_reach p w q).took r m.0 m.1).0; body = m.2 }) l.entry
  held_source (Of_commit c i e) = let l = last_is c.exec true 1 k c.content.writes a e in
      Certain (Lasts c.exec c.content (Some c.content, commit_sent p w q r c i) (commit_prepared p pos w q (safe_reach p pos w q) r c i) (record { entry = l.entry; last = l.last }))
  held_source (Of_base b i e f) = Certain (go (before no_version (dropped (w.replica r))) refl)
    where
      go : (z : Bool) → before no_version (dropped (w.replica r)) ≡ z → Sure p w k a.wid a.value
      go false n = absurd (subst (λ (bs : List BaseEntry). IsIn b bs) (no_base (w.replica r) n) i)
      go true n =
          let d = dropped_taken (w.replica r) n in
          let sent : WasSent w (Drops (dropped (w.replica r)) (base (w.replica r))) = record { envelope = d.0; there = ((took_reach p w q).took r d.0 d.1).0; body = d.2 } in
          let s = safe_reach p pos w q in
          let y = s.bases.written (dropped (w.replica r)) (base (w.replica r)) sent b i in
          let top : IsLastWrite y.exec y.content b.key b.wid b.value = record {
            entry = y.entry;
            last = λ e j g.
                let h = s.bases.holds (dropped (w.replica r)) (base (w.replica r)) sent y.exec y.content y.decision.0 y.decision.1 y.prepare y.upto e j in
                subst (λ (v : BaseEntry). wid_before v.wid e.wid
                ≡ false) (rising_one (base (w.replica r)) (drop_rising p w q _ (base (w.replica r)) sent) h.0 b h.1 i (h.2 ∙ g)) h.3;
          } in
          Lasts y.exec y.content y.decision y.prepare
          (subst (λ (v : Wid). IsLastWrite y.exec y.content k v a.value) (ap (λ (v : Held). v.wid) (sym f)) (subst (λ (v : ℤ). IsLastWrite y.exec y.content k b.wid v) (ap (λ (v : Held). v.value) (sym f)) (subst (λ (v : Key). IsLastWrite y.exec y.content v b.wid b.value) (sym e) top)))

-- a Note that is sent tells what is latest, before the envelope or after it
record Latest (firsts : List First2) (g : Handled) (v : Version) (k : Key) (wid : Wid) (value : ℤ) (s : Bool) : Type 0 where
  pub above : before no_version v ≡ true
  pub same_wid : (latest firsts g k v).wid ≡ wid
  pub same_value : (latest firsts g k v).value ≡ value
  pub sure : (latest firsts g k v).sure ≡ s

in_due : (firsts : List First2) (r : ℕ) (h g : Handled) (e : Envelope) → IsIn e (due firsts r h g) → (reader : Reader) × IsIn e (note_for firsts h g r reader)
unfolding due
in_due firsts r h g e i = let k = IsIn-flat_map (note_for firsts h g r) e (readers h) i in (k.0, k.2)

answer_note : (firsts : List First2) (h : Handled) (b : Body) (v : Version) (k : Key) (wid : Wid) (value : ℤ) (s : Bool) (lost : Option Wid) →
    takes h b ≡ true → IsIn (Note v k wid value s lost) (answer firsts h b) → Latest firsts h v k wid value s
unfolding answer
answer_note firsts h (Get x l) v k wid value s lost tk (inl e) =
    let a : v ≡ x.ver = cc in let b : k ≡ l = cc in let c : wid ≡ (latest firsts h l x.ver).wid = cc in let d : value ≡ (latest firsts h l x.ver).value = cc in
    let f : s ≡ (latest firsts h l x.ver).sure = cc in
    subst (λ (y : Version). Latest firsts h y k wid value s) (sym a) (subst (λ (y : Key). Latest firsts h x.ver y wid value s) (sym b) (record { above = up_to_none (dropped h) x.ver (takes_above h (Get x l) tk); same_wid = sym c; same_value = sym d; sure = sym f }))
answer_note firsts h (Get x l) v k wid value s lost tk (inr e) = absurd e
answer_note firsts h (Prepare x c) v k wid value s lost tk i = let j = IsIn-map (λ (y : Cast). Voted y.exec y.vote) (Note v k wid value s lost) (new_cast h (casts h) (Prepare x c)) i in let e = j.2 in cc
answer_note firsts h (Finalize x u d c) v k wid value s lost tk i = let j = IsIn-one_when _ _ (Note v k wid value s lost) i in let e = j.1 in cc
answer_note firsts h (Ask x u) v k wid value s lost tk i = let j = IsIn-one_when _ _ (Note v k wid value s lost) i in let e = j.1 in cc
answer_note firsts h (Fence u) v k wid value s lost tk (inl e) = cc
answer_note firsts h (Fence u) v k wid value s lost tk (inr e) = absurd e
answer_note firsts h _ v k wid value s lost tk i = absurd i

refusal_note : (h : Handled) (b : Body) (v : Version) (k : Key) (wid : Wid) (value : ℤ) (s : Bool) (lost : Option Wid) →
    IsIn (Note v k wid value s lost) (refusal h b) → ⊥
refusal_note h (Get x l) v k wid value s lost (inl e) = cc
refusal_note h (Get x l) v k wid value s lost (inr e) = e
refusal_note h _ v k wid value s lost i = i

due_note : (firsts : List First2) (h g : Handled) (r : ℕ) (reader : Reader) (e : Envelope) (v : Version) (k : Key) (wid : Wid) (value : ℤ) (s : Bool) (lost : Option Wid) → IsIn e (note_for firsts h g r reader) → e.body ≡ Note v k wid value s lost → Latest firsts g v k wid value s
unfolding note_for
due_note firsts h g r reader e v k wid value s lost i q =
    let j = IsIn-one_when _ _ e i in
    let z = sym q ∙ ap (λ (y : Envelope). y.body) j.1 in
    let a : v ≡ reader.ver = cc in let b : k ≡ reader.key = cc in let c : wid ≡ (latest firsts g reader.key reader.ver).wid = cc in let d : value
    ≡ (latest firsts g reader.key reader.ver).value = cc in let f : s ≡ (latest firsts g reader.key reader.ver).sure = cc in
    subst (λ (y : Version). Latest firsts g y k wid value s) (sym a) (subst (λ (y : Key). Latest firsts g reader.ver y wid value s) (sym b) (record { above = up_to_none (dropped g) reader.ver (and_left (before (dropped g) reader.ver) _ j.0); same_wid = sym c; same_value = sym d; sure = sym f }))

body_in : (r : ℕ) (to : NodeId) (bs : List Body) (e : Envelope) → IsIn e (map (envelope_from r to) bs) → IsIn e.body bs
body_in r to bs e i = let k = IsIn-map (envelope_from r to) e bs i in subst (λ b. IsIn b bs) (sym (ap (λ (m : Envelope). m.body) k.2)) k.1

note_said : (firsts : List First2) (r : ℕ) (h : Handled) (m e : Envelope) (v : Version) (k : Key) (wid : Wid) (value : ℤ) (s : Bool) (lost : Option Wid) →
    IsIn e (says firsts r h m) → e.body ≡ Note v k wid value s lost → Latest firsts h v k wid value s ⊎ Latest firsts (after_taking h m) v k wid value s
unfolding says after_taking
note_said firsts r h m e v k wid value s lost i q = go (takes h m.body) refl i
  where
    go : (t : Bool) → takes h m.body ≡ t →
        IsIn e (cond t (map (envelope_from r m.from) (answer firsts h m.body) ++ due firsts r h (m ∷ h)) (map (envelope_from r m.from) (refusal h m.body))) →
        Latest firsts h v k wid value s ⊎ Latest firsts (cond t (m ∷ h) h) v k wid value s
    go true z i = elim (IsIn-cases e (map (envelope_from r m.from) (answer firsts h m.body)) (due firsts r h (m ∷ h)) i) [
      | inl j ↦ inl (answer_note firsts h m.body v k wid value s lost z (subst (λ b. IsIn b (answer firsts h m.body)) q (body_in r m.from (answer firsts h m.body) e j)))
      | inr j ↦ let d = in_due firsts r h (m ∷ h) e j in inr (due_note firsts h (m ∷ h) r d.0 e v k wid value s lost d.1 q)
    ]
    go false z i = absurd (refusal_note h m.body v k wid value s lost (subst (λ b. IsIn b (refusal h m.body)) q (body_in r m.from (refusal h m.body) e i)))

module _ (p : Plan) (pos : 0 < p.replicas) (v : Version) (k : Key) (wid : Wid) (value : ℤ) (s : Bool) (lost : Option Wid) where
  latest_told : (w : World) → Reach p w → (r : ℕ) → Latest p.firsts (w.replica r) v k wid value s → (before wid.ver v ≡ true) × Source p w k wid value s
  latest_told w q r l =
      let a = latest_is p.firsts (w.replica r) k v l.above in
      let o = held_source p pos w q r k (latest p.firsts (w.replica r) k v) a.1 in (
        subst (λ (y : Wid). before y.ver v ≡ true) l.same_wid a.0,
        subst (λ (y : Bool). Source p w k wid value y) l.sure (subst (λ (y : Wid). Source p w k y value (latest p.firsts (w.replica r) k v).sure) l.same_wid (subst (λ (y : ℤ). Source p w k (latest p.firsts (w.replica r) k v).wid y (latest p.firsts (w.replica r) k v).sure) l.same_value o)),
      )

  told_grows : (w w' : World) → Step p w w' → (before wid.ver v ≡ true) × Source p w k wid value s → (before wid.ver v ≡ true) × Source p w' k wid value s
  told_grows w w' st t = (t.0, source_grows p w w' st k wid value s t.1)

  pub note_reach : (w : World) → Reach p w → (e : Envelope) (r : ℕ) → IsIn e w.mail → e.from ≡ Replica r → e.body ≡ Note v k wid value s lost →
      (before wid.ver v ≡ true) × Source p w k wid value s
  note_reach _ Begins e r i f b = absurd i
  note_reach _ (Next w w' q (Stands u)) e r i f b = told_grows w w' (Stands u) (note_reach w q e r (subst (λ l. IsIn e l) u.mail i) f b)
  note_reach _ (Next w w' q (Client_acts u)) e r i f b = elim (IsIn-cases e w.mail (flat_map (to_all p.replicas (Client u.c)) u.sent) (subst (λ l. IsIn e l) u.mail i)) [
    | inl j ↦ told_grows w w' (Client_acts u) (note_reach w q e r j f b)
    | inr j ↦ let z = (from_to_all p.replicas (Client u.c) u.sent e j).0 in absurd (cc)
  ]
  note_reach _ (Next w w' q (Warden_acts u)) e r i f b = elim (IsIn-cases e w.mail (flat_map (parcel p.replicas (Warden u.k)) u.sent) (subst (λ l. IsIn e l) u.mail i)) [
    | inl j ↦ told_grows w w' (Warden_acts u) (note_reach w q e r j f b)
    | inr j ↦ let z = (from_parcels p.replicas (Warden u.k) u.sent e j).0 in absurd (cc)
  ]
  note_reach _ (Next w w' q (Replica_acts u)) e r i f b = elim (IsIn-cases e w.mail (says p.firsts u.r (w.replica u.r) u.m) (subst (λ l. IsIn e l) u.mail i)) [
    | inl j ↦ told_grows w w' (Replica_acts u) (note_reach w q e r j f b)
    | inr j ↦ elim (note_said p.firsts u.r (w.replica u.r) u.m e v k wid value s lost j b) [
      | inl l ↦ told_grows w w' (Replica_acts u) (latest_told w q u.r l)
      | inr l ↦ latest_told w' (Next w w' q (Replica_acts u)) u.r (subst (λ (h : Handled). Latest p.firsts h v k wid value s) (sym (ap (λ (g : ℕ →
          Handled). g u.r) u.replica ∙ at_same u.r (after_taking (w.replica u.r) u.m) w.replica)) l)
    ]
  ]

pub sure_notes : SureNotes
sure_notes p pos events e r v k wid value lost i f b =
    let w = replay_from p first_world events in let q = events_reach p first_world first_world Begins events in
    let n = note_reach p pos v k wid value true lost w q e r i f b in (n.0, public w q n.1)
  where
    public : (w : World) → Reach p w → Source p w k wid value true → IsSure p w k wid value
    public w q (Certain (Firsts e f)) = First_value e f
    public w q (Certain (Lasts y l c t i)) = Last_write y l (sent_committed p pos w q y c) t i
    public w q (Put_by z y ws n t i) = absurd (true_false z)
