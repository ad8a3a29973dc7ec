-- A Decide of Commit carries a content, and one of Abandon none; a Drop carries the base of its truncation.
use Rattle.std.proofs.Common.{[], ◌≡◌, ℕ, ◌<◌, ◌≤◌, ◌⊎◌, inl, inr, refl, ap, sym, ◌∙◌, subst, true, List, ◌∷◌, Option, Some, None, length}
use Rattle.std.specs.Option.{is_some}
use Rattle.std.specs.List.{list_all}
use Rattle.protocol.specs.Words.{Exec, Version, NodeId, Envelope, BaseEntry, Body, Content, Kept, Choice, Abandon, ToCommit, Decide, Drops}
use Rattle.protocol.specs.Lists.{IsIn}
use Rattle.protocol.specs.Replica.Taken.{Handled}
use Rattle.protocol.specs.Replica.Acceptor.{commits, new_commit}
use Rattle.protocol.specs.Client.State.{Rules, ClientState}
use Rattle.protocol.specs.Quorums.{quorum}
use Rattle.protocol.specs.Client.Deciding.{content_for}
use Rattle.protocol.specs.Warden.State.{Proposal, WardenRules, WardenState, ToldAnswer, Parcel, Truncation, decision_on}
use Rattle.protocol.specs.Warden.Recovery.{with_content, fixed, to_client, told_content, recover, next_view}
use Rattle.protocol.specs.Warden.State.Parcel.{To_all}
use Rattle.protocol.specs.Warden.Truncation.{to_recover}
use Rattle.protocol.specs.Warden.Base.{base_of}
use Rattle.protocol.specs.World.State.{Plan, World, rules, warden_rules}
use Rattle.protocol.specs.World.Decided.{WasSent}
use Rattle.protocol.proofs.ListsLemmas.{IsIn-cases, IsIn-one_when, at_same}
use Rattle.law_steps.proofs.MailLemmas.{took_reach}
use Rattle.law_steps.proofs.ClientActs.{ClientAct}
use Rattle.law_steps.proofs.ClientActs.ClientAct.{Quiet, Advances, Prepares, Counts, Proposes, Accepts, Decides, Gives_up, Learns}
use Rattle.law_steps.proofs.WardenActs.{WardenAct}
use Rattle.law_steps.proofs.WardenActs.WardenAct.{Rests, Asks, Counts_told, Counts_accepted, Begins_truncation, Counts_fenced, Ends_truncation}
use Rattle.law_steps.proofs.Reach.{Reach, GotAt, HeardAt}
use Rattle.law_steps.proofs.Reach.From.{Begins, Next}
use Rattle.law_steps.proofs.SendingLemmas.{parcel_body}
use Rattle.law_steps.proofs.Origin.{Origin, origin}
use Rattle.law_steps.proofs.Origin.Origin.{Old, Of_replica, Of_client, Of_warden}
use Rattle.law_steps.proofs.ClientSent.{quiet_not, in_single, in_none}
use Rattle.law_safety.proofs.WardenEvidence.{ward_reach}
use Rattle.law_safety.proofs.WardenSent.{ward_decided, in_parcels, no_parcels, to_client_body}

pub commit_decided : (h : Handled) (l : Kept) → IsIn l (commits h) → (m : Envelope) × IsIn m h × (m.body ≡ Decide l.exec ToCommit (Some l.content))
commit_decided [] l i = absurd i
commit_decided (m ∷ h) l i = elim (IsIn-cases l (new_commit h m.body) (commits h) i) [
  | inl j ↦ (m, inl refl, new m.body j)
  | inr j ↦ let k = commit_decided h l j in (k.0, inr k.1, k.2)
]
  where
    new : (b : Body) → IsIn l (new_commit h b) → b ≡ Decide l.exec ToCommit (Some l.content)
    new (Decide x ToCommit (Some k)) j = let g = IsIn-one_when _ _ l j in rw g.1 refl
    new (Decide x ToCommit None) j = absurd j
    new (Decide x Abandon o) j = absurd j
    new _ j = absurd j

pub commit_sent : (p : Plan) (w : World) → Reach p w → (r : ℕ) (l : Kept) → IsIn l (commits (w.replica r)) → WasSent w (Decide l.exec ToCommit (Some l.content))
commit_sent p w q r l i = let m = commit_decided (w.replica r) l i in record { envelope = m.0; there = ((took_reach p w q).took r m.0 m.1).0; body = m.2 }

-- a Decide of Commit carries a content, and one of Abandon none
abbrev pub Shaped : Choice → Option Content → Type 0
Shaped ToCommit (Some k) = Unit {0}
Shaped ToCommit None = ⊥
Shaped Abandon None = Unit {0}
Shaped Abandon (Some k) = ⊥

content_for_shaped : (k : Content) (d : Choice) → Shaped d (content_for k d)
content_for_shaped k ToCommit = tt
content_for_shaped k Abandon = tt

with_content_shaped : (c : Choice) (o : Option Content) → Shaped (with_content c o).choice (with_content c o).content
with_content_shaped ToCommit (Some k) = tt
with_content_shaped ToCommit None = tt
with_content_shaped Abandon o = tt

pub fixed_shaped : (ts : List ToldAnswer) → Shaped (fixed ts).choice (fixed ts).content
unfolding fixed
fixed_shaped ts = with_content_shaped _ (told_content ts)

-- a client decides so, and drops nothing
client_shaped : (r : Rules) (Got : NodeId → Body → Type 0) (s s' : ClientState) (sent : List Body) → ClientAct r Got s s' sent →
    (x : Exec) (d : Choice) (o : Option Content) → IsIn (Decide x d o) sent → Shaped d o
client_shaped r Got s s' sent (Quiet act) x d o i = absurd (quiet_not sent _ (λ z. z) act.quiet i)
client_shaped r Got s s' sent (Advances act) x d o i = absurd (in_none sent _ act.silent i)
client_shaped r Got s s' sent (Prepares act) x d o i = let z = in_single sent _ _ act.sends i in cc
client_shaped r Got s s' sent (Counts act) x d o i = absurd (in_none sent _ act.silent i)
client_shaped r Got s s' sent (Proposes act) x d o i = let z = in_single sent _ _ act.sends i in cc
client_shaped r Got s s' sent (Accepts act) x d o i = absurd (in_none sent _ act.silent i)
client_shaped r Got s s' sent (Decides act) x d o i = let z = in_single sent _ _ act.sends i in let z1 : d ≡ act.choice = cc in let z2 : o ≡ content_for act.content act.choice = cc in subst (λ y. Shaped y o) (sym z1) (subst (λ y. Shaped act.choice y) (sym z2) (content_for_shaped act.content act.choice))
client_shaped r Got s s' sent (Gives_up act) x d o i = let z = in_single sent _ _ act.sends i in let z1 : d ≡ Abandon = cc in let z2 : o ≡ None = cc in subst (λ y. Shaped y o) (sym z1) (subst (λ y. Shaped Abandon y) (sym z2) tt)
client_shaped r Got s s' sent (Learns act) x d o i = absurd (in_none sent _ act.silent i)

pub client_no_drop : (r : Rules) (Got : NodeId → Body → Type 0) (s s' : ClientState) (sent : List Body) → ClientAct r Got s s' sent →
    (v : Version) (b : List BaseEntry) → IsIn (Drops v b) sent → ⊥
client_no_drop r Got s s' sent (Quiet act) v b i = quiet_not sent _ (λ z. z) act.quiet i
client_no_drop r Got s s' sent (Advances act) v b i = in_none sent _ act.silent i
client_no_drop r Got s s' sent (Prepares act) v b i = let z = in_single sent _ _ act.sends i in cc
client_no_drop r Got s s' sent (Counts act) v b i = in_none sent _ act.silent i
client_no_drop r Got s s' sent (Proposes act) v b i = let z = in_single sent _ _ act.sends i in cc
client_no_drop r Got s s' sent (Accepts act) v b i = in_none sent _ act.silent i
client_no_drop r Got s s' sent (Decides act) v b i = let z = in_single sent _ _ act.sends i in cc
client_no_drop r Got s s' sent (Gives_up act) v b i = let z = in_single sent _ _ act.sends i in cc
client_no_drop r Got s s' sent (Learns act) v b i = in_none sent _ act.silent i

-- the truncation whose Drop a warden sent
pub record DropOf (r : WardenRules) (s : WardenState) (v : Version) (b : List BaseEntry) : Type 0 where
  pub trunc : Truncation
  pub there : IsIn trunc s.truncations
  pub many : quorum r.replicas ≤ length trunc.answers
  pub all : list_all (λ x. is_some (decision_on s x)) (to_recover trunc.answers) ≡ true
  pub version : v ≡ trunc.w
  pub bases : b ≡ base_of trunc.w s trunc.answers

pub ward_dropped : (r : WardenRules) (Got : NodeId → Body → Type 0) (s s' : WardenState) (sent : List Parcel) → WardenAct r Got s s' sent →
    (a : Parcel) (v : Version) (b : List BaseEntry) → IsIn a sent → Drops v b ≡ parcel_body a → DropOf r s v b
unfolding recover next_view
ward_dropped r Got s s' sent (Rests act) a v b i z = absurd (no_parcels sent a act.silent i)
ward_dropped r Got s s' sent (Asks act) a v b i z = let k = ap parcel_body (in_parcels sent _ a act.sends i) in cc
ward_dropped r Got s s' sent (Counts_told act) a v b i z = elim act.outcome [
  | inl w ↦ absurd (no_parcels sent a w.1 i)
  | inr w ↦ let k = ap parcel_body (in_parcels sent _ a w.2 i) in cc
]
ward_dropped r Got s s' sent (Begins_truncation act) a v b i z = let k = ap parcel_body (in_parcels sent _ a act.sends i) in cc
ward_dropped r Got s s' sent (Counts_fenced act) a v b i z = absurd (no_parcels sent a act.silent i)
ward_dropped r Got s s' sent (Ends_truncation act) a v b i z = let k = ap parcel_body (in_parcels sent _ a act.sends i) in
    let same : Drops v b ≡ Drops act.truncation.w (base_of act.truncation.w s act.truncation.answers) = z ∙ k in let v_is : v ≡ act.truncation.w = cc in let b_is : b ≡ base_of act.truncation.w s act.truncation.answers = cc in
    record { trunc = act.truncation; there = rw act.truncations (inl refl); many = act.many; all = act.settled; version = v_is; bases = b_is }
ward_dropped r Got s s' sent (Counts_accepted act) a v b i z = elim act.outcome [
  | inl w ↦ absurd (no_parcels sent a w.1 i)
  | inr w ↦ absurd (body (subst (λ (l : List Parcel). IsIn a l) w.2 i))
]
  where
    body : (a ≡ To_all (Decide act.exec act.proposal.choice act.proposal.content)) ⊎ IsIn a (to_client r act.exec (Decide act.exec act.proposal.choice act.proposal.content)) →
        ⊥
    body (inl h) = let k = ap parcel_body h in let m : Drops v b ≡ Decide act.exec act.proposal.choice act.proposal.content = z ∙ k in cc
    body (inr h) = let k = to_client_body r act.exec (Decide act.exec act.proposal.choice act.proposal.content) a h in let m : Drops v b ≡ Decide act.exec act.proposal.choice act.proposal.content = z ∙ k in cc

pub shaped_reach : (p : Plan) → 0 < p.replicas → (w : World) → Reach p w → (x : Exec) (d : Choice) (o : Option Content) → WasSent w (Decide x d o) → Shaped d o
shaped_reach p pos _ Begins x d o t = absurd t.there
shaped_reach p pos _ (Next w w' q st) x d o t = go (λ z. shaped_reach p pos w q x d o z) (origin p w w' q st _ t)
  where
    go : (WasSent w (Decide x d o) → Shaped d o) → Origin p w w' (Decide x d o) → Shaped d o
    go ih (Old z) = ih z
    go ih (Of_replica r f) = absurd f
    go ih (Of_client cs i) = client_shaped (rules p cs.c) (GotAt w cs.c) (w.client cs.c) cs.state cs.sent cs.act x d o i
    go ih (Of_warden ws a i e f) =
        let r = ward_decided (warden_rules p ws.k) (HeardAt w ws.k) (w.warden ws.k) ws.state ws.sent ws.act a x d o i e in
        let here : IsIn r.0 (w'.warden ws.k).rounds = subst (λ (h : ℕ → WardenState). IsIn r.0 (h ws.k).rounds) (sym ws.warden) (subst (λ (z : WardenState). IsIn r.0 z.rounds) (sym (at_same ws.k ws.state w.warden)) r.1) in
        let ev = (ward_reach p pos w' (Next w w' q st) ws.k).round r.0 here in
        let y = (ev.fixed r.3.0 r.3.1).0 in
        subst (λ z. Shaped z o) r.3.2 (subst (λ z. Shaped r.3.0.choice z) r.3.4 (subst (λ (z : Proposal). Shaped z.choice z.content) (sym y) (fixed_shaped r.0.tolds)))
