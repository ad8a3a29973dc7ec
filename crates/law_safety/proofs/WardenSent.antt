-- What a warden's act sent: its decisions.
use Rattle.std.proofs.Common.{◌≡◌, ℕ, ◌≤◌, ◌⊎◌, inl, inr, refl, ap, sym, ◌∙◌, subst, true, false, Bool, List, ◌∷◌, Option, Some, length, arith, []}
use Rattle.std.specs.Prelude.{suc, ◌&&◌, nat_lt, nat_le}
use Rattle.std.proofs.lemmas.List.{length-append}
use Rattle.protocol.specs.Words.{Exec, NodeId, Body, Content, Choice, Decide}
use Rattle.protocol.specs.Lists.{one_when, IsIn}
use Rattle.protocol.specs.Quorums.{quorum}
use Rattle.protocol.specs.Warden.State.{Round, Proposal, Parcel, WardenRules, WardenState}
use Rattle.protocol.specs.Warden.Recovery.{with_accept, with_round, to_client, recover, next_view}
use Rattle.protocol.specs.Warden.State.Parcel.{To_all, To_client}
use Rattle.law_steps.proofs.WardenActs.{WardenAct}
use Rattle.law_steps.proofs.WardenActs.WardenAct.{Rests, Asks, Counts_told, Counts_accepted, Begins_truncation, Counts_fenced, Ends_truncation}
use Rattle.law_steps.proofs.SendingLemmas.{parcel_body}
use Rattle.law_steps.proofs.WardenFacts.{round_found, put_found}

pub to_client_body : (r : WardenRules) (x : Exec) (c : Body) (b : Parcel) → IsIn b (to_client r x c) → parcel_body b ≡ c
to_client_body r x c b i = go (nat_lt 0 x.ver.client && nat_le x.ver.client r.clients) i
  where
    go : (t : Bool) → IsIn b (one_when t (To_client x.ver.client c)) → parcel_body b ≡ c
    go true (inl e) = ap parcel_body e
    go true (inr e) = absurd e
    go false i = absurd i

-- the round that a warden decided
abbrev pub DecidedRound : ℕ → WardenState → Exec → Choice → Option Content → Type 0
DecidedRound n s x d o =
    (a : Round) × IsIn a s.rounds × (a.exec ≡ x) × ((y : Proposal) × (a.proposal ≡ Some y) × (y.choice ≡ d) × (quorum n ≤ length a.accepts) × (y.content ≡ o))

pub in_parcels : (ps : List Parcel) (c b : Parcel) → ps ≡ c ∷ [] → IsIn b ps → b ≡ c
in_parcels ps c b e i = elim (subst (λ (l : List Parcel). IsIn b l) e i) [ inl z ↦ z | inr z ↦ absurd z ]

pub no_parcels : (ps : List Parcel) (b : Parcel) → ps ≡ [] → IsIn b ps → ⊥
no_parcels ps b e i = subst (λ (l : List Parcel). IsIn b l) e i

pub ward_decided : (r : WardenRules) (Got : NodeId → Body → Type 0) (s s' : WardenState) (sent : List Parcel) → WardenAct r Got s s' sent →
    (a : Parcel) (x : Exec) (d : Choice) (o : Option Content) → IsIn a sent → Decide x d o ≡ parcel_body a → DecidedRound r.replicas s' x d o
unfolding recover next_view
ward_decided r Got s s' sent (Rests act) a x d o i z = absurd (no_parcels sent a act.silent i)
ward_decided r Got s s' sent (Asks act) a x d o i z = let k = ap parcel_body (in_parcels sent _ a act.sends i) in cc
ward_decided r Got s s' sent (Counts_told act) a x d o i z = elim act.outcome [
  | inl w ↦ absurd (no_parcels sent a w.1 i)
  | inr w ↦ let k = ap parcel_body (in_parcels sent _ a w.2 i) in cc
]
ward_decided r Got s s' sent (Begins_truncation act) a x d o i z = let k = ap parcel_body (in_parcels sent _ a act.sends i) in cc
ward_decided r Got s s' sent (Counts_fenced act) a x d o i z = absurd (no_parcels sent a act.silent i)
ward_decided r Got s s' sent (Ends_truncation act) a x d o i z = let k = ap parcel_body (in_parcels sent _ a act.sends i) in cc
ward_decided r Got s s' sent (Counts_accepted act) a x d o i z = elim act.outcome [
  | inl w ↦ absurd (no_parcels sent a w.1 i)
  | inr w ↦ hit w.1 (body (subst (λ (l : List Parcel). IsIn a l) w.2 i))
]
  where
    body : (a ≡ To_all (Decide act.exec act.proposal.choice act.proposal.content)) ⊎ IsIn a (to_client r act.exec (Decide act.exec act.proposal.choice act.proposal.content)) →
        parcel_body a ≡ Decide act.exec act.proposal.choice act.proposal.content
    body (inl h) = ap parcel_body h
    body (inr h) = to_client_body r act.exec (Decide act.exec act.proposal.choice act.proposal.content) a h

    hit : quorum r.replicas ≤ suc (length act.round.accepts) → parcel_body a ≡ Decide act.exec act.proposal.choice act.proposal.content →
        DecidedRound r.replicas s' x d o
    hit many h = let g = round_found act.exec act.view s.rounds act.round act.found in
        let here = round_found act.exec act.view (with_round act.exec act.view (with_accept act.round act.proposal act.replica) s.rounds) (with_accept act.round act.proposal act.replica) (put_found act.exec act.view (with_accept act.round act.proposal act.replica) s.rounds act.round g.1 g.2 act.found) in
        let same : Decide x d o ≡ Decide act.exec act.proposal.choice act.proposal.content = z ∙ h in
        let x_is : x ≡ act.exec = cc in let d_is : d ≡ act.proposal.choice = cc in let o_is : o ≡ act.proposal.content = cc in
        (with_accept act.round act.proposal act.replica, subst (λ (l : List Round). IsIn (with_accept act.round act.proposal act.replica) l) (sym act.rounds) here.0, here.1 ∙ sym x_is, (act.proposal, refl, sym d_is, rw length-append (omega (arith, many)), sym o_is))
