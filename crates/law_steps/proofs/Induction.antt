-- One principle each for the facts of replicas, clients and wardens, and for what they said.
use Rattle.std.proofs.Common.{◌≡◌, ℕ, ◌⊎◌, inl, inr, ap, sym, ◌∙◌, subst, true, List, []}
use Rattle.std.specs.Prelude.{flat_map}
use Rattle.protocol.specs.Words.{NodeId, Client, Replica, Warden, Envelope, Body}
use Rattle.protocol.specs.Lists.{IsIn}
use Rattle.protocol.specs.Replica.Taken.{Handled, after_taking}
use Rattle.protocol.specs.Replica.Says.{says}
use Rattle.protocol.specs.Client.State.{ClientState, fresh_client}
use Rattle.protocol.specs.Warden.State.{Parcel, WardenState, fresh_warden}
use Rattle.protocol.specs.World.State.{Plan, World, rules, warden_rules, in_range, first_world}
use Rattle.protocol.specs.World.Events.{at, to_all, parcel}
use Rattle.protocol.specs.World.Steps.{ByReplica}
use Rattle.protocol.proofs.ListsLemmas.{IsIn-cases, at_cases, at_same}
use Rattle.law_steps.proofs.Reach.{Step, Reach, GotAt, HeardAt, From, ByClientAct, ByWardenAct}
use Rattle.law_steps.proofs.ClientActs.{ClientAct}
use Rattle.law_steps.proofs.WardenActs.{WardenAct}
use Rattle.law_steps.proofs.Reach.Step.{Stands, Client_acts, Replica_acts, Warden_acts}
use Rattle.law_steps.proofs.Reach.From.{Begins, Next}
use Rattle.law_steps.proofs.SaysLemmas.{spoken}
use Rattle.law_steps.proofs.SendingLemmas.{parcel_body, from_parcels, from_to_all}

-- a fact of a replica and its list in a step: the list stands, or the replica took an envelope
pub replica_in_step : (p : Plan) (w w' : World) → Step p w w' → (K : ℕ → Handled → Type 0)
    → ((s : ByReplica p w w') → K s.r (w.replica s.r) → K s.r (after_taking (w.replica s.r) s.m))
    → (r : ℕ) → K r (w.replica r) → K r (w'.replica r)
replica_in_step p w w' (Stands s) K takes r k = rw s.replica k
replica_in_step p w w' (Client_acts s) K takes r k = rw s.replica k
replica_in_step p w w' (Warden_acts s) K takes r k = rw s.replica k
replica_in_step p w w' (Replica_acts s) K takes r k = rw s.replica (at_cases (K r) s.r (after_taking (w.replica s.r) s.m) w.replica r
    (λ e. subst (λ j. K j (after_taking (w.replica s.r) s.m)) (sym e) (takes s (subst (λ j. K j (w.replica j)) e k))) k)

-- a fact of a client and its state in a step: the state stands, or the client made an act
pub client_in_step : (p : Plan) (w w' : World) → Step p w w' → (K : ℕ → ClientState → Type 0)
    → ((s : ByClientAct p w w') → K s.c (w.client s.c) → K s.c s.state)
    → (c : ℕ) → K c (w.client c) → K c (w'.client c)
client_in_step p w w' (Stands s) K acts c k = rw s.client k
client_in_step p w w' (Replica_acts s) K acts c k = rw s.client k
client_in_step p w w' (Warden_acts s) K acts c k = rw s.client k
client_in_step p w w' (Client_acts s) K acts c k = rw s.client (at_cases (K c) s.c s.state w.client c
    (λ e. subst (λ j. K j s.state) (sym e) (acts s (subst (λ j. K j (w.client j)) e k))) k)

-- a fact of a warden and its state in a step: the state stands, or the warden made an act
pub warden_in_step : (p : Plan) (w w' : World) → Step p w w' → (K : ℕ → WardenState → Type 0)
    → ((s : ByWardenAct p w w') → K s.k (w.warden s.k) → K s.k s.state)
    → (j : ℕ) → K j (w.warden j) → K j (w'.warden j)
warden_in_step p w w' (Stands s) K acts j k = rw s.warden k
warden_in_step p w w' (Replica_acts s) K acts j k = rw s.warden k
warden_in_step p w w' (Client_acts s) K acts j k = rw s.warden k
warden_in_step p w w' (Warden_acts s) K acts j k = rw s.warden (at_cases (K j) s.k s.state w.warden j
    (λ e. subst (λ i. K i s.state) (sym e) (acts s (subst (λ i. K i (w.warden i)) e k))) k)

-- a fact of a world, from the world o on
pub on_worlds : (p : Plan) (o : World) (K : World → Type 0) → K o
    → ((w w' : World) → From p o w → Step p w w' → K w → K w')
    → (w : World) → From p o w → K w
on_worlds p o K first step _ Begins = first
on_worlds p o K first step _ (Next w w' q st) = step w w' q st (on_worlds p o K first step w q)

-- a fact of a world and a replica, which stays where the world grows and the list stands, and where the replica takes
pub on_replicas : (p : Plan) (K : World → ℕ → Handled → Type 0) → ((r : ℕ) → K first_world r [])
    → ((w w' : World) → Step p w w' → (r : ℕ) (h : Handled) → K w r h → K w' r h)
    → ((w w' : World) → Reach p w → (s : ByReplica p w w') → K w' s.r (w.replica s.r) → K w' s.r (after_taking (w.replica s.r) s.m))
    → (w : World) → Reach p w → (r : ℕ) → K w r (w.replica r)
on_replicas p K first grows takes _ Begins r = first r
on_replicas p K first grows takes _ (Next w w' q st) r =
    replica_in_step p w w' st (K w') (takes w w' q) r (grows w w' st r (w.replica r) (on_replicas p K first grows takes w q r))

-- a fact of a world and a client, which stays where the world grows and the state stands, and where the client acts
pub on_clients : (p : Plan) (K : World → ℕ → ClientState → Type 0) → ((c : ℕ) → K first_world c fresh_client)
    → ((w w' : World) → Step p w w' → (c : ℕ) (s : ClientState) → K w c s → K w' c s)
    → ((w w' : World) → Reach p w → (s : ByClientAct p w w') → K w' s.c (w.client s.c) → K w' s.c s.state)
    → (w : World) → Reach p w → (c : ℕ) → K w c (w.client c)
on_clients p K first grows acts _ Begins c = first c
on_clients p K first grows acts _ (Next w w' q st) c =
    client_in_step p w w' st (K w') (acts w w' q) c (grows w w' st c (w.client c) (on_clients p K first grows acts w q c))

-- a fact of a world and a warden, which stays where the world grows and the state stands, and where the warden acts
pub on_wardens : (p : Plan) (K : World → ℕ → WardenState → Type 0) → ((k : ℕ) → K first_world k fresh_warden)
    → ((w w' : World) → Step p w w' → (k : ℕ) (s : WardenState) → K w k s → K w' k s)
    → ((w w' : World) → Reach p w → (s : ByWardenAct p w w') → K w' s.k (w.warden s.k) → K w' s.k s.state)
    → (w : World) → Reach p w → (k : ℕ) → K w k (w.warden k)
on_wardens p K first grows acts _ Begins k = first k
on_wardens p K first grows acts _ (Next w w' q st) k =
    warden_in_step p w w' st (K w') (acts w w' q) k (grows w w' st k (w.warden k) (on_wardens p K first grows acts w q k))

-- a fact F of what a replica said, which stays as it takes more, holds of each envelope of its in the mail
pub record ReplicasSaid (F : ℕ → Handled → Body → Type 0) (w : World) : Type 0 where
  pub said : (e : Envelope) (r : ℕ) → IsIn e w.mail → e.from ≡ Replica r → F r (w.replica r) e.body

pub replicas_said : (p : Plan) (F : ℕ → Handled → Body → Type 0)
    → ((r : ℕ) (h : Handled) (m : Envelope) (b : Body) → F r h b → F r (after_taking h m) b)
    → (w w' : World) → ((r : ℕ) (m e : Envelope) → IsIn m w.mail → IsIn e (says p.firsts r (w.replica r) m) → F r (after_taking (w.replica r) m) e.body)
    → Step p w w' → ReplicasSaid F w → ReplicasSaid F w'
replicas_said p F mono w w' new (Stands s) t = record { said = λ e r. rw (s.mail, s.replica) (t.said e r) }
replicas_said p F mono w w' new (Client_acts s) t = record { said = λ e r i q. rw s.replica (go e r (IsIn-cases e w.mail _ (rw s.mail at i)) q) }
  where
    go : (e : Envelope) (r : ℕ) → IsIn e w.mail ⊎ IsIn e (flat_map (to_all p.replicas (Client s.c)) s.sent) → e.from ≡ Replica r → F r (w.replica r) e.body
    go e r (inl i) q = t.said e r i q
    go e r (inr i) q = let k = from_to_all p.replicas (Client s.c) s.sent e i in let o = k.0 in absurd (cc)
replicas_said p F mono w w' new (Warden_acts s) t = record { said = λ e r i q. rw s.replica (go e r (IsIn-cases e w.mail _ (rw s.mail at i)) q) }
  where
    go : (e : Envelope) (r : ℕ) → IsIn e w.mail ⊎ IsIn e (flat_map (parcel p.replicas (Warden s.k)) s.sent) → e.from ≡ Replica r → F r (w.replica r) e.body
    go e r (inl i) q = t.said e r i q
    go e r (inr i) q = let k = from_parcels p.replicas (Warden s.k) s.sent e i in let o = k.0 in absurd (cc)
replicas_said p F mono w w' new (Replica_acts s) t = record { said = λ e r i q. rw s.replica (go e r (IsIn-cases e w.mail _ (rw s.mail at i)) q) }
  where
    go : (e : Envelope) (r : ℕ) → IsIn e w.mail ⊎ IsIn e (says p.firsts s.r (w.replica s.r) s.m) → e.from ≡ Replica r →
        F r (at s.r (after_taking (w.replica s.r) s.m) w.replica r) e.body
    go e r (inl i) q = at_cases (λ h. F r h e.body) s.r (after_taking (w.replica s.r) s.m) w.replica r
        (λ k. rw k (mono s.r (w.replica s.r) s.m e.body (t.said e s.r i (q ∙ ap Replica k)))) (t.said e r i q)
    go e r (inr i) q =
        let k = spoken p.firsts s.r (w.replica s.r) s.m e i in let o = k.0 in let same : r ≡ s.r = cc in
        subst (λ j. F j (at s.r (after_taking (w.replica s.r) s.m) w.replica j) e.body) (sym same)
        (rw at_same (new s.r s.m e s.in_mail i))

pub replicas_said_reach : (p : Plan) (F : ℕ → Handled → Body → Type 0)
    → ((r : ℕ) (h : Handled) (m : Envelope) (b : Body) → F r h b → F r (after_taking h m) b)
    → ((w : World) → Reach p w → (r : ℕ) (m e : Envelope) → IsIn m w.mail → IsIn e (says p.firsts r (w.replica r) m) → F r (after_taking (w.replica r) m) e.body)
    → (w : World) → Reach p w → ReplicasSaid F w
replicas_said_reach p F mono new _ Begins = record { said = λ e r i. absurd i }
replicas_said_reach p F mono new _ (Next w w' r s) = replicas_said p F mono w w' (new w r) s (replicas_said_reach p F mono new w r)

-- the same of clients
pub record ClientsSaid (G : ℕ → ClientState → Body → Type 0) (w : World) : Type 0 where
  pub said : (e : Envelope) (c : ℕ) → IsIn e w.mail → e.from ≡ Client c → G c (w.client c) e.body

from_replica_not : (r c : ℕ) (n : NodeId) → n ≡ Replica r → n ≡ Client c → ⊥
from_replica_not r c n e f = cc

pub clients_said : (p : Plan) (G : ℕ → ClientState → Body → Type 0)
    → (w w' : World)
    → ((c : ℕ) (s : ClientState) (sent : List Body) → ClientAct (rules p c) (GotAt w c) (w.client c) s sent → ((b : Body) → G c (w.client c) b → G c s b) × ((b : Body) → IsIn b sent → G c s b))
    → Step p w w' → ClientsSaid G w → ClientsSaid G w'
clients_said p G w w' f (Stands s) t = record { said = λ e c. rw (s.mail, s.client) (t.said e c) }
clients_said p G w w' f (Replica_acts s) t = record { said = λ e c i q. rw s.client (go e c (IsIn-cases e w.mail _ (rw s.mail at i)) q) }
  where
    go : (e : Envelope) (c : ℕ) → IsIn e w.mail ⊎ IsIn e (says p.firsts s.r (w.replica s.r) s.m) → e.from ≡ Client c → G c (w.client c) e.body
    go e c (inl i) q = t.said e c i q
    go e c (inr i) q = absurd (from_replica_not s.r c e.from (spoken p.firsts s.r (w.replica s.r) s.m e i).0 q)
clients_said p G w w' f (Warden_acts s) t = record { said = λ e c i q. rw s.client (go e c (IsIn-cases e w.mail _ (rw s.mail at i)) q) }
  where
    go : (e : Envelope) (c : ℕ) → IsIn e w.mail ⊎ IsIn e (flat_map (parcel p.replicas (Warden s.k)) s.sent) → e.from ≡ Client c → G c (w.client c) e.body
    go e c (inl i) q = t.said e c i q
    go e c (inr i) q = let k = from_parcels p.replicas (Warden s.k) s.sent e i in let o = k.0 in absurd (cc)
clients_said p G w w' f (Client_acts s) t = record { said = λ e c i q. rw s.client (go e c (IsIn-cases e w.mail _ (rw s.mail at i)) q) }
  where
    go : (e : Envelope) (c : ℕ) → IsIn e w.mail ⊎ IsIn e (flat_map (to_all p.replicas (Client s.c)) s.sent) → e.from ≡ Client c →
        G c (at s.c s.state w.client c) e.body
    go e c (inl i) q = at_cases (λ z. G c z e.body) s.c s.state w.client c
        (λ k. subst (λ j. G j s.state e.body) (sym k) ((f s.c s.state s.sent s.act).0 e.body (t.said e s.c i (q ∙ ap Client k)))) (t.said e c i q)
    go e c (inr i) q =
        let k = from_to_all p.replicas (Client s.c) s.sent e i in let o = k.0 in let same : c ≡ s.c = cc in
        subst (λ j. G j (at s.c s.state w.client j) e.body) (sym same)
        (rw at_same ((f s.c s.state s.sent s.act).1 e.body k.1))

pub clients_said_reach : (p : Plan) (G : ℕ → ClientState → Body → Type 0)
    → ((w : World) → Reach p w → (c : ℕ) (s : ClientState) (sent : List Body) → ClientAct (rules p c) (GotAt w c) (w.client c) s sent → ((b : Body) → G c (w.client c) b → G c s b) × ((b : Body) → IsIn b sent → G c s b))
    → (w : World) → Reach p w → ClientsSaid G w
clients_said_reach p G f _ Begins = record { said = λ e c i. absurd i }
clients_said_reach p G f _ (Next w w' r s) = clients_said p G w w' (f w r) s (clients_said_reach p G f w r)

-- the same of wardens
pub record WardensSaid (H : ℕ → WardenState → Body → Type 0) (w : World) : Type 0 where
  pub said : (e : Envelope) (k : ℕ) → IsIn e w.mail → e.from ≡ Warden k → H k (w.warden k) e.body

pub wardens_said : (p : Plan) (H : ℕ → WardenState → Body → Type 0)
    → (w w' : World)
    → ((k : ℕ) (s : WardenState) (sent : List Parcel) → in_range k p.wardens ≡ true → WardenAct (warden_rules p k) (HeardAt w k) (w.warden k) s sent → ((b : Body) → H k (w.warden k) b → H k s b) × ((a : Parcel) → IsIn a sent → H k s (parcel_body a)))
    → Step p w w' → WardensSaid H w → WardensSaid H w'
wardens_said p H w w' f (Stands s) t = record { said = λ e c. rw (s.mail, s.warden) (t.said e c) }
wardens_said p H w w' f (Replica_acts s) t = record { said = λ e c i q. rw s.warden (go e c (IsIn-cases e w.mail _ (rw s.mail at i)) q) }
  where
    go : (e : Envelope) (c : ℕ) → IsIn e w.mail ⊎ IsIn e (says p.firsts s.r (w.replica s.r) s.m) → e.from ≡ Warden c → H c (w.warden c) e.body
    go e c (inl i) q = t.said e c i q
    go e c (inr i) q = let k = spoken p.firsts s.r (w.replica s.r) s.m e i in let o = k.0 in absurd (cc)
wardens_said p H w w' f (Client_acts s) t = record { said = λ e c i q. rw s.warden (go e c (IsIn-cases e w.mail _ (rw s.mail at i)) q) }
  where
    go : (e : Envelope) (c : ℕ) → IsIn e w.mail ⊎ IsIn e (flat_map (to_all p.replicas (Client s.c)) s.sent) → e.from ≡ Warden c → H c (w.warden c) e.body
    go e c (inl i) q = t.said e c i q
    go e c (inr i) q = let k = from_to_all p.replicas (Client s.c) s.sent e i in let o = k.0 in absurd (cc)
wardens_said p H w w' f (Warden_acts s) t = record { said = λ e c i q. rw s.warden (go e c (IsIn-cases e w.mail _ (rw s.mail at i)) q) }
  where
    go : (e : Envelope) (c : ℕ) → IsIn e w.mail ⊎ IsIn e (flat_map (parcel p.replicas (Warden s.k)) s.sent) → e.from ≡ Warden c →
        H c (at s.k s.state w.warden c) e.body
    go e c (inl i) q = at_cases (λ z. H c z e.body) s.k s.state w.warden c
        (λ k. subst (λ j. H j s.state e.body) (sym k) ((f s.k s.state s.sent s.real s.act).0 e.body (t.said e s.k i (q ∙ ap Warden k)))) (t.said e c i q)
    go e c (inr i) q =
        let k = from_parcels p.replicas (Warden s.k) s.sent e i in let o = k.0 in let same : c ≡ s.k = cc in
        subst (λ j. H j (at s.k s.state w.warden j) e.body) (sym same)
        (rw at_same (subst (H s.k s.state) (sym k.3) ((f s.k s.state s.sent s.real s.act).1 k.1 k.2)))

pub wardens_said_reach : (p : Plan) (H : ℕ → WardenState → Body → Type 0)
    → ((w : World) → Reach p w → (k : ℕ) (s : WardenState) (sent : List Parcel) → in_range k p.wardens ≡ true → WardenAct (warden_rules p k) (HeardAt w k) (w.warden k) s sent → ((b : Body) → H k (w.warden k) b → H k s b) × ((a : Parcel) → IsIn a sent → H k s (parcel_body a)))
    → (w : World) → Reach p w → WardensSaid H w
wardens_said_reach p H f _ Begins = record { said = λ e k i. absurd i }
wardens_said_reach p H f _ (Next w w' r s) = wardens_said p H w w' (f w r) s (wardens_said_reach p H f w r)
