-- Each envelope is from a node of the script to a node of the script.
use Rattle.std.proofs.Common.{◌≡◌, ℕ, ◌<◌, ◌≤◌, ◌⊎◌, inl, inr, refl, ap, sym, ◌∙◌, subst, true, false, Bool, cond, List, [], ◌∷◌, ◌++◌, Some, arith}
use Rattle.std.specs.Prelude.{zero, suc, flat_map, map, ◌&&◌, ◌||◌}
use Rattle.std.proofs.lemmas.Bool.Decides.{nat_tests}
use Rattle.std.proofs.lemmas.List.{append-nil}
use Rattle.protocol.specs.Words.{Exec, Key, NodeId, Client, Replica, Warden, Envelope, Body, Event, Get, before, same_version, key_before, same_key, Decide}
use Rattle.protocol.specs.Lists.{IsIn, upto}
use Rattle.protocol.specs.Replica.Taken.{Handled, takes}
use Rattle.protocol.specs.declared.First2.{First2}
use Rattle.protocol.specs.Replica.Readers.{Reader, put_reader, reader_after, readers, due, note_for, envelope_from}
use Rattle.protocol.specs.Replica.Says.{says, answer, refusal}
use Rattle.protocol.specs.Warden.State.{WardenState, Parcel, WardenTurn}
use Rattle.protocol.specs.Warden.State.Parcel.{To_all, To_client}
use Rattle.protocol.specs.Warden.Recovery.{to_client, recover, next_view}
use Rattle.protocol.specs.Warden.Step.{WardenInput, warden_step}
use Rattle.protocol.specs.Warden.Step.WardenInput.{Recovers, Truncates, Hears}
use Rattle.protocol.specs.World.State.{Plan, World, first_world, in_range, exists, rules, warden_rules}
use Rattle.protocol.specs.World.Events.{to_all, parcel, replay_from}
use Rattle.protocol.specs.World.Steps.{Happens}
use Rattle.protocol.specs.World.Steps.Happens.{Stays, Client_moves, Replica_moves, Warden_moves}
use Rattle.protocol.proofs.ListsLemmas.{IsIn-cases, IsIn-right, IsIn-map, IsIn-flat_map, IsIn-one_when}
use Rattle.protocol.proofs.EventSteps.{always}
use Rattle.law_steps.proofs.WardenActs.{WardenAct, WardenChain, HeardBy, warden_acts}
use Rattle.law_steps.proofs.WardenActs.WardenAct.{Rests, Asks, Counts_told, Counts_accepted, Begins_truncation, Counts_fenced, Ends_truncation}
use Rattle.law_steps.proofs.WardenActs.WardenChain.{Start, Then}
use Rattle.law_steps.proofs.Reach.{Reach, happens_reach}
use Rattle.law_steps.proofs.Reach.From.{Begins}
use Rattle.law_steps.proofs.SaysLemmas.{spoken}
use Rattle.law_steps.proofs.SendingLemmas.{from_to_all, from_parcels}
use Rattle.law_steps.proofs.MailLemmas.{took_reach}
use Rattle.law_steps.proofs.ReplicaFacts.{RFact, facts_reach}
use Rattle.law_steps.proofs.ClientFacts.{rec_reach}
use Rattle.law_steps.proofs.WardenFacts.{WFact, ward_facts_reach}
use Rattle.law_safety.proofs.WardenSent.{in_parcels, no_parcels}
use Rattle.law_frames.proofs.QuestionsAsked.{asks_for_own}

-- ---- who is sent to

upto_within : (n r : ℕ) → IsIn r (upto n) → (0 < r) × (r ≤ n)
upto_within zero r i = absurd i
upto_within (suc n) r i = elim (IsIn-cases r (upto n) (suc n ∷ []) i) [
  | inl j ↦ let k = upto_within n r j in let l = k.1 in (k.0, omega (arith, l))
  | inr j ↦ elim j [ inl e ↦ (omega (arith, e), omega (arith, e)) | inr z ↦ absurd z ]
]

ranged : (n r : ℕ) → IsIn r (upto n) → in_range r n ≡ true
ranged n r i = let k = upto_within n r i in let a = k.0 in let b = k.1 in grind (arith, nat_tests)

module _ (p : Plan) where
  to_replicas : (node : NodeId) (b : Body) (e : Envelope) → IsIn e (to_all p.replicas node b) → exists p e.to ≡ true
  to_replicas node b e i = let k = IsIn-map (λ r. record { from = node; to = Replica r; body = b }) e (upto p.replicas) i in
      ap (λ (m : Envelope). exists p m.to) k.2 ∙ ranged p.replicas k.0 k.1

  to_all_replicas : (node : NodeId) (bs : List Body) (e : Envelope) → IsIn e (flat_map (to_all p.replicas node) bs) → exists p e.to ≡ true
  to_all_replicas node bs e i = let k = IsIn-flat_map (to_all p.replicas node) e bs i in to_replicas node k.0 e k.2

  -- a parcel to a client is to one of the script
  abbrev GoesToNode : Parcel → Type 0
  GoesToNode (To_all b) = Unit {0}
  GoesToNode (To_client c b) = exists p (Client c) ≡ true

  parcel_to : (node : NodeId) (a : Parcel) (e : Envelope) → GoesToNode a → IsIn e (parcel p.replicas node a) → exists p e.to ≡ true
  parcel_to node (To_all b) e g i = to_replicas node b e i
  parcel_to node (To_client c b) e g (inl z) = ap (λ (m : Envelope). exists p m.to) z ∙ g
  parcel_to node (To_client c b) e g (inr i) = absurd i

  client_to : (k : ℕ) (x : Exec) (b : Body) (a : Parcel) → IsIn a (to_client (warden_rules p k) x b) → GoesToNode a
  client_to k x b a i = let j = IsIn-one_when _ (To_client x.ver.client b) a i in subst GoesToNode (sym j.1) j.0

  act_to : (k : ℕ) (Got : NodeId → Body → Type 0) (s s' : WardenState) (sent : List Parcel) → WardenAct (warden_rules p k) Got s s' sent →
      (a : Parcel) → IsIn a sent → GoesToNode a
  unfolding recover next_view
  act_to k Got s s' sent (Rests act) a i = absurd (no_parcels sent a act.silent i)
  act_to k Got s s' sent (Asks act) a i = subst GoesToNode (sym (in_parcels sent _ a act.sends i)) tt
  act_to k Got s s' sent (Counts_told act) a i = elim act.outcome [
    | inl w ↦ absurd (no_parcels sent a w.1 i)
    | inr w ↦ subst GoesToNode (sym (in_parcels sent _ a w.2 i)) tt
  ]
  act_to k Got s s' sent (Begins_truncation act) a i = subst GoesToNode (sym (in_parcels sent _ a act.sends i)) tt
  act_to k Got s s' sent (Counts_fenced act) a i = absurd (no_parcels sent a act.silent i)
  act_to k Got s s' sent (Ends_truncation act) a i = subst GoesToNode (sym (in_parcels sent _ a act.sends i)) tt
  act_to k Got s s' sent (Counts_accepted act) a i = elim act.outcome [
    | inl w ↦ absurd (no_parcels sent a w.1 i)
    | inr w ↦ decided (subst (λ (l : List Parcel). IsIn a l) w.2 i)
  ]
    where
      decided : (a ≡ To_all (Decide act.exec act.proposal.choice act.proposal.content))
          ⊎ IsIn a (to_client (warden_rules p k) act.exec (Decide act.exec act.proposal.choice act.proposal.content)) →
          GoesToNode a
      decided (inl z) = subst GoesToNode (sym z) tt
      decided (inr j) = client_to k act.exec _ a j

  chain_to : (k : ℕ) (Got : NodeId → Body → Type 0) (s s' : WardenState) (sent : List Parcel) → WardenChain (warden_rules p k) Got s s' sent →
      (a : Parcel) → IsIn a sent → GoesToNode a
  chain_to k Got s _ _ Start a i = absurd i
  chain_to k Got s _ _ (Then s1 s2 p1 p2 chain act) a i = elim (IsIn-cases a p1 p2 i) [
    | inl j ↦ chain_to k Got s s1 p1 chain a j
    | inr j ↦ act_to k Got s1 s2 p2 act a j
  ]

  turn_to : (k : ℕ) (s : WardenState) (i : WardenInput) (t : WardenTurn) → warden_step (warden_rules p k) s i ≡ Some t →
      (a : Parcel) → IsIn a t.sent → GoesToNode a
  turn_to k s i t q = chain_to k (λ n b. Unit {0}) s t.state t.sent (warden_acts (warden_rules p k) (λ n b. Unit {0}) s i t (heard i) q)
    where
      heard : (i : WardenInput) → HeardBy (warden_rules p k) (λ n b. Unit {0}) i
      heard (Recovers x) = tt
      heard (Truncates v) = tt
      heard (Hears from b) = tt

-- ---- a replica answers, or tells a reader

put_reader_of : (r s : Reader) (rs : List Reader) → IsIn s (put_reader r rs) → (s ≡ r) ⊎ IsIn s rs
put_reader_of r s [] i = i
put_reader_of r s (t ∷ ts) i = go (put_reader_of r s ts)
    (key_before r.key t.key || (same_key r.key t.key && before r.ver t.ver)) (same_key r.key t.key && same_version r.ver t.ver) i
  where
    go : (IsIn s (put_reader r ts) → (s ≡ r) ⊎ IsIn s ts) → (a b : Bool) → IsIn s (cond a (r ∷ t ∷ ts) (cond b (t ∷ ts) (t ∷ put_reader r ts))) →
        (s ≡ r) ⊎ IsIn s (t ∷ ts)
    go ih true b i = i
    go ih false true i = inr i
    go ih false false (inl z) = inr (inl z)
    go ih false false (inr i) = elim (ih i) [ inl z ↦ inl z | inr j ↦ inr (inr j) ]

-- a client of which a Get came
abbrev IsAsker : Handled → NodeId → Type 0
IsAsker h node = (m : Envelope) × IsIn m h × ((x : Exec) × (k : Key) × (m.body ≡ Get x k) × (node ≡ Client x.ver.client))

asker_more : (m : Envelope) (h : Handled) (node : NodeId) → IsAsker h node → IsAsker (m ∷ h) node
asker_more m h node a = (a.0, inr a.1, a.2)

reader_asked : (h : Handled) (s : Reader) → IsIn s (readers h) → IsAsker h (Client s.ver.client)
reader_asked [] s i = absurd i
reader_asked (m ∷ h) s i = go (reader_asked h s) m.body refl i
  where
    go : (IsIn s (readers h) → IsAsker h (Client s.ver.client)) → (b : Body) → m.body ≡ b → IsIn s (reader_after (readers h) b) →
        IsAsker (m ∷ h) (Client s.ver.client)
    go ih (Get x k) q i = elim (put_reader_of (record { key = k; ver = x.ver }) s (readers h) i) [
      | inl z ↦ (m, inl refl, (x, k, q, ap (λ (z : Reader). Client z.ver.client) z))
      | inr j ↦ asker_more m h _ (ih j)
    ]
    go ih _ q i = asker_more m h _ (ih i)

says_to : (firsts : List First2) (r : ℕ) (h : Handled) (m e : Envelope) → IsIn e (says firsts r h m) → (e.to ≡ m.from) ⊎ IsAsker h e.to
unfolding says due note_for
says_to firsts r h m e i = go (takes h m.body) i
  where
    reply : (bs : List Body) → IsIn e (map (envelope_from r m.from) bs) → e.to ≡ m.from
    reply bs j = let k = IsIn-map (envelope_from r m.from) e bs j in ap (λ (z : Envelope). z.to) k.2

    note : (s : Reader) → IsIn s (readers h) → e.to ≡ Client s.ver.client → IsAsker h e.to
    note s j z = subst (IsAsker h) (sym z) (reader_asked h s j)

    go : (t : Bool) →
        IsIn e (cond t (map (envelope_from r m.from) (answer firsts h m.body) ++ due firsts r h (m ∷ h)) (map (envelope_from r m.from) (refusal h m.body))) →
        (e.to ≡ m.from) ⊎ IsAsker h e.to
    go true i = elim (IsIn-cases e (map (envelope_from r m.from) (answer firsts h m.body)) (due firsts r h (m ∷ h)) i) [
      | inl j ↦ inl (reply (answer firsts h m.body) j)
      | inr j ↦ let k = IsIn-flat_map (note_for firsts h (m ∷ h) r) e (readers h) j in
          let l = IsIn-one_when _ _ e k.2 in
          inr (note k.0 k.1 (ap (λ (z : Envelope). z.to) l.1))
    ]
    go false i = inl (reply (refusal h m.body) i)

-- ---- the induction

-- each envelope is from a node of the script, to one, and asks for an execution of a client of it
pub record NodesExist (p : Plan) (w : World) : Type 0 where
  pub from : (m : Envelope) → IsIn m w.mail → exists p m.from ≡ true
  pub to : (m : Envelope) → IsIn m w.mail → exists p m.to ≡ true
  pub asks : (m : Envelope) (x : Exec) (k : Key) → IsIn m w.mail → m.body ≡ Get x k → exists p (Client x.ver.client) ≡ true

-- an envelope of the mail w', whose mail is w's with more behind it
module _ (p : Plan) (w w' : World) (a : NodesExist p w) where
  abbrev Fine : Envelope → Type 0
  Fine m = (exists p m.from ≡ true) × (exists p m.to ≡ true) × ((x : Exec) (k : Key) → m.body ≡ Get x k → exists p (Client x.ver.client) ≡ true)

  old : (m : Envelope) → IsIn m w.mail → Fine m
  old m i = (a.from m i, a.to m i, λ x k b. a.asks m x k i b)

  grown : (more : List Envelope) → w'.mail ≡ w.mail ++ more → ((m : Envelope) → IsIn m more → Fine m) → NodesExist p w'
  grown more e new = record { from = λ m i. (fine m i).0; to = λ m i. (fine m i).1; asks = λ m x k i b. (fine m i).2 x k b }
    where
      fine : (m : Envelope) → IsIn m w'.mail → Fine m
      fine m i = elim (IsIn-cases m w.mail more (subst (λ (l : List Envelope). IsIn m l) e i)) [ inl j ↦ old m j | inr j ↦ new m j ]

-- only a client asks
replica_asks_not : (p : Plan) (w : World) → Reach p w → (m : Envelope) (r : ℕ) → IsIn m w.mail → m.from ≡ Replica r →
    (x : Exec) (k : Key) → m.body ≡ Get x k → ⊥
replica_asks_not p w q m r i f x k b = subst (RFact r (w.replica r)) b ((facts_reach p w q).said m r i f)

warden_asks_not : (p : Plan) (w : World) → Reach p w → (m : Envelope) (j : ℕ) → IsIn m w.mail → m.from ≡ Warden j →
    (x : Exec) (k : Key) → m.body ≡ Get x k → ⊥
warden_asks_not p w q m j i f x k b = subst (WFact p.wardens j (w.warden j)) b ((ward_facts_reach p w q).said m j i f)

in_new : (w w' : World) (more : List Envelope) → w'.mail ≡ w.mail ++ more → (m : Envelope) → IsIn m more → IsIn m w'.mail
in_new w w' more e m i = subst (λ (l : List Envelope). IsIn m l) (sym e) (IsIn-right m w.mail more i)

module _ (p : Plan) (w w' : World) (q : Reach p w) (a : NodesExist p w) where
  pub exists_stays : Happens p w w' → NodesExist p w'
  exists_stays (Stays s) = grown p w w' a [] (s.mail ∙ sym (append-nil w.mail)) (λ m i. absurd i)
  exists_stays (Client_moves s) = grown p w w' a _ s.mail (λ m i.
      let f = from_to_all p.replicas (Client s.c) s.turn.sent m i in
      (ap (exists p) f.0 ∙ s.real, to_all_replicas p (Client s.c) s.turn.sent m i, λ x k b. asked x k (subst (λ (c : Body). IsIn c s.turn.sent) b f.1)))
    where
      asked : (x : Exec) (k : Key) → IsIn (Get x k) s.turn.sent → exists p (Client x.ver.client) ≡ true
      asked x k i = let o = asks_for_own (rules p s.c) (w.client s.c) s.input s.turn s.step x k i in
          let mine : x.ver.client ≡ s.c = ap (λ (y : Exec). y.ver.client) o.0 ∙ (rec_reach p w q s.c).own o.1 in
          ap (λ (c : ℕ). exists p (Client c)) mine ∙ s.real
  exists_stays (Warden_moves s) = grown p w w' a _ s.mail (λ m i.
      let f = from_parcels p.replicas (Warden s.k) s.turn.sent m i in
      let g = IsIn-flat_map (parcel p.replicas (Warden s.k)) m s.turn.sent i in (
        ap (exists p) f.0 ∙ s.real,
        parcel_to p (Warden s.k) g.0 m (turn_to p s.k (w.warden s.k) s.input s.turn s.step g.0 g.1) g.2,
        λ x k b. absurd (warden_asks_not p w' (happens_reach p first_world w w' q (Warden_moves s)) m s.k (in_new w w' _ s.mail m i) f.0 x k b),
      ))
  exists_stays (Replica_moves s) = grown p w w' a _ s.mail (λ m i.
      let f = spoken p.firsts s.r (w.replica s.r) s.m m i in (
        ap (exists p) f.0 ∙ s.real,
        to m (says_to p.firsts s.r (w.replica s.r) s.m m i),
        λ x k b. absurd (replica_asks_not p w' (happens_reach p first_world w w' q (Replica_moves s)) m s.r (in_new w w' _ s.mail m i) f.0 x k b),
      ))
    where
      to : (m : Envelope) → (m.to ≡ s.m.from) ⊎ IsAsker (w.replica s.r) m.to → exists p m.to ≡ true
      to m (inl z) = ap (exists p) z ∙ a.from s.m s.in_mail
      to m (inr g) = ap (exists p) g.2.3 ∙ a.asks g.0 g.2.0 g.2.1 ((took_reach p w q).took s.r g.0 g.1).0 g.2.2

-- it holds in every world
pub nodes_exist : (p : Plan) (events : List Event) → Reach p (replay_from p first_world events) × NodesExist p (replay_from p first_world events)
nodes_exist p = always p (λ w. Reach p w × NodesExist p w)
    (λ w w' h k. (happens_reach p first_world w w' k.0 h, exists_stays p w w' k.0 k.1 h)) first_world
    (Begins, record { from = λ m i. absurd i; to = λ m i. absurd i; asks = λ m x k i. absurd i })
