-- All Prepares of an execution carry one content, and all its Finalizes of one view one choice.
use Rattle.std.proofs.Common.{◌≡◌, ℕ, ◌<◌, ◌≤◌, ◌+◌, ◌*◌, ◌⊎◌, inl, inr, ap, sym, ◌∙◌, subst, List, [], ◌∷◌, ◌++◌, Option, Some, arith}
use Rattle.std.specs.Prelude.{flat_map, suc}
use Rattle.std.proofs.Math.Nat.{mul-le-mul_right}
use Rattle.std.proofs.lemmas.List.{append-nil}
use Rattle.protocol.specs.Words.{Exec, Client, Replica, Warden, Envelope, Body, Content, Choice, Prepare, Finalize}
use Rattle.protocol.specs.Lists.{IsIn}
use Rattle.protocol.specs.Warden.State.{Round, Proposal}
use Rattle.protocol.specs.Warden.Recovery.{round_of}
use Rattle.protocol.specs.World.State.{Plan, World, rules}
use Rattle.protocol.specs.World.Events.{to_all}
use Rattle.protocol.proofs.ListsLemmas.{IsIn-cases, IsIn-right}
use Rattle.law_steps.proofs.PhaseLemmas.{running_under_way, open_under, running_between, open_between}
use Rattle.law_steps.proofs.ClientActs.{IsRunning, IsUnderWay, IsOpen}
use Rattle.law_steps.proofs.SaysLemmas.{spoken}
use Rattle.law_steps.proofs.Reach.{Step, Reach, ByClientAct, GotAt}
use Rattle.law_steps.proofs.Reach.Step.{Stands, Client_acts, Replica_acts, Warden_acts}
use Rattle.law_steps.proofs.Reach.From.{Begins, Next}
use Rattle.law_steps.proofs.SendingLemmas.{from_to_all, from_parcels}
use Rattle.law_steps.proofs.ReplicaFacts.{RFact, facts_reach}
use Rattle.law_steps.proofs.ClientFacts.{At, HasPrepared, HasProposed, rec_reach, open_proposed, running_prepared, not_at}
use Rattle.law_steps.proofs.WardenFacts.{WFact, ward_facts_reach}
use Rattle.law_steps.proofs.Senders.{prepare_from, final_from, warden_view, FinalFrom}
use Rattle.law_steps.proofs.ClientSent.{sent_finalize, sent_prepare}
use Rattle.law_steps.proofs.Senders.FinalFrom.{By_client, By_warden}

same_warden : (k k' i i' n : ℕ) → (0 < k) × (k ≤ n) → (0 < k') × (k' ≤ n) → k + i * n ≡ k' + i' * n → k ≡ k'
same_warden k k' i i' n a b e = go (cases i i')
  where
    cases : (i j : ℕ) → (i < j) ⊎ ((i ≡ j) ⊎ (j < i))
    cases i j = grind arith

    go : (i < i') ⊎ ((i ≡ i') ⊎ (i' < i)) → k ≡ k'
    go (inl l) = let m : suc i * n ≤ i' * n = mul-le-mul_right n l in absurd (omega arith)
    go (inr (inl l)) = let m : i * n ≡ i' * n = ap (λ z. z * n) l in omega arith
    go (inr (inr l)) = let m : suc i' * n ≤ i * n = mul-le-mul_right n l in absurd (omega arith)

-- all Prepares of x carry one content, and all Finalizes of x in view 0 one choice
pub record One (w : World) : Type 0 where
  pub prepare : (e f : Envelope) (x : Exec) (k l : Content) → IsIn e w.mail → IsIn f w.mail → e.body ≡ Prepare x k → f.body ≡ Prepare x l → k ≡ l
  pub finalize : (e f : Envelope) (x : Exec) (d c : Choice) (o q : Option Content) → IsIn e w.mail → IsIn f w.mail → e.body ≡ Finalize x 0 d o →
      f.body ≡ Finalize x 0 c q → (d ≡ c) × (o ≡ q)

-- new mail without a Prepare and without a Finalize of view 0
record Mute (sent : List Envelope) : Type 0 where
  pub prepare : (e : Envelope) (x : Exec) (k : Content) → IsIn e sent → e.body ≡ Prepare x k → ⊥
  pub finalize : (e : Envelope) (x : Exec) (d : Choice) (o : Option Content) → IsIn e sent → e.body ≡ Finalize x 0 d o → ⊥

one_mute : (w w' : World) (sent : List Envelope) → w'.mail ≡ w.mail ++ sent → Mute sent → One w → One w'
one_mute w w' sent m n t = record {
  prepare = λ e f x k l i j a b. pre e f x k l a b (IsIn-cases e w.mail sent (rw m at i)) (IsIn-cases f w.mail sent (rw m at j));
  finalize = λ e f x d c o q i j a b. fin e f x d c o q a b (IsIn-cases e w.mail sent (rw m at i)) (IsIn-cases f w.mail sent (rw m at j));
}
  where
    pre : (e f : Envelope) (x : Exec) (k l : Content) → e.body ≡ Prepare x k → f.body ≡ Prepare x l → IsIn e w.mail ⊎ IsIn e sent →
        IsIn f w.mail ⊎ IsIn f sent → k ≡ l
    pre e f x k l a b (inl i) (inl j) = t.prepare e f x k l i j a b
    pre e f x k l a b (inr i) j = absurd (n.prepare e x k i a)
    pre e f x k l a b (inl i) (inr j) = absurd (n.prepare f x l j b)

    fin : (e f : Envelope) (x : Exec) (d c : Choice) (o q : Option Content) → e.body ≡ Finalize x 0 d o → f.body ≡ Finalize x 0 c q →
        IsIn e w.mail ⊎ IsIn e sent → IsIn f w.mail ⊎ IsIn f sent → (d ≡ c) × (o ≡ q)
    fin e f x d c o q a b (inl i) (inl j) = t.finalize e f x d c o q i j a b
    fin e f x d c o q a b (inr i) j = absurd (n.finalize e x d o i a)
    fin e f x d c o q a b (inl i) (inr j) = absurd (n.finalize f x c q j b)

-- the next world has the facts too
replica_mute : (p : Plan) (w w' : World) → Reach p w' → (s : Step p w w') → (sent : List Envelope) → w'.mail ≡ w.mail ++ sent → (r : ℕ) →
    ((e : Envelope) → IsIn e sent → e.from ≡ Replica r) → Mute sent
replica_mute p w w' q s sent m r from = record {
  prepare = λ e x k i b. subst (RFact r (w'.replica r)) b ((facts_reach p w' q).said e r (there e i) (from e i));
  finalize = λ e x d o i b. subst (RFact r (w'.replica r)) b ((facts_reach p w' q).said e r (there e i) (from e i));
}
  where
    there : (e : Envelope) → IsIn e sent → IsIn e w'.mail
    there e i = rw m (IsIn-right e w.mail sent i)

warden_mute : (p : Plan) (w w' : World) → Reach p w' → (s : Step p w w') → (sent : List Envelope) → w'.mail ≡ w.mail ++ sent → (k : ℕ) →
    ((e : Envelope) → IsIn e sent → e.from ≡ Warden k) → Mute sent
warden_mute p w w' q s sent m k from = record {
  prepare = λ e x c i b. subst (WFact p.wardens k (w'.warden k)) b ((ward_facts_reach p w' q).said e k (there e i) (from e i));
  finalize = λ e x d o i b. final e x d o i b (subst (WFact p.wardens k (w'.warden k)) b ((ward_facts_reach p w' q).said e k (there e i) (from e i)));
}
  where
    there : (e : Envelope) → IsIn e sent → IsIn e w'.mail
    there e i = rw m (IsIn-right e w.mail sent i)

    final : (e : Envelope) (x : Exec) (d : Choice) (o : Option Content) → IsIn e sent → e.body ≡ Finalize x 0 d o →
        WFact p.wardens k (w'.warden k) (Finalize x 0 d o) → ⊥
    final e x d o i b f = let v = warden_view p w' q k x 0 f.1.0 f.1.1 in let z : 0 ≡ k + v.0 * p.wardens = v.1 in let l = f.0.0 in omega (arith, z, l)

-- what one client sends in one act
client_one : (p : Plan) (w w' : World) → Reach p w → ByClientAct p w w' → One w → One w'
client_one p w w' q s t = record {
  prepare = λ e f x k l i j a b. pre e f x k l i j a b (new e (rw s.mail at i)) (new f (rw s.mail at j));
  finalize = λ e f x d c o u i j a b. fin e f x d c o u a b (new e (rw s.mail at i)) (new f (rw s.mail at j));
}
  where
    new : (e : Envelope) → IsIn e (w.mail ++ flat_map (to_all p.replicas (Client s.c)) s.sent) → IsIn e w.mail ⊎ ((e.from ≡ Client s.c) × IsIn e.body s.sent)
    new e i = elim (IsIn-cases e w.mail _ i) [ inl j ↦ inl j | inr j ↦ inr (from_to_all p.replicas (Client s.c) s.sent e j) ]

    is_prepare : (x : Exec) (k : Content) → IsIn (Prepare x k) s.sent → (x ≡ (w.client s.c).exec) × IsRunning (w.client s.c).phase × (s.sent ≡ Prepare x k ∷ [])
    is_prepare x k i = sent_prepare (rules p s.c) (GotAt w s.c) (w.client s.c) s.state s.sent s.act x k i

    is_final : (x : Exec) (d : Choice) (o : Option Content) → IsIn (Finalize x 0 d o) s.sent →
        (x ≡ (w.client s.c).exec) × IsOpen (w.client s.c).phase × (s.sent ≡ Finalize x 0 d o ∷ [])
    is_final x d o i = sent_finalize (rules p s.c) (GotAt w s.c) (w.client s.c) s.state s.sent s.act x 0 d o i

    mine : (x : Exec) → x ≡ (w.client s.c).exec → IsUnderWay (w.client s.c).phase → x.ver.client ≡ s.c
    mine x e u = rw e ((rec_reach p w q s.c).own u)

    clash : (f : Envelope) (x : Exec) (k l : Content) → IsIn (Prepare x k) s.sent → IsIn f w.mail → f.body ≡ Prepare x l → ⊥
    clash f x k l u v b = let n = is_prepare x k u in
        let g = prepare_from p w q f x l v b in
        not_at (HasPrepared l) x (w.client s.c) n.0 (running_between _ n.1) (running_prepared l _ n.1) (subst (λ z. At (HasPrepared l) x (w.client z)) (mine x n.0 (running_under_way _ n.1)) g.1)

    clash_final : (f : Envelope) (x : Exec) (d c : Choice) (o u : Option Content) → IsIn (Finalize x 0 d o) s.sent → IsIn f w.mail →
        f.body ≡ Finalize x 0 c u → ⊥
    clash_final f x d c o u i v b = let n = is_final x d o i in go n (final_from p w q f x 0 c u v b)
      where
        go : (x ≡ (w.client s.c).exec) × IsOpen (w.client s.c).phase × (s.sent ≡ Finalize x 0 d o ∷ []) → FinalFrom p w f x 0 c u → ⊥
        go n (By_client z y g) = not_at (HasProposed c u) x (w.client s.c) n.0 (open_between _ n.1) (open_proposed c u _ n.1) (subst (λ z. At (HasProposed c u) x (w.client z)) (mine x n.0 (open_under _ n.1)) g)
        go n (By_warden k z range a r h) = let v = warden_view p w q k x 0 a r in let y : 0 ≡ k + v.0 * p.wardens = v.1 in let l = range.0 in omega (arith, y, l)

    single : (b c : Body) → s.sent ≡ b ∷ [] → IsIn c s.sent → c ≡ b
    single b c e i = elim (rw e at i) [ inl z ↦ z | inr z ↦ absurd z ]

    pre : (e f : Envelope) (x : Exec) (k l : Content) → IsIn e w'.mail → IsIn f w'.mail → e.body ≡ Prepare x k → f.body ≡ Prepare x l →
        IsIn e w.mail ⊎ ((e.from ≡ Client s.c) × IsIn e.body s.sent) → IsIn f w.mail ⊎ ((f.from ≡ Client s.c) × IsIn f.body s.sent) → k ≡ l
    pre e f x k l i j a b (inl i') (inl j') = t.prepare e f x k l i' j' a b
    pre e f x k l i j a b (inr u) (inr v) = let n = is_prepare x k (subst (λ z. IsIn z s.sent) a u.1) in let z : Prepare x l ≡ Prepare x k = single _ _ n.2 (subst (λ z. IsIn z s.sent) b v.1) in cc
    pre e f x k l i j a b (inr u) (inl v) = absurd (clash f x k l (subst (λ z. IsIn z s.sent) a u.1) v b)
    pre e f x k l i j a b (inl u) (inr v) = absurd (clash e x l k (subst (λ z. IsIn z s.sent) b v.1) u a)

    fin : (e f : Envelope) (x : Exec) (d c : Choice) (o u : Option Content) → e.body ≡ Finalize x 0 d o → f.body ≡ Finalize x 0 c u →
        IsIn e w.mail ⊎ ((e.from ≡ Client s.c) × IsIn e.body s.sent) → IsIn f w.mail ⊎ ((f.from ≡ Client s.c) × IsIn f.body s.sent) → (d ≡ c) × (o ≡ u)
    fin e f x d c o u a b (inl i) (inl j) = t.finalize e f x d c o u i j a b
    fin e f x d c o u a b (inr i) (inr j) = let n = is_final x d o (subst (λ z. IsIn z s.sent) a i.1) in let z : Finalize x 0 c u ≡ Finalize x 0 d o = single _ _ n.2 (subst (λ z. IsIn z s.sent) b j.1) in (cc, cc)
    fin e f x d c o u a b (inr i) (inl j) = absurd (clash_final f x d c o u (subst (λ z. IsIn z s.sent) a i.1) j b)
    fin e f x d c o u a b (inl i) (inr j) = absurd (clash_final e x c d u o (subst (λ z. IsIn z s.sent) b j.1) i a)

pub one_reach : (p : Plan) (w : World) → Reach p w → One w
one_reach p _ Begins = record { prepare = λ e f x k l i. absurd i; finalize = λ e f x d c o u i. absurd i }
one_reach p _ (Next w w' q (Stands s)) =
    one_mute w w' [] (s.mail ∙ sym (append-nil w.mail)) (record { prepare = λ e x k i. absurd i; finalize = λ e x d o i. absurd i }) (one_reach p w q)
one_reach p _ (Next w w' q (Client_acts s)) = client_one p w w' q s (one_reach p w q)
one_reach p _ (Next w w' q (Replica_acts s)) = one_mute w w' _ s.mail (replica_mute p w w' (Next w w' q (Replica_acts s)) (Replica_acts s) _ s.mail s.r (λ e i. (spoken p.firsts s.r (w.replica s.r) s.m e i).0)) (one_reach p w q)
one_reach p _ (Next w w' q (Warden_acts s)) = one_mute w w' _ s.mail (warden_mute p w w' (Next w w' q (Warden_acts s)) (Warden_acts s) _ s.mail s.k (λ e i. (from_parcels p.replicas (Warden s.k) s.sent e i).0)) (one_reach p w q)

-- all Finalizes of x in one view carry one choice
pub one_view : (p : Plan) (w : World) → Reach p w → (e f : Envelope) (x : Exec) (v : ℕ) (d c : Choice) (o u : Option Content) → IsIn e w.mail →
    IsIn f w.mail → e.body ≡ Finalize x v d o → f.body ≡ Finalize x v c u → (d ≡ c) × (o ≡ u)
one_view p w q e f x v d c o u i j a b = go (final_from p w q e x v d o i a) (final_from p w q f x v c u j b)
  where
    zero_view : (k : ℕ) (r : Round) → (0 < k) × (k ≤ p.wardens) → round_of x v (w.warden k).rounds ≡ Some r → v ≡ 0 → ⊥
    zero_view k r range h z = let n = warden_view p w q k x v r h in let y : v ≡ k + n.0 * p.wardens = n.1 in let l = range.0 in omega (arith, y, l, z)

    go : FinalFrom p w e x v d o → FinalFrom p w f x v c u → (d ≡ c) × (o ≡ u)
    go (By_client m z g) (By_client m' z' g') =
        (one_reach p w q).finalize e f x d c o u i j (a ∙ ap (λ (y : ℕ). Finalize x y d o) z) (b ∙ ap (λ (y : ℕ). Finalize x y c u) z)
    go (By_client m z g) (By_warden k' m' range' r' h' g') = absurd (zero_view k' r' range' h' z)
    go (By_warden k m range r h g) (By_client m' z' g') = absurd (zero_view k r range h z')
    go (By_warden k m range r h g) (By_warden k' m' range' r' h' g') =
        let n = warden_view p w q k x v r h in let n' = warden_view p w q k' x v r' h' in
        let same : k ≡ k' = same_warden k k' n.0 n'.0 p.wardens range range' (sym n.1 ∙ n'.1) in
        let h2 : round_of x v (w.warden k').rounds ≡ Some r = subst (λ (z : ℕ). round_of x v (w.warden z).rounds ≡ Some r) same h in
        let same2 : r ≡ r' = cc in
        let g2 : r.proposal ≡ Some (record { choice = c; content = u }) = rw same2 g' in
        let g3 : record { choice = d; content = o } ≡ record { choice = c; content = u } = cc in
        (ap (λ (z : Proposal). z.choice) g3, ap (λ (z : Proposal). z.content) g3)
