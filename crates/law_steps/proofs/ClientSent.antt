-- What a client's act sent: its content, its proposals and its own decisions.
use Rattle.std.proofs.Common.{◌≡◌, ℕ, ◌≤◌, inl, inr, ap, sym, ◌∙◌, subst, List, ◌∷◌, Option, None, [], ◌⊎◌}
use Rattle.protocol.specs.Words.{Exec, NodeId, Body, Content, Choice, Abandon, ToCommit, Finalize, Decide, Prepare}
use Rattle.protocol.specs.Lists.{IsIn}
use Rattle.protocol.specs.Replica.Votes.{is_commit_vote}
use Rattle.protocol.specs.Client.State.{Rules, ClientState, CountedVote}
use Rattle.protocol.specs.Quorums.{quorum}
use Rattle.protocol.specs.Client.Counting.{count_votes}
use Rattle.protocol.specs.Client.Deciding.{content_for}
use Rattle.protocol.specs.Client.State.Phase.{Between, Prepared}
use Rattle.law_steps.proofs.ClientActs.{ClientAct, IsQuiet, AllQuiet, IsRunning, Reason, IsOpen}
use Rattle.law_steps.proofs.ClientActs.ClientAct.{Quiet, Advances, Prepares, Counts, Proposes, Accepts, Decides, Gives_up, Learns}

-- what a client proposed
pub record ProposalOf (n : ℕ) (s : ClientState) (x : Exec) (v : ℕ) (d : Choice) : Type 0 where
  pub k : Content
  pub votes : List CountedVote
  pub accepts : List ℕ
  pub phase : s.phase ≡ Prepared k votes None accepts
  pub exec : x ≡ s.exec
  pub view : v ≡ 0
  pub enough : d ≡ ToCommit → quorum n ≤ count_votes is_commit_vote votes

pub quiet_not : (bs : List Body) (b : Body) → (IsQuiet b → ⊥) → AllQuiet bs → IsIn b bs → ⊥
quiet_not [] b n q i = i
quiet_not (c ∷ bs) b n q (inl e) = n (subst IsQuiet (sym e) q.0)
quiet_not (c ∷ bs) b n q (inr i) = quiet_not bs b n q.1 i

pub in_single : (bs : List Body) (c b : Body) → bs ≡ c ∷ [] → IsIn b bs → b ≡ c
in_single bs c b e i = elim (subst (λ (l : List Body). IsIn b l) e i) [ inl z ↦ z | inr z ↦ absurd z ]

pub in_none : (bs : List Body) (b : Body) → bs ≡ [] → IsIn b bs → ⊥
in_none bs b e i = subst (λ (l : List Body). IsIn b l) e i

module _ (r : Rules) (Got : NodeId → Body → Type 0) (s s' : ClientState) (sent : List Body) where
  pub proposal_of : ClientAct r Got s s' sent → (x : Exec) (v : ℕ) (d : Choice) (o : Option Content) → IsIn (Finalize x v d o) sent →
      ProposalOf r.replicas s x v d
  proposal_of (Quiet act) x v d o i = absurd (quiet_not sent _ (λ z. z) act.quiet i)
  proposal_of (Advances act) x v d o i = absurd (in_none sent _ act.silent i)
  proposal_of (Prepares act) x v d o i = let z = in_single sent _ _ act.sends i in cc
  proposal_of (Counts act) x v d o i = absurd (in_none sent _ act.silent i)
  proposal_of (Proposes act) x v d o i = let z = in_single sent _ _ act.sends i in let z1 : x ≡ s.exec = cc in let z2 : v ≡ 0 = cc in let z3 : d ≡ act.choice = cc in record { k = act.content; votes = act.votes; accepts = act.accepts; phase = act.before; exec = z1; view = z2; enough = λ e. act.ground (sym z3 ∙ e) }
  proposal_of (Accepts act) x v d o i = absurd (in_none sent _ act.silent i)
  proposal_of (Decides act) x v d o i = let z = in_single sent _ _ act.sends i in cc
  proposal_of (Gives_up act) x v d o i = let z = in_single sent _ _ act.sends i in cc
  proposal_of (Learns act) x v d o i = absurd (in_none sent _ act.silent i)

-- what a client decided by itself
pub data DecisionOf (n : ℕ) (s s' : ClientState) (sent : List Body) (x : Exec) (d : Choice) : Type 0 where
  Weighed : (k : Content) (vs : List CountedVote) (o : Option Choice) (acs : List ℕ) → s.phase ≡ Prepared k vs o acs → Reason n vs o acs d → x ≡ s.exec →
      s'.exec ≡ s.exec → s'.phase ≡ Between → (k' : Option Content) → sent ≡ Decide x d k' ∷ [] → DecisionOf n s s' sent x d
  Gave_up : IsRunning s.phase → d ≡ Abandon → x ≡ s.exec → s'.exec ≡ s.exec → s'.phase ≡ Between → (k' : Option Content) → sent ≡ Decide x d k' ∷ [] →
      DecisionOf n s s' sent x d

module _ (r : Rules) (Got : NodeId → Body → Type 0) (s s' : ClientState) (sent : List Body) where
  pub decision_of : ClientAct r Got s s' sent → (x : Exec) (d : Choice) (o : Option Content) → IsIn (Decide x d o) sent → DecisionOf r.replicas s s' sent x d
  decision_of (Quiet act) x d o i = absurd (quiet_not sent _ (λ z. z) act.quiet i)
  decision_of (Advances act) x d o i = absurd (in_none sent _ act.silent i)
  decision_of (Prepares act) x d o i = let z = in_single sent _ _ act.sends i in cc
  decision_of (Counts act) x d o i = absurd (in_none sent _ act.silent i)
  decision_of (Proposes act) x d o i = let z = in_single sent _ _ act.sends i in cc
  decision_of (Accepts act) x d o i = absurd (in_none sent _ act.silent i)
  decision_of (Decides act) x d o i = let z = in_single sent _ _ act.sends i in let z1 : x ≡ s.exec = cc in let z2 : d ≡ act.choice = cc in
      Weighed act.content act.votes act.proposal act.accepts act.before (subst (λ y. Reason r.replicas act.votes act.proposal act.accepts y) (sym z2) act.reason) z1 act.exec act.phase (content_for act.content act.choice) (act.sends ∙ ap (λ (b : Body). b ∷ []) (decide_same s.exec x act.choice d (content_for act.content act.choice) z1 z2))
    where
      decide_same : (a b : Exec) (c d : Choice) (o : Option Content) → b ≡ a → d ≡ c → Decide a c o ≡ Decide b d o
      decide_same a b c d o e f = cc
  decision_of (Gives_up act) x d o i = let z = in_single sent _ _ act.sends i in let z1 : x ≡ s.exec = cc in let z2 : d ≡ Abandon = cc in
      Gave_up act.running z2 z1 act.exec act.phase None (act.sends ∙ ap (λ (b : Body). b ∷ []) (decide_same s.exec x d z1 z2))
    where
      decide_same : (a b : Exec) (d : Choice) → b ≡ a → d ≡ Abandon → Decide a Abandon None ≡ Decide b d None
      decide_same a b d e f = cc
  decision_of (Learns act) x d o i = absurd (in_none sent _ act.silent i)

-- a Prepare among the bodies of an act
pub sent_prepare : (r : Rules) (Got : NodeId → Body → Type 0) (s s' : ClientState) (sent : List Body) → ClientAct r Got s s' sent → (x : Exec) (k : Content) →
    IsIn (Prepare x k) sent → (x ≡ s.exec) × IsRunning s.phase × (sent ≡ Prepare x k ∷ [])
sent_prepare r Got s s' sent a x k i = go a
  where
    quiet : (bs : List Body) → AllQuiet bs → IsIn (Prepare x k) bs → ⊥
    quiet [] q i = i
    quiet (b ∷ bs) q (inl e) = subst IsQuiet (sym e) q.0
    quiet (b ∷ bs) q (inr i) = quiet bs q.1 i

    none : sent ≡ [] → ⊥
    none e = rw e at i

    other : (b : Body) → sent ≡ b ∷ [] → (Prepare x k ≡ b → ⊥) → ⊥
    other b e n = elim (rw e at i) [ inl z ↦ n z | inr z ↦ z ]

    go : ClientAct r Got s s' sent → (x ≡ s.exec) × IsRunning s.phase × (sent ≡ Prepare x k ∷ [])
    go (Quiet act) = absurd (quiet sent act.quiet i)
    go (Advances act) = absurd (none act.silent)
    go (Prepares act) = hit act.content act.running act.sends (rw act.sends at i)
      where
        hit : (k' : Content) → IsRunning s.phase → sent ≡ Prepare s.exec k' ∷ [] → (Prepare x k ≡ Prepare s.exec k') ⊎ ⊥ →
            (x ≡ s.exec) × IsRunning s.phase × (sent ≡ Prepare x k ∷ [])
        hit k' n q (inl z) = let a : x ≡ s.exec = cc in (a, n, q ∙ ap (λ (b : Body). b ∷ []) (sym z))
        hit k' n q (inr z) = absurd z
    go (Counts act) = absurd (none act.silent)
    go (Proposes act) = absurd (other _ act.sends (λ z. cc))
    go (Accepts act) = absurd (none act.silent)
    go (Decides act) = absurd (other _ act.sends (λ z. cc))
    go (Gives_up act) = absurd (other _ act.sends (λ z. cc))
    go (Learns act) = absurd (none act.silent)

pub sent_finalize : (r : Rules) (Got : NodeId → Body → Type 0) (s s' : ClientState) (sent : List Body) → ClientAct r Got s s' sent →
    (x : Exec) (v : ℕ) (d : Choice) (o : Option Content) → IsIn (Finalize x v d o) sent → (x ≡ s.exec) × IsOpen s.phase × (sent ≡ Finalize x v d o ∷ [])
sent_finalize r Got s s' sent a x v d o i = go a
  where
    quiet : (bs : List Body) → AllQuiet bs → IsIn (Finalize x v d o) bs → ⊥
    quiet [] q i = i
    quiet (b ∷ bs) q (inl e) = subst IsQuiet (sym e) q.0
    quiet (b ∷ bs) q (inr i) = quiet bs q.1 i

    none : sent ≡ [] → ⊥
    none e = rw e at i

    other : (b : Body) → sent ≡ b ∷ [] → (Finalize x v d o ≡ b → ⊥) → ⊥
    other b e n = elim (rw e at i) [ inl z ↦ n z | inr z ↦ z ]

    go : ClientAct r Got s s' sent → (x ≡ s.exec) × IsOpen s.phase × (sent ≡ Finalize x v d o ∷ [])
    go (Quiet act) = absurd (quiet sent act.quiet i)
    go (Advances act) = absurd (none act.silent)
    go (Prepares act) = absurd (other _ act.sends (λ z. cc))
    go (Counts act) = absurd (none act.silent)
    go (Proposes act) = hit act.content act.choice (rw act.before tt) act.sends (rw act.sends at i)
      where
        hit : (k : Content) (d0 : Choice) → IsOpen s.phase → sent ≡ Finalize s.exec 0 d0 (content_for k d0) ∷ [] →
            (Finalize x v d o ≡ Finalize s.exec 0 d0 (content_for k d0)) ⊎ ⊥ → (x ≡ s.exec) × IsOpen s.phase × (sent ≡ Finalize x v d o ∷ [])
        hit k d0 n q (inl z) = let a : x ≡ s.exec = cc in (a, n, q ∙ ap (λ (b : Body). b ∷ []) (sym z))
        hit k d0 n q (inr z) = absurd z
    go (Accepts act) = absurd (none act.silent)
    go (Decides act) = absurd (other _ act.sends (λ z. cc))
    go (Gives_up act) = absurd (other _ act.sends (λ z. cc))
    go (Learns act) = absurd (none act.silent)
