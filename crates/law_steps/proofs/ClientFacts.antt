-- What a client sent it knows for good: what it prepared, proposed and decided.
use Rattle.std.proofs.Common.{◌≡◌, ℕ, ◌⊎◌, inl, inr, refl, sym, subst, List, [], ◌∷◌, Option, Some, None}
use Rattle.protocol.specs.Words.{Exec, NodeId, Body, Content, Choice, Abandon, Get, Puts, Prepare, Finalize, Decide}
use Rattle.protocol.specs.Lists.{IsIn}
use Rattle.protocol.specs.Client.State.{Rules, ClientState, Phase, CountedVote, Decision}
use Rattle.protocol.specs.Client.Deciding.{content_for}
use Rattle.protocol.specs.Client.State.Phase.{Between, Running, Prepared}
use Rattle.protocol.specs.World.State.{Plan, World, rules}
use Rattle.law_steps.specs.Executions.{Over, IsEarlier}
use Rattle.law_steps.proofs.PhaseLemmas.{running_under_way, prepared_under_way, running_between}
use Rattle.law_steps.proofs.ClientActs.{ClientAct, IsQuiet, AllQuiet, IsRunning, IsUnprepared, IsUnderWay, SameStage, WasBegun, IsOpen}
use Rattle.law_steps.proofs.ClientActs.ClientAct.{Quiet, Advances, Prepares, Counts, Proposes, Accepts, Decides, Gives_up, Learns}
use Rattle.law_steps.proofs.Reach.{Reach, GotAt}
use Rattle.law_steps.proofs.Induction.{ClientsSaid, clients_said_reach, on_clients}
use Rattle.law_steps.proofs.ExecutionsLemmas.{earlier_trans, earlier_itself}

abbrev pub HasPrepared : Content → Phase → Type 0
HasPrepared k (Prepared l v o a) = k ≡ l
HasPrepared k _ = ⊥

abbrev pub HasProposed : Choice → Option Content → Phase → Type 0
HasProposed d o (Prepared l v (Some e) a) = (d ≡ e) × (o ≡ content_for l d)
HasProposed d o _ = ⊥

abbrev pub At : (Phase → Type 0) → Exec → ClientState → Type 0
At P x s = Over x s ⊎ ((x ≡ s.exec) × P s.phase)

under_way_not : (p : Phase) → IsUnderWay p → p ≡ Between → ⊥
under_way_not Between r e = r
under_way_not (Running a b) r e = cc
under_way_not (Prepared k v o a) r e = cc

-- what is over stays over
over_same : (x : Exec) (s s' : ClientState) → s'.exec ≡ s.exec → (s.phase ≡ Between → s'.phase ≡ Between) → Over x s → Over x s'
over_same x s s' e f (inl h) = inl (rw e h)
over_same x s s' e f (inr h) = inr (rw e h.0, f h.1)

stage_between : (p q : Phase) → SameStage p q → p ≡ Between → q ≡ Between
stage_between Between q s e = s
stage_between (Running a b) q s e = cc
stage_between (Prepared k v o a) q s e = cc

-- an act leaves the execution, or begins a later one
pub act_exec : (r : Rules) (Got : NodeId → Body → Type 0) (s s' : ClientState) (sent : List Body) → ClientAct r Got s s' sent →
    (s'.exec ≡ s.exec) ⊎ IsEarlier s.exec s'.exec
act_exec r Got s s' sent (Quiet act) = inl act.exec
act_exec r Got s s' sent (Advances act) = inr act.later
act_exec r Got s s' sent (Prepares act) = inl act.exec
act_exec r Got s s' sent (Counts act) = inl act.exec
act_exec r Got s s' sent (Proposes act) = inl act.exec
act_exec r Got s s' sent (Accepts act) = inl act.exec
act_exec r Got s s' sent (Decides act) = inl act.exec
act_exec r Got s s' sent (Gives_up act) = inl act.exec
act_exec r Got s s' sent (Learns act) = inl act.exec

module _ (r : Rules) (Got : NodeId → Body → Type 0) (s s' : ClientState) (sent : List Body) where
  pub act_over : ClientAct r Got s s' sent → (x : Exec) → Over x s → Over x s'
  act_over (Quiet act) x o = over_same x s s' act.exec (stage_between s.phase s'.phase act.stage) o
  act_over (Advances act) x (inl h) = inl (earlier_trans x s.exec s'.exec h act.later)
  act_over (Advances act) x (inr h) = inl (rw h.0 act.later)
  act_over (Prepares act) x o = over_same x s s' act.exec (λ b. absurd (running_between s.phase act.running b)) o
  act_over (Counts act) x o = over_same x s s' act.exec (λ b. let f = act.before in cc) o
  act_over (Proposes act) x o = over_same x s s' act.exec (λ b. let f = act.before in cc) o
  act_over (Accepts act) x o = over_same x s s' act.exec (λ b. let f = act.before in cc) o
  act_over (Decides act) x o = over_same x s s' act.exec (λ b. act.phase) o
  act_over (Gives_up act) x o = over_same x s s' act.exec (λ b. act.phase) o
  act_over (Learns act) x o = over_same x s s' act.exec (λ b. act.phase) o

  -- what a prepared client keeps until it is over
  pub act_at : (P : Phase → Type 0) → ((p : Phase) → IsUnprepared p → P p → ⊥) →
      ((k : Content) (vs ws : List CountedVote) (o o' : Option Choice) (acs acs' : List ℕ) → (o ≡ None ⊎ o ≡ o') → P (Prepared k vs o acs) → P (Prepared k ws o' acs'))
      → ClientAct r Got s s' sent → (x : Exec) → At P x s → At P x s'
  act_at P none more a x (inl o) = inl (act_over a x o)
  act_at P none more (Quiet act) x (inr h) = go s.phase refl act.stage h.1
    where
      go : (p : Phase) → s.phase ≡ p → SameStage p s'.phase → P p → At P x s'
      go Between f g h' = absurd (none Between tt h')
      go (Running a b) f g h' = absurd (none (Running a b) tt h')
      go (Prepared k v o a) f g h' = inr (rw act.exec h.0, subst P (sym g) h')
  act_at P none more (Advances act) x (inr h) = absurd (none s.phase act.from h.1)
  act_at P none more (Prepares act) x (inr h) = absurd (none s.phase (running_un s.phase act.running) h.1)
    where
      running_un : (p : Phase) → IsRunning p → IsUnprepared p
      running_un Between h = absurd h
      running_un (Running p g) h = tt
      running_un (Prepared k v o a) h = absurd h
  act_at P none more (Counts act) x (inr h) =
      inr (rw act.exec h.0, subst P (sym act.phase) (more act.content act.votes _ None None act.accepts [] (inl refl) (subst P act.before h.1)))
  act_at P none more (Proposes act) x (inr h) = inr (rw act.exec h.0, subst P (sym act.phase) (more act.content act.votes act.votes None (Some act.choice) act.accepts [] (inl refl) (subst P act.before h.1)))
  act_at P none more (Accepts act) x (inr h) = inr (rw act.exec h.0, subst P (sym act.phase) (more act.content act.votes act.votes (Some act.choice) (Some act.choice) act.accepts _ (inr refl) (subst P act.before h.1)))
  act_at P none more (Decides act) x (inr h) = inl (inr (rw act.exec h.0, act.phase))
  act_at P none more (Gives_up act) x (inr h) = inl (inr (rw act.exec h.0, act.phase))
  act_at P none more (Learns act) x (inr h) = inl (inr (rw act.exec h.0, act.phase))

-- what a client sent
abbrev pub CFact : ℕ → ClientState → Body → Type 0
CFact c s (Prepare x k) = (x.ver.client ≡ c) × At (HasPrepared k) x s
CFact c s (Finalize x v d o) = (v ≡ 0) × (x.ver.client ≡ c) × At (HasProposed d o) x s
CFact c s (Decide x d o) = IsIn (record { exec = x; choice = d }) s.decisions
CFact c s (Get x k) = Unit {0}
CFact c s (Puts x k) = Unit {0}
CFact c s _ = ⊥

-- what a client's record says of its executions
pub record CRec (c : ℕ) (s : ClientState) : Type 0 where
  pub own : IsUnderWay s.phase → s.exec.ver.client ≡ c
  pub done : (d : Decision) → IsIn d s.decisions → (d.exec.ver.client ≡ c) × Over d.exec s

prepared_none : (k : Content) (p : Phase) → IsUnprepared p → HasPrepared k p → ⊥
prepared_none k Between u h = h
prepared_none k (Running a b) u h = h
prepared_none k (Prepared l v o a) u h = u

proposed_none : (d : Choice) (o : Option Content) (p : Phase) → IsUnprepared p → HasProposed d o p → ⊥
proposed_none d o Between u h = h
proposed_none d o (Running a b) u h = h
proposed_none d o (Prepared l v q a) u h = u

proposed_more : (d : Choice) (k' : Option Content) (k : Content) (vs ws : List CountedVote) (o o' : Option Choice) (acs acs' : List ℕ) → (o ≡ None ⊎ o ≡ o') →
    HasProposed d k' (Prepared k vs o acs) → HasProposed d k' (Prepared k ws o' acs')
proposed_more d k' k vs ws None o' acs acs' e h = absurd h
proposed_more d k' k vs ws (Some e') o' acs acs' (inl e) h = cc
proposed_more d k' k vs ws (Some e') o' acs acs' (inr e) h = rw (← e) h

stage_under_way : (p q : Phase) → SameStage p q → IsUnderWay q → IsUnderWay p
stage_under_way Between q s u = absurd (under_way_not q u s)
stage_under_way (Running a b) q s u = tt
stage_under_way (Prepared k v o a) q s u = tt

module _ (r : Rules) (Got : NodeId → Body → Type 0) (s s' : ClientState) (sent : List Body) where
  own_same : CRec r.client s → IsUnderWay s.phase → s'.exec ≡ s.exec → s'.exec.ver.client ≡ r.client
  own_same t u e = rw e (t.own u)

  decided_old : CRec r.client s → ClientAct r Got s s' sent → s'.decisions ≡ s.decisions → (d : Decision) → IsIn d s'.decisions →
      (d.exec.ver.client ≡ r.client) × Over d.exec s'
  decided_old t a e d i = let k = t.done d (rw (← e) i) in (k.0, act_over r Got s s' sent a d.exec k.1)

  decided_new : CRec r.client s → ClientAct r Got s s' sent → IsUnderWay s.phase → s'.exec ≡ s.exec → s'.phase ≡ Between → (n : Choice) →
      s'.decisions ≡ record { exec = s.exec; choice = n } ∷ s.decisions → (d : Decision) → IsIn d s'.decisions →
      (d.exec.ver.client ≡ r.client) × Over d.exec s'
  decided_new t a u e f n q d i = go (rw q at i)
    where
      go : (d ≡ record { exec = s.exec; choice = n }) ⊎ IsIn d s.decisions → (d.exec.ver.client ≡ r.client) × Over d.exec s'
      go (inl z) = (rw z (t.own u), inr (rw z (sym e), f))
      go (inr i) = let k = t.done d i in (k.0, act_over r Got s s' sent a d.exec k.1)

  pub act_rec : ClientAct r Got s s' sent → CRec r.client s → CRec r.client s'
  act_rec (Quiet act) t =
      record { own = λ u. own_same t (stage_under_way s.phase s'.phase act.stage u) act.exec; done = decided_old t (Quiet act) act.decisions }
  act_rec (Advances act) t = record { own = λ v. go act.own; done = decided_old t (Advances act) act.decisions }
    where
      go : (s'.exec.ver.client ≡ r.client) ⊎ ((s'.exec.ver ≡ s.exec.ver) × WasBegun s) → s'.exec.ver.client ≡ r.client
      go (inl f) = f
      go (inr (f, inl u)) = rw f (t.own u)
      go (inr (f, inr d)) = rw (f, ← d.2) (t.done d.0 d.1).0
  act_rec (Prepares act) t =
      record { own = λ u. own_same t (running_under_way s.phase act.running) act.exec; done = decided_old t (Prepares act) act.decisions }
  act_rec (Counts act) t = record { own = λ u. own_same t (prepared_under_way _ _ _ _ _ act.before) act.exec; done = decided_old t (Counts act) act.decisions }
  act_rec (Proposes act) t =
      record { own = λ u. own_same t (prepared_under_way _ _ _ _ _ act.before) act.exec; done = decided_old t (Proposes act) act.decisions }
  act_rec (Accepts act) t =
      record { own = λ u. own_same t (prepared_under_way _ _ _ _ _ act.before) act.exec; done = decided_old t (Accepts act) act.decisions }
  act_rec (Decides act) t = record { own = λ u. own_same t (prepared_under_way _ _ _ _ _ act.before) act.exec; done = decided_new t (Decides act) (prepared_under_way _ _ _ _ _ act.before) act.exec act.phase act.choice act.decisions }
  act_rec (Gives_up act) t = record { own = λ u. own_same t (running_under_way s.phase act.running) act.exec; done = decided_new t (Gives_up act) (running_under_way s.phase act.running) act.exec act.phase Abandon act.decisions }
  act_rec (Learns act) t =
      record { own = λ u. own_same t act.under_way act.exec; done = decided_new t (Learns act) act.under_way act.exec act.phase act.choice act.decisions }

  decisions_grow : ClientAct r Got s s' sent → (d : Decision) → IsIn d s.decisions → IsIn d s'.decisions
  decisions_grow (Quiet act) z i = rw act.decisions i
  decisions_grow (Advances act) z i = rw act.decisions i
  decisions_grow (Prepares act) z i = rw act.decisions i
  decisions_grow (Counts act) z i = rw act.decisions i
  decisions_grow (Proposes act) z i = rw act.decisions i
  decisions_grow (Accepts act) z i = rw act.decisions i
  decisions_grow (Decides act) z i = rw act.decisions (inr i)
  decisions_grow (Gives_up act) z i = rw act.decisions (inr i)
  decisions_grow (Learns act) z i = rw act.decisions (inr i)

  pub said_stays : ClientAct r Got s s' sent → (b : Body) → CFact r.client s b → CFact r.client s' b
  said_stays a (Prepare x k) f = (f.0, act_at r Got s s' sent (HasPrepared k) (prepared_none k) (λ l vs ws o o' acs acs' e h. h) a x f.1)
  said_stays a (Finalize x v d o) f = (f.0, f.1, act_at r Got s s' sent (HasProposed d o) (proposed_none d o) (proposed_more d o) a x f.2)
  said_stays a (Decide x d o) f = decisions_grow a _ f
  said_stays a (Get x k) f = tt
  said_stays a (Puts x k) f = tt
  said_stays a _ f = absurd f

  quiet_said : (bs : List Body) → AllQuiet bs → (b : Body) → IsIn b bs → CFact r.client s' b
  quiet_said [] q b i = absurd i
  quiet_said (x ∷ xs) q b (inl e) = rw e (go x q.0)
    where
      go : (x : Body) → IsQuiet x → CFact r.client s' x
      go (Get x k) q = tt
      go (Puts x k) q = tt
      go _ q = absurd q
  quiet_said (x ∷ xs) q b (inr i) = quiet_said xs q.1 b i

  only : (c : Body) → sent ≡ c ∷ [] → CFact r.client s' c → (b : Body) → IsIn b sent → CFact r.client s' b
  only c e f b i = go (rw e at i)
    where
      go : (b ≡ c) ⊎ ⊥ → CFact r.client s' b
      go (inl z) = rw z f
      go (inr z) = absurd z

  none_sent : sent ≡ [] → (b : Body) → IsIn b sent → CFact r.client s' b
  none_sent e b i = absurd (rw e at i)

  pub said_new : CRec r.client s → ClientAct r Got s s' sent → (b : Body) → IsIn b sent → CFact r.client s' b
  said_new t (Quiet act) b i = quiet_said sent act.quiet b i
  said_new t (Advances act) b i = none_sent act.silent b i
  said_new t (Prepares act) b i = only _ act.sends (t.own (running_under_way s.phase act.running), inr (sym act.exec, rw act.phase refl)) b i
  said_new t (Counts act) b i = none_sent act.silent b i
  said_new t (Proposes act) b i = only _ act.sends (refl, t.own (prepared_under_way _ _ _ _ _ act.before), inr (sym act.exec, rw act.phase (refl, refl))) b i
  said_new t (Accepts act) b i = none_sent act.silent b i
  said_new t (Decides act) b i = only _ act.sends (rw act.decisions (inl refl)) b i
  said_new t (Gives_up act) b i = only _ act.sends (rw act.decisions (inl refl)) b i
  said_new t (Learns act) b i = none_sent act.silent b i

pub rec_reach : (p : Plan) (w : World) → Reach p w → (c : ℕ) → CRec c (w.client c)
rec_reach p = on_clients p (λ w. CRec) (λ c. record { own = λ u. absurd u; done = λ d i. absurd i }) (λ w w' st c s k. k)
    (λ w w' q s. act_rec (rules p s.c) (GotAt w s.c) (w.client s.c) s.state s.sent s.act)

pub client_facts_reach : (p : Plan) (w : World) → Reach p w → ClientsSaid CFact w
client_facts_reach p w q = clients_said_reach p CFact (λ v t c s sent a. (said_stays (rules p c) (GotAt v c) (v.client c) s sent a, said_new (rules p c) (GotAt v c) (v.client c) s sent (rec_reach p v t c) a)) w q

-- an execution that is neither over nor prepared is not the present one
pub not_at : (P : Phase → Type 0) (x : Exec) (s : ClientState) → x ≡ s.exec → (s.phase ≡ Between → ⊥) → (P s.phase → ⊥) → At P x s → ⊥
not_at P x s e b n (inl (inl h)) = earlier_itself s.exec (subst (λ z. IsEarlier z s.exec) e h)
not_at P x s e b n (inl (inr h)) = b h.1
not_at P x s e b n (inr h) = n h.1

pub running_prepared : (k : Content) (p : Phase) → IsRunning p → HasPrepared k p → ⊥
running_prepared k Between r h = h
running_prepared k (Running a b) r h = h
running_prepared k (Prepared l v o a) r h = r

pub open_proposed : (d : Choice) (o : Option Content) (p : Phase) → IsOpen p → HasProposed d o p → ⊥
open_proposed d o Between r h = h
open_proposed d o (Running a b) r h = h
open_proposed d o (Prepared l v None a) r h = h
open_proposed d o (Prepared l v (Some e) a) r h = r
