-- The small acts of a warden, and each of its steps as a chain of them.
use Rattle.std.proofs.Common.{◌≡◌, ℕ, ◌<◌, ◌≤◌, ◌⊎◌, inl, inr, refl, subst, true, false, Bool, List, [], ◌∷◌, ◌++◌, Option, Some, None, length}
use Rattle.std.specs.Prelude.{cond, suc, nat_le, nat_lt, ◌&&◌, ◌||◌, ◌==◌, not}
use Rattle.std.specs.Option.{is_none, is_some}
use Rattle.std.specs.List.{list_any, list_all}
use Rattle.std.proofs.lemmas.List.{append-nil}
use Rattle.std.specs.Bool.{then_some}
use Rattle.std.proofs.lemmas.Bool.{not-true}
use Rattle.protocol.specs.Words.{Exec, NodeId, Client, Replica, Warden, Body, Finalize, Accepted, Decide, Ask, Told, Fence, Fenced, Drops, Version, same_version}
use Rattle.protocol.specs.Quorums.{quorum}
use Rattle.protocol.specs.Client.Counting.{sender}
use Rattle.protocol.specs.Warden.State.{WardenRules, WardenState, WardenTurn, Round, ToldAnswer, Proposal, Parcel, FencedAnswer, Truncation, decision_on, still}
use Rattle.protocol.specs.Warden.Recovery.{with_told, proposes, with_accept, decides, count_accept, recover, next_view, round_of, with_round, round_put, take_told, take_accept, fixed, heard, recovery_hears, to_client}
use Rattle.protocol.specs.Warden.State.Parcel.{To_all}
use Rattle.protocol.specs.Warden.Truncation.{with_fenced, can_truncate, truncate, with_truncations, counted, to_recover, drop_sent, recover_more, recover_all, is_recovering, is_counted, take_fenced, is_finished, finish}
use Rattle.protocol.specs.Warden.Step.{WardenInput, warden_step, fenced_from, warden_hears}
use Rattle.protocol.specs.Warden.Base.{base_of}
use Rattle.protocol.specs.Warden.Step.WardenInput.{Recovers, Truncates, Hears}
use Rattle.protocol.proofs.TestLemmas.{and_left, and_right, le_is, lt_is}
use Rattle.protocol.proofs.NamesLemmas.{version_is}

-- a round after one more Told, with its proposal
abbrev pub told_round : Round → ToldAnswer → Option Proposal → Round
told_round a t o = record { exec = a.exec; view = a.view; tolds = a.tolds ++ t ∷ []; proposal = o; accepts = [] }

-- nothing happens
pub record RestAct (s s' : WardenState) (sent : List Parcel) : Type 0 where
  pub state : s' ≡ s
  pub silent : sent ≡ []

-- a round of an execution begins
pub record AskAct (r : WardenRules) (s s' : WardenState) (sent : List Parcel) : Type 0 where
  pub exec : Exec
  pub state : s' ≡ (recover r s exec).state
  pub sends : sent ≡ To_all (Ask exec (next_view r s exec)) ∷ []

-- a replica's Told is counted in its round; with a quorum of them the round proposes what they fix
pub record ToldAct (r : WardenRules) (Got : NodeId → Body → Type 0) (s s' : WardenState) (sent : List Parcel) : Type 0 where
  pub exec : Exec
  pub view : ℕ
  pub told : ToldAnswer
  pub round : Round
  pub proposal : Option Proposal
  pub found : round_of exec view s.rounds ≡ Some round
  pub unproposed : round.proposal ≡ None
  pub got : Got (Replica told.replica) (Told exec view told.vote told.accepted told.decided told.content)
  pub range : (0 < told.replica) × (told.replica ≤ r.replicas)
  pub fresh : list_any (λ (u : ToldAnswer). u.replica == told.replica) round.tolds ≡ false
  pub state : s' ≡ round_put s exec view (told_round round told proposal)
  pub outcome : ((proposal ≡ None) × (sent ≡ []))
      ⊎ ((proposal ≡ Some (fixed (round.tolds ++ told ∷ []))) × (quorum r.replicas ≤ suc (length round.tolds))
      × (sent ≡ To_all (Finalize exec view (fixed (round.tolds ++ told ∷ [])).choice (fixed (round.tolds ++ told ∷ [])).content) ∷ []))

-- a replica's acceptance of a round's proposal is counted; a quorum of them decides
pub record AcceptedAct (r : WardenRules) (Got : NodeId → Body → Type 0) (s s' : WardenState) (sent : List Parcel) : Type 0 where
  pub exec : Exec
  pub view : ℕ
  pub replica : ℕ
  pub round : Round
  pub proposal : Proposal
  pub found : round_of exec view s.rounds ≡ Some round
  pub proposed : round.proposal ≡ Some proposal
  pub got : Got (Replica replica) (Accepted exec view)
  pub range : (0 < replica) × (replica ≤ r.replicas)
  pub fresh : list_any (λ i. i == replica) round.accepts ≡ false
  pub rounds : s'.rounds ≡ with_round exec view (with_accept round proposal replica) s.rounds
  pub truncations : s'.truncations ≡ s.truncations
  pub outcome : ((s'.decisions ≡ s.decisions) × (sent ≡ []))
      ⊎ ((s'.decisions ≡ record { exec = exec; proposal = proposal } ∷ s.decisions) × (quorum r.replicas ≤ suc (length round.accepts))
      × (sent ≡ To_all (Decide exec proposal.choice proposal.content) ∷ to_client r exec (Decide exec proposal.choice proposal.content)))

-- a truncation begins
pub record BeginAct (s s' : WardenState) (sent : List Parcel) : Type 0 where
  pub version : Version
  pub may : can_truncate s version ≡ true
  pub state : s' ≡ with_truncations s (record { w = version; answers = []; dropped = false } ∷ s.truncations)
  pub sends : sent ≡ To_all (Fence version) ∷ []

-- a replica's Fenced is counted in the newest truncation
pub record FencedAct (r : WardenRules) (Got : NodeId → Body → Type 0) (s s' : WardenState) (sent : List Parcel) : Type 0 where
  pub truncation : Truncation
  pub rest : List Truncation
  pub answer : FencedAnswer
  pub truncations : s.truncations ≡ truncation ∷ rest
  pub got : Got (Replica answer.replica) (Fenced truncation.w answer.base answer.committed answer.voted)
  pub range : (0 < answer.replica) × (answer.replica ≤ r.replicas)
  pub fresh : list_any (λ (b : FencedAnswer). b.replica == answer.replica) truncation.answers ≡ false
  pub state : s' ≡ with_truncations s (counted truncation answer rest)
  pub silent : sent ≡ []

-- the newest truncation ends with its Drop
pub record EndAct (r : WardenRules) (s s' : WardenState) (sent : List Parcel) : Type 0 where
  pub truncation : Truncation
  pub rest : List Truncation
  pub truncations : s.truncations ≡ truncation ∷ rest
  pub many : quorum r.replicas ≤ length truncation.answers
  pub settled : list_all (λ x. is_some (decision_on s x)) (to_recover truncation.answers) ≡ true
  pub state : s' ≡ with_truncations s (drop_sent truncation ∷ rest)
  pub sends : sent ≡ To_all (Drops truncation.w (base_of truncation.w s truncation.answers)) ∷ []

-- the small acts of which a warden's step is made; Got says which envelopes came to it
pub data WardenAct (r : WardenRules) (Got : NodeId → Body → Type 0) (s s' : WardenState) (sent : List Parcel) : Type 0 where
  Rests : RestAct s s' sent → WardenAct r Got s s' sent
  Asks : AskAct r s s' sent → WardenAct r Got s s' sent
  Counts_told : ToldAct r Got s s' sent → WardenAct r Got s s' sent
  Counts_accepted : AcceptedAct r Got s s' sent → WardenAct r Got s s' sent
  Begins_truncation : BeginAct s s' sent → WardenAct r Got s s' sent
  Counts_fenced : FencedAct r Got s s' sent → WardenAct r Got s s' sent
  Ends_truncation : EndAct r s s' sent → WardenAct r Got s s' sent

-- acts one after another
pub data WardenChain (r : WardenRules) (Got : NodeId → Body → Type 0) (s : WardenState) : WardenState → List Parcel → Type 0 where
  Start : WardenChain r Got s s []
  Then : (s1 s2 : WardenState) (p1 p2 : List Parcel) → WardenChain r Got s s1 p1 → WardenAct r Got s1 s2 p2 → WardenChain r Got s s2 (p1 ++ p2)

module _ (r : WardenRules) (Got : NodeId → Body → Type 0) where
  abbrev Acts : WardenState → WardenTurn → Type 0
  Acts s t = WardenAct r Got s t.state t.sent

  none_is : {A : Type 0} (o : Option A) → is_none o ≡ true → o ≡ None
  none_is None e = refl
  none_is (Some a) e = cc

  told_acts : (s : WardenState) (x : Exec) (v : ℕ) (t : ToldAnswer) (o : Option Round) → round_of x v s.rounds ≡ o →
      Got (Replica t.replica) (Told x v t.vote t.accepted t.decided t.content) → (0 < t.replica) × (t.replica ≤ r.replicas) → Acts s (take_told r s x v t o)
  unfolding take_told proposes
  told_acts s x v t None e got range = Rests (record { state = refl; silent = refl })
  told_acts s x v t (Some a) e got range = go (is_none a.proposal && not (list_any (λ (u : ToldAnswer). u.replica == t.replica) a.tolds)) refl
    where
      go2 : (u : Bool) → nat_le (quorum r.replicas) (suc (length a.tolds)) ≡ u → a.proposal ≡ None →
          list_any (λ (u : ToldAnswer). u.replica == t.replica) a.tolds ≡ false →
          Acts s (cond u (proposes s x v (with_told a t)) (still (round_put s x v (with_told a t))))
      go2 false q n l = Counts_told (record { exec = x; view = v; told = t; round = a; proposal = None; found = e; unproposed = n; got = got; range = range; fresh = l; state = refl; outcome = (inl (refl, refl)) })
      go2 true q n l = Counts_told (record { exec = x; view = v; told = t; round = a; proposal = Some (fixed (a.tolds ++ t ∷ [])); found = e; unproposed = n; got = got; range = range; fresh = l; state = refl; outcome = (inr (refl, le_is _ _ q, refl)) })

      go : (u : Bool) → (is_none a.proposal && not (list_any (λ (u : ToldAnswer). u.replica == t.replica) a.tolds)) ≡ u →
          Acts s (cond (not u) (still s) (cond (nat_le (quorum r.replicas) (suc (length a.tolds))) (proposes s x v (with_told a t)) (still (round_put s x v (with_told a t)))))
      go false q = Rests (record { state = refl; silent = refl })
      go true q = go2 (nat_le (quorum r.replicas) (suc (length a.tolds))) refl (none_is a.proposal (and_left _ _ q)) (not-true (list_any (λ (u : ToldAnswer). u.replica == t.replica) a.tolds) (and_right (is_none a.proposal) _ q))

  count_acts : (s : WardenState) (x : Exec) (v j : ℕ) (a : Round) → round_of x v s.rounds ≡ Some a → Got (Replica j) (Accepted x v) →
      (0 < j) × (j ≤ r.replicas) → (o : Option Proposal) → a.proposal ≡ o → Acts s (count_accept r s x v j a o)
  unfolding count_accept decides
  count_acts s x v j a e got range None n = Rests (record { state = refl; silent = refl })
  count_acts s x v j a e got range (Some p) n = go (list_any (λ i. i == j) a.accepts) refl
    where
      go2 : (u : Bool) → nat_le (quorum r.replicas) (suc (length a.accepts)) ≡ u → list_any (λ i. i == j) a.accepts ≡ false →
          Acts s (cond u (decides r s x v (with_accept a p j) p) (still (round_put s x v (with_accept a p j))))
      go2 false q l = Counts_accepted (record { exec = x; view = v; replica = j; round = a; proposal = p; found = e; proposed = n; got = got; range = range; fresh = l; rounds = refl; truncations = refl; outcome = (inl (refl, refl)) })
      go2 true q l = Counts_accepted (record { exec = x; view = v; replica = j; round = a; proposal = p; found = e; proposed = n; got = got; range = range; fresh = l; rounds = refl; truncations = refl; outcome = (inr (refl, le_is _ _ q, refl)) })

      go : (u : Bool) → list_any (λ i. i == j) a.accepts ≡ u →
          Acts s (cond u (still s) (cond (nat_le (quorum r.replicas) (suc (length a.accepts))) (decides r s x v (with_accept a p j) p) (still (round_put s x v (with_accept a p j)))))
      go true q = Rests (record { state = refl; silent = refl })
      go false q = go2 (nat_le (quorum r.replicas) (suc (length a.accepts))) refl q

  accept_acts : (s : WardenState) (x : Exec) (v j : ℕ) (o : Option Round) → round_of x v s.rounds ≡ o → Got (Replica j) (Accepted x v) →
      (0 < j) × (j ≤ r.replicas) → Acts s (take_accept r s x v j o)
  accept_acts s x v j None e got range = Rests (record { state = refl; silent = refl })
  accept_acts s x v j (Some a) e got range = count_acts s x v j a e got range a.proposal refl

  heard_acts : (s : WardenState) (f : ℕ → WardenTurn) (n : ℕ) (from : NodeId) → ((j : ℕ) → from ≡ Replica j → (0 < j) × (j ≤ n) → Acts s (f j)) →
      Acts s (heard s f (sender n from))
  heard_acts s f n (Client j) h = Rests (record { state = refl; silent = refl })
  heard_acts s f n (Warden j) h = Rests (record { state = refl; silent = refl })
  heard_acts s f n (Replica j) h = go (nat_lt 0 j && nat_le j n) refl
    where
      go : (t : Bool) → (nat_lt 0 j && nat_le j n) ≡ t → Acts s (heard s f (then_some t j))
      go true q = h j refl (lt_is _ _ (and_left _ _ q), le_is _ _ (and_right _ _ q))
      go false q = Rests (record { state = refl; silent = refl })

  hears_acts : (s : WardenState) (from : NodeId) (b : Body) → Got from b → Acts s (recovery_hears r s from b)
  unfolding recovery_hears
  hears_acts s from (Told x v vote accepted decided content) got = go (is_none (decision_on s x))
    where
      go : (u : Bool) →
          Acts s (cond u (heard s (λ k. take_told r s x v (record { replica = k; vote = vote; accepted = accepted; decided = decided; content = content }) (round_of x v s.rounds)) (sender r.replicas from)) (still s))
      go true = heard_acts s _ r.replicas from (λ j f range. told_acts s x v (record { replica = j; vote = vote; accepted = accepted; decided = decided; content = content }) (round_of x v s.rounds) refl (subst (λ y. Got y (Told x v vote accepted decided content)) f got) range)
      go false = Rests (record { state = refl; silent = refl })
  hears_acts s from (Accepted x v) got = go (is_none (decision_on s x))
    where
      go : (u : Bool) → Acts s (cond u (heard s (λ k. take_accept r s x v k (round_of x v s.rounds)) (sender r.replicas from)) (still s))
      go true = heard_acts s _ r.replicas from (λ j f range. accept_acts s x v j (round_of x v s.rounds) refl (subst (λ y. Got y (Accepted x v)) f got) range)
      go false = Rests (record { state = refl; silent = refl })
  hears_acts s from _ got = Rests (record { state = refl; silent = refl })

  abbrev pub HeardBy : WardenInput → Type 0
  HeardBy (Hears from b) = Got from b
  HeardBy _ = Unit {0}

  abbrev Chained : WardenState → WardenTurn → Type 0
  Chained s t = WardenChain r Got s t.state t.sent

  chain_one : (s : WardenState) (t : WardenTurn) → Acts s t → Chained s t
  chain_one s t a = Then s t.state [] t.sent Start a

  chain_silent : (s s1 s2 : WardenState) (sent : List Parcel) → WardenChain r Got s s1 sent → WardenAct r Got s1 s2 [] → WardenChain r Got s s2 sent
  chain_silent s s1 s2 sent c a = subst (λ bs. WardenChain r Got s s2 bs) (append-nil sent) (Then s1 s2 sent [] c a)

  more_chain : (s : WardenState) (u : WardenTurn) (x : Exec) (t : Bool) → Chained s u → Chained s (recover_more r u x t)
  unfolding recover
  more_chain s u x true c = c
  more_chain s u x false c =
      Then u.state (recover r u.state x).state u.sent (recover r u.state x).sent c (Asks (record { exec = x; state = refl; sends = refl }))

  all_chain : (s : WardenState) (u : WardenTurn) (xs : List Exec) → Chained s u → Chained s (recover_all r u xs)
  all_chain s u [] c = c
  all_chain s u (x ∷ xs) c = all_chain s (recover_more r u x (is_some (decision_on u.state x) || is_recovering u.state x)) xs (more_chain s u x (is_some (decision_on u.state x) || is_recovering u.state x) c)

  counted_test : (t : Truncation) (w : Version) (k : ℕ) → is_counted r t w k ≡ true →
      (w ≡ t.w) × (list_any (λ (b : FencedAnswer). b.replica == k) t.answers ≡ false)
  counted_test t w k e = (
    version_is w t.w (and_right (not t.dropped) _ (and_left _ _ e)),
    not-true _ (and_right (nat_lt (length t.answers) (quorum r.replicas)) _ (and_right (not t.dropped && same_version w t.w) _ e)),
  )

  fence_chain : (s : WardenState) (u : WardenTurn) (w : Version) (a : FencedAnswer) (ts : List Truncation) → u.state.truncations ≡ ts → Chained s u →
      Got (Replica a.replica) (Fenced w a.base a.committed a.voted) → (0 < a.replica) × (a.replica ≤ r.replicas) → Chained s (take_fenced r u w a ts)
  unfolding take_fenced
  fence_chain s u w a [] e c got range = c
  fence_chain s u w a (t ∷ ts) e c got range = go (is_counted r t w a.replica) refl
    where
      now : is_counted r t w a.replica ≡ true → WardenChain r Got s (with_truncations u.state (counted t a ts)) u.sent
      now q = let k = counted_test t w a.replica q in chain_silent s u.state (with_truncations u.state (counted t a ts)) u.sent c
          (Counts_fenced (record {
            truncation = t;
            rest = ts;
            answer = a;
            truncations = e;
            got = subst (λ (v : Version). Got (Replica a.replica) (Fenced v a.base a.committed a.voted)) k.0 got;
            range = range;
            fresh = k.1;
            state = refl;
            silent = refl;
          }))

      go2 : (z : Bool) → is_counted r t w a.replica ≡ true →
          Chained s (cond z (recover_all r (with_fenced u t a ts) (to_recover (t.answers ++ a ∷ []))) (with_fenced u t a ts))
      go2 false q = now q
      go2 true q = all_chain s (with_fenced u t a ts) (to_recover (t.answers ++ a ∷ [])) (now q)

      go : (z : Bool) → is_counted r t w a.replica ≡ z →
          Chained s (cond (not z) u (cond (nat_le (quorum r.replicas) (suc (length t.answers))) (recover_all r (with_fenced u t a ts) (to_recover (t.answers ++ a ∷ []))) (with_fenced u t a ts)))
      go false q = c
      go true q = go2 (nat_le (quorum r.replicas) (suc (length t.answers))) q

  from_chain : (s : WardenState) (u : WardenTurn) (j : ℕ) (b : Body) → Chained s u → Got (Replica j) b → (0 < j) × (j ≤ r.replicas) →
      Chained s (fenced_from r u (Some j) b)
  from_chain s u j (Fenced w b c v) h got range =
      fence_chain s u w (record { replica = j; base = b; committed = c; voted = v }) u.state.truncations refl h got range
  from_chain s u j _ h got range = h

  sender_chain : (s : WardenState) (u : WardenTurn) (from : NodeId) (b : Body) → Chained s u → Got from b →
      Chained s (fenced_from r u (sender r.replicas from) b)
  sender_chain s u (Client j) b h got = h
  sender_chain s u (Warden j) b h got = h
  sender_chain s u (Replica j) b h got = go (nat_lt 0 j && nat_le j r.replicas) refl
    where
      go : (t : Bool) → (nat_lt 0 j && nat_le j r.replicas) ≡ t → Chained s (fenced_from r u (then_some t j) b)
      go true q = from_chain s u j b h got (lt_is _ _ (and_left _ _ q), le_is _ _ (and_right _ _ q))
      go false q = h

  finish_chain : (s : WardenState) (u : WardenTurn) (ts : List Truncation) → u.state.truncations ≡ ts → Chained s u → Chained s (finish r u ts)
  unfolding finish
  finish_chain s u [] e c = c
  finish_chain s u (t ∷ ts) e c = go (is_finished r u.state t) refl
    where
      go : (z : Bool) → is_finished r u.state t ≡ z →
          Chained s (cond z (record { state = with_truncations u.state (drop_sent t ∷ ts); sent = u.sent ++ To_all (Drops t.w (base_of t.w u.state t.answers)) ∷ [] }) u)
      go false q = c
      go true q = Then u.state (with_truncations u.state (drop_sent t ∷ ts)) u.sent (To_all (Drops t.w (base_of t.w u.state t.answers)) ∷ []) c
          (Ends_truncation (record { truncation = t; rest = ts; truncations = e; many = le_is _ _ (and_left _ _ (and_right (not t.dropped) _ q)); settled = and_right (nat_le (quorum r.replicas) (length t.answers)) _ (and_right (not t.dropped) _ q); state = refl; sends = refl }))

  full_chain : (s : WardenState) (from : NodeId) (b : Body) → Got from b → Chained s (warden_hears r s from b)
  unfolding warden_hears
  full_chain s from b got =
      let u = fenced_from r (recovery_hears r s from b) (sender r.replicas from) b in
      finish_chain s u u.state.truncations refl (sender_chain s (recovery_hears r s from b) from b (chain_one s (recovery_hears r s from b) (hears_acts s from b got)) got)

  -- each step of a warden is made of these
  pub warden_acts : (s : WardenState) (i : WardenInput) (t : WardenTurn) → HeardBy i → warden_step r s i ≡ Some t → WardenChain r Got s t.state t.sent
  unfolding warden_step recover truncate
  warden_acts s (Recovers x) t h q = go (is_none (decision_on s x)) q
    where
      go : (u : Bool) → then_some u (recover r s x) ≡ Some t → Chained s t
      go true q = let f : recover r s x ≡ t = cc in subst (λ u. Chained s u) f (chain_one s (recover r s x) (Asks (record { exec = x; state = refl; sends = refl })))
      go false q = cc
  warden_acts s (Truncates v) t h q = go (can_truncate s v) refl q
    where
      go : (u : Bool) → can_truncate s v ≡ u → then_some u (truncate s v) ≡ Some t → Chained s t
      go true g q = let f : truncate s v ≡ t = cc in subst (λ u. Chained s u) f (chain_one s (truncate s v) (Begins_truncation (record { version = v; may = g; state = refl; sends = refl })))
      go false g q = cc
  warden_acts s (Hears from b) t h q = let f : warden_hears r s from b ≡ t = cc in subst (λ u. Chained s u) f (full_chain s from b h)
