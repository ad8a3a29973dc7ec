-- A client prepares only once each of its answers is sure, so Notes told what it reads.
use Rattle.std.proofs.Common.{◌≡◌, ℕ, ℤ, ◌+◌, inl, inr, refl, sym, subst, true, false, Bool, List, [], ◌∷◌, ◌++◌, Option, Some, None, length}
use Rattle.std.specs.Prelude.{cond, suc, not, ◌&&◌, ◌||◌, ◌-◌, ◌==◌, nat_lt, nat_le, flat_map}
use Rattle.std.specs.List.{slice_get, list_any}
use Rattle.protocol.specs.Words.{Exec, Version, Wid, Key, NodeId, Client, Warden, Envelope, Read, Body, Content, Vote, Choice, Abandon, ToCommit, Note, Prepare, Accepted, Decide, TooOld, Voted, same_exec, same_version, Event}
use Rattle.std.specs.Bool.{then_some}
use Rattle.protocol.specs.Lists.{IsIn}
use Rattle.protocol.specs.Replica.Votes.{is_commit_vote}
use Rattle.protocol.specs.declared.Held.{Held}
use Rattle.protocol.specs.Replica.Says.{says}
use Rattle.protocol.specs.Client.State.{turn_when, Walk, Rules, ClientState, Phase, Turn, CountedVote, Answer, walk, walk_at, idle, may_put}
use Rattle.protocol.specs.Client.Step.{Input, client_step, comes_running, comes_prepared, comes, told_running, on_ran, on_hurry, is_warden, from_replica}
use Rattle.protocol.specs.Client.Following.{note_running, note_prepared}
use Rattle.protocol.specs.Quorums.{quorum}
use Rattle.protocol.specs.Client.Counting.{count_votes, prepared, propose, tally_says, on_tally, counts_vote, counts_accept, sender}
use Rattle.protocol.specs.Client.Deciding.{content_for, conclude, decide, give_up}
use Rattle.protocol.specs.Client.Attempts.{ran, wrote, go, begin, can_go, tries_again}
use Rattle.protocol.specs.Client.State.Phase.{Between, Running, Prepared}
use Rattle.protocol.specs.Client.Step.Input.{Goes, Runs, Hurries, Comes}
use Rattle.protocol.specs.World.State.{Plan, World, first_world, rules}
use Rattle.protocol.specs.World.Events.{replay_from, to_all, parcel}
use Rattle.protocol.specs.World.Decided.{WasSent}
use Rattle.protocol.specs.World.Premises.{IsProgramWalk, HasPrograms}
use Rattle.law_serial.specs.Reads.{IsNoted, ReadsNoted}
use Rattle.protocol.proofs.NamesLemmas.{version_is}
use Rattle.protocol.proofs.ListsLemmas.{IsIn-left, IsIn-cases, at_cases}
use Rattle.law_serial.proofs.AnswersLemmas.{Fits}
use Rattle.protocol.specs.World.Steps.{Happens, Came}
use Rattle.protocol.proofs.EventSteps.{always}
use Rattle.protocol.specs.World.Steps.Happens.{Stays, Client_moves, Replica_moves, Warden_moves}
use Rattle.law_steps.proofs.Reach.{Reach, happens_reach}
use Rattle.law_steps.proofs.Reach.From.{Begins}
use Rattle.law_steps.proofs.SaysLemmas.{spoken}
use Rattle.law_steps.proofs.SendingLemmas.{from_to_all, from_parcels}
use Rattle.law_steps.proofs.ReplicaFacts.{RFact, facts_reach}
use Rattle.law_steps.proofs.WardenFacts.{WFact, ward_facts_reach}
use Rattle.protocol.specs.declared.TallyOut.{TallyOut}
use Rattle.protocol.specs.declared.TallyOut.TheVariants.{Wait, FastCommit, FastAbandon, Propose}
use Rattle.law_serial.proofs.AnswersTold.{LabelOK, AnswerOK, sent_append, sent_none, sent_puts, sent_question, W, Good, TurnOK, settle_ok, conclude_ok, sent_finalize, decide_ok, give_up_ok, note_running_ok, note_prepared_ok}

module _ (r : Rules) (prog : (n : ℕ) → IsProgramWalk (walk_at (slice_get r.txns n))) (w : World) where
  propose_ok : (c : ClientState) (k : Content) (votes : List CountedVote) (d : Choice) → Good r prog w c → TurnOK r prog w (propose c k votes d)
  unfolding propose
  propose_ok c k votes d g = (g, sent_finalize r prog w c.exec 0 d (content_for k d))

  tally_ok : (c : ClientState) (k : Content) (votes : List CountedVote) (o : TallyOut) → Good r prog w c → TurnOK r prog w (on_tally r c k votes o)
  unfolding on_tally
  tally_ok c k votes FastCommit g = decide_ok r prog w (prepared c k votes None []) k ToCommit g
  tally_ok c k votes FastAbandon g = decide_ok r prog w (prepared c k votes None []) k Abandon g
  tally_ok c k votes (Propose d) g = propose_ok c k votes d g
  tally_ok c k votes Wait g = (g, sent_none w)

  counts_vote_ok : (c : ClientState) (k : Content) (votes : List CountedVote) (x : Exec) (j : ℕ) (v : Vote) → Good r prog w c →
      TurnOK r prog w (counts_vote r c k votes x j v)
  unfolding counts_vote
  counts_vote_ok c k votes x j v g = go (same_exec x c.exec && not (list_any (λ (b : CountedVote). b.replica == j) votes))
    where
      go : (t : Bool) → TurnOK r prog w (turn_when t c (on_tally r c k (votes ++ record { replica = j; vote = v } ∷ []) (tally_says r.replicas (votes ++ record { replica = j; vote = v } ∷ []))))
      go true = tally_ok c k _ _ g
      go false = (g, sent_none w)

  counts_accept_ok : (c : ClientState) (k : Content) (votes : List CountedVote) (d : Choice) (accepts : List ℕ) (x : Exec) (view j : ℕ) → Good r prog w c →
      TurnOK r prog w (counts_accept r c k votes d accepts x view j)
  unfolding counts_accept
  counts_accept_ok c k votes d accepts x view j g = go (same_exec x c.exec && ((view == 0) && not (list_any (λ i. i == j) accepts)))
    where
      go2 : (t : Bool) → TurnOK r prog w (turn_when t (prepared c k votes (Some d) (accepts ++ j ∷ [])) (decide r (prepared c k votes (Some d) (accepts ++ j ∷ [])) k d))
      go2 true = decide_ok r prog w (prepared c k votes (Some d) (accepts ++ j ∷ [])) k d g
      go2 false = (g, sent_none w)

      go : (t : Bool) → TurnOK r prog w (turn_when t c (turn_when (nat_le (quorum r.replicas) (suc (length accepts))) (prepared c k votes (Some d) (accepts ++ j ∷ [])) (decide r (prepared c k votes (Some d) (accepts ++ j ∷ [])) k d)))
      go true = go2 (nat_le (quorum r.replicas) (suc (length accepts)))
      go false = (g, sent_none w)

  -- envelopes
  told_ok : (c : ClientState) (d : Choice) → Good r prog w c → TurnOK r prog w (told_running c d)
  told_ok c ToCommit g = (g, sent_none w)
  told_ok c Abandon g = (g, sent_none w)

  label_of : (c : ClientState) (v : Version) (k : Key) (wid : Wid) (value : ℤ) (sure : Bool) (lost : Option Wid) → WasSent w (Note v k wid value sure lost) →
      same_version v c.exec.ver ≡ true → LabelOK w c.exec.ver k (record { wid = wid; value = value; sure = sure })
  label_of c v k wid value sure lost t e =
      let s : WasSent w (Note c.exec.ver k wid value sure lost) = subst (λ (y : Version). WasSent w (Note y k wid value sure lost)) (version_is v c.exec.ver e) t in
      record { said = (sure, lost, s); sure = λ z. (value, lost, subst (λ (b : Bool). WasSent w (Note c.exec.ver k wid value b lost)) z s) }

  comes_running_ok : (c : ClientState) (pending : Bool) (from : NodeId) (b : Body) → Good r prog w c → WasSent w b →
      TurnOK r prog w (comes_running r c pending from b)
  unfolding comes_running
  comes_running_ok c pending from (Note v k wid value sure lost) g t = go (same_version v c.exec.ver) refl
    where
      go : (z : Bool) → same_version v c.exec.ver ≡ z →
          TurnOK r prog w (turn_when z c (note_running r c pending k (record { wid = wid; value = value; sure = sure }) lost))
      go true e = note_running_ok r prog w c pending k _ lost g (label_of c v k wid value sure lost t e)
      go false e = (g, sent_none w)
  comes_running_ok c pending from (TooOld v u) g t = go (same_version v c.exec.ver)
    where
      go : (z : Bool) → TurnOK r prog w (turn_when z c (give_up c))
      go true = give_up_ok r prog w c g
      go false = (g, sent_none w)
  comes_running_ok c pending from (Decide x d k) g t = go (is_warden from && same_exec x c.exec)
    where
      go : (z : Bool) → TurnOK r prog w (turn_when z c (told_running c d))
      go true = told_ok c d g
      go false = (g, sent_none w)
  comes_running_ok c pending from _ g t = (g, sent_none w)

  from_ok : (c : ClientState) (f : ℕ → Turn) (o : Option ℕ) → Good r prog w c → ((j : ℕ) → TurnOK r prog w (f j)) → TurnOK r prog w (from_replica c f o)
  from_ok c f None g h = (g, sent_none w)
  from_ok c f (Some j) g h = h j

  comes_prepared_ok : (c : ClientState) (k : Content) (votes : List CountedVote) (o : Option Choice) (accepts : List ℕ) (from : NodeId) (b : Body) →
      Good r prog w c → WasSent w b → TurnOK r prog w (comes_prepared r c k votes o accepts from b)
  unfolding comes_prepared
  comes_prepared_ok c k votes o accepts from (Note v key wid value sure lost) g t = go (same_version v c.exec.ver) refl
    where
      go : (z : Bool) → same_version v c.exec.ver ≡ z →
          TurnOK r prog w (turn_when z c (idle (note_prepared r c key (record { wid = wid; value = value; sure = sure }) lost)))
      go true e = (note_prepared_ok r prog w c key _ lost g (label_of c v key wid value sure lost t e), sent_none w)
      go false e = (g, sent_none w)
  comes_prepared_ok c k votes o accepts from (Decide x d u) g t = go (is_warden from && same_exec x c.exec)
    where
      go : (z : Bool) → TurnOK r prog w (turn_when z c (conclude r c d []))
      go true = conclude_ok r prog w c d [] g (sent_none w)
      go false = (g, sent_none w)
  comes_prepared_ok c k votes None accepts from (Voted x v) g t = from_ok c _ (sender r.replicas from) g (λ j. counts_vote_ok c k votes x j v g)
  comes_prepared_ok c k votes (Some d) accepts from (Accepted x view) g t = from_ok c _ (sender r.replicas from) g (λ j. counts_accept_ok c k votes d accepts x view j g)
  comes_prepared_ok c k votes o accepts from _ g t = (g, sent_none w)

  comes_ok : (c : ClientState) (p : Phase) (from : NodeId) (b : Body) → Good r prog w c → WasSent w b → TurnOK r prog w (comes r c p from b)
  unfolding comes
  comes_ok c Between from b g t = (g, sent_none w)
  comes_ok c (Running pending given) from b g t = comes_running_ok c pending from b g t
  comes_ok c (Prepared k votes o accepts) from b g t = comes_prepared_ok c k votes o accepts from b g t

  ran_ok : (c : ClientState) (given : Bool) → Good r prog w c → TurnOK r prog w (ran r c given)
  unfolding ran
  ran_ok c given g = settle_ok r prog w _ _ g (sent_append w _ _ (sent_puts w (may_put (walk r c).ending && (wrote r c || (not given && nat_lt 0 c.exec.eid))) c.exec (walk r c).writes) (sent_question w c.exec (walk r c).asks))

  turn_is : (o t : Turn) → Some o ≡ Some t → o ≡ t
  turn_is o t e = cc

  on_ran_ok : (c : ClientState) (p : Phase) (t : Turn) → Good r prog w c → on_ran r c p ≡ Some t → TurnOK r prog w t
  unfolding on_ran
  on_ran_ok c (Running true given) t g e = subst (λ u. TurnOK r prog w u) (turn_is (ran r c given) t e) (ran_ok c given g)
  on_ran_ok c _ t g e = cc

  on_hurry_ok : (c : ClientState) (p : Phase) (t : Turn) → Good r prog w c → on_hurry r c p ≡ Some t → TurnOK r prog w t
  unfolding on_hurry
  on_hurry_ok c (Prepared k votes None accepts) t g e = subst (λ u. TurnOK r prog w u) (turn_is _ t e) (go' (nat_le (quorum r.replicas) (count_votes is_commit_vote votes)))
    where
      go' : (u : Bool) → TurnOK r prog w (propose c k votes (cond u ToCommit Abandon))
      go' true = propose_ok c k votes ToCommit g
      go' false = propose_ok c k votes Abandon g
  on_hurry_ok c _ t g e = cc

  go_ok : (c : ClientState) → TurnOK r prog w (go r c)
  unfolding go begin
  go_ok c = both (tries_again r c)
    where
      both : (t : Bool) → TurnOK r prog w (idle (cond t (begin r c c.begun (c.try + 1)) (begin r c (c.begun + 1) 1)))
      both true = (tt, sent_none w)
      both false = (tt, sent_none w)

  abbrev pub InputOK : Input → Type 0
  InputOK (Comes from b) = WasSent w b
  InputOK _ = Unit {0}

  pub client_ok : (c : ClientState) (i : Input) (t : Turn) → Good r prog w c → InputOK i → client_step r c i ≡ Some t → TurnOK r prog w t
  unfolding client_step
  client_ok c Goes t g o e = go' (can_go r c) e
    where
      go' : (u : Bool) → then_some u (go r c) ≡ Some t → TurnOK r prog w t
      go' true e = subst (λ u. TurnOK r prog w u) (turn_is (go r c) t e) (go_ok c)
      go' false e = cc
  client_ok c Runs t g o e = on_ran_ok c c.phase t g e
  client_ok c Hurries t g o e = on_hurry_ok c c.phase t g e
  client_ok c (Comes from b) t g o e = subst (λ u. TurnOK r prog w u) (turn_is (comes r c c.phase from b) t e) (comes_ok c c.phase from b g o)

fits_map : (W : List ℤ → Walk) (A B : Key → Answer → Type 0) → ((k : Key) (a : Answer) → A k a → B k a) → (pre : List ℤ) (as' : List Answer) →
    Fits W A pre as' → Fits W B pre as'
fits_map W A B f pre [] o = tt
fits_map W A B f pre (a ∷ more) o = (λ k q. f k a (o.0 k q), fits_map W A B f (pre ++ a.label.value ∷ []) more o.1)

module _ (w w' : World) (grow : (b : Body) → WasSent w b → WasSent w' b) where
  label_grows : (v : Version) (k : Key) (l : Held) → LabelOK w v k l → LabelOK w' v k l
  label_grows v k l o = record { said = (o.said.0, o.said.1, grow _ o.said.2); sure = λ e. let h = o.sure e in (h.0, h.1, grow _ h.2) }

  answer_grows : (v : Version) (k : Key) (a : Answer) → AnswerOK w v k a → AnswerOK w' v k a
  answer_grows v k a o = record { label = label_grows v k a.label o.label; next = λ l e. label_grows v k l (o.next l e) }

  noted_grows : (v : Version) (rd : Read) → IsNoted w v rd → IsNoted w' v rd
  noted_grows v rd n = record { said = (n.said.0, n.said.1, grow _ n.said.2); sure = (n.sure.0, n.sure.1, grow _ n.sure.2) }

abbrev GoodIn : Plan → World → ℕ → ClientState → Type 0
GoodIn p w c s = Fits (λ vs. walk_at (slice_get (rules p c).txns (s.begun - 1)) vs) (AnswerOK w s.exec.ver) [] s.answers

pub record AllNoted (p : Plan) (w : World) : Type 0 where
  pub reached : Reach p w
  pub clients : (c : ℕ) → GoodIn p w c (w.client c)
  pub prepared : (x : Exec) (k : Content) → WasSent w (Prepare x k) → (rd : Read) → IsIn rd k.reads → IsNoted w x.ver rd

module _ (p : Plan) (prog : HasPrograms p) (w w' : World) where
  grown : (sent : List Envelope) → w'.mail ≡ w.mail ++ sent → (b : Body) → WasSent w b → WasSent w' b
  grown sent e b t = record { envelope = t.envelope; there = subst (λ l. IsIn t.envelope l) (sym e) (IsIn-left t.envelope w.mail sent t.there); body = t.body }

  good_grows : ((b : Body) → WasSent w b → WasSent w' b) → (c : ℕ) (s : ClientState) → GoodIn p w c s → GoodIn p w' c s
  good_grows f c s g = fits_map (λ vs. walk_at (slice_get (rules p c).txns (s.begun - 1)) vs) (AnswerOK w s.exec.ver) (AnswerOK w' s.exec.ver) (λ k a o. answer_grows w w' f s.exec.ver k a o) [] s.answers g

  came_ok : (c : ℕ) (i : Input) → Came w (Client c) i → InputOK (rules p c) (prog c) w i
  came_ok c (Comes from b) h = record { envelope = h.0; there = h.1; body = h.4 }
  came_ok c Goes h = tt
  came_ok c Runs h = tt
  came_ok c Hurries h = tt

  keeps : Happens p w w' → AllNoted p w → AllNoted p w'
  keeps (Stays s) t = record {
    reached = happens_reach p first_world w w' t.reached (Stays s);
    clients = λ c. subst (λ (f : ℕ → ClientState). GoodIn p w' c (f c)) (sym s.client) (good_grows grow c (w.client c) (t.clients c));
    prepared = λ x k e rd i. noted_grows w w' grow x.ver rd (t.prepared x k (record { envelope = e.envelope; there = subst (λ l. IsIn e.envelope l) s.mail e.there; body = e.body }) rd i);
  }
    where
      grow : (b : Body) → WasSent w b → WasSent w' b
      grow b t = record { envelope = t.envelope; there = subst (λ l. IsIn t.envelope l) (sym s.mail) t.there; body = t.body }
  keeps (Client_moves s) t = record {
    reached = happens_reach p first_world w w' t.reached (Client_moves s);
    clients = λ c. subst (λ (f : ℕ →
        ClientState). GoodIn p w' c (f c)) (sym s.client) (at_cases (λ (z : ClientState). GoodIn p w' c z) s.c s.turn.state w.client c
        (λ e. subst (λ j. GoodIn p w' j s.turn.state) (sym e) (good_grows (grown _ s.mail) s.c s.turn.state (turn (t.clients s.c)).0)) (good_grows (grown _ s.mail) c (w.client c) (t.clients c)));
    prepared = λ x k e rd i. elim (IsIn-cases e.envelope w.mail (flat_map (to_all p.replicas (Client s.c)) s.turn.sent) (subst (λ l. IsIn e.envelope l) s.mail e.there)) [
      | inl j ↦ noted_grows w w' (grown _ s.mail) x.ver rd (t.prepared x k (record { envelope = e.envelope; there = j; body = e.body }) rd i)
      | inr j ↦ noted_grows w w' (grown _ s.mail) x.ver rd ((turn (t.clients s.c)).1 x k (subst (λ b. IsIn b s.turn.sent) e.body (from_to_all p.replicas (Client s.c) s.turn.sent e.envelope j).1) rd i)
    ];
  }
    where
      turn : GoodIn p w s.c (w.client s.c) → TurnOK (rules p s.c) (prog s.c) w s.turn
      turn g = client_ok (rules p s.c) (prog s.c) w (w.client s.c) s.input s.turn g (came_ok s.c s.input s.came) s.step
  keeps (Replica_moves s) t = record {
    reached = next;
    clients = λ c. subst (λ (f : ℕ → ClientState). GoodIn p w' c (f c)) (sym s.client) (good_grows (grown _ s.mail) c (w.client c) (t.clients c));
    prepared = λ x k e rd i. elim (IsIn-cases e.envelope w.mail (says p.firsts s.r (w.replica s.r) s.m) (subst (λ l. IsIn e.envelope l) s.mail e.there)) [
      | inl j ↦ noted_grows w w' (grown _ s.mail) x.ver rd (t.prepared x k (record { envelope = e.envelope; there = j; body = e.body }) rd i)
      | inr j ↦ absurd (subst (RFact s.r (w'.replica s.r)) e.body ((facts_reach p w' (happens_reach p first_world w w' t.reached (Replica_moves s))).said e.envelope s.r e.there (spoken p.firsts s.r (w.replica s.r) s.m e.envelope j).0))
    ];
  }
    where
      next : Reach p w'
      next = happens_reach p first_world w w' t.reached (Replica_moves s)
  keeps (Warden_moves s) t = record {
    reached = happens_reach p first_world w w' t.reached (Warden_moves s);
    clients = λ c. subst (λ (f : ℕ → ClientState). GoodIn p w' c (f c)) (sym s.client) (good_grows (grown _ s.mail) c (w.client c) (t.clients c));
    prepared = λ x k e rd i. elim (IsIn-cases e.envelope w.mail (flat_map (parcel p.replicas (Warden s.k)) s.turn.sent) (subst (λ l. IsIn e.envelope l) s.mail e.there)) [
      | inl j ↦ noted_grows w w' (grown _ s.mail) x.ver rd (t.prepared x k (record { envelope = e.envelope; there = j; body = e.body }) rd i)
      | inr j ↦ absurd (subst (WFact p.wardens s.k (w'.warden s.k)) e.body ((ward_facts_reach p w' (happens_reach p first_world w w' t.reached (Warden_moves s))).said e.envelope s.k e.there (from_parcels p.replicas (Warden s.k) s.turn.sent e.envelope j).0))
    ];
  }

pub all_noted : (p : Plan) → HasPrograms p → (events : List Event) → AllNoted p (replay_from p first_world events)
all_noted p prog events = always p (AllNoted p) (λ w w' h t. keeps p prog w w' h t) first_world (record { reached = Begins; clients = λ c. tt; prepared = λ x k t. absurd t.there }) events

pub reads_noted : ReadsNoted
reads_noted p premises events x k r t i = (all_noted p premises.programs events).prepared x k t r i
