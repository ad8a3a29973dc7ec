-- A transaction that shares no key with another is committed at once, in each plan whose programs ask or end.
use Rattle.std.proofs.Common.{◌≡◌, ◌≢◌, ℕ, ◌<◌, ◌≤◌, ◌+◌, ◌⊎◌, inl, inr, refl, ap, sym, ◌∙◌, subst, true, false, Bool, List, [], ◌∷◌, length, arith}
use Rattle.std.specs.Prelude.{flat_map, nat_lt}
use Rattle.std.proofs.lemmas.Bool.Decides.{eqb_tells}
use Rattle.protocol.specs.Words.{Exec, Key, Client, Replica, Warden, Content, Envelope, Event, no_version, before}
use Rattle.protocol.specs.declared.Fate.TheVariants.{Committed}
use Rattle.protocol.specs.Lists.{IsIn}
use Rattle.protocol.specs.Client.Attempts.{can_go, go, ran, begin, has_pending}
use Rattle.protocol.specs.Client.State.{Attempt, ClientState, CountedVote, Phase, Turn}
use Rattle.protocol.specs.Client.State.Phase.{Between, Running, Prepared}
use Rattle.protocol.specs.Client.Step.{comes}
use Rattle.protocol.specs.World.State.{Plan, World, first_world, rules}
use Rattle.protocol.specs.World.Events.{to_all, after, replay_from}
use Rattle.protocol.proofs.TestLemmas.{and_left, and_right, le_is, lt_is}
use Rattle.protocol.proofs.ListsLemmas.{at_same, at_other}
use Rattle.protocol.proofs.EventSteps.{after_happens}
use Rattle.law_steps.proofs.ClientActs.{IsUnderWay}
use Rattle.law_steps.proofs.Reach.{Reach, From, from_trans, events_reach, happens_reach}
use Rattle.law_steps.proofs.Reach.From.{Begins, Next}
use Rattle.law_safety.proofs.BaseOfDrop.{sent_later}
use Rattle.law_safety.proofs.CommitIsSent.{sent_committed}
use Rattle.law_safety.proofs.TruncationSettles.{CommitSent}
use Rattle.law_steps.proofs.TryRec.{try_rec}
use Rattle.law_safety.proofs.OneExecution.{kept_attempt}
use Rattle.law_progress.specs.Apart.{IsNamedFor, IsApart}
use Rattle.law_progress.specs.FirstCommits.{HasBegun, IsFirstCommit}
use Rattle.law_progress.specs.Undisturbed.{IsUndisturbed, IsSettled}
use Rattle.law_progress.proofs.StageBegins.{Goes, goes, goes_between, no_more_tries, begun_next, begins_first, begins_stands}
use Rattle.law_progress.proofs.StageBegins.Goes.{Again, Next_one}
use Rattle.law_progress.proofs.BegunLemmas.{comes_begun, ran_begun}
use Rattle.law_progress.proofs.CalmWardens.{IsCalm, calm_first, calm_step}
use Rattle.law_progress.proofs.UndisturbedSteps.{Does, Takes, Acts, ClientAlone, does}
use Rattle.law_progress.proofs.UndisturbedSteps.Does.{Nothing, Client_takes, Client_goes, Client_runs, Replica_takes, Warden_takes}
use Rattle.law_progress.proofs.ApartMessages.{IsOurs}
use Rattle.law_progress.proofs.StageMoves.{AsksOrEnds, Moved, comes_moves, ran_moves}
use Rattle.law_progress.proofs.StageMoves.Moved.{Still, Finished}
use Rattle.law_progress.proofs.Stage.{Question, Ballot, Stands, InFirst, Stage, Concerns, stands_on, replica_stands}
use Rattle.law_progress.proofs.Stage.Question.{Asking, Telling}
use Rattle.law_progress.proofs.Stage.Ballot.{Counted, Voting, Asked}
use Rattle.law_progress.proofs.Stage.Stage.{Before, Under, Done}
use Rattle.law_progress.proofs.CommitTallies.{IsCounted, all_counted}
use Rattle.law_progress.proofs.WaitingLemmas.{acts_waits, takes_waits, none_waits}

-- attempts stay
attempts_later : (p : Plan) (w w' : World) → Reach p w → From p w w' → (c : ℕ) (a : Attempt) → IsIn a (w.client c).attempts → IsIn a (w'.client c).attempts
attempts_later p w _ q Begins c a i = i
attempts_later p w _ q (Next v v' f s) c a i = kept_attempt p v v' (from_trans p first_world w v q f) s c a (attempts_later p w v q f c a i)

-- what is apart in the end was so all along
named_later : (p : Plan) (w w' : World) → Reach p w → From p w w' → (c n : ℕ) (k : Key) → IsNamedFor w c n k → IsNamedFor w' c n k
named_later p w w' q f c n k m = record {
  exec = m.exec;
  body = m.body;
  sent = sent_later p w w' f m.body m.sent;
  names = m.names;
  attempt = m.attempt;
  of = record { begun = attempts_later p w w' q f m.exec.ver.client m.attempt m.of.begun; version = m.of.version };
  client = m.client;
  txn = m.txn;
}

apart_before : (p : Plan) (w w' : World) → Reach p w → From p w w' → (c n : ℕ) → IsApart w' c n → IsApart w c n
apart_before p w w' q f c n a = λ k m d e z. a k (named_later p w w' q f c n k m) d e (named_later p w w' q f d e k z)

first_on : (p : Plan) (c n : ℕ) (s s' : ClientState) → s'.begun ≡ s.begun → s'.exec ≡ s.exec → s'.attempts ≡ s.attempts → InFirst p c n s → InFirst p c n s'
first_on p c n s s' b e a u = record {
  begun = b ∙ u.begun;
  there = subst (λ (l : List Attempt). IsIn (record { ver = s'.exec.ver; txn = n; try = 1 }) l) (sym a) (subst (λ (x : Exec). IsIn (record { ver = x.ver; txn = n; try = 1 }) s.attempts) (sym e) u.there);
  first = ap (λ (x : Exec). x.eid) e ∙ u.first;
  client = ap (λ (x : Exec). x.ver.client) e ∙ u.client;
  above = subst (λ (x : Exec). before no_version x.ver ≡ true) (sym e) u.above;
  only = λ z i f. u.only z (subst (λ (l : List Attempt). IsIn z l) a i) f ∙ ap (λ (x : Exec). x.ver) (sym e);
  program = u.program;
}

stands_way : (p : Plan) (w : World) (c : ℕ) (s : ClientState) (h : Phase) → Stands p w c s h → IsUnderWay h
stands_way p w c s Between z = z
stands_way p w c s (Running true g) z = tt
stands_way p w c s (Running false g) z = tt
stands_way p w c s (Prepared k vs o acs) z = tt

module _ (p : Plan) (pos : 0 < p.replicas) (asks : AsksOrEnds p) (c n : ℕ) (w w' : World) (q : Reach p w) (f : From p w w') (calm : IsCalm w) (apart : IsApart w c n) where
  abbrev S : ClientState
  S = w.client c

  ours : InFirst p c n S → IsOurs w c n (record { ver = S.exec.ver; txn = n; try = 1 })
  ours u = record { apart = apart; begun = u.there; txn = refl; client = u.client; only = u.only; above = u.above }

  done : (a : Attempt) → IsIn a S.attempts → a.txn ≡ n → a.try ≡ 1 → CommitSent w (record { ver = a.ver; eid = 0 }) → n ≤ (w'.client c).begun →
      ((w'.client c).begun ≡ n → ((w'.client c).phase ≡ Between) × ((w'.client c).fate ≡ Committed)) → Stage p c n w'
  done a i t y d l e = Done a (attempts_later p w w' q f c a i) t y (d.0, sent_later p w w' f _ d.1) l e

  -- another node moved
  other : w'.client c ≡ S → (InFirst p c n S → Stands p w c S S.phase → Stands p w' c S S.phase) → Stage p c n w → Stage p c n w'
  other e keep (Before l) = Before (subst (λ (z : ClientState). z.begun < n) (sym e) l)
  other e keep (Under u z) = Under (subst (λ (y : ClientState). InFirst p c n y) (sym e) u) (subst (λ (y : ClientState). Stands p w' c y y.phase) (sym e) (keep u z))
  other e keep (Done a i t y d l g) = done a i t y d (subst (λ (z : ClientState). n ≤ z.begun) (sym e) l) (subst (λ (z : ClientState). z.begun ≡ n →
      (z.phase ≡ Between) × (z.fate ≡ Committed)) (sym e) g)

  -- the client moved while the transaction is under way
  moved : (t : Turn) → InFirst p c n S → w'.client c ≡ t.state → Moved p c n w' S t → Stage p c n w'
  moved t u e (Still b x a z) = Under (subst (λ (y : ClientState). InFirst p c n y) (sym e) (first_on p c n S t.state b x a u)) (subst (λ (y : ClientState). Stands p w' c y y.phase) (sym e) z)
  moved t u e (Finished b a d ph ft) = Done (record { ver = S.exec.ver; txn = n; try = 1 }) (attempts_later p w w' q f c _ u.there) refl refl
      (subst (λ (x : Exec). CommitSent w' x) (λ i. record { ver = S.exec.ver; eid = u.first i }) d)
      (let g : (w'.client c).begun ≡ n = ap (λ (z : ClientState). z.begun) e ∙ b ∙ u.begun in omega (arith, g))
      (λ g. (ap (λ (z : ClientState). z.phase) e ∙ ph, ap (λ (z : ClientState). z.fate) e ∙ ft))

  mine_takes : (i : ℕ) (m : Envelope) → m.to ≡ Client c →
      Takes w w' i m (flat_map (to_all p.replicas (Client c)) (comes (rules p c) S S.phase m.from m.body).sent) →
      ClientAlone w w' c (comes (rules p c) S S.phase m.from m.body).state → Stage p c n w → Stage p c n w'
  unfolding comes
  mine_takes i m to t a st = by st
    where
      new : w'.client c ≡ (comes (rules p c) S S.phase m.from m.body).state
      new = ap (λ (g : ℕ → ClientState). g c) a.client ∙ at_same c (comes (rules p c) S S.phase m.from m.body).state w.client

      same_begun : (w'.client c).begun ≡ S.begun
      same_begun = ap (λ (z : ClientState). z.begun) new ∙ comes_begun (rules p c) S S.phase m.from m.body

      by : Stage p c n w → Stage p c n w'
      by (Before l) = Before (subst (λ (b : ℕ). b < n) (sym same_begun) l)
      by (Under u z) = moved (comes (rules p c) S S.phase m.from m.body) u new (comes_moves p pos w q calm c n S refl u (ours u) w' a.replica i m to t S.phase refl z)
      by (Done b j x y d l g) = done b j x y d (subst (λ (z : ℕ). n ≤ z) (sym same_begun) l)
          (λ e. let h = g (sym same_begun ∙ e) in let k : w'.client c ≡ S = new ∙ ap (λ (z : Phase). (comes (rules p c) S z m.from m.body).state) h.0 in
          (ap (λ (z : ClientState). z.phase) k ∙ h.0, ap (λ (z : ClientState). z.fate) k ∙ h.1))

  mine_goes : can_go (rules p c) S ≡ true → ClientAlone w w' c (go (rules p c) S).state → Stage p c n w → Stage p c n w'
  mine_goes can a st = by st (goes (rules p c) S can)
    where
      new : w'.client c ≡ (go (rules p c) S).state
      new = ap (λ (g : ℕ → ClientState). g c) a.client ∙ at_same c (go (rules p c) S).state w.client

      begins : S.begun < n → S.begun < length (rules p c).txns → (go (rules p c) S).state ≡ begin (rules p c) S (S.begun + 1) 1 →
          (S.begun + 1 ≡ n) ⊎ (S.begun + 1 ≢ n) → Stage p c n w'
      begins l k e (inl g) = Under (subst (λ (y : ClientState). InFirst p c n y) (sym (new ∙ e)) (begins_first p c n S l (try_rec p w q c) g k))
          (subst (λ (y : ClientState). Stands p w' c y y.phase) (sym (new ∙ e)) (begins_stands p w' c (rules p c) S (S.begun + 1) 1))
      begins l k e (inr g) = Before (let b : (w'.client c).begun ≡ S.begun + 1 = ap (λ (z : ClientState). z.begun) (new ∙ e)
          ∙ begun_next (rules p c) S in omega (arith, b, l, g))

      by : Stage p c n w → Goes (rules p c) S (go (rules p c) S).state → Stage p c n w'
      by (Before l) (Again r b) = Before (let g : (w'.client c).begun ≡ S.begun = ap (λ (z : ClientState). z.begun) new ∙ b in omega (arith, g, l))
      by (Before l) (Next_one r k e) = begins l k e (elim (eqb_tells (S.begun + 1) n) [ inl g ↦ inl g.1 | inr g ↦ inr g.1 ])
      by (Under u z) g = absurd (goes_between p w c (rules p c) S S.phase refl z can)
      by (Done b j x y d l g) (Again r e) = let h : (w'.client c).begun ≡ S.begun = ap (λ (z : ClientState). z.begun) new ∙ e in
          done b j x y d (omega (arith, h, l)) (λ k. absurd (no_more_tries (rules p c) S (g (sym h ∙ k)).1 r))
      by (Done b j x y d l g) (Next_one r k e) = let h : (w'.client c).begun ≡ S.begun + 1 = ap (λ (z : ClientState). z.begun) (new ∙ e)
          ∙ begun_next (rules p c) S in
          done b j x y d (omega (arith, h, l)) (λ k. absurd (omega (arith, h, l, k)))

  mine_runs : (given : Bool) → S.phase ≡ Running true given → Acts w w' (flat_map (to_all p.replicas (Client c)) (ran (rules p c) S given).sent) →
      ClientAlone w w' c (ran (rules p c) S given).state → Stage p c n w → Stage p c n w'
  mine_runs given ph t a st = by st
    where
      new : w'.client c ≡ (ran (rules p c) S given).state
      new = ap (λ (g : ℕ → ClientState). g c) a.client ∙ at_same c (ran (rules p c) S given).state w.client

      same_begun : (w'.client c).begun ≡ S.begun
      same_begun = ap (λ (z : ClientState). z.begun) new ∙ ran_begun (rules p c) S given

      by : Stage p c n w → Stage p c n w'
      by (Before l) = Before (subst (λ (b : ℕ). b < n) (sym same_begun) l)
      by (Under u z) = moved (ran (rules p c) S given) u new (ran_moves p pos w q calm c n S refl u (ours u) w' a.replica given ph (subst (λ (h : Phase). Stands p w c S h) ph z) asks t)
      by (Done b j x y d l g) = done b j x y d (subst (λ (z : ℕ). n ≤ z) (sym same_begun) l) (λ e. let h = (g (sym same_begun ∙ e)).0 in let k : Between
          ≡ Running true given = sym h ∙ ph in cc)

  step : Does p w w' → Stage p c n w → Stage p c n w'
  step (Nothing e) st = subst (λ (z : World). Stage p c n z) (sym e) st
  step (Client_takes d i m to t a) st = elim (eqb_tells c d) [
    | inl e ↦ (let P : ℕ → Type 0 = λ d. m.to ≡ Client d →
        Takes w w' i m (flat_map (to_all p.replicas (Client d)) (comes (rules p d) (w.client d) (w.client d).phase m.from m.body).sent) →
        ClientAlone w w' d (comes (rules p d) (w.client d) (w.client d).phase m.from m.body).state → Stage p c n w' in
        subst P e.1 (λ to t a. mine_takes i m to t a st) to t a)
    | inr e ↦ other (ap (λ (g : ℕ → ClientState). g c) a.client ∙ at_other d _ w.client c e.1)
        (λ u z. stands_on p w w' c S a.replica (λ x g y. elim (takes_waits w w' _ x i m t y) [ inl h ↦ h | inr h ↦ absurd (elsewhere d e.1 x m g h to) ]) S.phase z) st
  ]
    where
      elsewhere : (d : ℕ) → c ≢ d → (x m : Envelope) → Concerns c x → x ≡ m → m.to ≡ Client d → ⊥
      elsewhere d n x m (inl g) h to = let k : Client c ≡ Client d = sym g ∙ ap (λ (y : Envelope). y.to) h ∙ to in let l : c ≡ d = cc in n l
      elsewhere d n x m (inr g) h to = let k : Replica g.0 ≡ Client d = sym g.1 ∙ ap (λ (y : Envelope). y.to) h ∙ to in cc
  step (Client_goes d can t a) st = elim (eqb_tells c d) [
    | inl e ↦ (let P : ℕ → Type 0 = λ d. can_go (rules p d) (w.client d) ≡ true → ClientAlone w w' d (go (rules p d) (w.client d)).state →
        Stage p c n w' in subst P e.1 (λ can a. mine_goes can a st) can a)
    | inr e ↦ other (ap (λ (g : ℕ → ClientState). g c) a.client
        ∙ at_other d _ w.client c e.1) (λ u z. stands_on p w w' c S a.replica (λ x g y. acts_waits w w' _ x t y) S.phase z) st
  ]
  step (Client_runs d given ph t a) st = elim (eqb_tells c d) [
    | inl e ↦ (let P : ℕ → Type 0 = λ d. (w.client d).phase ≡ Running true given →
        Acts w w' (flat_map (to_all p.replicas (Client d)) (ran (rules p d) (w.client d) given).sent) →
        ClientAlone w w' d (ran (rules p d) (w.client d) given).state → Stage p c n w' in
        subst P e.1 (λ ph t a. mine_runs given ph t a st) ph t a)
    | inr e ↦ other (ap (λ (g : ℕ → ClientState). g c) a.client
        ∙ at_other d _ w.client c e.1) (λ u z. stands_on p w w' c S a.replica (λ x g y. acts_waits w w' _ x t y) S.phase z) st
  ]
  step (Replica_takes r i m to t a b d) st = other (ap (λ (g : ℕ → ClientState). g c) a)
      (λ u z. replica_stands p pos w q calm c n S refl u (stands_way p w c S S.phase z) (ours u) w' r i m to t b S.phase z) st
  step (Warden_takes k i m to t a b d) st = other (ap (λ (g : ℕ → ClientState). g c) a)
      (λ u z. stands_on p w w' c S b (λ x g y. elim (takes_waits w w' _ x i m t y) [ inl h ↦ h | inr h ↦ absurd (elsewhere x g h) ]) S.phase z) st
    where
      elsewhere : (x : Envelope) → Concerns c x → x ≡ m → ⊥
      elsewhere x (inl g) h = let l : Client c ≡ Warden k = sym g ∙ ap (λ (y : Envelope). y.to) h ∙ to in cc
      elsewhere x (inr g) h = let l : Replica g.0 ≡ Warden k = sym g.1 ∙ ap (λ (y : Envelope). y.to) h ∙ to in cc

stages : (p : Plan) → 0 < p.replicas → AsksOrEnds p → (c n : ℕ) (w : World) → Reach p w → IsCalm w → (events : List Event) → IsUndisturbed p w events →
    IsApart (replay_from p w events) c n → Stage p c n w → Stage p c n (replay_from p w events)
stages p pos asks c n w q calm [] und apart st = st
stages p pos asks c n w q calm (e ∷ events) und apart st =
    let w' = after p w e in
    let d = does p w e und.0 in
    let f = happens_reach p w w w' Begins (after_happens p w e) in
    let before_it = apart_before p w (replay_from p w' events) q (events_reach p w w' f events) c n apart in
    stages p pos asks c n w' (from_trans p first_world w w' q f) (calm_step p w w' calm d) events und.1 apart (step p pos asks c n w w' q f calm before_it d st)

-- where all arrived, a transaction that began is not under way
pub settled : (p : Plan) → 0 < p.replicas → (c n : ℕ) (w : World) → Reach p w → IsSettled w → HasBegun w c n → Stage p c n w → IsFirstCommit w c n
settled p pos c n w q s b (Before l) = absurd (let k = le_is n (w.client c).begun (and_right (nat_lt 0 n) _ b) in omega (arith, k, l))
settled p pos c n w q s b (Done a i t y d l e) = record { attempt = a; begun = i; txn = t; first = y; committed = sent_committed p pos w q _ d }
settled p pos c n w q s b (Under u z) = absurd (go (w.client c).phase refl z)
  where
    ballot : (k : Content) (votes : List CountedVote) (r : ℕ) → Ballot w c (w.client c).exec k votes r → IsCounted r votes
    ballot k votes r (Counted y) = y
    ballot k votes r (Voting y) = absurd (none_waits w s _ y)
    ballot k votes r (Asked v y) = absurd (none_waits w s _ y)

    asked : (k : Key) → Question w c (w.client c).exec k → ⊥
    asked k (Asking y) = none_waits w s _ y
    asked k (Telling r wid value g lost y) = none_waits w s _ y

    go : (h : Phase) → (w.client c).phase ≡ h → Stands p w c (w.client c) h → ⊥
    go Between e z = z
    go (Running true g) e z = let k : true ≡ false = sym (ap has_pending e) ∙ s.idle c in cc
    go (Running false g) e z = asked z.2.0 z.2.2
    go (Prepared k votes o acs) e z = let g = all_counted p.replicas votes z.1 (λ r a v. ballot k votes r (z.3 r a v)) in let y : true ≡ false = sym g
        ∙ z.2 in cc

pub first_commits_of : (p : Plan) → 0 < p.replicas → AsksOrEnds p → (events : List Event) → IsUndisturbed p first_world events →
    IsSettled (replay_from p first_world events)
    → (c n : ℕ) → HasBegun (replay_from p first_world events) c n → IsApart (replay_from p first_world events) c n →
    IsFirstCommit (replay_from p first_world events) c n
first_commits_of p pos asks events und s c n b apart =
    settled p pos c n (replay_from p first_world events) (events_reach p first_world first_world Begins events) s b
    (stages p pos asks c n first_world Begins calm_first events und apart (Before (let k = and_left (nat_lt 0 n) _ b in lt_is 0 n k)))
