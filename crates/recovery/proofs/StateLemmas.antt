-- What the code does at each end of a handling is the turn of the definitions.
use Rattle.std.proofs.Common.{◌≡◌, ℕ, ◌+◌, ◌<◌, ◌≤◌, Bool, true, false, cond, not, nat_le, Option, Some, None, List, [], ◌∷◌, ◌++◌, suc, length, refl, MatchOption, ◌*◌, ap, ◌∙◌, sym, subst, arith, length-append}
use Rattle.std.specs.Prelude.{is_some, ◌==◌, ◌&&◌, flat_map}
use Rattle.std.specs.List.{list_any}
use Rattle.std.proofs.lemmas.Bool.Decides.{nat_tests}
use Rattle.std.proofs.lemmas.List.{append-nil}
use Rattle.protocol.specs.Words.{Exec, Warden, Envelope, Body, Finalize, Decide, Ask}
use Rattle.protocol.specs.Quorums.{quorum}
use Rattle.protocol.specs.Warden.State.{DecidedProposal, Proposal, Round, ToldAnswer, WardenRules, WardenState, WardenTurn, still}
use Rattle.protocol.specs.Warden.State.Parcel.{To_all}
use Rattle.protocol.specs.Warden.Recovery.{recover, next_view, take_told, take_accept, count_accept, proposes, decides, fixed, used, to_client, with_told, with_proposal, with_accept, round_of, round_put, with_round}
use Rattle.protocol.specs.World.Events.{to_all, parcel}
use Rattle.recovery.specs.Round.{last_view, counts_told, counts_accept, accepted_by}
use Rattle.recovery.specs.Recoverer.{TakesTurn}
use Rattle.recovery.proofs.RoundLemmas.{found_is_of, put_is_found, put_twice}

-- a warden with these rounds and decisions
abbrev pub bare : List Round → List DecidedProposal → WardenState
bare rounds ds = record { rounds = rounds; decisions = ds; truncations = [] }

-- a turn of a warden is a turn of one that is the same
pub at_state : (r : WardenRules) (s s' new : WardenState) (turn : WardenState → WardenTurn) (before after : List Envelope) → s ≡ s' → TakesTurn r (turn s) new before after → TakesTurn r (turn s') new before after
at_state r s s' new turn before after e t = subst (λ u. TakesTurn r (turn u) new before after) e t

-- nothing changes and nothing is sent
pub unmoved : (r : WardenRules) (t : WardenTurn) (s new : WardenState) (before : List Envelope) → t ≡ still s → new ≡ s → TakesTurn r t new before before
unmoved r t s new before e n = record {
  state_is = n ∙ sym (ap (λ (u : WardenTurn). u.state) e);
  sent = sym (append-nil before) ∙ sym (ap (λ (u : WardenTurn). before ++ flat_map (parcel r.replicas (Warden r.warden)) u.sent) e);
}

-- one body goes to all
sent_to_all : (r : WardenRules) (b : Body) (before after : List Envelope) → after ≡ before ++ to_all r.replicas (Warden r.warden) b
    → after ≡ before ++ flat_map (parcel r.replicas (Warden r.warden)) (To_all b ∷ [])
sent_to_all r b before after e = e ∙ ap (λ es. before ++ es) (sym (append-nil (to_all r.replicas (Warden r.warden) b)))

pub recovers : (r : WardenRules) (s : WardenState) (x : Exec) (view : ℕ) (rounds : List Round) (before after : List Envelope) → view ≡ next_view r s x
    → rounds ≡ record { exec = x; view = view; tolds = []; proposal = None; accepts = [] } ∷ s.rounds
    → after ≡ before ++ to_all r.replicas (Warden r.warden) (Ask x view)
    → TakesTurn r (recover r s x) (record s { rounds = rounds }) before after
unfolding recover
recovers r s x view rounds before after v e o =
    subst (λ (w : ℕ). TakesTurn r (record {
      state = record s { rounds = record { exec = x; view = w; tolds = []; proposal = None; accepts = [] } ∷ s.rounds };
      sent = To_all (Ask x w) ∷ [];
    }) (record s { rounds = rounds }) before after) v (record {
      state_is = ap (λ rs. record s { rounds = rs }) e;
      sent = sent_to_all r (Ask x view) before after o;
    })

told_refused : (r : WardenRules) (s : WardenState) (x : Exec) (v : ℕ) (t : ToldAnswer) (a : Round) → counts_told a t.replica ≡ false → take_told r s x v t (Some a) ≡ still s
unfolding take_told
told_refused r s x v t a e =
    ap (λ b. cond (not b) (still s) (cond (nat_le (quorum r.replicas) (suc (length a.tolds))) (proposes s x v (with_told a t)) (still (round_put s x v (with_told a t))))) e

told_taken : (r : WardenRules) (s : WardenState) (x : Exec) (v : ℕ) (t : ToldAnswer) (a : Round) (b : Bool) → counts_told a t.replica ≡ true → nat_le (quorum r.replicas) (suc (length a.tolds)) ≡ b
    → take_told r s x v t (Some a) ≡ cond b (proposes s x v (with_told a t)) (still (round_put s x v (with_told a t)))
unfolding take_told
told_taken r s x v t a b e f =
    ap (λ b. cond (not b) (still s) (cond (nat_le (quorum r.replicas) (suc (length a.tolds))) (proposes s x v (with_told a t)) (still (round_put s x v (with_told a t))))) e
    ∙ ap (λ b. cond b (proposes s x v (with_told a t)) (still (round_put s x v (with_told a t)))) f

module _ (r : WardenRules) (rounds : List Round) (ds : List DecidedProposal) (x : Exec) (v : ℕ) where
  pub told_unasked : (t : ToldAnswer) (before : List Envelope) → round_of x v rounds ≡ None
      → TakesTurn r (take_told r (bare rounds ds) x v t (round_of x v rounds)) (bare rounds ds) before before
  unfolding take_told
  told_unasked t before e =
      unmoved r _ (bare rounds ds) (bare rounds ds) before (ap (λ o. take_told r (bare rounds ds) x v t o) e) refl

  module _ (a : Round) (found : round_of x v rounds ≡ Some a) where
    told_is : (t : ToldAnswer) → take_told r (bare rounds ds) x v t (round_of x v rounds) ≡ take_told r (bare rounds ds) x v t (Some a)
    told_is t = ap (λ o. take_told r (bare rounds ds) x v t o) found

    -- with one more Told the round is that one
    pub told_put : (t : ToldAnswer) (rounds' : List Round) → rounds' ≡ with_round x v (with_told a t) rounds → round_of x v rounds' ≡ Some (with_told a t)
    told_put t rounds' e = ap (round_of x v) e ∙ put_is_found x v rounds a (with_told a t) found (found_is_of x v rounds a found)

    pub told_ignored : (t : ToldAnswer) (before : List Envelope) → counts_told a t.replica ≡ false
        → TakesTurn r (take_told r (bare rounds ds) x v t (round_of x v rounds)) (bare rounds ds) before before
    told_ignored t before e =
        unmoved r _ (bare rounds ds) _ before (told_is t ∙ told_refused r (bare rounds ds) x v t a e) refl

    pub told_counted : (t : ToldAnswer) (rounds' : List Round) (new : Round) (before : List Envelope) → counts_told a t.replica ≡ true
        → rounds' ≡ with_round x v (with_told a t) rounds → round_of x v rounds' ≡ Some new → length new.tolds < quorum r.replicas
        → TakesTurn r (take_told r (bare rounds ds) x v t (round_of x v rounds)) (bare rounds' ds) before before
    told_counted t rounds' new before e n there few =
        let new_is : new ≡ with_told a t = let put = told_put t rounds' n in cc in
        let count : length (a.tolds ++ t ∷ []) < quorum r.replicas = subst (λ (b : Round). length b.tolds < quorum r.replicas) new_is few in
        let long : length (a.tolds ++ t ∷ []) ≡ length a.tolds + 1 = length-append a.tolds (t ∷ []) in
        unmoved r _ (round_put (bare rounds ds) x v (with_told a t)) _ before
        (told_is t ∙ told_taken r (bare rounds ds) x v t a false e (grind (arith, nat_tests)))
        (ap (λ rs. bare rs ds) n)

    pub told_fixes : (t : ToldAnswer) (rounds' last : List Round) (new : Round) (p : Proposal) (b : Body) (before after : List Envelope) → counts_told a t.replica ≡ true
        → rounds' ≡ with_round x v (with_told a t) rounds → round_of x v rounds' ≡ Some new → quorum r.replicas ≤ length new.tolds
        → p ≡ fixed new.tolds → b ≡ Finalize x v p.choice p.content → last ≡ with_round x v (with_proposal new p) rounds'
        → after ≡ before ++ to_all r.replicas (Warden r.warden) b
        → TakesTurn r (take_told r (bare rounds ds) x v t (round_of x v rounds)) (bare last ds) before after
    unfolding proposes
    told_fixes t rounds' last new p b before after e n there many p_is b_is l o =
        let new_is : new ≡ with_told a t = let put = told_put t rounds' n in cc in
        let count : quorum r.replicas ≤ length (a.tolds ++ t ∷ []) = subst (λ (c : Round). quorum r.replicas ≤ length c.tolds) new_is many in
        let long : length (a.tolds ++ t ∷ []) ≡ length a.tolds + 1 = length-append a.tolds (t ∷ []) in
        let turn : take_told r (bare rounds ds) x v t (round_of x v rounds) ≡ proposes (bare rounds ds) x v (with_told a t) =
        told_is t ∙ told_taken r (bare rounds ds) x v t a true e (grind (arith, nat_tests)) in
        let choice_is : p ≡ fixed (a.tolds ++ t ∷ []) = p_is ∙ ap (λ (c : Round). fixed c.tolds) new_is in
        let round_is : with_proposal new p ≡ with_proposal (with_told a t) (fixed (a.tolds ++ t ∷ [])) =
        ap (λ (c : Round). with_proposal c p) new_is ∙ ap (λ (q : Proposal). with_proposal (with_told a t) q) choice_is in
        let last_is : last ≡ with_round x v (with_proposal (with_told a t) (fixed (a.tolds ++ t ∷ []))) rounds =
        l ∙ ap (λ c. with_round x v c rounds') round_is ∙ ap (λ rs. with_round x v (with_proposal (with_told a t) (fixed (a.tolds ++ t ∷ []))) rs) n
        ∙ put_twice x v rounds (with_told a t) _ (found_is_of x v rounds a found) in
        let body_is : b ≡ Finalize x v (fixed (a.tolds ++ t ∷ [])).choice (fixed (a.tolds ++ t ∷ [])).content = b_is ∙ ap (λ (q : Proposal). Finalize x v q.choice q.content) choice_is in
        subst (λ u. TakesTurn r u (bare last ds) before after) (sym turn) (record {
          state_is = ap (λ rs. bare rs ds) last_is;
          sent = sent_to_all r _ before after (o ∙ ap (λ c. before ++ to_all r.replicas (Warden r.warden) c) body_is);
        })

accept_refused : (r : WardenRules) (s : WardenState) (x : Exec) (v j : ℕ) (a : Round) (o : Option Proposal) → (is_some o && not (list_any (λ i. i == j) a.accepts)) ≡ false
    → count_accept r s x v j a o ≡ still s
unfolding count_accept
accept_refused r s x v j a None e = refl
accept_refused r s x v j a (Some p) e = go (list_any (λ i. i == j) a.accepts) e
  where
    go : (b : Bool) → not b ≡ false
        → cond b (still s) (cond (nat_le (quorum r.replicas) (suc (length a.accepts))) (decides r s x v (with_accept a p j) p) (still (round_put s x v (with_accept a p j)))) ≡ still s
    go true h = refl
    go false h = absurd (cc)

accept_taken : (r : WardenRules) (s : WardenState) (x : Exec) (v j : ℕ) (a : Round) (p : Proposal) (b : Bool) → (true && not (list_any (λ i. i == j) a.accepts)) ≡ true → nat_le (quorum r.replicas) (suc (length a.accepts)) ≡ b
    → count_accept r s x v j a (Some p) ≡ cond b (decides r s x v (with_accept a p j) p) (still (round_put s x v (with_accept a p j)))
unfolding count_accept
accept_taken r s x v j a p b e f = go (list_any (λ i. i == j) a.accepts) e ∙ ap (λ c. cond c (decides r s x v (with_accept a p j) p) (still (round_put s x v (with_accept a p j)))) f
  where
    go : (c : Bool) → not c ≡ true
        → cond c (still s) (cond (nat_le (quorum r.replicas) (suc (length a.accepts))) (decides r s x v (with_accept a p j) p) (still (round_put s x v (with_accept a p j))))
        ≡ cond (nat_le (quorum r.replicas) (suc (length a.accepts))) (decides r s x v (with_accept a p j) p) (still (round_put s x v (with_accept a p j)))
    go true h = absurd (cc)
    go false h = refl

accepted_is : (a : Round) (p : Proposal) (j : ℕ) → a.proposal ≡ Some p → with_accept a p j ≡ accepted_by a j
accepted_is a p j e = ap (λ (o : Option Proposal). let b : Round = record { exec = a.exec; view = a.view; tolds = a.tolds; proposal = o; accepts = a.accepts ++ j ∷ [] } in b) (sym e)

accept_waits : (r : WardenRules) (s : WardenState) (x : Exec) (v j : ℕ) (a : Round) → counts_accept a j ≡ true → nat_le (quorum r.replicas) (suc (length a.accepts)) ≡ false
    → count_accept r s x v j a a.proposal ≡ still (round_put s x v (accepted_by a j))
accept_waits r s x v j a e few = go a.proposal refl e
  where
    go : (o : Option Proposal) → a.proposal ≡ o → (is_some o && not (list_any (λ i. i == j) a.accepts)) ≡ true → count_accept r s x v j a a.proposal ≡ still (round_put s x v (accepted_by a j))
    go None h n = absurd (cc)
    go (Some p) h n =
        ap (λ o. count_accept r s x v j a o) h ∙ accept_taken r s x v j a p false n few
        ∙ ap (λ (b : Round). still (round_put s x v b)) (accepted_is a p j h)

accept_ends : (r : WardenRules) (s : WardenState) (x : Exec) (v j : ℕ) (a : Round) (p : Proposal) → a.proposal ≡ Some p → counts_accept a j ≡ true → nat_le (quorum r.replicas) (suc (length a.accepts)) ≡ true
    → count_accept r s x v j a a.proposal ≡ decides r s x v (accepted_by a j) p
accept_ends r s x v j a p h e many =
    let n : (true && not (list_any (λ i. i == j) a.accepts)) ≡ true = subst (λ (o : Option Proposal). (is_some o && not (list_any (λ i. i == j) a.accepts)) ≡ true) h e in
    ap (λ o. count_accept r s x v j a o) h ∙ accept_taken r s x v j a p true n many
    ∙ ap (λ (b : Round). decides r s x v b p) (accepted_is a p j h)

module _ (r : WardenRules) (rounds : List Round) (ds : List DecidedProposal) (x : Exec) (v : ℕ) where
  pub accept_unasked : (j : ℕ) (before : List Envelope) → round_of x v rounds ≡ None
      → TakesTurn r (take_accept r (bare rounds ds) x v j (round_of x v rounds)) (bare rounds ds) before before
  accept_unasked j before e =
      unmoved r _ (bare rounds ds) (bare rounds ds) before (ap (λ o. take_accept r (bare rounds ds) x v j o) e) refl

  module _ (a : Round) (found : round_of x v rounds ≡ Some a) where
    accept_is : (j : ℕ) → take_accept r (bare rounds ds) x v j (round_of x v rounds) ≡ count_accept r (bare rounds ds) x v j a a.proposal
    accept_is j = ap (λ o. take_accept r (bare rounds ds) x v j o) found

    -- with one more acceptance the round is that one
    pub accept_put : (j : ℕ) (rounds' : List Round) → rounds' ≡ with_round x v (accepted_by a j) rounds → round_of x v rounds' ≡ Some (accepted_by a j)
    accept_put j rounds' e = ap (round_of x v) e ∙ put_is_found x v rounds a (accepted_by a j) found (found_is_of x v rounds a found)

    pub accept_ignored : (j : ℕ) (before : List Envelope) → counts_accept a j ≡ false
        → TakesTurn r (take_accept r (bare rounds ds) x v j (round_of x v rounds)) (bare rounds ds) before before
    accept_ignored j before e =
        unmoved r _ (bare rounds ds) _ before (accept_is j ∙ accept_refused r (bare rounds ds) x v j a a.proposal e) refl

    pub accept_counted : (j : ℕ) (rounds' : List Round) (new : Round) (before : List Envelope) → counts_accept a j ≡ true
        → rounds' ≡ with_round x v (accepted_by a j) rounds → round_of x v rounds' ≡ Some new → length new.accepts < quorum r.replicas
        → TakesTurn r (take_accept r (bare rounds ds) x v j (round_of x v rounds)) (bare rounds' ds) before before
    accept_counted j rounds' new before e n there few =
        let new_is : new ≡ accepted_by a j = let put = accept_put j rounds' n in cc in
        let count : length (a.accepts ++ j ∷ []) < quorum r.replicas = subst (λ (b : Round). length b.accepts < quorum r.replicas) new_is few in
        let long : length (a.accepts ++ j ∷ []) ≡ length a.accepts + 1 = length-append a.accepts (j ∷ []) in
        unmoved r _ (round_put (bare rounds ds) x v (accepted_by a j)) _ before
        (accept_is j ∙ accept_waits r (bare rounds ds) x v j a e (grind (arith, nat_tests)))
        (ap (λ rs. bare rs ds) n)

    -- the turn of a decision
    abbrev decided_turn : List Round → Proposal → WardenTurn
    decided_turn rs p = record {
      state = bare rs (record { exec = x; proposal = p } ∷ ds);
      sent = To_all (Decide x p.choice p.content) ∷ to_client r x (Decide x p.choice p.content);
    }

    pub accept_decides : (j : ℕ) (rounds' : List Round) (new : Round) (p q : Proposal) (last : WardenState) (before after : List Envelope) → counts_accept a j ≡ true
        → rounds' ≡ with_round x v (accepted_by a j) rounds → round_of x v rounds' ≡ Some new → quorum r.replicas ≤ length new.accepts
        → new.proposal ≡ Some q → p ≡ q
        → TakesTurn r (decided_turn rounds' p) last before after
        → TakesTurn r (take_accept r (bare rounds ds) x v j (round_of x v rounds)) last before after
    unfolding decides
    accept_decides j rounds' new p q last before after e n there many h p_is t =
        let new_is : new ≡ accepted_by a j = let put = accept_put j rounds' n in cc in
        let count : quorum r.replicas ≤ length (a.accepts ++ j ∷ []) = subst (λ (b : Round). quorum r.replicas ≤ length b.accepts) new_is many in
        let long : length (a.accepts ++ j ∷ []) ≡ length a.accepts + 1 = length-append a.accepts (j ∷ []) in
        let had : a.proposal ≡ Some p = sym (ap (λ (b : Round). b.proposal) new_is) ∙ h ∙ ap (λ (o : Proposal). Some o) (sym p_is) in
        let turn : take_accept r (bare rounds ds) x v j (round_of x v rounds) ≡ decides r (bare rounds ds) x v (accepted_by a j) p =
        accept_is j ∙ accept_ends r (bare rounds ds) x v j a p had e (grind (arith, nat_tests)) in
        subst (λ u. TakesTurn r u last before after) (ap (λ rs. decided_turn rs p) n ∙ sym turn) t

-- one more acceptance counts only where something is proposed
pub accept_proposed : (a new : Round) (j : ℕ) → counts_accept a j ≡ true → new ≡ accepted_by a j → new.proposal ≡ None → ⊥
accept_proposed a new j e n none =
    let had : a.proposal ≡ None = sym (ap (λ (b : Round). b.proposal) n) ∙ none in
    let counted : (false && not (list_any (λ i. i == j) a.accepts)) ≡ true =
    subst (λ (o : Option Proposal). (is_some o && not (list_any (λ i. i == j) a.accepts)) ≡ true) had e in
    absurd (cc)

pub next_view_of : (result : Option ℕ) (r : WardenRules) (s : WardenState) (x : Exec) (n : ℕ) → n ≡ used x s.rounds
    → MatchOption result (last_view < r.warden + n * r.wardens) (λ v. v ≡ r.warden + n * r.wardens)
    → MatchOption result (last_view < next_view r s x) (λ v. v ≡ next_view r s x)
unfolding next_view
next_view_of result r s x n e h = subst (λ m. MatchOption result (last_view < r.warden + m * r.wardens) (λ v. v ≡ r.warden + m * r.wardens)) e h
