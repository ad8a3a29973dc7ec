-- In one step a warden begins at most one round of an execution.
use Rattle.std.proofs.Common.{◌≡◌, ℕ, ◌≤◌, refl, sym, ◌∙◌, subst, true, false, Bool, cond, List, [], ◌∷◌, ◌++◌, Option, Some, None, length, arith}
use Rattle.std.specs.Prelude.{suc, not, ◌&&◌, ◌||◌, ◌==◌, nat_le}
use Rattle.std.specs.Option.{is_none, is_some}
use Rattle.std.specs.List.{list_any}
use Rattle.std.specs.Bool.{then_some}
use Rattle.protocol.specs.Words.{Version, Exec, NodeId, Body, Told, Accepted, Fenced, same_exec}
use Rattle.protocol.specs.Quorums.{quorum}
use Rattle.protocol.specs.Client.Counting.{sender}
use Rattle.protocol.specs.Warden.State.{WardenRules, WardenState, WardenTurn, Round, ToldAnswer, Proposal, FencedAnswer, Truncation, Parcel, decision_on, still}
use Rattle.protocol.specs.Warden.Recovery.{used, recover, round_of, round_put, with_told, with_proposal, fixed, proposes, take_told, with_accept, decides, count_accept, take_accept, heard, recovery_hears}
use Rattle.protocol.specs.Warden.Truncation.{can_truncate, truncate, with_truncations, to_recover, is_recovering, recover_more, recover_all, is_counted, with_fenced, take_fenced, is_finished, drop_sent, finish}
use Rattle.protocol.specs.Warden.Step.{WardenInput, fenced_from, warden_hears, warden_step}
use Rattle.protocol.specs.Warden.Step.WardenInput.{Recovers, Truncates, Hears}
use Rattle.protocol.proofs.NamesLemmas.{exec_is}
use Rattle.protocol.proofs.TestLemmas.{true_false}
use Rattle.law_steps.proofs.WardenFacts.{round_found, put_used}

-- what was not asked about has used no view
unasked_unused : (x : Exec) (rounds : List Round) → list_any (λ a. same_exec x a.exec) rounds ≡ false → used x rounds ≡ 0
unasked_unused x [] e = refl
unasked_unused x (a ∷ rounds) e = go (unasked_unused x rounds) (same_exec x a.exec) e
  where
    go : (list_any (λ a. same_exec x a.exec) rounds ≡ false → used x rounds ≡ 0) → (t : Bool) →
        (t || list_any (λ a. same_exec x a.exec) rounds) ≡ false → cond t (suc (used x rounds)) (used x rounds) ≡ 0
    go ih true e = absurd (true_false e)
    go ih false e = ih e

module _ (r : WardenRules) (x : Exec) where
  -- how many views of x a turn leaves used
  abbrev after : WardenTurn → ℕ
  after t = used x t.state.rounds

  module _ (s : WardenState) where
    -- ---- recovery

    put_same : (y : Exec) (v : ℕ) (a new : Round) → round_of y v s.rounds ≡ Some a → new.exec ≡ a.exec →
        used x (round_put s y v new).rounds ≡ used x s.rounds
    put_same y v a new e f = put_used y x v new s.rounds (f ∙ (round_found y v s.rounds a e).1)

    told_same : (y : Exec) (v : ℕ) (t : ToldAnswer) (o : Option Round) → round_of y v s.rounds ≡ o → after (take_told r s y v t o) ≡ used x s.rounds
    unfolding take_told proposes
    told_same y v t None e = refl
    told_same y v t (Some a) e = counts (is_none a.proposal && not (list_any (λ u. u.replica == t.replica) a.tolds))
      where
        full : (z : Bool) → after (cond z (proposes s y v (with_told a t)) (still (round_put s y v (with_told a t)))) ≡ used x s.rounds
        full true = put_same y v a (with_proposal (with_told a t) (fixed (with_told a t).tolds)) e refl
        full false = put_same y v a (with_told a t) e refl

        counts : (z : Bool) →
            after (cond (not z) (still s)
            (cond (nat_le (quorum r.replicas) (suc (length a.tolds))) (proposes s y v (with_told a t)) (still (round_put s y v (with_told a t)))))
            ≡ used x s.rounds
        counts true = full (nat_le (quorum r.replicas) (suc (length a.tolds)))
        counts false = refl

    count_same : (y : Exec) (v j : ℕ) (a : Round) (o : Option Proposal) → round_of y v s.rounds ≡ Some a → after (count_accept r s y v j a o) ≡ used x s.rounds
    unfolding count_accept decides
    count_same y v j a None e = refl
    count_same y v j a (Some p) e = counts (list_any (λ i. i == j) a.accepts)
      where
        full : (z : Bool) → after (cond z (decides r s y v (with_accept a p j) p) (still (round_put s y v (with_accept a p j)))) ≡ used x s.rounds
        full true = put_same y v a (with_accept a p j) e refl
        full false = put_same y v a (with_accept a p j) e refl

        counts : (z : Bool) →
            after (cond z (still s)
            (cond (nat_le (quorum r.replicas) (suc (length a.accepts))) (decides r s y v (with_accept a p j) p) (still (round_put s y v (with_accept a p j)))))
            ≡ used x s.rounds
        counts true = refl
        counts false = full (nat_le (quorum r.replicas) (suc (length a.accepts)))

    accept_same : (y : Exec) (v j : ℕ) (o : Option Round) → round_of y v s.rounds ≡ o → after (take_accept r s y v j o) ≡ used x s.rounds
    accept_same y v j None e = refl
    accept_same y v j (Some a) e = count_same y v j a a.proposal e

    heard_same : (f : ℕ → WardenTurn) (o : Option ℕ) → ((j : ℕ) → after (f j) ≡ used x s.rounds) → after (heard s f o) ≡ used x s.rounds
    heard_same f None e = refl
    heard_same f (Some j) e = e j

    when_same : (z : Bool) (t : WardenTurn) → after t ≡ used x s.rounds → after (cond z t (still s)) ≡ used x s.rounds
    when_same true t e = e
    when_same false t e = refl

    recovery_same : (from : NodeId) (b : Body) → after (recovery_hears r s from b) ≡ used x s.rounds
    unfolding recovery_hears
    recovery_same from (Told y v vote accepted decided content) =
        let told : ℕ → ToldAnswer = λ k. record { replica = k; vote = vote; accepted = accepted; decided = decided; content = content } in
        when_same (is_none (decision_on s y)) (heard s (λ k. take_told r s y v (told k) (round_of y v s.rounds)) (sender r.replicas from))
        (heard_same (λ k. take_told r s y v (told k) (round_of y v s.rounds)) (sender r.replicas from)
        (λ j. told_same y v (told j) (round_of y v s.rounds) refl))
    recovery_same from (Accepted y v) =
        when_same (is_none (decision_on s y)) (heard s (λ k. take_accept r s y v k (round_of y v s.rounds)) (sender r.replicas from))
        (heard_same (λ k. take_accept r s y v k (round_of y v s.rounds)) (sender r.replicas from) (λ j. accept_same y v j (round_of y v s.rounds) refl))
    recovery_same from _ = refl

    asked_more : (y : Exec) → after (recover r s y) ≤ suc (used x s.rounds)
    unfolding recover
    asked_more y = go (same_exec x y)
      where
        go : (z : Bool) → cond z (suc (used x s.rounds)) (used x s.rounds) ≤ suc (used x s.rounds)
        go true = omega arith
        go false = omega arith

  -- ---- truncation recovers what it does not recover yet

  first_asked : (u : WardenTurn) (y : Exec) (n : ℕ) → is_recovering u.state y ≡ false → after u ≤ suc n →
      after (record { state = (recover r u.state y).state; sent = u.sent ++ (recover r u.state y).sent }) ≤ suc n
  unfolding recover
  first_asked u y n e l = go (same_exec x y) refl
    where
      go : (z : Bool) → same_exec x y ≡ z → cond z (suc (used x u.state.rounds)) (used x u.state.rounds) ≤ suc n
      go true q = let f : x ≡ y = exec_is x y q in
          let o = unasked_unused x u.state.rounds (subst (λ (z : Exec). list_any (λ a. same_exec z a.exec) u.state.rounds ≡ false) (sym f) e) in
          omega (arith, o)
      go false q = l

  or_right : (a b : Bool) → (a || b) ≡ false → b ≡ false
  or_right true b e = absurd (true_false e)
  or_right false b e = e

  more_few : (u : WardenTurn) (y : Exec) (n : ℕ) (z : Bool) → (is_some (decision_on u.state y) || is_recovering u.state y) ≡ z → after u ≤ suc n →
      after (recover_more r u y z) ≤ suc n
  more_few u y n true e l = l
  more_few u y n false e l = first_asked u y n (or_right (is_some (decision_on u.state y)) (is_recovering u.state y) e) l

  all_few : (u : WardenTurn) (ys : List Exec) (n : ℕ) → after u ≤ suc n → after (recover_all r u ys) ≤ suc n
  all_few u [] n l = l
  all_few u (y ∷ ys) n l =
      let is_known = is_some (decision_on u.state y) || is_recovering u.state y in all_few (recover_more r u y is_known) ys n (more_few u y n is_known refl l)

  fenced_few : (u : WardenTurn) (version : Version) (a : FencedAnswer) (ts : List Truncation) (n : ℕ) → after u ≤ suc n →
      after (take_fenced r u version a ts) ≤ suc n
  unfolding take_fenced
  fenced_few u version a [] n l = l
  fenced_few u version a (t ∷ ts) n l = counts (is_counted r t version a.replica)
    where
      full : (z : Bool) → after (cond z (recover_all r (with_fenced u t a ts) (to_recover (t.answers ++ a ∷ []))) (with_fenced u t a ts)) ≤ suc n
      full true = all_few (with_fenced u t a ts) (to_recover (t.answers ++ a ∷ [])) n l
      full false = l

      counts : (z : Bool) →
          after (cond (not z) u
          (cond (nat_le (quorum r.replicas) (suc (length t.answers)))
          (recover_all r (with_fenced u t a ts) (to_recover (t.answers ++ a ∷ []))) (with_fenced u t a ts)))
          ≤ suc n
      counts true = full (nat_le (quorum r.replicas) (suc (length t.answers)))
      counts false = l

  from_few : (u : WardenTurn) (o : Option ℕ) (b : Body) (n : ℕ) → after u ≤ suc n → after (fenced_from r u o b) ≤ suc n
  from_few u None b n l = l
  from_few u (Some k) (Fenced version b c v) n l = fenced_few u version (record { replica = k; base = b; committed = c; voted = v }) u.state.truncations n l
  from_few u (Some k) _ n l = l

  finish_few : (u : WardenTurn) (ts : List Truncation) (n : ℕ) → after u ≤ n → after (finish r u ts) ≤ n
  unfolding finish
  finish_few u [] n l = l
  finish_few u (t ∷ ts) n l = go (is_finished r u.state t) _
    where
      go : (z : Bool) (sent : List Parcel) → after (cond z (record { state = with_truncations u.state (drop_sent t ∷ ts); sent = sent }) u) ≤ n
      go true sent = l
      go false sent = l

  hears_few : (s : WardenState) (from : NodeId) (b : Body) → after (warden_hears r s from b) ≤ suc (used x s.rounds)
  unfolding warden_hears
  hears_few s from b =
      let u = fenced_from r (recovery_hears r s from b) (sender r.replicas from) b in
      let e = recovery_same s from b in
      finish_few u u.state.truncations (suc (used x s.rounds))
      (from_few (recovery_hears r s from b) (sender r.replicas from) b (used x s.rounds) (omega (arith, e)))

-- a step uses at most one more view of each execution
pub step_used : (r : WardenRules) (s : WardenState) (i : WardenInput) (t : WardenTurn) → warden_step r s i ≡ Some t → (x : Exec) →
    used x t.state.rounds ≤ suc (used x s.rounds)
unfolding warden_step truncate
step_used r s (Recovers y) t q x = go (is_none (decision_on s y)) q
  where
    go : (z : Bool) → then_some z (recover r s y) ≡ Some t → used x t.state.rounds ≤ suc (used x s.rounds)
    go true q = let f : recover r s y ≡ t = cc in subst (λ (u : WardenTurn). used x u.state.rounds ≤ suc (used x s.rounds)) f (asked_more r x s y)
    go false q = cc
step_used r s (Truncates v) t q x = go (can_truncate s v) q
  where
    go : (z : Bool) → then_some z (truncate s v) ≡ Some t → used x t.state.rounds ≤ suc (used x s.rounds)
    go true q = let f : truncate s v ≡ t = cc in subst (λ (u : WardenTurn). used x u.state.rounds ≤ suc (used x s.rounds)) f (omega arith)
    go false q = cc
step_used r s (Hears from b) t q x =
    let f : warden_hears r s from b ≡ t = cc in subst (λ (u : WardenTurn). used x u.state.rounds ≤ suc (used x s.rounds)) f (hears_few r x s from b)
