-- A warden asked in each of its views, so it has used few of them as long as the mail has room; then nothing moves it.
use Rattle.std.proofs.Common.{sym, subst, ◌≡◌, ℕ, ◌+◌, ◌*◌, ◌<◌, ◌≤◌, refl, ap, true, false, Bool, cond, List, [], ◌∷◌, length, arith, length-append}
use Rattle.std.specs.Prelude.{zero, suc, map, flat_map, ◌&&◌, ◌==◌}
use Rattle.std.proofs.lemmas.List.{length-map}
use Rattle.std.proofs.Math.Nat.{mul-le-mul_right}
use Rattle.protocol.specs.Words.{Event, Exec, NodeId, Replica, Warden, Envelope, Body, Ask, same_exec}
use Rattle.protocol.specs.Lists.{upto}
use Rattle.protocol.specs.Warden.State.{WardenState, Round, Parcel}
use Rattle.protocol.specs.Warden.State.Parcel.{To_all}
use Rattle.protocol.specs.Warden.Recovery.{used, next_view, recover, with_round, with_accept}
use Rattle.protocol.specs.World.State.{Plan, World, first_world, mail_limit, warden_rules}
use Rattle.protocol.specs.World.Events.{parcel, after, replay_from}
use Rattle.protocol.specs.World.Steps.{Happens}
use Rattle.protocol.specs.World.Steps.Happens.{Stays, Client_moves, Replica_moves, Warden_moves}
use Rattle.protocol.specs.Laws.{EventOutcome}
use Rattle.protocol.specs.Laws.EventOutcome.{Not_enabled, Refused, Moved}
use Rattle.protocol.proofs.BasicLaws.{events_move}
use Rattle.protocol.proofs.EventSteps.{after_happens}
use Rattle.protocol.proofs.ListsLemmas.{at_cases}
use Rattle.law_steps.proofs.WardenActs.{WardenAct, told_round}
use Rattle.law_steps.proofs.WardenActs.WardenAct.{Rests, Asks, Counts_told, Counts_accepted, Begins_truncation, Counts_fenced, Ends_truncation}
use Rattle.law_steps.proofs.Reach.{Step, Reach, HeardAt, happens_reach}
use Rattle.law_steps.proofs.Reach.Step.{Stands, Client_acts, Replica_acts, Warden_acts}
use Rattle.law_steps.proofs.Reach.From.{Begins, Next}
use Rattle.law_steps.proofs.WardenFacts.{wardens_range}
use Rattle.law_frames.specs.Limits.{PlanIsWithinLimits}
use Rattle.law_frames.specs.Handling.{ViewsAreLeft, ViewsAreLeftOf}
use Rattle.law_frames.proofs.ViewsUsed.{step_used}

used_few : (x : Exec) (rounds : List Round) → used x rounds ≤ length rounds
used_few x [] = omega arith
used_few x (a ∷ rounds) = go (same_exec x a.exec) (used_few x rounds)
  where
    go : (t : Bool) → used x rounds ≤ length rounds → cond t (suc (used x rounds)) (used x rounds) ≤ suc (length rounds)
    go true l = omega (arith, l)
    go false l = omega (arith, l)

length_put : (x : Exec) (v : ℕ) (new : Round) (rounds : List Round) → length (with_round x v new rounds) ≡ length rounds
length_put x v new [] = refl
length_put x v new (a ∷ rounds) = go (same_exec x a.exec && (a.view == v)) (length_put x v new rounds)
  where
    go : (t : Bool) → length (with_round x v new rounds) ≡ length rounds → length (cond t (new ∷ rounds) (a ∷ with_round x v new rounds)) ≡ suc (length rounds)
    go true e = refl
    go false e = ap suc e

-- to all is to some
some_sent : (n : ℕ) (node : NodeId) (b : Body) → 0 < n → 0 < length (flat_map (parcel n node) (To_all b ∷ []))
some_sent zero node b l = absurd (omega (arith, l))
some_sent (suc n) node b l =
    let f : ℕ → Envelope = λ r. record { from = node; to = Replica r; body = b } in
    let named = length-map (upto (suc n)) f in
    let one = length-append (upto n) (suc n ∷ []) in
    let whole = length-append (map f (upto (suc n))) [] in
    omega (arith, named, one, whole)

-- an act begins no round, or asks in the one that it begins
act_rounds : (p : Plan) → 0 < p.replicas → (k : ℕ) (Got : NodeId → Body → Type 0) (s s' : WardenState) (sent : List Parcel) →
    WardenAct (warden_rules p k) Got s s' sent → length s'.rounds ≤ length s.rounds + length (flat_map (parcel p.replicas (Warden k)) sent)
unfolding recover next_view
act_rounds p some k Got s s' sent (Rests act) = rw act.state (omega arith)
act_rounds p some k Got s s' sent (Asks act) = rw (act.state, act.sends)
    (let l = some_sent p.replicas (Warden k) (Ask act.exec (k + used act.exec s.rounds * p.wardens)) some in omega (arith, l))
act_rounds p some k Got s s' sent (Counts_told act) = rw act.state
    (let e = length_put act.exec act.view (told_round act.round act.told act.proposal) s.rounds in omega (arith, e))
act_rounds p some k Got s s' sent (Counts_accepted act) = rw act.rounds
    (let e = length_put act.exec act.view (with_accept act.round act.proposal act.replica) s.rounds in omega (arith, e))
act_rounds p some k Got s s' sent (Begins_truncation act) = rw act.state (omega arith)
act_rounds p some k Got s s' sent (Counts_fenced act) = rw act.state (omega arith)
act_rounds p some k Got s s' sent (Ends_truncation act) = rw act.state (omega arith)

rounds_few : (p : Plan) → 0 < p.replicas → (w : World) → Reach p w → (k : ℕ) → length (w.warden k).rounds ≤ length w.mail
rounds_few p some _ Begins k = omega arith
rounds_few p some _ (Next w w' q st) k = go (rounds_few p some w q) st
  where
    go : ((j : ℕ) → length (w.warden j).rounds ≤ length w.mail) → Step p w w' → length (w'.warden k).rounds ≤ length w'.mail
    go ih (Stands s) = rw (s.warden, s.mail) (ih k)
    go ih (Client_acts s) = rw (s.warden, s.mail, length-append) (let l = ih k in omega (arith, l))
    go ih (Replica_acts s) = rw (s.warden, s.mail, length-append) (let l = ih k in omega (arith, l))
    go ih (Warden_acts s) = rw (s.warden, s.mail, length-append)
        (at_cases (λ (z : WardenState). length z.rounds ≤ length w.mail + length (flat_map (parcel p.replicas (Warden s.k)) s.sent)) s.k s.state w.warden k
        (λ e. let l = ih s.k in let m = act_rounds p some s.k (HeardAt w s.k) (w.warden s.k) s.state s.sent s.act in omega (arith, l, m))
        (let l = ih k in omega (arith, l)))

-- each warden has used at most one view of an execution for each envelope that the mail has room for
abbrev UsedFew : World → Type 0
UsedFew w = (k : ℕ) (x : Exec) → used x (w.warden k).rounds ≤ mail_limit

-- a step from a mail that has room uses one more at most
used_step : (p : Plan) (w w' : World) → length w.mail < mail_limit → ((k : ℕ) → length (w.warden k).rounds ≤ length w.mail) →
    Happens p w w' → UsedFew w'
used_step p w w' room asked step k x = go step
  where
    before : (j : ℕ) → used x (w.warden j).rounds < mail_limit
    before j = let a = used_few x (w.warden j).rounds in let b = asked j in omega (arith, a, b, room)

    few : (j : ℕ) → used x (w.warden j).rounds ≤ mail_limit
    few j = let a = before j in omega (arith, a)

    go : Happens p w w' → used x (w'.warden k).rounds ≤ mail_limit
    go (Stays s) = rw s.warden (few k)
    go (Client_moves s) = rw s.warden (few k)
    go (Replica_moves s) = rw s.warden (few k)
    go (Warden_moves s) = rw s.warden (at_cases (λ (z : WardenState). used x z.rounds ≤ mail_limit) s.k s.turn.state w.warden k
        (λ e. let a = before s.k in let l = step_used (warden_rules p s.k) (w.warden s.k) s.input s.turn s.step x in omega (arith, a, l)) (few k))

module _ (p : Plan) (limits : PlanIsWithinLimits p) where
  used_after : (w : World) (e : Event) → Reach p w → UsedFew w → UsedFew (after p w e)
  used_after w e q u = go (events_move p w e)
    where
      go : EventOutcome p w e → UsedFew (after p w e)
      go (Not_enabled n z) = subst UsedFew (sym z) u
      go (Refused v n full z) = subst UsedFew (sym z) u
      go (Moved v n room z) = used_step p w (after p w e) room (rounds_few p limits.some_replica w q) (after_happens p w e)

  used_always : (events : List Event) (w : World) → Reach p w → UsedFew w → UsedFew (replay_from p w events)
  used_always [] w q u = u
  used_always (e ∷ events) w q u =
      used_always events (after p w e) (happens_reach p first_world w (after p w e) q (after_happens p w e)) (used_after w e q u)

  views_left : (w : World) → UsedFew w → ViewsAreLeftOf p w
  unfolding next_view
  views_left w u k real x =
      let l = mul-le-mul_right p.wardens (u k x) in
      let n = limits.wardens in
      let r = (wardens_range k p.wardens real).1 in
      omega (arith, l, n, r)

pub views_are_left : ViewsAreLeft
views_are_left p limits events =
    views_left p limits (replay_from p first_world events) (used_always p limits events first_world Begins (λ k x. omega arith))
