-- The basic laws.
use Rattle.std.proofs.Common.{refl, ◌≡◌, ℕ, ◌<◌, ◌≤◌, ◌⊎◌, inl, inr, ap, sym, ◌∙◌, Bool, true, false, cond, List, [], ◌∷◌, ◌++◌, arith, append_assoc, Option, Some, None, length, ◌+◌}
use Rattle.std.proofs.lemmas.List.{append-nil}
use Rattle.std.proofs.lemmas.Bool.Decides.{nat_tests}
use Rattle.std.specs.Prelude.{nat_le}
use Rattle.protocol.specs.Words.{Replica, Envelope}
use Rattle.protocol.specs.Lists.{IsIn}
use Rattle.protocol.specs.Replica.Taken.{Handled, takes, after_taking, dropped, fence, dropped_by, fenced_by}
use Rattle.protocol.specs.Replica.Acceptor.{acceptances}
use Rattle.protocol.specs.World.Events.{after, enabled, made, Move}
use Rattle.protocol.specs.World.State.{Plan, World, first_world, mail_limit}
use Rattle.protocol.specs.World.Steps.{Happens}
use Rattle.protocol.specs.World.Steps.Happens.{Stays, Client_moves, Replica_moves, Warden_moves}
use Rattle.protocol.specs.Laws.{QuorumsMeet, HasGrown, ReplicasGrow, MailGrows, TakenWasSent, EventsStep, EventOutcome, EventsMove, ReplaysJoin}
use Rattle.protocol.specs.Laws.EventOutcome.{Not_enabled, Refused, Moved}
use Rattle.protocol.proofs.ListsLemmas.{IsIn-left, IsIn-right, at_cases}
use Rattle.protocol.proofs.NamesLemmas.{up_to_itself, up_to_trans}
use Rattle.protocol.proofs.ReplicaGrows.{decided_stays, promised_grows, later_left, vote_stays}
use Rattle.protocol.proofs.QuorumsLemmas as quorums
use Rattle.protocol.proofs.EventSteps.{after_happens, always}
use Rattle.protocol.proofs.TestLemmas.{le_is}

pub quorums_meet : QuorumsMeet
quorums_meet n p q a b =
    let m = quorums.quorums_meet n (λ r. ((0 < r) × (r ≤ n)) × (p r ≡ true)) (λ r. q r ≡ true)
    (record { members = a.members; distinct = a.distinct; ranged = a.ranged; each = λ r i. (a.ranged r i, a.each r i); many = a.many }) b in
    (m.0, m.1.0.0, m.1.0.1, m.1.1, m.2)

grown_not : (h : Handled) → HasGrown h h
grown_not h = record { votes = λ x v e. e; decisions = λ x d e. e; promises = λ x. omega arith; accepts = λ a i. i; fences = up_to_itself (fence h); drops = up_to_itself (dropped h) }

grown_by : (h : Handled) (m : Envelope) → HasGrown h (m ∷ h)
grown_by h m = record {
  votes = vote_stays h m;
  decisions = decided_stays h m;
  promises = promised_grows h m;
  accepts = λ a i. IsIn-right a _ (acceptances h) i;
  fences = later_left (fence h) (fenced_by m.body);
  drops = later_left (dropped h) (dropped_by m.body);
}

grown_then : (h g k : Handled) → HasGrown h g → HasGrown g k → HasGrown h k
grown_then h g k a b = record {
  votes = λ x v e. b.votes x v (a.votes x v e);
  decisions = λ x d e. b.decisions x d (a.decisions x d e);
  promises = λ x. let l = a.promises x in let m = b.promises x in omega (arith, l, m);
  accepts = λ c i. b.accepts c (a.accepts c i);
  fences = up_to_trans _ _ _ a.fences b.fences;
  drops = up_to_trans _ _ _ a.drops b.drops;
}

grown_taking : (h : Handled) (m : Envelope) → HasGrown h (after_taking h m)
unfolding after_taking
grown_taking h m = go (takes h m.body)
  where
    go : (t : Bool) → HasGrown h (cond t (m ∷ h) h)
    go true = grown_by h m
    go false = grown_not h

grown_step : (p : Plan) (w w' : World) → Happens p w w' → (r : ℕ) → HasGrown (w.replica r) (w'.replica r)
grown_step p w w' (Stays s) r = rw s.replica (grown_not (w.replica r))
grown_step p w w' (Client_moves s) r = rw s.replica (grown_not (w.replica r))
grown_step p w w' (Warden_moves s) r = rw s.replica (grown_not (w.replica r))
grown_step p w w' (Replica_moves s) r = rw s.replica (at_cases (λ g. HasGrown (w.replica r) g) s.r (after_taking (w.replica s.r) s.m) w.replica r
    (λ e. rw e (grown_taking (w.replica s.r) s.m)) (grown_not (w.replica r)))

pub replicas_grow : ReplicasGrow
replicas_grow p w events r = always p (λ v. HasGrown (w.replica r) (v.replica r)) (λ u v h g. grown_then _ _ _ g (grown_step p u v h r)) w (grown_not (w.replica r)) events

-- what a step adds to the mail
mail_step : (p : Plan) (w w' : World) → Happens p w w' → (more : List Envelope) × (w'.mail ≡ w.mail ++ more)
mail_step p w w' (Stays s) = ([], s.mail ∙ sym (append-nil w.mail))
mail_step p w w' (Client_moves s) = (_, s.mail)
mail_step p w w' (Replica_moves s) = (_, s.mail)
mail_step p w w' (Warden_moves s) = (_, s.mail)

pub mail_grows : MailGrows
mail_grows p w events = always p (λ v. (more : List Envelope) × (v.mail ≡ w.mail ++ more))
    (λ u v h g. let k = mail_step p u v h in (g.0 ++ k.0, k.1 ∙ ap (λ l. l ++ k.0) g.1 ∙ append_assoc w.mail g.0 k.0)) w ([], sym (append-nil w.mail)) events

record TookMail (w : World) : Type 0 where
  took : (r : ℕ) (m : Envelope) → IsIn m (w.replica r) → IsIn m w.mail × (m.to ≡ Replica r)

taking_cases : (h : Handled) (m n : Envelope) → IsIn n (after_taking h m) → (n ≡ m) ⊎ IsIn n h
unfolding after_taking
taking_cases h m n i = go (takes h m.body) i
  where
    go : (t : Bool) → IsIn n (cond t (m ∷ h) h) → (n ≡ m) ⊎ IsIn n h
    go true i = i
    go false i = inr i

in_more : (p : Plan) (w w' : World) → Happens p w w' → (m : Envelope) → IsIn m w.mail → IsIn m w'.mail
in_more p w w' h m i = let k = mail_step p w w' h in rw k.1 (IsIn-left m w.mail k.0 i)

took_step : (p : Plan) (w w' : World) → Happens p w w' → TookMail w → TookMail w'
took_step p w w' (Stays s) t = record { took = λ r m i. let o = t.took r m (rw s.replica at i) in (in_more p w w' (Stays s) m o.0, o.1) }
took_step p w w' (Client_moves s) t = record { took = λ r m i. let o = t.took r m (rw s.replica at i) in (in_more p w w' (Client_moves s) m o.0, o.1) }
took_step p w w' (Warden_moves s) t = record { took = λ r m i. let o = t.took r m (rw s.replica at i) in (in_more p w w' (Warden_moves s) m o.0, o.1) }
took_step p w w' (Replica_moves s) t =
    record {
      took = λ r m. rw s.replica (at_cases (λ h. IsIn m h → IsIn m w'.mail × (m.to ≡ Replica r)) s.r (after_taking (w.replica s.r) s.m) w.replica r
          (λ e i. new r m e (taking_cases (w.replica s.r) s.m m i)) (λ i. old r m (t.took r m i)));
    }
  where
    old : (r : ℕ) (m : Envelope) → IsIn m w.mail × (m.to ≡ Replica r) → IsIn m w'.mail × (m.to ≡ Replica r)
    old r m o = (in_more p w w' (Replica_moves s) m o.0, o.1)

    new : (r : ℕ) (m : Envelope) → r ≡ s.r → (m ≡ s.m) ⊎ IsIn m (w.replica s.r) → IsIn m w'.mail × (m.to ≡ Replica r)
    new r m e (inl q) = rw (q, e) (old s.r s.m (s.in_mail, s.addressed))
    new r m e (inr i) = rw e (old s.r m (t.took s.r m i))

pub taken_was_sent : TakenWasSent
taken_was_sent p events = (always p TookMail (took_step p) first_world (record { took = λ r m i. absurd i }) events).took

pub events_step : EventsStep
events_step = after_happens

pub events_move : EventsMove
unfolding after
events_move p w e = by_enabled (enabled p w e) refl
  where
    by_room : (v : Move) → enabled p w e ≡ Some v → (t : Bool) → nat_le mail_limit (length w.mail) ≡ t → made w (Some v) ≡ cond t w (record v.world { mail = w.mail ++ v.sent; moved = w.moved + 1 }) → EventOutcome p w e
    by_room v q true f g = Refused v q (le_is _ _ f) (ap (made w) q ∙ g)
    by_room v q false f g = Moved v q (grind (arith, nat_tests)) (ap (made w) q ∙ g)

    by_enabled : (o : Option Move) → enabled p w e ≡ o → EventOutcome p w e
    by_enabled None q = Not_enabled q (ap (made w) q)
    by_enabled (Some v) q = by_room v q (nat_le mail_limit (length w.mail)) refl refl

pub replays_join : ReplaysJoin
replays_join p w [] more = refl
replays_join p w (e ∷ events) more = replays_join p (after p w e) events more
