-- What a replica voted and accepted, it said.
use Rattle.std.proofs.Common.{◌≡◌, ℕ, inl, inr, refl, ap, sym, subst, true, false, Bool, cond, List, ◌∷◌, ◌++◌, ◌∙◌}
use Rattle.std.specs.Prelude.{map}
use Rattle.protocol.specs.Words.{Replica, Envelope, Body, Prepare, Finalize, Accepted, Voted, Exec, Vote}
use Rattle.protocol.specs.Lists.{IsIn, one_when}
use Rattle.protocol.specs.Replica.Taken.{Handled, takes, after_taking}
use Rattle.protocol.specs.Replica.Acceptor.{Acceptance, acceptances, new_acceptance}
use Rattle.protocol.specs.Replica.Votes.{Cast, casts, new_cast}
use Rattle.protocol.specs.declared.First2.{First2}
use Rattle.protocol.specs.Replica.Says.{answer, refusal, says}
use Rattle.protocol.specs.Replica.Readers.{due, envelope_from}
use Rattle.protocol.specs.World.State.{Plan, World}
use Rattle.protocol.specs.World.Decided.{WasSentBy}
use Rattle.protocol.proofs.ListsLemmas.{IsIn-left, IsIn-right, IsIn-cases, IsIn-one_when, map_in}
use Rattle.law_steps.proofs.MailLemmas.{mail_grows}
use Rattle.law_steps.proofs.Reach.{Step, Reach}
use Rattle.law_steps.proofs.ReplicaFacts.{RFact, facts_reach}
use Rattle.law_steps.proofs.AlwaysLemmas.{always_of_any}
use Rattle.law_steps.proofs.Induction.{on_replicas}
use Rattle.law_safety.specs.Invariants.{AnswersTell, AnswersTellOf}
use Rattle.law_safety.proofs.LocksLemmas.{cast_found}

cast_answer : (firsts : List First2) (h : Handled) (b : Body) (c : Cast) → IsIn c (new_cast h (casts h) b) → IsIn (Voted c.exec c.vote) (answer firsts h b)
unfolding answer
cast_answer firsts h (Prepare x k) c i = map_in (λ (y : Cast). Voted y.exec y.vote) (new_cast h (casts h) (Prepare x k)) c i
cast_answer firsts h _ c i = absurd i

acceptance_answer : (firsts : List First2) (h : Handled) (b : Body) (a : Acceptance) → IsIn a (new_acceptance h b) →
    IsIn (Accepted a.exec a.view) (answer firsts h b)
unfolding answer
acceptance_answer firsts h (Finalize x v d o) a i = let g = IsIn-one_when _ _ a i in
    subst (λ (t : Bool). IsIn (Accepted a.exec a.view) (one_when t (Accepted x v))) (sym g.0) (inl (ap (λ (y : Acceptance). Accepted y.exec y.view) g.1))
acceptance_answer firsts h _ a i = absurd i

-- an answer is sent
answer_said : (firsts : List First2) (r : ℕ) (h : Handled) (m : Envelope) (b : Body) → takes h m.body ≡ true → IsIn b (answer firsts h m.body) →
    IsIn (envelope_from r m.from b) (says firsts r h m)
unfolding says
answer_said firsts r h m b e i = subst (λ (t : Bool). IsIn (envelope_from r m.from b) (cond t (map (envelope_from r m.from) (answer firsts h m.body) ++ due firsts r h (m ∷ h)) (map (envelope_from r m.from) (refusal h m.body)))) (sym e)
    (IsIn-left (envelope_from r m.from b) (map (envelope_from r m.from) (answer firsts h m.body)) _ (map_in (envelope_from r m.from) (answer firsts h m.body) b i))

-- replica r said what is in the list
pub record Spoke (w : World) (r : ℕ) (h : Handled) : Type 0 where
  pub votes : (c : Cast) → IsIn c (casts h) → WasSentBy w (Replica r) (Voted c.exec c.vote)
  pub accepts : (a : Acceptance) → IsIn a (acceptances h) → WasSentBy w (Replica r) (Accepted a.exec a.view)

sent_by_grows : (p : Plan) (w w' : World) → Step p w w' → (r : ℕ) (b : Body) → WasSentBy w (Replica r) b → WasSentBy w' (Replica r) b
sent_by_grows p w w' s r b t = record { envelope = t.envelope; there = mail_grows p w w' s t.envelope t.there; from = t.from; body = t.body }

spoke_grows : (p : Plan) (w w' : World) → Step p w w' → (r : ℕ) (h : Handled) → Spoke w r h → Spoke w' r h
spoke_grows p w w' s r h t = record { votes = λ c i. sent_by_grows p w w' s r _ (t.votes c i); accepts = λ a i. sent_by_grows p w w' s r _ (t.accepts a i) }

-- a list with one more envelope, where the answer to it was sent
spoke_taking : (w' : World) (firsts : List First2) (r : ℕ) (h : Handled) (m : Envelope) → ((e : Envelope) → IsIn e (says firsts r h m) → IsIn e w'.mail) →
    Spoke w' r h → Spoke w' r (after_taking h m)
unfolding after_taking
spoke_taking w' firsts r h m sent t = go (takes h m.body) refl
  where
    said : takes h m.body ≡ true → (b : Body) → IsIn b (answer firsts h m.body) → WasSentBy w' (Replica r) b
    said e b i = record { envelope = envelope_from r m.from b; there = sent _ (answer_said firsts r h m b e i); from = refl; body = refl }

    go : (z : Bool) → takes h m.body ≡ z → Spoke w' r (cond z (m ∷ h) h)
    go false e = t
    go true e = record {
      votes = λ c i. elim (IsIn-cases c (new_cast h (casts h) m.body) (casts h) i) [ inl j ↦ said e _ (cast_answer firsts h m.body c j) | inr j ↦ t.votes c j ];
      accepts = λ a i. elim (IsIn-cases a (new_acceptance h m.body) (acceptances h) i) [ inl j ↦ said e _ (acceptance_answer firsts h m.body a j) | inr j ↦ t.accepts a j ];
    }

pub spoke_reach : (p : Plan) (w : World) → Reach p w → (r : ℕ) → Spoke w r (w.replica r)
spoke_reach p = on_replicas p Spoke (λ r. record { votes = λ c i. absurd i; accepts = λ a i. absurd i }) (λ w w' st. spoke_grows p w w' st)
    (λ w w' q s. spoke_taking w' p.firsts s.r (w.replica s.r) s.m (λ m i. subst (λ (l : List Envelope). IsIn m l) (sym s.mail) (IsIn-right m w.mail _ i)))

pub answers_tell : AnswersTell
answers_tell = always_of_any AnswersTellOf (λ p w q. record {
  votes = λ r x v e. let c = cast_found x (casts (w.replica r)) v e in let t = (spoke_reach p w q r).votes c.0 c.1 in
      record { envelope = t.envelope; there = t.there; from = t.from; body = t.body ∙ ap (λ (y : Exec). Voted y c.0.vote) c.2 ∙ ap (λ (u : Vote). Voted x u) c.3 };
  voted = λ r x v t. subst (RFact r (w.replica r)) t.body ((facts_reach p w q).said t.envelope r t.there t.from);
  accepts = λ r a i. (spoke_reach p w q r).accepts a i;
  accepted = λ r x v t. subst (RFact r (w.replica r)) t.body ((facts_reach p w q).said t.envelope r t.there t.from);
})
