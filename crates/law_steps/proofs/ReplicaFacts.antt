-- What a replica said it knows for good: its votes, its acceptances, what it told and what it answered to a Fence.
use Rattle.std.proofs.Common.{◌≡◌, ℕ, ◌<◌, inl, inr, refl, ◌∙◌, subst, true, false, Bool, cond, List, ◌∷◌, Option, Some, None}
use Rattle.std.specs.Prelude.{map, option_map, nat_le}
use Rattle.protocol.specs.Words.{Exec, Envelope, Body, Content, Choice, ToCommit, Accept, Vote, Commit, Get, Note, Prepare, Finalize, Accepted, Ask, Told, Fence, Fenced, TooOld, Voted}
use Rattle.protocol.specs.Lists.{IsIn}
use Rattle.protocol.specs.Replica.Taken.{Handled, takes, after_taking}
use Rattle.protocol.specs.Replica.Acceptor.{promised, Acceptance, acceptances, new_acceptance, accepted, decided}
use Rattle.protocol.specs.Replica.Votes.{casts, cast_on, new_cast, vote, Cast, known}
use Rattle.protocol.specs.declared.First2.{First2}
use Rattle.protocol.specs.Replica.Says.{answer, refusal}
use Rattle.protocol.specs.World.State.{Plan, World}
use Rattle.protocol.proofs.TestLemmas.{lt_is}
use Rattle.protocol.proofs.ListsLemmas.{IsIn-right, IsIn-map, IsIn-one_when}
use Rattle.protocol.proofs.ReplicaGrows.{vote_stays}
use Rattle.law_steps.proofs.AcceptorLemmas.{IsTold, told_stays, told_new, accept_on_backed}
use Rattle.law_steps.proofs.KnownLemmas.{Took, took_more, known_taken, IsWell, well_taking, Finds, commit_finds, known_commit, known_cast, known_accepted, accepted_content_finds}
use Rattle.law_steps.proofs.SaysLemmas.{Spoken, spoken, voted_answer, IsNote}
use Rattle.law_steps.proofs.SaysLemmas.Spoken.{Answers, Refuses, Notes}
use Rattle.law_steps.proofs.Reach.{Reach}
use Rattle.law_steps.proofs.Induction.{ReplicasSaid, replicas_said_reach, on_replicas}
use Rattle.law_steps.proofs.TakenLemmas.{IsTaking, taking_more}
use Rattle.law_steps.proofs.FencedFacts.{FencedFact, fenced_more, fence_answer}

-- each replica's list is well in every world
pub well_reach : (p : Plan) (w : World) → Reach p w → (r : ℕ) → IsWell (w.replica r)
well_reach p = on_replicas p (λ w r h. IsWell h) (λ r. tt) (λ w w' st r h k. k) (λ w w' q s. well_taking (w.replica s.r) s.m)

-- a replica's list has only what it takes
pub taking_reach : (p : Plan) (w : World) → Reach p w → (r : ℕ) → IsTaking (w.replica r)
taking_reach p = on_replicas p (λ w r h. IsTaking h) (λ r. tt) (λ w w' st r h k. k) (λ w w' q s. taking_more (w.replica s.r) s.m)

-- what a Told says is so for good
pub record ToldFact (h : Handled) (x : Exec) (v : ℕ) (vt : Option Vote) (ac : Option Accept) (de : Option Choice) (co : Option Content) : Type 0 where
  pub told : IsTold h x v vt ac de
  pub took : (k : Content) → co ≡ Some k → Took h x k
  pub knows_vote : vt ≡ Some Commit → Finds co
  pub knows_accept : (b : Accept) → ac ≡ Some b → b.choice ≡ ToCommit → Finds co
  pub knows_decision : de ≡ Some ToCommit → Finds co

abbrev pub AcceptedFact : Handled → Exec → ℕ → Type 0
AcceptedFact h x v = (a : Acceptance) × IsIn a (acceptances h) × (a.exec ≡ x) × (a.view ≡ v)

-- what a replica said, by body; of the others it says none
abbrev pub RFact : ℕ → Handled → Body → Type 0
RFact r h (Voted x v) = vote h x ≡ Some v
RFact r h (Accepted x v) = AcceptedFact h x v
RFact r h (Told x v vt ac de co) = ToldFact h x v vt ac de co
RFact r h (Note v k wid value sure lost) = Unit {0}
RFact r h (TooOld v w) = Unit {0}
RFact r h (Fenced w b c d) = FencedFact h w b c d
RFact r h _ = ⊥

pub fact_cons : (r : ℕ) (h : Handled) (m : Envelope) (b : Body) → RFact r h b → RFact r (m ∷ h) b
fact_cons r h m (Voted x v) f = vote_stays h m x v f
fact_cons r h m (Accepted x v) f = (f.0, IsIn-right f.0 (new_acceptance h m.body) (acceptances h) f.1, f.2, f.3)
fact_cons r h m (Told x v vt ac de co) f = record { told = told_stays h m x v vt ac de f.told; took = λ k e. took_more m h x k (f.took k e); knows_vote = f.knows_vote; knows_accept = f.knows_accept; knows_decision = f.knows_decision }
fact_cons r h m (Note v k wid value sure lost) f = tt
fact_cons r h m (TooOld v w) f = tt
fact_cons r h m (Fenced w b c d) f = fenced_more h m w b c d f
fact_cons r h m _ f = absurd f

fact_mono : (r : ℕ) (h : Handled) (m : Envelope) (b : Body) → RFact r h b → RFact r (after_taking h m) b
unfolding after_taking
fact_mono r h m b f = go (takes h m.body)
  where
    go : (t : Bool) → RFact r (cond t (m ∷ h) h) b
    go true = fact_cons r h m b f
    go false = f

-- the answers
ask_answer : (h : Handled) (m : Envelope) (x : Exec) (v : ℕ) → IsWell h → m.body ≡ Ask x v → promised h x < v →
    ToldFact (m ∷ h) x v (vote h x) (accepted h x) (decided h x) (known h x)
ask_answer h m x v w q l = record {
  told = told_new h m x v q l;
  took = λ k e. took_more m h x k (known_taken h x k e);
  knows_vote = λ e. known_cast h x (cast_finds (cast_on x (casts h)) e);
  knows_accept = λ b e c. let a = accept_on_backed x (acceptances h) b e in known_accepted h x (accepted_content_finds h x a.0 w a.1 a.2 (a.4 ∙ c));
  knows_decision = λ e. known_commit h x (commit_finds h x w e);
}
  where
    cast_finds : (o : Option Cast) → option_map (λ (y : Cast). y.vote) o ≡ Some Commit → Finds o
    cast_finds None e = cc
    cast_finds (Some y) e = tt

finalize_answer : (h : Handled) (m : Envelope) (x : Exec) (v : ℕ) (d : Choice) (o : Option Content) → m.body ≡ Finalize x v d o →
    nat_le (promised h x) v ≡ true → AcceptedFact (m ∷ h) x v
finalize_answer h m x v d o q l = (record { exec = x; view = v; choice = d; content = o }, rw (q, l) (inl refl), refl, refl)

answer_fact : (firsts : List First2) (r : ℕ) (h : Handled) (m : Envelope) (b c : Body) → IsWell h → IsTaking h → takes h m.body ≡ true → m.body ≡ b →
    IsIn c (answer firsts h b) → RFact r (m ∷ h) c
unfolding answer
answer_fact firsts r h m (Get y k) c w tk ts q (inl e) = rw e tt
answer_fact firsts r h m (Get y k) c w tk ts q (inr e) = absurd e
answer_fact firsts r h m (Prepare y k) c w tk ts q i = let j = IsIn-map (λ (z : Cast). Voted z.exec z.vote) c (new_cast h (casts h) (Prepare y k)) i in
    let g : RFact r (m ∷ h) (Voted j.0.exec j.0.vote) = rw q (voted_answer firsts h (Prepare y k) j.0.exec j.0.vote (subst (λ z. IsIn z (map (λ (z : Cast). Voted z.exec z.vote) (new_cast h (casts h) (Prepare y k)))) j.2 i)) in
    rw j.2 g
answer_fact firsts r h m (Finalize y v d o) c w tk ts q i = let j = IsIn-one_when _ _ c i in rw j.1 (finalize_answer h m y v d o q j.0)
answer_fact firsts r h m (Ask y v) c w tk ts q i = let j = IsIn-one_when _ _ c i in rw j.1 (ask_answer h m y v w q (lt_is _ _ j.0))
answer_fact firsts r h m (Fence v) c w tk ts q (inl e) = rw e (fence_answer h m v w tk ts q)
answer_fact firsts r h m (Fence v) c w tk ts q (inr e) = absurd e
answer_fact firsts r h m _ c w tk ts q i = absurd i

refusal_fact : (r : ℕ) (h : Handled) (b c : Body) → IsIn c (refusal h b) → (g : Handled) → RFact r g c
refusal_fact r h (Get y k) c (inl e) g = rw e tt
refusal_fact r h (Get y k) c (inr e) g = absurd e
refusal_fact r h _ c i g = absurd i

note_fact : (r : ℕ) (h : Handled) (c : Body) → IsNote c → RFact r h c
note_fact r h (Note v k wid value sure lost) n = tt
note_fact r h _ n = absurd n

spoken_fact : (firsts : List First2) (r : ℕ) (h : Handled) (m e : Envelope) → IsWell h → IsTaking h → Spoken firsts r h m e → RFact r (after_taking h m) e.body
unfolding after_taking
spoken_fact firsts r h m e w tk (Answers t i) = rw t (answer_fact firsts r h m m.body e.body w tk t refl i)
spoken_fact firsts r h m e w tk (Refuses i) = refusal_fact r h m.body e.body i (after_taking h m)
spoken_fact firsts r h m e w tk (Notes i) = note_fact r (after_taking h m) e.body i

-- what replicas said is so, in every world
pub facts_reach : (p : Plan) (w : World) → Reach p w → ReplicasSaid RFact w
facts_reach p w q = replicas_said_reach p RFact fact_mono (λ v t r m e _ i. spoken_fact p.firsts r (v.replica r) m e (well_reach p v t r) (taking_reach p v t r) (spoken p.firsts r (v.replica r) m e i).1) w q
