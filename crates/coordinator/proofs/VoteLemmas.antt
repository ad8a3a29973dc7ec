-- What a vote leaves to do.
use Rattle.std.proofs.Common.{◌≡◌, ℕ, Bool, true, false, List, [], ◌∷◌, ◌++◌, Option, Some, None, refl, ap, sym, subst, ◌∙◌}
use Rattle.std.specs.Prelude.{◌==◌}
use Rattle.std.specs.List.{list_any}
use Rattle.protocol.specs.Words.{Exec, NodeId, Vote, Choice, Content, Voted, same_exec}
use Rattle.protocol.specs.Client.State as protocol
use Rattle.protocol.specs.Client.State.{ClientState, CountedVote, idle}
use Rattle.protocol.specs.Client.State.Phase.{Prepared}
use Rattle.protocol.specs.Client.Counting.{counts_vote, on_tally, prepared, propose, sender, tally_says}
use Rattle.protocol.specs.Client.Step.{comes_prepared, from_replica}
use Rattle.protocol.specs.declared.TallyOut.{TallyOut}
use Rattle.protocol.specs.declared.TallyOut.TheVariants.{Wait, FastCommit, FastAbandon, Propose}
use Rattle.vote_tally.specs.Tally.{has_voted, with_vote}
use Rattle.coordinator.specs.declared.memory.Proposed.{Proposed}
use Rattle.coordinator.specs.declared.memory.Ballot.{Ballot}
use Rattle.coordinator.specs.declared.memory.Stage.TheVariants as stage
use Rattle.coordinator.specs.declared.memory.Memory.{Memory}
use Rattle.coordinator.specs.Memory.{Given, HasBegun, StandsFor, choice_of}
use Rattle.coordinator.specs.Counting.{Leaves, called_for}
use Rattle.coordinator.proofs.DecidingLemmas.{IsPrepared}
use Rattle.coordinator.proofs.CountingLemmas.{leaves_all, prepared_here, replicas_are, same_stage}

pub vote_elsewhere : (r : protocol.Rules) (c : ClientState) (content : Content) (votes : List CountedVote) (proposal : Option Choice) (accepts : List ℕ)
    (from : NodeId) (x : Exec) (v : Vote) →
    same_exec x c.exec ≡ false → comes_prepared r c content votes proposal accepts from (Voted x v) ≡ idle c
unfolding comes_prepared counts_vote
vote_elsewhere r c content votes (Some d) accepts from x v other = refl
vote_elsewhere r c content votes None accepts from x v other = go (sender r.replicas from)
  where
    go : (o : Option ℕ) → from_replica c (λ j. counts_vote r c content votes x j v) o ≡ idle c
    go None = refl
    go (Some j) = rw other refl

vote_proposed : (r : protocol.Rules) (c : ClientState) (content : Content) (votes : List CountedVote) (proposal : Option Choice) (accepts : List ℕ)
    (from : NodeId) (x : Exec) (v : Vote) (d : Choice) →
    proposal ≡ Some d → comes_prepared r c content votes proposal accepts from (Voted x v) ≡ idle c
unfolding comes_prepared
vote_proposed r c content votes None accepts from x v d is = absurd (cc)
vote_proposed r c content votes (Some e) accepts from x v d is = refl

vote_strange : (r : protocol.Rules) (c : ClientState) (content : Content) (votes : List CountedVote) (proposal : Option Choice) (accepts : List ℕ)
    (from : NodeId) (x : Exec) (v : Vote) →
    sender r.replicas from ≡ None → comes_prepared r c content votes proposal accepts from (Voted x v) ≡ idle c
unfolding comes_prepared
vote_strange r c content votes None accepts from x v none = ap (from_replica c (λ j. counts_vote r c content votes x j v)) none
vote_strange r c content votes (Some d) accepts from x v none = refl

vote_again : (r : protocol.Rules) (c : ClientState) (content : Content) (votes : List CountedVote) (proposal : Option Choice) (accepts : List ℕ)
    (from : NodeId) (x : Exec) (v : Vote) (j : ℕ) →
    sender r.replicas from ≡ Some j → same_exec x c.exec ≡ true → list_any (λ b. b.replica == j) votes ≡ true →
    comes_prepared r c content votes proposal accepts from (Voted x v) ≡ idle c
unfolding comes_prepared counts_vote
vote_again r c content votes None accepts from x v j of here voted =
    ap (from_replica c (λ i. counts_vote r c content votes x i v)) of ∙ rw (here, voted) refl
vote_again r c content votes (Some d) accepts from x v j of here voted = refl

calls : (r : protocol.Rules) (c : ClientState) (content : Content) (votes : List CountedVote) (o : TallyOut) →
    on_tally r c content votes o ≡ called_for r (prepared c content votes None []) content votes o
unfolding on_tally propose
calls r c content votes FastCommit = refl
calls r c content votes FastAbandon = refl
calls r c content votes (Propose d) = refl
calls r c content votes Wait = refl

-- the votes with one more
abbrev pub more_votes : List CountedVote → ℕ → Vote → List CountedVote
more_votes votes j v = votes ++ record { replica = j; vote = v } ∷ []

vote_first : (r : protocol.Rules) (c : ClientState) (content : Content) (votes : List CountedVote) (accepts : List ℕ) (from : NodeId) (x : Exec) (v : Vote)
    (j : ℕ) →
    sender r.replicas from ≡ Some j → same_exec x c.exec ≡ true → list_any (λ b. b.replica == j) votes ≡ false →
    comes_prepared r c content votes None accepts from (Voted x v)
    ≡ called_for r (prepared c content (more_votes votes j v) None []) content (more_votes votes j v) (tally_says r.replicas (more_votes votes j v))
unfolding comes_prepared counts_vote
vote_first r c content votes accepts from x v j of here new =
    ap (from_replica c (λ i. counts_vote r c content votes x i v)) of ∙ rw (here, new)
    (calls r c content (more_votes votes j v) (tally_says r.replicas (more_votes votes j v)))

-- a ballot with one more vote
stands_voted : (g : Given) (c : ClientState) (m : Memory) (content : Content) (votes : List CountedVote) (proposal : Option Choice) (accepts : List ℕ)
    (b : Ballot) (j : ℕ) (v : Vote) → StandsFor g c m →
    IsPrepared m b content votes proposal accepts → b.proposal ≡ None →
    StandsFor g (prepared c content (more_votes votes j v) None []) (record m { stage = stage.Prepared (record b { tally = with_vote b.tally j v }) })
stands_voted g c m content votes proposal accepts b j v s p none = record {
  rules = s.rules;
  limits = s.limits;
  programs = s.programs;
  course = s.course;
  within = s.within;
  started = subst (λ x. HasBegun x m.course) p.at s.started;
  answers = s.answers;
  execution = s.execution;
  phase = rw (p.content, p.votes, none) refl;
  holds = (p.still, p.replicas);
}

pub vote_counts : (g : Given) (c : ClientState) (m : Memory) (content : Content) (votes : List CountedVote) (proposal : Option Choice) (accepts : List ℕ)
    (from : NodeId) (x : Exec) (v : Vote) (b b' : Ballot)
    (o : TallyOut) → StandsFor g c m → c.phase ≡ Prepared content votes proposal accepts → m.stage ≡ stage.Prepared b → same_exec x c.exec ≡ true →
    ((p : Proposed) → b.proposal ≡ Some p → (b' ≡ b) × (o ≡ Wait)) → (sender b.tally.replicas from ≡ None → (b' ≡ b) × (o ≡ Wait)) →
    ((j : ℕ) → sender b.tally.replicas from ≡ Some j → has_voted j b.tally ≡ true → (b' ≡ b) × (o ≡ Wait)) →
    ((j : ℕ) → b.proposal ≡ None → sender b.tally.replicas from ≡ Some j → has_voted j b.tally ≡ false →
    (b' ≡ record b { tally = with_vote b.tally j v }) × (o ≡ tally_says b'.tally.replicas b'.tally.votes)) →
    Leaves g content (comes_prepared g.rules c content votes proposal accepts from (Voted x v)) (record m { stage = stage.Prepared b' })
    (λ d more. called_for g.rules d content more o)
vote_counts g c m content votes proposal accepts from x v b b' o s is at here proposed strange again first =
    by b.proposal (sender b.tally.replicas from) refl refl
  where
    p : IsPrepared m b content votes proposal accepts
    p = prepared_here g c m content votes proposal accepts b s is at

    n : b.tally.replicas ≡ g.rules.replicas
    n = replicas_are g c m content votes proposal accepts b s p

    nothing : (b' ≡ b) × (o ≡ Wait) → comes_prepared g.rules c content votes proposal accepts from (Voted x v) ≡ idle c →
        Leaves g content (comes_prepared g.rules c content votes proposal accepts from (Voted x v)) (record m { stage = stage.Prepared b' })
        (λ d more. called_for g.rules d content more o)
    nothing same idles =
        leaves_all g c (record m { stage = stage.Prepared b' }) content votes proposal accepts
        (comes_prepared g.rules c content votes proposal accepts from (Voted x v))
        (λ d more. called_for g.rules d content more o) (subst (λ (z : Memory). StandsFor g c z) (same_stage m b b' at same.0) s) is
        (idles ∙ ap (λ q. called_for g.rules c content votes q) (sym same.1))

    votes_now : (j : ℕ) → has_voted j b.tally ≡ list_any (λ d. d.replica == j) votes
    votes_now j = ap (λ vs. list_any (λ (d : CountedVote). d.replica == j) vs) p.votes

    one : (j : ℕ) (t : Bool) → b.proposal ≡ None → sender b.tally.replicas from ≡ Some j → has_voted j b.tally ≡ t →
        Leaves g content (comes_prepared g.rules c content votes proposal accepts from (Voted x v)) (record m { stage = stage.Prepared b' })
        (λ d more. called_for g.rules d content more o)
    one j true none of voted =
        nothing (again j of voted)
        (vote_again g.rules c content votes proposal accepts from x v j (ap (λ k. sender k from) (sym n) ∙ of) here (sym (votes_now j) ∙ voted))
    one j false none of new =
        let now = first j none of new in
        let unproposed : proposal ≡ None = sym p.proposal ∙ ap choice_of none in
        let says : o ≡ tally_says g.rules.replicas (more_votes votes j v) =
        now.1 ∙ ap (λ (d : Ballot). tally_says d.tally.replicas d.tally.votes) now.0 ∙ ap (λ k. tally_says k (more_votes b.tally.votes j v)) n
        ∙ ap (λ vs. tally_says g.rules.replicas (more_votes vs j v)) p.votes in
        record {
          now = prepared c content (more_votes votes j v) None [];
          votes = more_votes votes j v;
          proposal = None;
          accepts = [];
          stands =
              subst (λ (d : Ballot). StandsFor g (prepared c content (more_votes votes j v) None []) (record m { stage = stage.Prepared d })) (sym now.0)
              (stands_voted g c m content votes proposal accepts b j v s p none);
          phase = refl;
          turn =
              ap (λ q. comes_prepared g.rules c content votes q accepts from (Voted x v)) unproposed
              ∙ vote_first g.rules c content votes accepts from x v j (ap (λ k. sender k from) (sym n) ∙ of) here (sym (votes_now j) ∙ new)
              ∙ ap (λ q. called_for g.rules (prepared c content (more_votes votes j v) None []) content (more_votes votes j v) q) (sym says);
        }

    by : (q : Option Proposed) (k : Option ℕ) → b.proposal ≡ q → sender b.tally.replicas from ≡ k →
        Leaves g content (comes_prepared g.rules c content votes proposal accepts from (Voted x v)) (record m { stage = stage.Prepared b' })
        (λ d more. called_for g.rules d content more o)
    by (Some q) k stood of =
        nothing (proposed q stood) (vote_proposed g.rules c content votes proposal accepts from x v q.choice (sym p.proposal ∙ ap choice_of stood))
    by None None none of = nothing (strange of) (vote_strange g.rules c content votes proposal accepts from x v (ap (λ k. sender k from) (sym n) ∙ of))
    by None (Some j) none of = one j (has_voted j b.tally) none of refl
