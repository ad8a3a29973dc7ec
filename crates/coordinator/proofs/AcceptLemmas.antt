-- What an acceptance leaves to do.
use Rattle.std.proofs.Common.{◌≡◌, ℕ, suc, Bool, true, false, not, List, [], ◌∷◌, ◌++◌, length, Option, Some, None, refl, ap, sym, subst, ◌∙◌, arith}
use Rattle.std.specs.Prelude.{◌&&◌, ◌==◌, nat_le}
use Rattle.std.proofs.lemmas.Bool.Decides.{nat_tests}
use Rattle.std.specs.Bool.{then_some}
use Rattle.std.specs.List.{list_any}
use Rattle.protocol.specs.Words.{Exec, NodeId, Choice, Content, Accepted, same_exec}
use Rattle.protocol.specs.Quorums.{quorum}
use Rattle.protocol.specs.Client.State as protocol
use Rattle.protocol.specs.Client.State.{ClientState, CountedVote, idle, turn_when}
use Rattle.protocol.specs.Client.State.Phase.{Prepared}
use Rattle.protocol.specs.Client.Counting.{counts_accept, prepared, sender}
use Rattle.protocol.specs.Client.Deciding.{decide}
use Rattle.protocol.specs.Client.Step.{comes_prepared, from_replica}
use Rattle.coordinator.specs.declared.memory.Proposed.{Proposed}
use Rattle.coordinator.specs.declared.memory.Ballot.{Ballot}
use Rattle.coordinator.specs.declared.memory.Stage.TheVariants as stage
use Rattle.coordinator.specs.declared.memory.Memory.{Memory}
use Rattle.coordinator.specs.Memory.{Given, HasBegun, StandsFor, accepts_of, choice_of}
use Rattle.coordinator.specs.Counting.{Leaves, chosen}
use Rattle.coordinator.proofs.DecidingLemmas.{IsPrepared}
use Rattle.coordinator.proofs.CountingLemmas.{leaves_all, prepared_here, replicas_are, same_stage}

-- a sender has one number
pub accepter_is : (o : Option ℕ) (k j : ℕ) (accepts : List ℕ) (t : Bool) → o ≡ Some k → o ≡ Some j → list_any (λ i. i == k) accepts ≡ t →
    list_any (λ i. i == j) accepts ≡ t
accepter_is o k j accepts t here there h = subst (λ (n : ℕ). list_any (λ i. i == n) accepts ≡ t) (let same : Some k ≡ Some j = sym here ∙ there in cc) h

pub accept_elsewhere : (r : protocol.Rules) (c : ClientState) (content : Content) (votes : List CountedVote) (proposal : Option Choice) (accepts : List ℕ)
    (from : NodeId) (x : Exec) (view : ℕ) →
    same_exec x c.exec ≡ false → comes_prepared r c content votes proposal accepts from (Accepted x view) ≡ idle c
unfolding comes_prepared counts_accept
accept_elsewhere r c content votes None accepts from x view other = refl
accept_elsewhere r c content votes (Some d) accepts from x view other = go (sender r.replicas from)
  where
    go : (o : Option ℕ) → from_replica c (λ j. counts_accept r c content votes d accepts x view j) o ≡ idle c
    go None = refl
    go (Some j) = rw other refl

none_of : (a b e : Bool) → b ≡ false → (a && (b && e)) ≡ false
none_of true b e h = rw h refl
none_of false b e h = refl

pub accept_later : (r : protocol.Rules) (c : ClientState) (content : Content) (votes : List CountedVote) (proposal : Option Choice) (accepts : List ℕ)
    (from : NodeId) (x : Exec) (view : ℕ) →
    (view == 0) ≡ false → comes_prepared r c content votes proposal accepts from (Accepted x view) ≡ idle c
unfolding comes_prepared counts_accept
accept_later r c content votes None accepts from x view later = refl
accept_later r c content votes (Some d) accepts from x view later = go (sender r.replicas from)
  where
    go : (o : Option ℕ) → from_replica c (λ j. counts_accept r c content votes d accepts x view j) o ≡ idle c
    go None = refl
    go (Some j) = rw (none_of (same_exec x c.exec) (view == 0) (not (list_any (λ i. i == j) accepts)) later) refl

pub later_view : (view : ℕ) → (view ≡ 0 → ⊥) → (view == 0) ≡ false
later_view view h = grind (arith, nat_tests)

pub first_view : (view : ℕ) → view ≡ 0 → (view == 0) ≡ true
first_view view h = rw h refl

accept_unproposed : (r : protocol.Rules) (c : ClientState) (content : Content) (votes : List CountedVote) (proposal : Option Choice) (accepts : List ℕ)
    (from : NodeId) (x : Exec) (view : ℕ) →
    proposal ≡ None → comes_prepared r c content votes proposal accepts from (Accepted x view) ≡ idle c
unfolding comes_prepared
accept_unproposed r c content votes None accepts from x view is = refl
accept_unproposed r c content votes (Some d) accepts from x view is = absurd (cc)

accept_strange : (r : protocol.Rules) (c : ClientState) (content : Content) (votes : List CountedVote) (proposal : Option Choice) (accepts : List ℕ)
    (from : NodeId) (x : Exec) (view : ℕ) →
    sender r.replicas from ≡ None → comes_prepared r c content votes proposal accepts from (Accepted x view) ≡ idle c
unfolding comes_prepared
accept_strange r c content votes None accepts from x view none = refl
accept_strange r c content votes (Some d) accepts from x view none = ap (from_replica c (λ j. counts_accept r c content votes d accepts x view j)) none

accept_again : (r : protocol.Rules) (c : ClientState) (content : Content) (votes : List CountedVote) (proposal : Option Choice) (accepts : List ℕ)
    (from : NodeId) (x : Exec) (view : ℕ) (j : ℕ) →
    sender r.replicas from ≡ Some j → same_exec x c.exec ≡ true → (view == 0) ≡ true → list_any (λ i. i == j) accepts ≡ true →
    comes_prepared r c content votes proposal accepts from (Accepted x view) ≡ idle c
unfolding comes_prepared counts_accept
accept_again r c content votes None accepts from x view j of here zero accepted = refl
accept_again r c content votes (Some d) accepts from x view j of here zero accepted =
    ap (from_replica c (λ i. counts_accept r c content votes d accepts x view i)) of ∙ rw (here, zero, accepted) refl

accept_first : (r : protocol.Rules) (c : ClientState) (content : Content) (votes : List CountedVote) (d : Choice) (accepts : List ℕ) (from : NodeId) (x : Exec)
    (view : ℕ) (j : ℕ) →
    sender r.replicas from ≡ Some j → same_exec x c.exec ≡ true → (view == 0) ≡ true → list_any (λ i. i == j) accepts ≡ false →
    comes_prepared r c content votes (Some d) accepts from (Accepted x view)
    ≡ chosen r (prepared c content votes (Some d) (accepts ++ j ∷ [])) content (then_some (nat_le (quorum r.replicas) (suc (length accepts))) d)
unfolding comes_prepared counts_accept
accept_first r c content votes d accepts from x view j of here zero new =
    ap (from_replica c (λ i. counts_accept r c content votes d accepts x view i)) of ∙ rw (here, zero, new)
    (decides (nat_le (quorum r.replicas) (suc (length accepts))))
  where
    now : ClientState
    now = prepared c content votes (Some d) (accepts ++ j ∷ [])

    decides : (t : Bool) → turn_when t now (decide r now content d) ≡ chosen r now content (then_some t d)
    decides true = refl
    decides false = refl

-- a ballot with one more acceptance
stands_accepted : (g : Given) (c : ClientState) (m : Memory) (content : Content) (votes : List CountedVote) (proposal : Option Choice) (accepts : List ℕ)
    (b : Ballot) (q : Proposed) (j : ℕ) → StandsFor g c m →
    IsPrepared m b content votes proposal accepts → b.proposal ≡ Some q →
    StandsFor g (prepared c content votes (Some q.choice) (q.accepts ++ j ∷ []))
    (record m { stage = stage.Prepared (record b { proposal = Some (record q { accepts = q.accepts ++ j ∷ [] }) }) })
stands_accepted g c m content votes proposal accepts b q j s p stood = record {
  rules = s.rules;
  limits = s.limits;
  programs = s.programs;
  course = s.course;
  within = s.within;
  started = subst (λ x. HasBegun x m.course) p.at s.started;
  answers = s.answers;
  execution = s.execution;
  phase = rw (p.content, p.votes) refl;
  holds = (p.still, p.replicas);
}

pub accept_counts : (g : Given) (c : ClientState) (m : Memory) (content : Content) (votes : List CountedVote) (proposal : Option Choice) (accepts : List ℕ)
    (from : NodeId) (x : Exec) (view : ℕ) (b b' : Ballot)
    (o : Option Choice) → StandsFor g c m → c.phase ≡ Prepared content votes proposal accepts → m.stage ≡ stage.Prepared b → same_exec x c.exec ≡ true →
    (view == 0) ≡ true →
    (b.proposal ≡ None → (b' ≡ b) × (o ≡ None)) → (sender b.tally.replicas from ≡ None → (b' ≡ b) × (o ≡ None)) →
    ((q : Proposed) (j : ℕ) → b.proposal ≡ Some q → sender b.tally.replicas from ≡ Some j → list_any (λ i. i == j) q.accepts ≡ true → (b' ≡ b) × (o ≡ None)) →
    ((q : Proposed) (j : ℕ) → b.proposal ≡ Some q → sender b.tally.replicas from ≡ Some j → list_any (λ i. i == j) q.accepts ≡ false →
    (b' ≡ record b { proposal = Some (record q { accepts = q.accepts ++ j ∷ [] }) }) ×
    (o ≡ then_some (nat_le (quorum b.tally.replicas) (suc (length q.accepts))) q.choice)) →
    Leaves g content (comes_prepared g.rules c content votes proposal accepts from (Accepted x view)) (record m { stage = stage.Prepared b' })
    (λ d more. chosen g.rules d content o)
accept_counts g c m content votes proposal accepts from x view b b' o s is at here zero unproposed strange again first =
    by b.proposal (sender b.tally.replicas from) refl refl
  where
    p : IsPrepared m b content votes proposal accepts
    p = prepared_here g c m content votes proposal accepts b s is at

    n : b.tally.replicas ≡ g.rules.replicas
    n = replicas_are g c m content votes proposal accepts b s p

    nothing : (b' ≡ b) × (o ≡ None) → comes_prepared g.rules c content votes proposal accepts from (Accepted x view) ≡ idle c →
        Leaves g content (comes_prepared g.rules c content votes proposal accepts from (Accepted x view)) (record m { stage = stage.Prepared b' })
        (λ d more. chosen g.rules d content o)
    nothing same idles =
        leaves_all g c (record m { stage = stage.Prepared b' }) content votes proposal accepts
        (comes_prepared g.rules c content votes proposal accepts from (Accepted x view))
        (λ d more. chosen g.rules d content o) (subst (λ (z : Memory). StandsFor g c z) (same_stage m b b' at same.0) s) is
        (idles ∙ ap (λ q. chosen g.rules c content q) (sym same.1))

    one : (q : Proposed) (j : ℕ) (t : Bool) → b.proposal ≡ Some q → sender b.tally.replicas from ≡ Some j → list_any (λ i. i == j) q.accepts ≡ t →
        Leaves g content (comes_prepared g.rules c content votes proposal accepts from (Accepted x view)) (record m { stage = stage.Prepared b' })
        (λ d more. chosen g.rules d content o)
    one q j true stood of accepted =
        nothing (again q j stood of accepted)
        (accept_again g.rules c content votes proposal accepts from x view j (ap (λ k. sender k from) (sym n) ∙ of) here zero
        (ap (λ js. list_any (λ (i : ℕ). i == j) js) (sym p.accepts ∙ ap accepts_of stood) ∙ accepted))
    one q j false stood of new =
        let now = first q j stood of new in
        let choice : proposal ≡ Some q.choice = sym p.proposal ∙ ap choice_of stood in
        let accepters : accepts ≡ q.accepts = sym p.accepts ∙ ap accepts_of stood in
        let says : o ≡ then_some (nat_le (quorum g.rules.replicas) (suc (length q.accepts))) q.choice =
        now.1 ∙ ap (λ k. then_some (nat_le (quorum k) (suc (length q.accepts))) q.choice) n in
        record {
          now = prepared c content votes (Some q.choice) (q.accepts ++ j ∷ []);
          votes = votes;
          proposal = Some q.choice;
          accepts = q.accepts ++ j ∷ [];
          stands =
              subst (λ (d : Ballot). StandsFor g (prepared c content votes (Some q.choice) (q.accepts ++ j ∷ [])) (record m { stage = stage.Prepared d }))
              (sym now.0)
              (stands_accepted g c m content votes proposal accepts b q j s p stood);
          phase = refl;
          turn =
              ap (λ k. comes_prepared g.rules c content votes k accepts from (Accepted x view)) choice
              ∙ ap (λ js. comes_prepared g.rules c content votes (Some q.choice) js from (Accepted x view)) accepters
              ∙ accept_first g.rules c content votes q.choice q.accepts from x view j (ap (λ k. sender k from) (sym n) ∙ of) here zero new
              ∙ ap (λ k. chosen g.rules (prepared c content votes (Some q.choice) (q.accepts ++ j ∷ [])) content k) (sym says);
        }

    by : (q : Option Proposed) (k : Option ℕ) → b.proposal ≡ q → sender b.tally.replicas from ≡ k →
        Leaves g content (comes_prepared g.rules c content votes proposal accepts from (Accepted x view)) (record m { stage = stage.Prepared b' })
        (λ d more. chosen g.rules d content o)
    by None k none of = nothing (unproposed none) (accept_unproposed g.rules c content votes proposal accepts from x view (sym p.proposal ∙ ap choice_of none))
    by (Some q) None stood of = nothing (strange of)
        (accept_strange g.rules c content votes proposal accepts from x view (ap (λ k. sender k from) (sym n) ∙ of))
    by (Some q) (Some j) stood of = one q j (list_any (λ (i : ℕ). i == j) q.accepts) stood of refl
