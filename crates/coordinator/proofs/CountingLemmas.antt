-- What a client proposes and decides on what it counted, and what is left to do once it counted.
use Rattle.std.proofs.Common.{◌≡◌, ℕ, List, [], ◌∷◌, Option, Some, refl, ap, sym, subst, ◌∙◌}
use Rattle.protocol.specs.Words.{Choice, Content, Body, Finalize, Decide}
use Rattle.protocol.specs.Client.State as protocol
use Rattle.protocol.specs.Client.State.{ClientState, CountedVote, Turn}
use Rattle.protocol.specs.Client.State.Phase.{Prepared}
use Rattle.protocol.specs.Client.Deciding.{conclude, content_for, decide}
use Rattle.protocol.specs.Client.Counting.{hurried, propose}
use Rattle.coordinator.specs.declared.memory.Ballot.{Ballot}
use Rattle.coordinator.specs.declared.memory.Stage.{Stage}
use Rattle.coordinator.specs.declared.memory.Stage.TheVariants as stage
use Rattle.coordinator.specs.declared.memory.Memory.{Memory}
use Rattle.coordinator.specs.Memory.{Given, HasBegun, StandsFor, Takes}
use Rattle.coordinator.specs.Counting.{Leaves}
use Rattle.coordinator.proofs.DecidingLemmas.{IsPrepared, exec_is, prepared_so}

same_ballot : (x : Stage) (b d : Ballot) → x ≡ stage.Prepared b → x ≡ stage.Prepared d → d ≡ b
same_ballot x b d e f = let both : stage.Prepared b ≡ stage.Prepared d = sym e ∙ f in cc

pub content_there : (g : Given) (c : ClientState) (m : Memory) (content : Content) (votes : List CountedVote) (proposal : Option Choice) (accepts : List ℕ)
    (d : Ballot) (choice : Choice) →
    StandsFor g c m → c.phase ≡ Prepared content votes proposal accepts → m.stage ≡ stage.Prepared d → content_for d.content choice ≡ content_for content choice
content_there g c m content votes proposal accepts d choice s is at =
    let p = prepared_so g c m content votes proposal accepts s is in
    ap (λ (b : Ballot). content_for b.content choice) (same_ballot m.stage p.0 d p.1.at at) ∙ ap (λ k. content_for k choice) p.1.content

pub hurried_there : (g : Given) (c : ClientState) (m : Memory) (content : Content) (votes : List CountedVote) (proposal : Option Choice) (accepts : List ℕ)
    (d : Ballot) → StandsFor g c m → c.phase ≡ Prepared content votes proposal accepts → m.stage ≡ stage.Prepared d →
    hurried d.tally.replicas d.tally.votes ≡ hurried g.rules.replicas votes
hurried_there g c m content votes proposal accepts d s is at =
    let p = prepared_so g c m content votes proposal accepts s is in
    ap (λ (b : Ballot). hurried b.tally.replicas b.tally.votes) (same_ballot m.stage p.0 d p.1.at at)
    ∙ ap (λ n. hurried n p.0.tally.votes) (p.1.replicas ∙ sym (ap (λ (r : protocol.Rules). r.replicas) s.rules))
    ∙ ap (λ vs. hurried g.rules.replicas vs) p.1.votes

pub not_elsewhere : (g : Given) (c : ClientState) (m : Memory) (content : Content) (votes : List CountedVote) (proposal : Option Choice) (accepts : List ℕ) →
    StandsFor g c m → c.phase ≡ Prepared content votes proposal accepts → ((b : Ballot) → m.stage ≡ stage.Prepared b → ⊥) → ⊥
not_elsewhere g c m content votes proposal accepts s is none = let p = prepared_so g c m content votes proposal accepts s is in none p.0 p.1.at

pub proposes : (g : Given) (c : ClientState) (m m' : Memory) (content : Content) (votes : List CountedVote) (proposal : Option Choice) (accepts : List ℕ)
    (choice : Choice) (k : Option Content) (out : List Body) →
    StandsFor g c m → c.phase ≡ Prepared content votes proposal accepts → k ≡ content_for content choice →
    ((b : Ballot) → m.stage ≡ stage.Prepared b → m' ≡ record m { stage = stage.Prepared (record b { proposal = Some (record { choice = choice; accepts = [] }) }) }) →
    out ≡ Finalize m'.course.exec 0 choice k ∷ [] → Takes g (propose c content votes choice) m' out
unfolding propose
proposes g c m m' content votes proposal accepts choice k out s is same put sent =
    let p = prepared_so g c m content votes proposal accepts s is in
    let b = p.0 in
    let new = put b p.1.at in
    subst (λ (x : Memory). Takes g (propose c content votes choice) x out) (sym new)
    (record {
      state = record {
        rules = s.rules;
        limits = s.limits;
        programs = s.programs;
        course = s.course;
        within = s.within;
        started = subst (λ x. HasBegun x m.course) p.1.at s.started;
        answers = s.answers;
        execution = s.execution;
        phase = rw (p.1.content, p.1.votes) refl;
        holds = (p.1.still, p.1.replicas);
      };
      sent = sent ∙ ap (λ (x : Memory). Finalize x.course.exec 0 choice k ∷ []) new ∙ ap (λ x. Finalize x 0 choice k ∷ []) (sym (exec_is g c m s))
          ∙ ap (λ o. Finalize c.exec 0 choice o ∷ []) same;
    })

pub decides : (g : Given) (c : ClientState) (m m' : Memory) (content : Content) (choice : Choice) (k : Option Content) (sent out : List Body) →
    StandsFor g c m → k ≡ content_for content choice → sent ≡ Decide m.course.exec choice k ∷ [] → Takes g (conclude g.rules c choice sent) m' out →
    Takes g (decide g.rules c content choice) m' out
unfolding decide
decides g c m m' content choice k sent out s same is takes =
    subst (λ bs. Takes g (conclude g.rules c choice bs) m' out)
    (is ∙ ap (λ x. Decide x choice k ∷ []) (sym (exec_is g c m s)) ∙ ap (λ o. Decide c.exec choice o ∷ []) same) takes

-- ---- what is counted

-- the ballot at the stage is the one that is prepared
pub prepared_here : (g : Given) (c : ClientState) (m : Memory) (content : Content) (votes : List CountedVote) (proposal : Option Choice) (accepts : List ℕ)
    (b : Ballot) → StandsFor g c m →
    c.phase ≡ Prepared content votes proposal accepts → m.stage ≡ stage.Prepared b → IsPrepared m b content votes proposal accepts
prepared_here g c m content votes proposal accepts b s is at =
    let p = prepared_so g c m content votes proposal accepts s is in
    subst (λ d. IsPrepared m d content votes proposal accepts) (sym (same_ballot m.stage p.0 b p.1.at at)) p.1

-- where nothing happened, all is left
pub leaves_all : (g : Given) (c : ClientState) (m : Memory) (content : Content) (votes : List CountedVote) (proposal : Option Choice) (accepts : List ℕ)
    (t : Turn) (left : ClientState → List CountedVote → Turn) → StandsFor g c m → c.phase ≡ Prepared content votes proposal accepts → t ≡ left c votes →
    Leaves g content t m left
leaves_all g c m content votes proposal accepts t left s is same = record {
  now = c;
  votes = votes;
  proposal = proposal;
  accepts = accepts;
  stands = s;
  phase = is;
  turn = same;
}

-- the ballot did not change
pub same_stage : (m : Memory) (b b' : Ballot) → m.stage ≡ stage.Prepared b → b' ≡ b → m ≡ record m { stage = stage.Prepared b' }
same_stage m b b' at same = ap (λ x. record m { stage = x }) (at ∙ ap (λ d. stage.Prepared d) (sym same))

-- as many replicas vote as the rules have
pub replicas_are : (g : Given) (c : ClientState) (m : Memory) (content : Content) (votes : List CountedVote) (proposal : Option Choice) (accepts : List ℕ)
    (b : Ballot) → StandsFor g c m →
    IsPrepared m b content votes proposal accepts → b.tally.replicas ≡ g.rules.replicas
replicas_are g c m content votes proposal accepts b s p = p.replicas ∙ sym (ap (λ (r : protocol.Rules). r.replicas) s.rules)
