-- What recovery hears of an envelope, by cases.
use Rattle.std.proofs.Common.{◌≡◌, ℕ, Bool, true, false, cond, Option, Some, None, refl, ap, ◌∙◌}
use Rattle.std.specs.Prelude.{is_none}
use Rattle.protocol.specs.Words.{Exec, NodeId, Vote, Choice, Accept, Content, Body, Accepted, Told}
use Rattle.protocol.specs.Client.Counting.{sender}
use Rattle.protocol.specs.Warden.State.{WardenRules, WardenState, WardenTurn, decision_on, still}
use Rattle.protocol.specs.Warden.Recovery.{recovery_hears, heard, take_told, take_accept, round_of}

heard_nobody : (s : WardenState) (f : ℕ → WardenTurn) (b : Bool) (o : Option ℕ) → o ≡ None → cond b (heard s f o) (still s) ≡ still s
heard_nobody s f false o e = refl
heard_nobody s f true o e = ap (λ k. heard s f k) e

-- from no replica nothing counts
pub hears_nobody : (r : WardenRules) (s : WardenState) (from : NodeId) (b : Body) → sender r.replicas from ≡ None → recovery_hears r s from b ≡ still s
unfolding recovery_hears
hears_nobody r s from (Told x v vote accepted decided content) e = heard_nobody s _ (is_none (decision_on s x)) (sender r.replicas from) e
hears_nobody r s from (Accepted x v) e = heard_nobody s _ (is_none (decision_on s x)) (sender r.replicas from) e
hears_nobody r s from _ e = refl

heard_decided : (s : WardenState) (f : ℕ → WardenTurn) (b : Bool) (o : Option ℕ) → b ≡ false → cond b (heard s f o) (still s) ≡ still s
heard_decided s f b o e = ap (λ c. cond c (heard s f o) (still s)) e

heard_one : (s : WardenState) (f : ℕ → WardenTurn) (b : Bool) (o : Option ℕ) (k : ℕ) → b ≡ true → o ≡ Some k → cond b (heard s f o) (still s) ≡ f k
heard_one s f b o k e h = ap (λ c. cond c (heard s f o) (still s)) e ∙ ap (λ j. heard s f j) h

pub hears_decided_told : (r : WardenRules) (s : WardenState) (from : NodeId) (x : Exec) (v : ℕ) (vote : Option Vote) (accepted : Option Accept) (decided : Option Choice) (content : Option Content)
    → is_none (decision_on s x) ≡ false → recovery_hears r s from (Told x v vote accepted decided content) ≡ still s
unfolding recovery_hears
hears_decided_told r s from x v vote accepted decided content e = heard_decided s _ _ (sender r.replicas from) e

pub hears_decided_accepted : (r : WardenRules) (s : WardenState) (from : NodeId) (x : Exec) (v : ℕ) → is_none (decision_on s x) ≡ false → recovery_hears r s from (Accepted x v) ≡ still s
unfolding recovery_hears
hears_decided_accepted r s from x v e = heard_decided s _ _ (sender r.replicas from) e

pub hears_told : (r : WardenRules) (s : WardenState) (from : NodeId) (x : Exec) (v k : ℕ) (vote : Option Vote) (accepted : Option Accept) (decided : Option Choice) (content : Option Content)
    → is_none (decision_on s x) ≡ true → sender r.replicas from ≡ Some k
    → recovery_hears r s from (Told x v vote accepted decided content)
    ≡ take_told r s x v (record { replica = k; vote = vote; accepted = accepted; decided = decided; content = content }) (round_of x v s.rounds)
unfolding recovery_hears
hears_told r s from x v k vote accepted decided content e h = heard_one s _ _ (sender r.replicas from) k e h

pub hears_accepted : (r : WardenRules) (s : WardenState) (from : NodeId) (x : Exec) (v k : ℕ) → is_none (decision_on s x) ≡ true → sender r.replicas from ≡ Some k
    → recovery_hears r s from (Accepted x v) ≡ take_accept r s x v k (round_of x v s.rounds)
unfolding recovery_hears
hears_accepted r s from x v k e h = heard_one s _ _ (sender r.replicas from) k e h

-- nothing else counts
pub hears_other : (r : WardenRules) (s : WardenState) (from : NodeId) (b : Body)
    → ((x : Exec) (v : ℕ) (vote : Option Vote) (accepted : Option Accept) (decided : Option Choice) (content : Option Content) → b ≡ Told x v vote accepted decided content → ⊥)
    → ((x : Exec) (v : ℕ) → b ≡ Accepted x v → ⊥) → recovery_hears r s from b ≡ still s
unfolding recovery_hears
hears_other r s from (Told x v vote accepted decided content) h k = absurd (h x v vote accepted decided content refl)
hears_other r s from (Accepted x v) h k = absurd (k x v refl)
hears_other r s from _ h k = refl
