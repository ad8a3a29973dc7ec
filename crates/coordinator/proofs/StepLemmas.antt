-- The steps of a client, and what a coordinator that took one is.
use Rattle.std.proofs.Common.{◌≡◌, ℕ, Bool, true, false, List, ◌++◌, Some, None, refl, ap, sym, ◌∙◌}
use Rattle.std.specs.Prelude.{flat_map}
use Rattle.protocol.specs.Words.{Body, Client, Content, Envelope}
use Rattle.protocol.specs.Client.Counting.{hurried, propose}
use Rattle.protocol.specs.Client.State as protocol
use Rattle.protocol.specs.Client.State.{ClientState, CountedVote, Phase, Turn}
use Rattle.protocol.specs.Client.State.Phase.{Between, Running, Prepared}
use Rattle.protocol.specs.Client.Attempts.{ran}
use Rattle.protocol.specs.Client.Step.{client_step, on_hurry, on_ran}
use Rattle.protocol.specs.Client.Step.Input.{Runs, Hurries}
use Rattle.protocol.specs.World.Events.{to_all}
use Rattle.coordinator.specs.Memory.{Given, Takes}
use Rattle.coordinator.specs.Coordinator.{Does}
use Rattle.coordinator.specs.declared.memory.Memory.{Memory}

-- a segment can be given back while a job is pending
pub runs_step : (r : protocol.Rules) (c : ClientState) (t : Turn) → client_step r c Runs ≡ Some t →
    (given : Bool) × (c.phase ≡ Running true given) × (t ≡ ran r c given)
unfolding client_step on_ran
runs_step r c t e = case c.phase refl e
  where
    case : (p : Phase) → c.phase ≡ p → on_ran r c p ≡ Some t → (given : Bool) × (c.phase ≡ Running true given) × (t ≡ ran r c given)
    case Between is e = absurd (cc)
    case (Running true given) is e = (given, is, let same : ran r c given ≡ t = cc in sym same)
    case (Running false given) is e = absurd (cc)
    case (Prepared content votes proposal accepts) is e = absurd (cc)

-- a turn that is taken, and sent
pub does : (g : Given) (t : Turn) (m : Memory) (bodies sent : List Body) (before after : List Envelope) → Takes g t m bodies → sent ≡ bodies →
    after ≡ before ++ flat_map (to_all m.plan.rules.replicas (Client m.plan.client)) sent → Does g t (record { memory = m; broken = false }) before after
does g t m bodies sent before after takes same is = record {
  state = record { memory = takes.state; whole = refl };
  sent =
      is ∙ ap (λ bs. before ++ flat_map (to_all m.plan.rules.replicas (Client m.plan.client)) bs) (same ∙ takes.sent)
      ∙ ap (λ (r : protocol.Rules). before ++ flat_map (to_all r.replicas (Client r.client)) t.sent) (sym takes.state.rules);
}

-- a client can hurry while prepared, until it proposed
pub hurries_step : (r : protocol.Rules) (c : ClientState) (t : Turn) → client_step r c Hurries ≡ Some t →
    (content : Content) × (votes : List CountedVote) × (accepts : List ℕ) × (c.phase ≡ Prepared content votes None accepts) × (t ≡ propose c content votes (hurried r.replicas votes))
unfolding client_step on_hurry
hurries_step r c t e = case c.phase refl e
  where
    case : (p : Phase) → c.phase ≡ p → on_hurry r c p ≡ Some t →
        (content : Content) × (votes : List CountedVote) × (accepts : List ℕ) × (c.phase ≡ Prepared content votes None accepts) × (t ≡ propose c content votes (hurried r.replicas votes))
    case Between is e = absurd (cc)
    case (Running pending given) is e = absurd (cc)
    case (Prepared content votes None accepts) is e =
        (content, votes, accepts, is, let same : propose c content votes (hurried r.replicas votes) ≡ t = cc in sym same)
    case (Prepared content votes (Some d) accepts) is e = absurd (cc)
