-- A Finalize of Commit carries a content, and one of Abandon none.
use Rattle.std.proofs.Common.{◌≡◌, ℕ, ◌<◌, refl, sym, subst, List, Option, Some, None}
use Rattle.protocol.specs.Words.{Exec, NodeId, Body, Content, Choice, Abandon, ToCommit, Finalize}
use Rattle.protocol.specs.Lists.{IsIn}
use Rattle.protocol.specs.Client.State.{Rules, ClientState}
use Rattle.protocol.specs.Client.Deciding.{content_for}
use Rattle.protocol.specs.Warden.State.{Proposal}
use Rattle.protocol.specs.World.State.{Plan, World, rules}
use Rattle.protocol.specs.World.Decided.{WasSent}
use Rattle.wire.specs.Bodies.{choice_of}
use Rattle.law_steps.proofs.ClientActs.{ClientAct}
use Rattle.law_steps.proofs.ClientActs.ClientAct.{Quiet, Advances, Prepares, Counts, Proposes, Accepts, Decides, Gives_up, Learns}
use Rattle.law_steps.proofs.ClientSent.{quiet_not, in_single, in_none}
use Rattle.law_steps.proofs.Reach.{Reach, GotAt}
use Rattle.law_steps.proofs.Reach.From.{Begins, Next}
use Rattle.law_steps.proofs.Origin.{Origin, origin}
use Rattle.law_steps.proofs.Origin.Origin.{Old, Of_replica, Of_client, Of_warden}
use Rattle.law_steps.proofs.WardenFacts.{round_found}
use Rattle.law_safety.proofs.WardenEvidence.{ward_reach}
use Rattle.law_safety.proofs.ShapedBodies.{Shaped, fixed_shaped}

proposed_shaped : (k : Content) (d : Choice) → Shaped d (content_for k d)
proposed_shaped k ToCommit = tt
proposed_shaped k Abandon = tt

client_proposes : (r : Rules) (Got : NodeId → Body → Type 0) (s s' : ClientState) (sent : List Body) → ClientAct r Got s s' sent →
    (x : Exec) (v : ℕ) (d : Choice) (o : Option Content) → IsIn (Finalize x v d o) sent → Shaped d o
client_proposes r Got s s' sent (Quiet act) x v d o i = absurd (quiet_not sent _ (λ z. z) act.quiet i)
client_proposes r Got s s' sent (Advances act) x v d o i = absurd (in_none sent _ act.silent i)
client_proposes r Got s s' sent (Prepares act) x v d o i = let z = in_single sent _ _ act.sends i in cc
client_proposes r Got s s' sent (Counts act) x v d o i = absurd (in_none sent _ act.silent i)
client_proposes r Got s s' sent (Proposes act) x v d o i =
    let z = in_single sent _ _ act.sends i in
    let d_is : d ≡ act.choice = cc in
    let o_is : o ≡ content_for act.content act.choice = cc in
    subst (λ y. Shaped y o) (sym d_is) (subst (λ y. Shaped act.choice y) (sym o_is) (proposed_shaped act.content act.choice))
client_proposes r Got s s' sent (Accepts act) x v d o i = absurd (in_none sent _ act.silent i)
client_proposes r Got s s' sent (Decides act) x v d o i = let z = in_single sent _ _ act.sends i in cc
client_proposes r Got s s' sent (Gives_up act) x v d o i = let z = in_single sent _ _ act.sends i in cc
client_proposes r Got s s' sent (Learns act) x v d o i = absurd (in_none sent _ act.silent i)

pub proposal_shaped : (p : Plan) → 0 < p.replicas → (w : World) → Reach p w → (x : Exec) (v : ℕ) (d : Choice) (o : Option Content) →
    WasSent w (Finalize x v d o) → Shaped d o
proposal_shaped p pos _ Begins x v d o t = absurd t.there
proposal_shaped p pos _ (Next w w' q st) x v d o t = go (proposal_shaped p pos w q x v d o) (origin p w w' q st _ t)
  where
    go : (WasSent w (Finalize x v d o) → Shaped d o) → Origin p w w' (Finalize x v d o) → Shaped d o
    go ih (Old z) = ih z
    go ih (Of_replica r f) = absurd f
    go ih (Of_client cs i) = client_proposes (rules p cs.c) (GotAt w cs.c) (w.client cs.c) cs.state cs.sent cs.act x v d o i
    go ih (Of_warden ws a i e f) =
        let g = round_found x v (w'.warden ws.k).rounds f.1.0 f.1.1 in
        let y = ((ward_reach p pos w' (Next w w' q st) ws.k).round f.1.0 g.0).fixed (record { choice = d; content = o }) f.1.2 in
        subst (λ (z : Proposal). Shaped z.choice z.content) (sym y.0) (fixed_shaped f.1.0.tolds)

-- such a choice is the one that a frame tells by its content
pub shaped_choice : (d : Choice) (o : Option Content) → Shaped d o → d ≡ choice_of o
shaped_choice ToCommit (Some k) s = refl
shaped_choice ToCommit None s = absurd s
shaped_choice Abandon None s = refl
shaped_choice Abandon (Some k) s = absurd s
