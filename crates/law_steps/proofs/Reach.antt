-- The worlds that events lead to are among those that small steps lead to.
use Rattle.std.proofs.Common.{◌≡◌, ℕ, refl, ap, sym, ◌∙◌, subst, true, false, Bool, cond, List, [], ◌∷◌, ◌++◌, length, append_assoc}
use Rattle.std.specs.Prelude.{flat_map, ◌==◌}
use Rattle.std.proofs.Math.Path.{fun_ext}
use Rattle.std.proofs.lemmas.List.{append-nil}
use Rattle.std.proofs.lemmas.Grind.{flat_map-append}
use Rattle.protocol.specs.Words.{NodeId, Client, Warden, Envelope, Body, Event}
use Rattle.protocol.specs.Lists.{IsIn}
use Rattle.protocol.specs.Client.State.{Rules, ClientState}
use Rattle.protocol.specs.Client.Step.{Input}
use Rattle.protocol.specs.Client.Step.Input.{Goes, Runs, Hurries, Comes}
use Rattle.protocol.specs.World.State.{Plan, World, in_range, rules, warden_rules, first_world}
use Rattle.protocol.specs.World.Events.{at, to_all, parcel, after, replay_from}
use Rattle.protocol.specs.World.Steps.{Happens, Stayed, ByReplica, Came, Heard}
use Rattle.protocol.specs.Warden.State.{WardenRules, WardenState, Parcel}
use Rattle.protocol.specs.Warden.Step.{WardenInput}
use Rattle.protocol.specs.Warden.Step.WardenInput.{Recovers, Truncates, Hears}
use Rattle.protocol.specs.World.Steps.Happens.{Stays, Client_moves, Replica_moves, Warden_moves}
use Rattle.protocol.proofs.ListsLemmas.{IsIn-left, at_same, at_cases}
use Rattle.protocol.proofs.EventSteps.{after_happens}
use Rattle.law_steps.proofs.ClientActs.{ClientAct, TryStep, WriteStep, Chain}
use Rattle.law_steps.proofs.ClientChain.{client_chain, CameTo}
use Rattle.law_steps.proofs.ClientActs.ClientAct.{Quiet, Advances, Prepares, Counts, Proposes, Accepts, Decides, Gives_up, Learns}
use Rattle.law_steps.proofs.ClientActs.Chain.{Start, Then}
use Rattle.law_steps.proofs.WardenActs.{WardenAct, WardenChain, warden_acts, HeardBy}
use Rattle.law_steps.proofs.WardenActs.WardenAct.{Rests, Asks, Counts_told, Counts_accepted, Begins_truncation, Counts_fenced, Ends_truncation}
use Rattle.law_steps.proofs.WardenActs.WardenChain.{Start as Wards_start, Then as Wards_then}

-- an envelope that was sent to client c
abbrev pub GotAt : World → ℕ → NodeId → Body → Type 0
GotAt w c from b = (m : Envelope) × IsIn m w.mail × (m.to ≡ Client c) × (m.from ≡ from) × (m.body ≡ b)

pub record ByClientAct (p : Plan) (w w' : World) : Type 0 where
  pub c : ℕ
  pub real : in_range c (length p.clients) ≡ true
  pub state : ClientState
  pub sent : List Body
  pub act : ClientAct (rules p c) (GotAt w c) (w.client c) state sent
  pub tries : TryStep (w.client c) state
  pub writes : WriteStep (rules p c) (w.client c) state sent
  pub client : w'.client ≡ at c state w.client
  pub replica : w'.replica ≡ w.replica
  pub warden : w'.warden ≡ w.warden
  pub mail : w'.mail ≡ w.mail ++ flat_map (to_all p.replicas (Client c)) sent

abbrev pub HeardAt : World → ℕ → NodeId → Body → Type 0
HeardAt w k from b = (m : Envelope) × IsIn m w.mail × (m.to ≡ Warden k) × (m.from ≡ from) × (m.body ≡ b)

pub record ByWardenAct (p : Plan) (w w' : World) : Type 0 where
  pub k : ℕ
  pub real : in_range k p.wardens ≡ true
  pub state : WardenState
  pub sent : List Parcel
  pub act : WardenAct (warden_rules p k) (HeardAt w k) (w.warden k) state sent
  pub client : w'.client ≡ w.client
  pub replica : w'.replica ≡ w.replica
  pub warden : w'.warden ≡ at k state w.warden
  pub mail : w'.mail ≡ w.mail ++ flat_map (parcel p.replicas (Warden k)) sent

-- the small steps of a world
pub data Step (p : Plan) (w w' : World) : Type 0 where
  Stands : Stayed w w' → Step p w w'
  Client_acts : ByClientAct p w w' → Step p w w'
  Replica_acts : ByReplica p w w' → Step p w w'
  Warden_acts : ByWardenAct p w w' → Step p w w'

-- the worlds that small steps lead to
pub data From (p : Plan) (o : World) : World → Type 0 where
  Begins : From p o o
  Next : (w w' : World) → From p o w → Step p w w' → From p o w'

abbrev pub Reach : Plan → World → Type 0
Reach p w = From p first_world w

pub from_trans : (p : Plan) (o v w : World) → From p o v → From p v w → From p o w
from_trans p o v _ a Begins = a
from_trans p o v _ a (Next w w' b s) = Next w w' (from_trans p o v w a b) s

-- the evidence of an act holds in a world with more mail
act_grows : (r : Rules) (G H : NodeId → Body → Type 0) → ((n : NodeId) (b : Body) → G n b → H n b) → (c c' : ClientState) (sent : List Body) →
    ClientAct r G c c' sent → ClientAct r H c c' sent
act_grows r G H f c c' sent (Quiet act) = Quiet act
act_grows r G H f c c' sent (Advances act) = Advances act
act_grows r G H f c c' sent (Prepares act) = Prepares act
act_grows r G H f c c' sent (Counts act) = Counts (record { content = act.content; votes = act.votes; accepts = act.accepts; replica = act.replica; vote = act.vote; before = act.before; got = f _ _ act.got; range = act.range; fresh = act.fresh; exec = act.exec; decisions = act.decisions; phase = act.phase; silent = act.silent })
act_grows r G H f c c' sent (Proposes act) = Proposes act
act_grows r G H f c c' sent (Accepts act) = Accepts (record { content = act.content; votes = act.votes; choice = act.choice; accepts = act.accepts; replica = act.replica; before = act.before; got = f _ _ act.got; range = act.range; fresh = act.fresh; exec = act.exec; decisions = act.decisions; phase = act.phase; silent = act.silent })
act_grows r G H f c c' sent (Decides act) = Decides act
act_grows r G H f c c' sent (Gives_up act) = Gives_up act
act_grows r G H f c c' sent (Learns act) = Learns (record { warden = act.warden; choice = act.choice; content = act.content; under_way = act.under_way; got = f _ _ act.got; exec = act.exec; decisions = act.decisions; phase = act.phase; silent = act.silent })

-- the world in which client c is in state s and has sent these
part_way : Plan → World → ℕ → ClientState → List Body → World
part_way p w c s sent = record { client = at c s w.client; replica = w.replica; warden = w.warden; mail = w.mail ++ flat_map (to_all p.replicas (Client c)) sent; delivered = w.delivered; stopped = w.stopped; moved = w.moved }

at_twice : {A : Type 0} (k : ℕ) (a b : A) (f : ℕ → A) → at k b f ≡ at k b (at k a f)
at_twice k a b f = fun_ext (λ j. go j (j == k))
  where
    go : (j : ℕ) (t : Bool) → cond t b (f j) ≡ cond t b (cond t a (f j))
    go j true = refl
    go j false = refl

at_itself : {A : Type 0} (k : ℕ) (f : ℕ → A) → at k (f k) f ≡ f
at_itself k f = fun_ext (λ j. at_cases (λ a. a ≡ f j) k (f k) f j (λ e. ap f (sym e)) refl)

module _ (p : Plan) (o w : World) (c : ℕ) (real : in_range c (length p.clients) ≡ true) (r : From p o w) where
  chain_reach : (s : ClientState) (sent : List Body) → Chain (rules p c) (GotAt w c) (w.client c) s sent → From p o (part_way p w c s sent)
  unfolding part_way
  chain_reach s sent Start = Next w _ r (Stands (record { client = at_itself c w.client; replica = refl; warden = refl; mail = append-nil w.mail }))
  chain_reach s sent (Then c1 c2 s1 s2 chain act tries writes) =
      Next (part_way p w c c1 s1) _ (chain_reach c1 s1 chain) (Client_acts (record {
        c = c;
        real = real;
        state = c2;
        sent = s2;
        act = subst (λ z. ClientAct (rules p c) (GotAt (part_way p w c c1 s1) c) z c2 s2) (sym (at_same c c1 w.client))
            (act_grows (rules p c) (GotAt w c) (GotAt (part_way p w c c1 s1) c) (λ n b g. (g.0, IsIn-left g.0 w.mail _ g.1, g.2, g.3, g.4)) c1 c2 s2 act);
        tries = subst (λ z. TryStep z c2) (sym (at_same c c1 w.client)) tries;
        writes = subst (λ z. WriteStep (rules p c) z c2 s2) (sym (at_same c c1 w.client)) writes;
        client = at_twice c c1 c2 w.client;
        replica = refl;
        warden = refl;
        mail = ap (λ l. w.mail ++ l) (flat_map-append (to_all p.replicas (Client c)) s1 s2) ∙ sym (append_assoc w.mail _ _);
      }))

came_is : (p : Plan) (w : World) (c : ℕ) (i : Input) → Came w (Client c) i → CameTo (rules p c) (GotAt w c) i
came_is p w c (Comes from b) h = h
came_is p w c Goes h = tt
came_is p w c Runs h = tt
came_is p w c Hurries h = tt

heard_is : (p : Plan) (w : World) (k : ℕ) (i : WardenInput) → Heard w (Warden k) i → HeardBy (warden_rules p k) (HeardAt w k) i
heard_is p w k (Hears from b) h = h
heard_is p w k (Recovers x) h = tt
heard_is p w k (Truncates v) h = tt

-- the same of a warden's acts
warden_act_grows : (r : WardenRules) (G H : NodeId → Body → Type 0) → ((n : NodeId) (b : Body) → G n b → H n b) → (s s' : WardenState) (sent : List Parcel) →
    WardenAct r G s s' sent → WardenAct r H s s' sent
warden_act_grows r G H f s s' sent (Rests act) = Rests act
warden_act_grows r G H f s s' sent (Asks act) = Asks act
warden_act_grows r G H f s s' sent (Counts_told act) = Counts_told (record { exec = act.exec; view = act.view; told = act.told; round = act.round; proposal = act.proposal; found = act.found; unproposed = act.unproposed; got = f _ _ act.got; range = act.range; fresh = act.fresh; state = act.state; outcome = act.outcome })
warden_act_grows r G H f s s' sent (Counts_accepted act) = Counts_accepted (record { exec = act.exec; view = act.view; replica = act.replica; round = act.round; proposal = act.proposal; found = act.found; proposed = act.proposed; got = f _ _ act.got; range = act.range; fresh = act.fresh; rounds = act.rounds; truncations = act.truncations; outcome = act.outcome })
warden_act_grows r G H f s s' sent (Begins_truncation act) = Begins_truncation act
warden_act_grows r G H f s s' sent (Counts_fenced act) = Counts_fenced (record { truncation = act.truncation; rest = act.rest; answer = act.answer; truncations = act.truncations; got = f _ _ act.got; range = act.range; fresh = act.fresh; state = act.state; silent = act.silent })
warden_act_grows r G H f s s' sent (Ends_truncation act) = Ends_truncation act

-- the world in which warden k is in state s and has sent these
ward_way : Plan → World → ℕ → WardenState → List Parcel → World
ward_way p w k s sent = record { client = w.client; replica = w.replica; warden = at k s w.warden; mail = w.mail ++ flat_map (parcel p.replicas (Warden k)) sent; delivered = w.delivered; stopped = w.stopped; moved = w.moved }

module _ (p : Plan) (o w : World) (k : ℕ) (real : in_range k p.wardens ≡ true) (r : From p o w) where
  wchain_reach : (s : WardenState) (sent : List Parcel) → WardenChain (warden_rules p k) (HeardAt w k) (w.warden k) s sent → From p o (ward_way p w k s sent)
  unfolding ward_way
  wchain_reach s sent Wards_start = Next w _ r (Stands (record { client = refl; replica = refl; warden = at_itself k w.warden; mail = append-nil w.mail }))
  wchain_reach s sent (Wards_then s1 s2 p1 p2 chain act) =
      Next (ward_way p w k s1 p1) _ (wchain_reach s1 p1 chain) (Warden_acts (record {
        k = k;
        real = real;
        state = s2;
        sent = p2;
        act = subst (λ z. WardenAct (warden_rules p k) (HeardAt (ward_way p w k s1 p1) k) z s2 p2) (sym (at_same k s1 w.warden))
            (warden_act_grows (warden_rules p k) (HeardAt w k) (HeardAt (ward_way p w k s1 p1) k) (λ n b g. (g.0, IsIn-left g.0 w.mail _ g.1, g.2, g.3, g.4)) s1 s2 p2 act);
        client = refl;
        replica = refl;
        warden = at_twice k s1 s2 w.warden;
        mail = ap (λ l. w.mail ++ l) (flat_map-append (parcel p.replicas (Warden k)) p1 p2) ∙ sym (append_assoc w.mail _ _);
      }))

pub happens_reach : (p : Plan) (o w w' : World) → From p o w → Happens p w w' → From p o w'
unfolding part_way ward_way
happens_reach p o w w' r (Stays s) = Next w w' r (Stands s)
happens_reach p o w w' r (Replica_moves s) = Next w w' r (Replica_acts s)
happens_reach p o w w' r (Warden_moves s) =
    Next (ward_way p w s.k s.turn.state s.turn.sent) w'
    (wchain_reach p o w s.k s.real r s.turn.state s.turn.sent (warden_acts (warden_rules p s.k) (HeardAt w s.k) (w.warden s.k) s.input s.turn (heard_is p w s.k s.input s.came) s.step))
    (Stands (record { client = s.client; replica = s.replica; warden = s.warden; mail = s.mail }))
happens_reach p o w w' r (Client_moves s) =
    Next (part_way p w s.c s.turn.state s.turn.sent) w'
    (chain_reach p o w s.c s.real r s.turn.state s.turn.sent (client_chain (rules p s.c) (GotAt w s.c) (w.client s.c) s.input s.turn (came_is p w s.c s.input s.came) s.step))
    (Stands (record { client = s.client; replica = s.replica; warden = s.warden; mail = s.mail }))

-- every world of a list of events is reached
pub events_reach : (p : Plan) (o w : World) → From p o w → (events : List Event) → From p o (replay_from p w events)
events_reach p o w r [] = r
events_reach p o w r (e ∷ events) = events_reach p o (after p w e) (happens_reach p o w (after p w e) r (after_happens p w e)) events
