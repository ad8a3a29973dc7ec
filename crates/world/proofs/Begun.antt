-- A client that has begun no transaction has done nothing; and Go begins an attempt, which is listed.
use Rattle.std.proofs.Common.{◌≡◌, ◌≢◌, ℕ, ◌<◌, ◌+◌, Bool, true, false, List, ◌∷◌, Option, Some, None, refl, sym, ap, ◌∙◌, subst, arith}
use Rattle.std.specs.Prelude.{zero, suc, cond, ◌==◌, ◌&&◌, nat_lt, option_map, length}
use Rattle.std.specs.Bool.{then_some}
use Rattle.protocol.specs.Words.{Client, Event}
use Rattle.protocol.specs.declared.Fate.{Fate}
use Rattle.protocol.specs.declared.Fate.TheVariants.{Unbegun, Live, Aborted, Committed}
use Rattle.protocol.specs.Client.State.{Attempt, ClientState, Phase, Rules, Turn, fresh_client, idle}
use Rattle.protocol.specs.Client.State.Phase.{Between, Running, Prepared}
use Rattle.protocol.specs.Client.Attempts.{begin, can_go, go, has_pending, is_aborted, tries_again}
use Rattle.protocol.specs.Client.Step.{Input, client_step, comes, on_hurry, on_ran}
use Rattle.protocol.specs.Client.Step.Input.{Goes, Runs, Hurries, Comes}
use Rattle.protocol.specs.World.State.{Plan, World, exists, first_world, rules}
use Rattle.protocol.specs.World.Events.{at, Move, client_moves, client_input, replay_from}
use Rattle.protocol.specs.World.Steps.{Happens}
use Rattle.protocol.specs.World.Steps.Happens.{Stays, Client_moves, Replica_moves, Warden_moves}
use Rattle.protocol.proofs.TestLemmas.{eqb_is}
use Rattle.protocol.proofs.ListsLemmas.{at_same, at_other}
use Rattle.protocol.proofs.EventSteps.{always}
use Rattle.world.specs.World.{IsIdle, AreIdle}
use Rattle.world.proofs.AttemptsKept.{attempts_kept}

some_is : {A : Type 0} {a b : A} → Some a ≡ Some b → a ≡ b
some_is e = cc

then_is : {A : Type 0} (t : Bool) (a b : A) → then_some t a ≡ Some b → a ≡ b
then_is true a b e = cc
then_is false a b e = cc

-- what Go makes of a client
pub record HasGone (r : Rules) (c c' : ClientState) : Type 0 where
  pub attempts : c'.attempts ≡ record { ver = c'.exec.ver; txn = c'.begun; try = c'.try } ∷ c.attempts
  pub client : c'.exec.ver.client ≡ r.client
  pub begun : 0 < c'.begun

begins : (r : Rules) (c : ClientState) (begun try : ℕ) → 0 < begun → HasGone r c (begin r c begun try)
unfolding begin
begins r c begun try some = record { attempts = refl; client = refl; begun = some }

begun_some : (c : ClientState) → IsIdle c → is_aborted c.fate ≡ true → 0 < c.begun
begun_some c idle aborted = go c.begun refl
  where
    go : (n : ℕ) → c.begun ≡ n → 0 < n
    go zero e = absurd (let f : true ≡ false = sym aborted ∙ idle.fate e in cc)
    go (suc n) e = omega arith

goes : (r : Rules) (c : ClientState) → IsIdle c → HasGone r c (go r c).state
unfolding go
goes r c is = by (tries_again r c) refl
  where
    aborted : (t u : Bool) → (t && u) ≡ true → t ≡ true
    aborted true u e = refl
    aborted false u e = e

    by : (t : Bool) → tries_again r c ≡ t → HasGone r c (cond t (begin r c c.begun (c.try + 1)) (begin r c (c.begun + 1) 1))
    by true e = begins r c c.begun (c.try + 1) (begun_some c is (aborted (is_aborted c.fate) (nat_lt c.try r.tries) e))
    by false e = begins r c (c.begun + 1) 1 (omega arith)

gone : (r : Rules) (c : ClientState) (t : Turn) → IsIdle c → client_step r c Goes ≡ Some t → HasGone r c t.state
unfolding client_step
gone r c t is e = subst (λ u. HasGone r c u.state) (then_is (can_go r c) (go r c) t e) (goes r c is)

-- between attempts only Go does something
nothing : (r : Rules) (c : ClientState) (i : Input) (t : Turn) → i ≢ Goes → c.phase ≡ Between → client_step r c i ≡ Some t → t.state ≡ c
unfolding client_step comes on_ran on_hurry
nothing r c Goes t other e s = absurd (other refl)
nothing r c Runs t other e s = let q : on_ran r c Between ≡ Some t = ap (on_ran r c) (sym e) ∙ s in cc
nothing r c Hurries t other e s = let q : on_hurry r c Between ≡ Some t = ap (on_hurry r c) (sym e) ∙ s in cc
nothing r c (Comes from b) t other e s =
    let q : comes r c Between from b ≡ t = ap (λ p. comes r c p from b) (sym e) ∙ some_is s in
    ap (λ u. u.state) (sym q)

-- a client stays so with each turn
turn_idle : (r : Rules) (c : ClientState) (i : Input) (t : Turn) → IsIdle c → client_step r c i ≡ Some t → IsIdle t.state
turn_idle r c Goes t is s =
    let some = (gone r c t is s).begun in
    record { fate = λ z. absurd (omega (arith, some, z)); phase = λ z. absurd (omega (arith, some, z)) }
turn_idle r c i t is s = record {
  fate = λ z. let q = same (λ e. cc) z in ap (λ u. is_aborted u.fate) q ∙ is.fate (was (λ e. cc) z);
  phase = λ z. let q = same (λ e. cc) z in ap (λ u. u.phase) q ∙ is.phase (was (λ e. cc) z);
}
  where
    was : i ≢ Goes → t.state.begun ≡ 0 → c.begun ≡ 0
    was other z = sym (attempts_kept r c i t other s).1 ∙ z

    same : i ≢ Goes → t.state.begun ≡ 0 → t.state ≡ c
    same other z = nothing r c i t other (is.phase (was other z)) s

stays_idle : (p : Plan) (w w' : World) → Happens p w w' → AreIdle w → AreIdle w'
stays_idle p w w' (Stays s) is = λ c. subst (λ f. IsIdle (f c)) (sym s.client) (is c)
stays_idle p w w' (Replica_moves s) is = λ c. subst (λ f. IsIdle (f c)) (sym s.client) (is c)
stays_idle p w w' (Warden_moves s) is = λ c. subst (λ f. IsIdle (f c)) (sym s.client) (is c)
stays_idle p w w' (Client_moves s) is = λ d. subst (λ f. IsIdle (f d)) (sym s.client) (at_idle d)
  where
    at_idle : (d : ℕ) → IsIdle (at s.c s.turn.state w.client d)
    at_idle d = go (d == s.c) refl
      where
        go : (t : Bool) → (d == s.c) ≡ t → IsIdle (cond t s.turn.state (w.client d))
        go true e = turn_idle (rules p s.c) (w.client s.c) s.input s.turn (is s.c) s.step
        go false e = is d

-- in each world that events lead to
pub clients_idle : (p : Plan) (events : List Event) → AreIdle (replay_from p first_world events)
clients_idle p events = always p AreIdle (stays_idle p) first_world (λ c. record { fate = λ e. refl; phase = λ e. refl }) events

-- a client that is not there has begun nothing
abbrev AreAbsent : Plan → World → Type 0
AreAbsent p w = (c : ℕ) → exists p (Client c) ≡ false → w.client c ≡ fresh_client

stays_absent : (p : Plan) (w w' : World) → Happens p w w' → AreAbsent p w → AreAbsent p w'
stays_absent p w w' (Stays s) is = λ c gone. ap (λ f. f c) s.client ∙ is c gone
stays_absent p w w' (Replica_moves s) is = λ c gone. ap (λ f. f c) s.client ∙ is c gone
stays_absent p w w' (Warden_moves s) is = λ c gone. ap (λ f. f c) s.client ∙ is c gone
stays_absent p w w' (Client_moves s) is = λ c gone. ap (λ f. f c) s.client
    ∙ at_other s.c s.turn.state w.client c (λ e. absurd (let f : true ≡ false = sym s.real ∙ ap (λ k. exists p (Client k)) (sym e) ∙ gone in cc)) ∙ is c gone

-- so it has no job
pub clients_absent : (p : Plan) (events : List Event) (c : ℕ) → exists p (Client c) ≡ false → has_pending ((replay_from p first_world events).client c).phase ≡ false
clients_absent p events c gone = ap (λ s. has_pending s.phase) (always p (AreAbsent p) (stays_absent p) first_world (λ d e. refl) events c gone)

-- a client goes: its attempt is the newest of its list, and all else stays
pub record GoesOn (p : Plan) (w : World) (c : ℕ) (v : Move) : Type 0 where
  pub mail : v.world.mail ≡ w.mail
  pub delivered : v.world.delivered ≡ w.delivered
  pub stopped : v.world.stopped ≡ w.stopped
  pub moved : v.world.moved ≡ w.moved
  pub others : (d : ℕ) → d ≢ c → v.world.client d ≡ w.client d
  pub own : HasGone (rules p c) (w.client c) (v.world.client c)

pub go_begins : (p : Plan) (w : World) (c : ℕ) (v : Move) → AreIdle w → client_input p w c Goes ≡ Some v → GoesOn p w c v
unfolding client_moves
go_begins p w c v is e = go (client_step (rules p c) (w.client c) Goes) refl e
  where
    turned : (t : Turn) → client_step (rules p c) (w.client c) Goes ≡ Some t → GoesOn p w c (client_moves p w c t)
    turned t s = record {
      mail = refl;
      delivered = refl;
      stopped = refl;
      moved = refl;
      others = λ d other. at_other c t.state w.client d other;
      own = subst (HasGone (rules p c) (w.client c)) (sym (at_same c t.state w.client)) (gone (rules p c) (w.client c) t (is c) s);
    }

    go : (o : Option Turn) → client_step (rules p c) (w.client c) Goes ≡ o → option_map (client_moves p w c) o ≡ Some v → GoesOn p w c v
    go None s e = cc
    go (Some t) s e = let f : client_moves p w c t ≡ v = cc in subst (GoesOn p w c) f (turned t s)
