-- What a node can do by itself is what the definitions let it do.
use Rattle.std.proofs.Common.{◌≡◌, ℕ, ◌≤◌, Bool, true, false, Option, Some, None, refl, ◌∙◌, arith}
use Rattle.std.specs.Prelude.{◌&&◌, nat_le, is_none, is_some, option_map}
use Rattle.std.specs.Bool.{then_some}
use Rattle.std.proofs.lemmas.Bool.Decides.{nat_tests}
use Rattle.protocol.specs.Words.{Version, Exec, Client, Replica, Warden, Pick, Idle, Deliver, Go, Hurry, Recover, Truncate, Stop}
use Rattle.protocol.specs.Client.Attempts.{can_go, go}
use Rattle.protocol.specs.Client.Step.{client_step, on_hurry}
use Rattle.protocol.specs.Warden.State.{decision_on}
use Rattle.protocol.specs.Warden.Recovery.{next_view, recover}
use Rattle.protocol.specs.Warden.Truncation.{can_truncate, truncate}
use Rattle.protocol.specs.Warden.Step.{warden_step}
use Rattle.protocol.specs.World.State.{Plan, World, rules, warden_rules}
use Rattle.protocol.specs.World.Events.{client_moves, warden_moves, pick_moves}
use Rattle.recovery.specs.Round.{last_view}
use Rattle.world.specs.Wardens.{can_recover}
use Rattle.world_rows.specs.Machine.{can_pick}

some_mapped : {A B : Type 0} (f : A → B) (o : Option A) → is_some o ≡ is_some (option_map f o)
some_mapped f None = refl
some_mapped f (Some a) = refl

some_when : {A B : Type 0} (f : A → B) (b : Bool) (a : A) → b ≡ is_some (option_map f (then_some b a))
some_when f true a = refl
some_when f false a = refl

pub goes_is : (p : Plan) (w : World) (c : ℕ) → can_go (rules p c) (w.client c) ≡ can_pick p w (Client c) Go
unfolding pick_moves client_step
goes_is p w c = some_when (client_moves p w c) (can_go (rules p c) (w.client c)) (go (rules p c) (w.client c))

pub hurries_is : (p : Plan) (w : World) (c : ℕ) → is_some (on_hurry (rules p c) (w.client c) (w.client c).phase) ≡ can_pick p w (Client c) Hurry
unfolding pick_moves client_step
hurries_is p w c = some_mapped (client_moves p w c) (on_hurry (rules p c) (w.client c) (w.client c).phase)

-- a client does nothing else
pub client_not : (p : Plan) (w : World) (c : ℕ) (pick : Pick) → (pick ≡ Go → ⊥) → (pick ≡ Hurry → ⊥) → false ≡ can_pick p w (Client c) pick
unfolding pick_moves
client_not p w c Go go hurry = absurd (go refl)
client_not p w c Hurry go hurry = absurd (hurry refl)
client_not p w c Idle go hurry = refl
client_not p w c (Deliver i) go hurry = refl
client_not p w c (Recover x) go hurry = refl
client_not p w c (Truncate version) go hurry = refl
client_not p w c Stop go hurry = refl

and_true : (a b : Bool) → b ≡ true → (a && b) ≡ a
and_true true b e = e
and_true false b e = refl

pub recovers_is : (p : Plan) (w : World) (k : ℕ) (x : Exec) → next_view (warden_rules p k) (w.warden k) x ≤ last_view →
    can_recover p k (w.warden k) x ≡ can_pick p w (Warden k) (Recover x)
unfolding pick_moves warden_step
recovers_is p w k x left =
    let fits : nat_le (next_view (warden_rules p k) (w.warden k) x) last_view ≡ true = grind (arith, nat_tests) in
    and_true (is_none (decision_on (w.warden k) x)) _ fits
    ∙ some_when (warden_moves p w k) (is_none (decision_on (w.warden k) x)) (recover (warden_rules p k) (w.warden k) x)

pub truncates_is : (p : Plan) (w : World) (k : ℕ) (version : Version) → can_truncate (w.warden k) version ≡ can_pick p w (Warden k) (Truncate version)
unfolding pick_moves warden_step
truncates_is p w k version = some_when (warden_moves p w k) (can_truncate (w.warden k) version) (truncate (w.warden k) version)

-- a warden does nothing else
pub warden_not : (p : Plan) (w : World) (k : ℕ) (pick : Pick) → ((x : Exec) → pick ≡ Recover x → ⊥) → ((version : Version) → pick ≡ Truncate version → ⊥) →
    false ≡ can_pick p w (Warden k) pick
unfolding pick_moves
warden_not p w k (Recover x) recover truncate = absurd (recover x refl)
warden_not p w k (Truncate version) recover truncate = absurd (truncate version refl)
warden_not p w k Idle recover truncate = refl
warden_not p w k (Deliver i) recover truncate = refl
warden_not p w k Go recover truncate = refl
warden_not p w k Hurry recover truncate = refl
warden_not p w k Stop recover truncate = refl

-- a replica does nothing by itself
pub replica_not : (p : Plan) (w : World) (r : ℕ) (pick : Pick) → false ≡ can_pick p w (Replica r) pick
unfolding pick_moves
replica_not p w r Idle = refl
replica_not p w r (Deliver i) = refl
replica_not p w r Go = refl
replica_not p w r Hurry = refl
replica_not p w r (Recover x) = refl
replica_not p w r (Truncate version) = refl
replica_not p w r Stop = refl
