-- The machine of rounds is lawful.
use Rattle.std.specs.Prelude.{◌≡◌, ◌≢◌, ℕ, zero, suc, Bool, true, false, cond, ◌==◌, ◌∷◌, Option, Some, None, is_some, refl}
use Rattle.std.specs.List.{slice_get}
use Rattle.std.proofs.Common.{◌∙◌, ap, arith}
use Rattle.std.proofs.lemmas.Bool.{le-ltb, and_right}
use Rattle.morty_base.specs.declared.names.NodeId.{NodeId}
use Rattle.morty_base.specs.declared.names.NodeId.TheVariants.{Client, Replica, Warden}
use Rattle.msg.specs.declared.Pick.TheVariants.{Idle}
use Rattle.msg.specs.declared.Event.{Event}
use Rattle.msg.specs.declared.Event.TheVariants.{Picked, Ran}
use Rattle.net_core.specs.Machine.{History, Moves, Not_enabled}
use Rattle.net_core.specs.Replay.{SameMoment, IsLawful}
use Rattle.hub_tests.specs.declared.rounds.Segment.{Segment}
use Rattle.hub_tests.specs.Rounds.{Count, can, moved, is_pending, count_after, pending_of, menu_of, rounds}

-- the two slots have different nodes
apart : (limit i j : ℕ) (n : NodeId) → slice_get (rounds limit).nodes i ≡ Some n → slice_get (rounds limit).nodes j ≡ Some n → i ≡ j
apart limit zero zero n p q = refl
apart limit zero (suc zero) n p q = absurd (let p' : Some (Client 1) ≡ Some n = p in let q' : Some (Replica 1) ≡ Some n = q in cc)
apart limit zero (suc (suc j)) n p q = absurd (let q' : ◌≡◌ {A = Option NodeId} None (Some n) = q in cc)
apart limit (suc zero) zero n p q = absurd (let p' : Some (Replica 1) ≡ Some n = p in let q' : Some (Client 1) ≡ Some n = q in cc)
apart limit (suc zero) (suc zero) n p q = refl
apart limit (suc zero) (suc (suc j)) n p q = absurd (let q' : ◌≡◌ {A = Option NodeId} None (Some n) = q in cc)
apart limit (suc (suc i)) j n p q = absurd (let p' : ◌≡◌ {A = Option NodeId} None (Some n) = p in cc)

clients_alone : (limit : ℕ) (h : History) (n : NodeId) → (rounds limit).pending h n ≡ true → (c : ℕ) × (n ≡ Client c)
clients_alone limit h (Client c) is = (c, refl)
clients_alone limit h (Replica c) is = absurd (let off : false ≡ true = is in cc)
clients_alone limit h (Warden c) is = absurd (let off : false ≡ true = is in cc)

idle : (limit : ℕ) (h : History) (n : NodeId) → (rounds limit).effect h (Picked n Idle) ≡ Not_enabled
idle limit h (Client c) = refl
idle limit h (Replica c) = refl
idle limit h (Warden c) = refl

-- an event moves the machine exactly where it is enabled
not_moved : (b : Bool) → cond b Moves Not_enabled ≢ Moves → b ≡ false
not_moved true stays = absurd (stays refl)
not_moved false stays = refl

has_moved : (b : Bool) → cond b Moves Not_enabled ≡ Moves → b ≡ true
has_moved true is = refl
has_moved false is = absurd (let off : Not_enabled ≡ Moves = is in cc)

still : (limit : ℕ) (h : History) (e : Event) → (rounds limit).effect h e ≢ Moves → SameMoment (rounds limit) h (e ∷ h)
still limit h e stays =
    let same : count_after limit (e ∷ h) ≡ count_after limit h =
    ap (λ b. cond b (moved (count_after limit h) e) (count_after limit h)) (not_moved (can limit (count_after limit h) e) stays) in
    record {
      live = λ n. refl;
      pending = λ n. ap (λ c. is_some (pending_of c n)) same;
      menu = λ n. ap (λ c. menu_of limit c n) same;
      effect = λ f. ap (λ c. cond (can limit c f) Moves Not_enabled) same;
    }

-- after a segment none is pending
after_ran : (limit : ℕ) (h : History) (c : ℕ) → (rounds limit).effect h (Ran c) ≡ Moves → is_pending (count_after limit (Ran c ∷ h)) ≡ false
after_ran limit h c is =
    let now = count_after limit h in
    let next : count_after limit (Ran c ∷ h) ≡ moved now (Ran c) = ap (λ b. cond b (moved now (Ran c)) now) (has_moved (can limit now (Ran c)) is) in
    ap is_pending next ∙ le-ltb now.begun now.begun (omega arith)

none_pending : (c : Count) (n : NodeId) → is_pending c ≡ false → is_some (pending_of c n) ≡ false
none_pending c (Client k) none =
    let s : Segment = record { round = c.begun } in ap (λ b. is_some (cond b (Some s) None)) (and_right (k == 1) (is_pending c) none)
none_pending c (Replica k) none = refl
none_pending c (Warden k) none = refl

pub lawful : (limit : ℕ) → IsLawful (rounds limit)
lawful limit = record {
  apart = apart limit;
  clients_alone = clients_alone limit;
  idle = idle limit;
  still = still limit;
  ran = λ h c is. none_pending (count_after limit (Ran c ∷ h)) (Client c) (after_ran limit h c is);
  ran_others = λ h c n is other none. none_pending (count_after limit (Ran c ∷ h)) n (after_ran limit h c is);
}
