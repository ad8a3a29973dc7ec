-- Each event of a run in rounds is of a node of its script, whose number a trace can tell.
use Rattle.std.proofs.Common.{◌≡◌, ℕ, suc, ◌≤◌, Bool, true, false, ◌⊎◌, List, [], ◌∷◌, ◌++◌, length, map, reverse, Some, sym, ap, ◌∙◌, inl, inr, arith}
use Rattle.std.specs.Prelude.{◌||◌, not}
use Rattle.std.specs.List.{All, slice_get}
use Rattle.std.proofs.lemmas.Bool.Decides.{nat_tests}
use Rattle.std.proofs.lemmas.List.{reverse-append, reverse-reverse, length-map}
use Rattle.std.proofs.lemmas.List.Elements.{All-nil, All-push, All-same}
use Rattle.morty_base.specs.declared.names.NodeId.{NodeId}
use Rattle.morty_base.specs.declared.names.NodeId.TheVariants.{Client, Replica, Warden}
use Rattle.morty_base.specs.Names.{same_node}
use Rattle.morty_base.proofs.Orders.{same_node_tells}
use Rattle.msg.specs.declared.Event.{Event}
use Rattle.msg.specs.declared.Event.TheVariants.{Picked, Ran}
use Rattle.msg.specs.Events.{node_of}
use Rattle.wire.specs.Sendable.{IsNumbered}
use Rattle.net_core.specs.Machine.{History, Machine}
use Rattle.net_core.specs.Marks.{rests}
use Rattle.net_core.specs.Rounds.{due, turn_order, IsTurnOf, InTurns}
use Rattle.net_core.proofs.TurnOrder.{is_among, any_in_order, found_among}
use Rattle.protocol.specs.World.State.{in_range}
use Rattle.menus.specs.Slots.{Counts, nodes_of, has_node}
use Rattle.menus.proofs.SlotsLemmas.{is_there}
use Rattle.protocol_plans.specs.Limits.{IsScript}
use Rattle.protocol_plans.specs.Scripted.{plan_of, txn_of}
use Rattle.script.specs.declared.setup.Setup.{Setup}
use Rattle.script.specs.Sayable.{IsSetup}
use Rattle.script_plans.specs.Plans.{scripted}
use Rattle.script_plans.proofs.SetupsAreScripts.{setups_are_scripts}
use Rattle.script_cli.specs.Runs.{rules_for}

-- one that is among nodes has a slot
among_somewhere : (ns : List NodeId) (n : NodeId) → is_among ns n ≡ true → (i : ℕ) × (slice_get ns i ≡ Some n)
among_somewhere [] n is = absurd (let t : false ≡ true = is in cc)
among_somewhere (m ∷ ns) n is = go (same_node_tells n m) (among_somewhere ns n)
  where
    go : ((same_node n m ≡ true) × (n ≡ m)) ⊎ ((same_node n m ≡ false) × (n ≡ m → ⊥)) → (is_among ns n ≡ true → (i : ℕ) × (slice_get ns i ≡ Some n)) →
        (i : ℕ) × (slice_get (m ∷ ns) i ≡ Some n)
    go (inl same) rest = (0, ap (λ k. Some k) (sym same.1))
    go (inr other) rest = let there = rest (later (same_node n m) (is_among ns n) other.0 is) in (suc there.0, there.1)
      where
        later : (a b : Bool) → a ≡ false → (a || b) ≡ true → b ≡ true
        later true b fails e = absurd (let t : true ≡ false = fails in cc)
        later false b fails e = e

-- the node of an event that was of the node that is due
turn_node : (m : Machine) (h : History) (e : Event) → IsTurnOf m h e → due m h ≡ Some (node_of e)
turn_node m h (Picked n pick) turn = turn.0
turn_node m h (Ran c) turn = turn.0

turn_among : (m : Machine) (h : History) (e : Event) → IsTurnOf m h e → is_among m.nodes (node_of e) ≡ true
turn_among m h e turn =
    sym (any_in_order (same_node (node_of e)) m.nodes h) ∙ found_among (λ n. not (rests m h n)) (turn_order m.nodes h) (node_of e) (turn_node m h e turn)

module _ (m : Machine) (turns : ℕ) (P : NodeId → Type 0) (of_node : (n : NodeId) → is_among m.nodes n ≡ true → P n) where
  -- what holds of each node holds of the node of each event, in order
  pub all_events : (h : History) → InTurns m turns h → All (λ e. P (node_of e)) (reverse h)
  all_events [] in_turns = All-nil (λ e. P (node_of e))
  all_events (e ∷ h) in_turns =
      All-same (λ e. P (node_of e)) (reverse (e ∷ h)) (reverse h ++ e ∷ []) (reverse-append (e ∷ []) h)
      (All-push (λ e. P (node_of e)) (reverse h) e (all_events h in_turns.2) (of_node (node_of e) (turn_among m h e in_turns.1)))

range_is : (k n most : ℕ) → in_range k n ≡ true → n ≤ most → (1 ≤ k) × (k ≤ most)
range_is k n most is few = (grind (arith, nat_tests), grind (arith, nat_tests))

replicas_few : (n : ℕ) → (n ≡ 1) ⊎ ((n ≡ 3) ⊎ (n ≡ 5)) → n ≤ 5
replicas_few n (inl e) = omega arith
replicas_few n (inr (inl e)) = omega arith
replicas_few n (inr (inr e)) = omega arith

-- a node of a script has a number that a trace can tell
numbered : (s : Setup) → IsSetup s → (n : NodeId) → is_among (rules_for s).nodes n ≡ true → IsNumbered n
unfolding rules_for
numbered s is n among = go n (is_there counts (among_somewhere (nodes_of counts) n among).0 n (among_somewhere (nodes_of counts) n among).1)
  where
    counts : Counts
    counts = record { clients = length (plan_of (scripted s)).clients; replicas = s.replicas; wardens = s.wardens }

    within : IsScript (scripted s)
    within = setups_are_scripts s is

    clients : length (plan_of (scripted s)).clients ≤ 16
    clients = let few = within.few_clients in omega (arith, few, length-map (scripted s).clients (map txn_of))

    go : (n : NodeId) → has_node counts n ≡ true → IsNumbered n
    go (Client c) there = range_is c (length (plan_of (scripted s)).clients) 16 there clients
    go (Replica r) there = range_is r s.replicas 5 there (replicas_few s.replicas within.replicas)
    go (Warden w) there = range_is w s.wardens 2 there within.wardens

-- each event of a run in rounds is of a node that a trace can tell
pub events_are_numbered : (s : Setup) → IsSetup s → (turns : ℕ) (journal : List Event) → InTurns (rules_for s) turns (reverse journal) →
    All (λ e. IsNumbered (node_of e)) journal
events_are_numbered s is turns journal in_turns =
    All-same (λ e. IsNumbered (node_of e)) journal (reverse (reverse journal)) (sym (reverse-reverse journal))
    (all_events (rules_for s) turns IsNumbered (numbered s is) (reverse journal) in_turns)
