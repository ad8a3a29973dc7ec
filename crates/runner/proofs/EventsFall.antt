-- An event leaves less to do: a pick that counts as a turn, an idle pick of a node without its mark, a segment that is used.
use Rattle.std.proofs.Common.{◌≡◌, ◌≢◌, ℕ, suc, ◌+◌, ◌<◌, ◌≤◌, Bool, true, false, cond, not}
use Rattle.std.proofs.Common.{◌||◌, ◌∷◌, length, Some, inl, inr, refl, sym, ◌∙◌, ap, arith}
use Rattle.std.specs.Prelude.{nat_le, count_by}
use Rattle.std.specs.List.{slice_get}
use Rattle.std.proofs.lemmas.Bool.Decides.{nat_tests}
use Rattle.morty_base.specs.declared.names.NodeId.{NodeId}
use Rattle.morty_base.specs.declared.names.NodeId.TheVariants.{Client}
use Rattle.morty_base.specs.Names.{same_node}
use Rattle.morty_base.proofs.Orders.{same_node_tells}
use Rattle.msg.specs.declared.Pick.{Pick}
use Rattle.msg.specs.declared.Event.{Event}
use Rattle.msg.specs.declared.Event.TheVariants.{Picked, Ran}
use Rattle.net_core.specs.Machine.{History, Machine, Moves, Not_enabled}
use Rattle.net_core.specs.Marks.{picks, is_turn, turns_made, mark_after, is_marked}
use Rattle.net_core.specs.Replay.{IsLawful}
use Rattle.hub.proofs.Ends.{own_node, count_step, turns_own}
use Rattle.runner.specs.Progress.{total, one_if, turns_left, pending_one, unmarked_one, rank}
use Rattle.runner.proofs.Totals.{total_le, total_less, total_few, fewer_turns, fewer_jobs, fewer_unmarked}

-- the turns that a node made never get fewer
turns_grow : (h : History) (e : Event) (k : NodeId) → turns_made k h ≤ turns_made k (e ∷ h)
turns_grow h (Ran c) k = omega arith
turns_grow h (Picked n p) k = go (same_node k n)
  where
    more : (b : Bool) (x : ℕ) → x ≤ cond b (x + 1) x
    more true x = omega arith
    more false x = omega arith

    go : (b : Bool) → count_by is_turn (picks k h) ≤ count_by is_turn (cond b (p ∷ picks k h) (picks k h))
    go false = omega arith
    go true = let one = count_step p (picks k h) in let le = more (is_turn p) (count_by is_turn (picks k h)) in omega arith

fewer_left : (turns : ℕ) (h : History) (e : Event) (k : NodeId) → turns_left turns (e ∷ h) k ≤ turns_left turns h k
fewer_left turns h e k = let grow = turns_grow h e k in omega arith

one_le : (b : Bool) → one_if b ≤ 1
one_le true = omega arith
one_le false = omega arith

few_pending : (m : Machine) (h : History) → total (pending_one m h) m.nodes < suc (length m.nodes)
few_pending m h = let few = total_few (pending_one m h) m.nodes (λ n. one_le (m.pending h n)) in omega arith

few_unmarked : (m : Machine) (h : History) → total (unmarked_one m h) m.nodes < suc (length m.nodes)
few_unmarked m h = let few = total_few (unmarked_one m h) m.nodes (λ n. one_le (not (is_marked m h n))) in omega arith

-- a pick that counts as a turn, of a node that has a turn left
pub turn_falls : (m : Machine) (turns : ℕ) (h : History) (slot : ℕ) (n : NodeId) (p : Pick) → slice_get m.nodes slot ≡ Some n →
    is_turn p ≡ true → nat_le turns (turns_made n h) ≡ false → rank m turns (Picked n p ∷ h) < rank m turns h
unfolding rank
turn_falls m turns h slot n p here is left =
    let own : turns_made n (Picked n p ∷ h) ≡ turns_made n h + 1 = turns_own h n p true is (own_node n) in
    let lt : turns_made n h < turns = grind (arith, nat_tests) in
    fewer_turns (suc (length m.nodes)) (total (turns_left turns h) m.nodes) (total (turns_left turns (Picked n p ∷ h)) m.nodes)
    (total (pending_one m h) m.nodes) (total (pending_one m (Picked n p ∷ h)) m.nodes)
    (total (unmarked_one m h) m.nodes) (total (unmarked_one m (Picked n p ∷ h)) m.nodes)
    (total_less (turns_left turns h) (turns_left turns (Picked n p ∷ h)) m.nodes slot n here (fewer_left turns h (Picked n p)) (omega arith))
    (few_pending m (Picked n p ∷ h)) (few_unmarked m (Picked n p ∷ h))

-- a pick that is not enabled, of a node without its mark
pub idle_falls : (m : Machine) (turns : ℕ) (h : History) (slot : ℕ) (n : NodeId) (p : Pick) →
    IsLawful m → slice_get m.nodes slot ≡ Some n → m.effect h (Picked n p) ≡ Not_enabled → is_marked m h n ≡ false →
    rank m turns (Picked n p ∷ h) < rank m turns h
unfolding rank
idle_falls m turns h slot n p lawful here is unmarked =
    fewer_unmarked (suc (length m.nodes)) (total (turns_left turns h) m.nodes) (total (turns_left turns (Picked n p ∷ h)) m.nodes)
    (total (pending_one m h) m.nodes) (total (pending_one m (Picked n p ∷ h)) m.nodes)
    (total (unmarked_one m h) m.nodes) (total (unmarked_one m (Picked n p ∷ h)) m.nodes)
    (total_le (turns_left turns h) (turns_left turns (Picked n p ∷ h)) m.nodes (fewer_left turns h (Picked n p)))
    (total_le (pending_one m h) (pending_one m (Picked n p ∷ h)) m.nodes pending_le)
    (total_less (unmarked_one m h) (unmarked_one m (Picked n p ∷ h)) m.nodes slot n here unmarked_le own)
  where
    not_moved : m.effect h (Picked n p) ≢ Moves
    not_moved moves = let e : Moves ≡ Not_enabled = sym moves ∙ is in absurd cc

    pending_le : (k : NodeId) → pending_one m (Picked n p ∷ h) k ≤ pending_one m h k
    pending_le k =
        let eq = ap one_if ((lawful.still h (Picked n p) not_moved).pending k) in
        omega arith

    mark_is : (k : NodeId) → is_marked m (Picked n p ∷ h) k ≡ (same_node k n || is_marked m h k)
    mark_is k = ap (λ f. mark_after k (Picked n p) f (is_marked m h k)) is

    or_le : (a b : Bool) → one_if (not (a || b)) ≤ one_if (not b)
    or_le true b = omega arith
    or_le false b = omega arith

    unmarked_le : (k : NodeId) → unmarked_one m (Picked n p ∷ h) k ≤ unmarked_one m h k
    unmarked_le k = let eq = ap (λ b. one_if (not b)) (mark_is k) in let le = or_le (same_node k n) (is_marked m h k) in omega arith

    own : unmarked_one m (Picked n p ∷ h) n < unmarked_one m h n
    own =
        let eq : unmarked_one m (Picked n p ∷ h) n ≡ 0 = ap (λ b. one_if (not b)) (mark_is n ∙ ap (λ b. b || is_marked m h n) (own_node n)) in
        let was : unmarked_one m h n ≡ 1 = ap (λ b. one_if (not b)) unmarked in
        omega arith

-- a segment of the pending job of a client
pub ran_falls : (m : Machine) (turns : ℕ) (h : History) (slot c : ℕ) → IsLawful m →
    slice_get m.nodes slot ≡ Some (Client c) → m.effect h (Ran c) ≡ Moves → m.pending h (Client c) ≡ true →
    rank m turns (Ran c ∷ h) < rank m turns h
unfolding rank
ran_falls m turns h slot c lawful here is pending =
    fewer_jobs (suc (length m.nodes)) (total (turns_left turns h) m.nodes) (total (turns_left turns (Ran c ∷ h)) m.nodes)
    (total (pending_one m h) m.nodes) (total (pending_one m (Ran c ∷ h)) m.nodes)
    (total (unmarked_one m h) m.nodes) (total (unmarked_one m (Ran c ∷ h)) m.nodes)
    (total_le (turns_left turns h) (turns_left turns (Ran c ∷ h)) m.nodes (fewer_left turns h (Ran c)))
    (total_less (pending_one m h) (pending_one m (Ran c ∷ h)) m.nodes slot (Client c) here pending_le own)
    (few_unmarked m (Ran c ∷ h))
  where
    own : pending_one m (Ran c ∷ h) (Client c) < pending_one m h (Client c)
    own = let now = ap one_if (lawful.ran h c is) in let was = ap one_if pending in omega arith

    by_case : (k : NodeId) (b : Bool) → m.pending h k ≡ b → k ≢ Client c → pending_one m (Ran c ∷ h) k ≤ pending_one m h k
    by_case k true was other = let eq = ap one_if was in let le = one_le (m.pending (Ran c ∷ h) k) in omega arith
    by_case k false was other = let eq = ap one_if (lawful.ran_others h c k is other was) in omega arith

    pending_le : (k : NodeId) → pending_one m (Ran c ∷ h) k ≤ pending_one m h k
    pending_le k = elim (same_node_tells k (Client c)) [
      | inl t ↦ (let now = ap one_if (ap (m.pending (Ran c ∷ h)) t.1 ∙ lawful.ran h c is) in omega arith)
      | inr f ↦ by_case k (m.pending h k) refl f.1
    ]
