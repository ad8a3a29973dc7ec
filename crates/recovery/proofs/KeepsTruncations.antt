-- What a turn of recovery comes to.
use Rattle.std.proofs.Common.{◌≡◌, ℕ, Bool, true, false, cond, not, nat_le, Option, Some, None, List, suc, length, refl}
use Rattle.std.specs.Prelude.{is_none, ◌==◌, ◌&&◌}
use Rattle.std.specs.List.{list_any}
use Rattle.protocol.specs.Words.{Exec, NodeId, Body, Accepted, Told}
use Rattle.protocol.specs.Quorums.{quorum}
use Rattle.protocol.specs.Client.Counting.{sender}
use Rattle.protocol.specs.Warden.State.{Proposal, Round, ToldAnswer, Truncation, WardenRules, WardenState, WardenTurn, decision_on, still}
use Rattle.protocol.specs.Warden.Recovery.{recover, recovery_hears, heard, next_view, take_told, take_accept, count_accept, proposes, decides, with_told, with_accept, round_of, round_put}
use Rattle.protocol.specs.Warden.Truncation.{with_truncations}
use Rattle.recovery.specs.Laws.{turn_with, KeepsTruncations}

take_told_keeps : (r : WardenRules) (s : WardenState) (ts : List Truncation) (x : Exec) (v : ℕ) (t : ToldAnswer) (o : Option Round)
    → take_told r (with_truncations s ts) x v t o ≡ turn_with (take_told r s x v t o) ts
unfolding take_told proposes
take_told_keeps r s ts x v t None = refl
take_told_keeps r s ts x v t (Some a) =
    go (not (is_none a.proposal && not (list_any (λ (u : ToldAnswer). u.replica == t.replica) a.tolds))) (nat_le (quorum r.replicas) (suc (length a.tolds)))
  where
    go : (p q : Bool) → cond p (still (with_truncations s ts)) (cond q (proposes (with_truncations s ts) x v (with_told a t)) (still (round_put (with_truncations s ts) x v (with_told a t))))
        ≡ turn_with (cond p (still s) (cond q (proposes s x v (with_told a t)) (still (round_put s x v (with_told a t))))) ts
    go true q = refl
    go false true = refl
    go false false = refl

count_accept_keeps : (r : WardenRules) (s : WardenState) (ts : List Truncation) (x : Exec) (v j : ℕ) (a : Round) (o : Option Proposal)
    → count_accept r (with_truncations s ts) x v j a o ≡ turn_with (count_accept r s x v j a o) ts
unfolding count_accept decides
count_accept_keeps r s ts x v j a None = refl
count_accept_keeps r s ts x v j a (Some p) =
    go (list_any (λ (i : ℕ). i == j) a.accepts) (nat_le (quorum r.replicas) (suc (length a.accepts)))
  where
    go : (q u : Bool) → cond q (still (with_truncations s ts)) (cond u (decides r (with_truncations s ts) x v (with_accept a p j) p) (still (round_put (with_truncations s ts) x v (with_accept a p j))))
        ≡ turn_with (cond q (still s) (cond u (decides r s x v (with_accept a p j) p) (still (round_put s x v (with_accept a p j))))) ts
    go true u = refl
    go false true = refl
    go false false = refl

take_accept_keeps : (r : WardenRules) (s : WardenState) (ts : List Truncation) (x : Exec) (v j : ℕ) (o : Option Round)
    → take_accept r (with_truncations s ts) x v j o ≡ turn_with (take_accept r s x v j o) ts
take_accept_keeps r s ts x v j None = refl
take_accept_keeps r s ts x v j (Some a) = count_accept_keeps r s ts x v j a a.proposal

-- two handlings that agree on each sender agree where the execution is undecided
heard_keeps : (s : WardenState) (ts : List Truncation) (f g : ℕ → WardenTurn) → ((k : ℕ) → f k ≡ turn_with (g k) ts) → (t : Bool) (o : Option ℕ)
    → cond t (heard (with_truncations s ts) f o) (still (with_truncations s ts)) ≡ turn_with (cond t (heard s g o) (still s)) ts
heard_keeps s ts f g h false o = refl
heard_keeps s ts f g h true None = refl
heard_keeps s ts f g h true (Some k) = h k

hears_keeps : (r : WardenRules) (s : WardenState) (ts : List Truncation) (from : NodeId) (b : Body)
    → recovery_hears r (with_truncations s ts) from b ≡ turn_with (recovery_hears r s from b) ts
unfolding recovery_hears
hears_keeps r s ts from (Told x v vote accepted decided content) =
    heard_keeps s ts _ _ (λ k. take_told_keeps r s ts x v _ (round_of x v s.rounds)) (is_none (decision_on s x)) (sender r.replicas from)
hears_keeps r s ts from (Accepted x v) =
    heard_keeps s ts _ _ (λ k. take_accept_keeps r s ts x v k (round_of x v s.rounds)) (is_none (decision_on s x)) (sender r.replicas from)
hears_keeps r s ts from _ = refl

recover_keeps : (r : WardenRules) (s : WardenState) (ts : List Truncation) (x : Exec) → recover r (with_truncations s ts) x ≡ turn_with (recover r s x) ts
unfolding recover next_view
recover_keeps r s ts x = refl

pub keeps_truncations : KeepsTruncations
keeps_truncations = record { recovers = recover_keeps; hears = hears_keeps }
