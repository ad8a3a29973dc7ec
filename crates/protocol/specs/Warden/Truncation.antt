-- How a warden truncates: it asks for a fence, counts the answers, recovers what they name, and drops.
use Rattle.std.specs.Prelude.{cond, ℕ, suc, Bool, true, false, not, ◌&&◌, ◌||◌, ◌==◌, nat_lt, nat_le, List, [], ◌∷◌, ◌++◌, map, filter, length, is_some, flat_map}
use Rattle.std.specs.List.{list_any, list_all}
use Rattle.protocol.specs.Words.{Version, Exec, Fence, Drops, no_version, before, same_version, same_exec}
use Rattle.protocol.specs.Quorums.{quorum}
use Rattle.protocol.specs.Warden.State.{WardenRules, WardenState, WardenTurn, FencedAnswer, Truncation, decision_on}
use Rattle.protocol.specs.Warden.Recovery.{recover}
use Rattle.protocol.specs.Warden.State.Parcel.{To_all}
use Rattle.protocol.specs.Warden.Base.{base_of}

-- a truncation is under way until its Drop is sent
abbrev pub under_way : List Truncation → Bool
under_way [] = false
under_way (t ∷ ts) = not t.dropped

-- w is above 0.0 and above each version before
abbrev pub is_next : Version → List Truncation → Bool
is_next version [] = before no_version version
is_next version (t ∷ ts) = before t.w version

-- how many truncations a warden makes at most
abbrev pub truncation_limit : ℕ
truncation_limit = 16

-- at most one truncation at a time, each of a later version, and so many in all
abbrev pub can_truncate : WardenState → Version → Bool
can_truncate s version = not (under_way s.truncations) && (is_next version s.truncations && nat_lt (length s.truncations) truncation_limit)

-- the warden with these truncations
abbrev pub with_truncations : WardenState → List Truncation → WardenState
with_truncations s ts = record s { truncations = ts }

-- a warden asks all replicas for a fence
unfoldable pub truncate : WardenState → Version → WardenTurn
truncate s w = record {
  state = with_truncations s (record { w = w; answers = []; dropped = false } ∷ s.truncations);
  sent = To_all (Fence w) ∷ [];
}

-- some answer names x as committed
abbrev pub named_committed : List FencedAnswer → Exec → Bool
named_committed answers x = list_any (λ a. list_any (λ c. same_exec x c.exec) a.committed) answers

-- what the answers name as voted, in order, where none names it as committed
abbrev pub to_recover : List FencedAnswer → List Exec
to_recover answers = filter (λ x. not (named_committed answers x)) (flat_map (λ a. map (λ c. c.exec) a.voted) answers)

-- this warden asks about x
abbrev pub is_recovering : WardenState → Exec → Bool
is_recovering s x = list_any (λ a. same_exec x a.exec) s.rounds

-- x is recovered unless it is decided or being recovered
abbrev pub recover_more : WardenRules → WardenTurn → Exec → Bool → WardenTurn
recover_more rules t x true = t
recover_more rules t x false = record { state = (recover rules t.state x).state; sent = t.sent ++ (recover rules t.state x).sent }

-- one after another
abbrev pub recover_all : WardenRules → WardenTurn → List Exec → WardenTurn
recover_all rules t [] = t
recover_all rules t (x ∷ xs) = recover_all rules (recover_more rules t x (is_some (decision_on t.state x) || is_recovering t.state x)) xs

-- one more Fenced counts
abbrev pub counted : Truncation → FencedAnswer → List Truncation → List Truncation
counted t a ts = record { w = t.w; answers = t.answers ++ a ∷ []; dropped = false } ∷ ts

-- a Fenced counts once per replica, for the truncation under way, until f+1 did
abbrev pub is_counted : WardenRules → Truncation → Version → ℕ → Bool
is_counted rules t version k =
    (not t.dropped && same_version version t.w)
    && (nat_lt (length t.answers) (quorum rules.replicas) && not (list_any (λ (b : FencedAnswer). b.replica == k) t.answers))

-- the turn with that Fenced counted
abbrev pub with_fenced : WardenTurn → Truncation → FencedAnswer → List Truncation → WardenTurn
with_fenced u t a ts = record { state = with_truncations u.state (counted t a ts); sent = u.sent }

-- the first f+1 Fenced name what has to be recovered
unfoldable pub take_fenced : WardenRules → WardenTurn → Version → FencedAnswer → List Truncation → WardenTurn
take_fenced rules u version a [] = u
take_fenced rules u version a (t ∷ ts) =
    cond (not (is_counted rules t version a.replica)) u
    (cond (nat_le (quorum rules.replicas) (suc (length t.answers))) (recover_all rules (with_fenced u t a ts) (to_recover (t.answers ++ a ∷ [])))
    (with_fenced u t a ts))

-- f+1 Fenced counted, and all that they name is decided
abbrev pub is_finished : WardenRules → WardenState → Truncation → Bool
is_finished rules s t =
    not t.dropped
    && (nat_le (quorum rules.replicas) (length t.answers) && list_all (λ x. is_some (decision_on s x)) (to_recover t.answers))

-- its Drop was sent
abbrev pub drop_sent : Truncation → Truncation
drop_sent t = record { w = t.w; answers = t.answers; dropped = true }

-- then Drop goes to all, with the base
unfoldable pub finish : WardenRules → WardenTurn → List Truncation → WardenTurn
finish rules u [] = u
finish rules u (t ∷ ts) =
    cond (is_finished rules u.state t)
    (record { state = with_truncations u.state (drop_sent t ∷ ts); sent = u.sent ++ To_all (Drops t.w (base_of t.w u.state t.answers)) ∷ [] })
    u
