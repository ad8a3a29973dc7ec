-- What a Truncator stands for beside the Recoverer of its warden, and what its calls do.
use Rattle.std.specs.Prelude.{◌≡◌, ℕ, Bool, true, false, not, ◌&&◌, ◌||◌, ◌==◌, cond, nat_lt, nat_le, List, [], ◌∷◌, ◌++◌, length, is_some, flat_map}
use Rattle.std.specs.List.{list_any, list_all}
use Rattle.protocol.specs.Words.{Version, Exec, Warden, Envelope, before, same_version, no_version}
use Rattle.protocol.specs.Quorums.{quorum}
use Rattle.protocol.specs.Warden.State.{WardenRules, WardenState, WardenTurn, FencedAnswer, Truncation, decision_on, still}
use Rattle.protocol.specs.Warden.Truncation.{with_truncations, to_recover, truncation_limit, recover_more, is_recovering}
use Rattle.protocol.specs.World.Events.{parcel}
use Rattle.recovery.specs.Recoverer.{RecoveringWarden}
use Rattle.truncation.specs.declared.truncation.Truncation.{Truncation as Newest}

-- a Fenced of replica k counts once, for the truncation under way, until a quorum did
abbrev pub is_counted : ℕ → Newest → Version → ℕ → Bool
is_counted replicas t version k =
    not t.dropped && (same_version version t.w &&
    (not (nat_le (quorum replicas) (length t.answers)) && not (list_any (λ (a : FencedAnswer). a.replica == k) t.answers)))

-- one more answer
abbrev pub with_answer : Newest → FencedAnswer → Newest
with_answer t a = record t { answers = t.answers ++ a ∷ [] }

-- what a quorum names as voted has to be recovered
abbrev pub with_named : ℕ → Newest → Newest
with_named replicas t = cond (nat_le (quorum replicas) (length t.answers)) (record t { named = to_recover t.answers }) t

-- a quorum answered, and all that it names is decided
abbrev pub is_settled : ℕ → WardenState → Newest → Bool
is_settled replicas s t =
    not t.dropped && (nat_le (quorum replicas) (length t.answers) && list_all (λ x. is_some (decision_on s x)) t.named)

-- what a warden is given, what the rules still read of its truncations, and whether it is broken, as a call that changed it
-- ran out of memory
pub record TruncatingWarden : Type 0 where
  pub warden : ℕ
  pub replicas : ℕ
  pub newest : Newest
  pub begun : ℕ  -- how many truncations
  pub broken : Bool

-- a truncation can begin: none is under way, w is above 0.0 and those before, and fewer than the limit were begun
abbrev pub can_truncate : TruncatingWarden → Version → Bool
can_truncate t version = t.newest.dropped && (before t.newest.w version && nat_lt t.begun truncation_limit)

-- the newest truncation; before the first it is as if 0.0 had been dropped
abbrev pub newest_of : List Truncation → Truncation
newest_of [] = record { w = no_version; answers = []; dropped = true }
newest_of (t ∷ ts) = t

-- what is kept of the newest truncation; once its Drop is sent no rule reads more than its version
pub record IsNewest (replicas : ℕ) (kept : Newest) (t : Truncation) : Type 0 where
  pub w : kept.w ≡ t.w
  pub dropped : kept.dropped ≡ t.dropped
  pub answers : t.dropped ≡ false → kept.answers ≡ t.answers
  pub named : t.dropped ≡ false → kept.named ≡ cond (nat_le (quorum replicas) (length t.answers)) (to_recover t.answers) []

-- a Truncator and a Recoverer that are not broken stand for what one warden remembers
pub record StandsFor (t : TruncatingWarden) (rec : RecoveringWarden) (s : WardenState) : Type 0 where
  pub whole : t.broken ≡ false
  pub recoverer_whole : rec.broken ≡ false
  pub warden : t.warden ≡ rec.rules.warden
  pub replicas : t.replicas ≡ rec.rules.replicas
  pub recoveries : rec.state ≡ with_truncations s []
  pub begun : t.begun ≡ length s.truncations
  pub newest : IsNewest t.replicas t.newest (newest_of s.truncations)

-- they stand for the state after a turn, and its envelopes stand behind those that were there before
pub record StandsAt (t : TruncatingWarden) (rec : RecoveringWarden) (before after : List Envelope) (turn : WardenTurn) : Type 0 where
  pub stands : StandsFor t rec turn.state
  pub sent : after ≡ before ++ flat_map (parcel rec.rules.replicas (Warden rec.rules.warden)) turn.sent

-- a turn goes on as f says, whatever it was so far
pub record Steps (f : WardenRules → WardenTurn → WardenTurn) (t t' : TruncatingWarden) (rec rec' : RecoveringWarden) (out out' : List Envelope) : Type 0 where
  pub recoverer_whole : rec'.broken ≡ false
  pub rules : rec'.rules ≡ rec.rules
  pub turn : (before : List Envelope) (u : WardenTurn) → StandsAt t rec before out u → StandsAt t' rec' before out' (f rec.rules u)

-- each state for which they stood takes the turn
pub record Turns (f : WardenRules → WardenState → WardenTurn) (t t' : TruncatingWarden) (rec rec' : RecoveringWarden) (out out' : List Envelope) : Type 0 where
  pub rules : rec'.rules ≡ rec.rules
  pub turn : (s : WardenState) → StandsFor t rec s → StandsAt t' rec' out out' (f rec.rules s)

-- x is recovered unless it is decided or being recovered
abbrev pub recovers_next : WardenRules → WardenState → Exec → WardenTurn
recovers_next rules s x = recover_more rules (still s) x (is_some (decision_on s x) || is_recovering s x)
