-- The plan of a script within its limits is within those of frames.
use Rattle.std.proofs.Common.{◌≡◌, ℕ, ◌<◌, ◌≤◌, ◌-◌, ◌⊎◌, inl, inr, refl, sym, ◌∙◌, subst, List, Option, Some, None, length, arith}
use Rattle.std.specs.Prelude.{ℤ, map, option_map}
use Rattle.std.specs.List.{All, slice_get}
use Rattle.std.proofs.lemmas.List.{length-map}
use Rattle.std.proofs.lemmas.Option.{slice_get-map, slice_get_cases}
use Rattle.txn_lang.specs.Keys.{Entry}
use Rattle.txn_lang.specs.Program.{replay_of}
use Rattle.txn_lang.specs.Laws.{IsLimited}
use Rattle.txn_lang.proofs.Bounded.{keeps_limits}
use Rattle.protocol.specs.Client.State.{Txn, walk_at}
use Rattle.protocol.specs.World.State.{rules, txns_of}
use Rattle.protocol_plans.specs.Scripted.{write_of, Start, txn_of, Scripted, plan_of}
use Rattle.protocol_plans.specs.Limits.{IsStart, IsClient, IsScript}
use Rattle.law_frames.specs.Limits.{IsShortWalk, ScriptsAreWithinLimits}

nothing_short : IsShortWalk (walk_at None)
nothing_short = record { keys = λ vs. omega arith; writes = λ vs. omega arith; out = λ vs. omega arith }

program_short : (t : Start) → IsStart t → IsShortWalk (walk_at (Some (txn_of t)))
program_short t s = record {
  keys = λ vs. let l = (limited vs).reads in let n = length-map (replay_of t.program vs).reads (λ (e : Entry). e.key) in omega (arith, l, n);
  writes = λ vs. let l = (limited vs).writes in let n = length-map (replay_of t.program vs).writes write_of in omega (arith, l, n);
  out = λ vs. (limited vs).out;
}
  where
    limited : (vs : List ℤ) → IsLimited (replay_of t.program vs)
    limited vs = (keeps_limits t.program.body (length t.program.names) s.program.within).replays vs

-- a fact of all elements is one of that at a place
at_place : {A : Type 0} (P : A → Type 0) (xs : List A) (i : ℕ) (a : A) → All P xs → slice_get xs i ≡ Some a → P a
at_place P xs i a all e = elim (slice_get_cases xs i).1 [
  | inl k ↦ let same : k.0 ≡ a = cc in subst P (k.3 ∙ same) (all i k.0 k.1)
  | inr k ↦ absurd cc
]

module _ (s : Scripted) (k : IsScript s) where
  starts_short : (ts : List Start) → IsClient ts → (n : ℕ) → IsShortWalk (walk_at (slice_get (map txn_of ts) n))
  starts_short ts c n = subst (λ (o : Option Txn). IsShortWalk (walk_at o)) (sym (slice_get-map txn_of ts n)) (go (slice_get ts n) refl)
    where
      go : (o : Option Start) → slice_get ts n ≡ o → IsShortWalk (walk_at (option_map txn_of o))
      go None e = nothing_short
      go (Some t) e = program_short t (at_place IsStart ts n t c.each e)

  clients_short : (c n : ℕ) → IsShortWalk (walk_at (slice_get (rules (plan_of s) c).txns n))
  clients_short c n = subst (λ (o : Option (List Txn)). IsShortWalk (walk_at (slice_get (txns_of o) n))) (sym (slice_get-map (map txn_of) s.clients (c - 1)))
      (go (slice_get s.clients (c - 1)) refl)
    where
      go : (o : Option (List Start)) → slice_get s.clients (c - 1) ≡ o → IsShortWalk (walk_at (slice_get (txns_of (option_map (map txn_of) o)) n))
      go None e = nothing_short
      go (Some ts) e = starts_short ts (at_place IsClient s.clients (c - 1) ts k.clients e) n

  some_replica : (s.replicas ≡ 1) ⊎ ((s.replicas ≡ 3) ⊎ (s.replicas ≡ 5)) → (0 < s.replicas) × (s.replicas ≤ 5)
  some_replica (inl e) = (omega (arith, e), omega (arith, e))
  some_replica (inr (inl e)) = (omega (arith, e), omega (arith, e))
  some_replica (inr (inr e)) = (omega (arith, e), omega (arith, e))

pub scripts_are_within_limits : ScriptsAreWithinLimits
scripts_are_within_limits s k = record {
  clients = let l = k.few_clients in let n = length-map s.clients (map txn_of) in omega (arith, l, n);
  some_replica = (some_replica s k k.replicas).0;
  replicas = (some_replica s k k.replicas).1;
  wardens = k.wardens;
  walks = clients_short s k;
}
