-- A setup that some text says is within the limits that the parts of a world ask for.
use Rattle.std.proofs.Common.{◌≡◌, ℕ, suc, ◌+◌, ◌<◌, ◌≤◌, ◌⊎◌, inl, inr, List, [], ◌∷◌, Some, map, length, sym, subst, arith}
use Rattle.std.specs.Prelude.{zero, slice_get}
use Rattle.std.specs.List.{AllByRecursion}
use Rattle.std.proofs.lemmas.List.{length-map}
use Rattle.protocol_plans.specs.Limits.{IsScript}
use Rattle.coordinator.specs.Memory.{IsWithinLimits}
use Rattle.coordinator.specs.declared.memory.Txn2.{Txn2}
use Rattle.script.specs.declared.setup.Setup.{Setup}
use Rattle.script.specs.declared.setup.Txn.{Txn}
use Rattle.script.specs.Sayable.{IsSetup, IsTxn, IsClient}
use Rattle.script_plans.specs.Plans.{scripted}
use Rattle.script_plans.proofs.SetupsAreScripts.{setups_are_scripts}
use Rattle.world.specs.Setup.{rules_of, txn_of}

-- a client's transactions are few, and start in time
record AreFew (own : List Txn2) : Type 0 where
  few : length own ≤ 64
  starts : (i : ℕ) (t : Txn2) → slice_get own i ≡ Some t → t.at ≤ 1000000000000

starts_at : (n : ℕ) (ts : List Txn) → AllByRecursion (IsTxn n) ts → (i : ℕ) (t : Txn2) → slice_get (map txn_of ts) i ≡ Some t → t.at ≤ 1000000000000
starts_at n [] each i t e = absurd (cc e)
starts_at n (s ∷ ts) each zero t e = let f : txn_of s ≡ t = cc in subst (λ (u : Txn2). u.at ≤ 1000000000000) f each.0.start
starts_at n (s ∷ ts) each (suc i) t e = starts_at n ts each.1 i t e

few_own : (n : ℕ) (cs : List (List Txn)) → AllByRecursion (IsClient n) cs → (i : ℕ) (own : List Txn2) → slice_get (map (map txn_of) cs) i ≡ Some own →
    AreFew own
few_own n [] each i own e = absurd (cc e)
few_own n (ts ∷ cs) each zero own e =
    let f : map txn_of ts ≡ own = cc in
    subst AreFew f (record { few = subst (λ k. k ≤ 64) (sym (length-map ts txn_of)) each.0.few; starts = starts_at n ts each.0.each })
few_own n (ts ∷ cs) each (suc i) own e = few_own n cs each.1 i own e

five : (n : ℕ) → (n ≡ 1) ⊎ ((n ≡ 3) ⊎ (n ≡ 5)) → n ≤ 5
five n (inl e) = omega (arith, e)
five n (inr (inl e)) = omega (arith, e)
five n (inr (inr e)) = omega (arith, e)

pub within_limits : (s : Setup) → IsSetup s → (c i : ℕ) (own : List Txn2) → slice_get (map (map txn_of) s.clients) i ≡ Some own →
    IsWithinLimits (record { client = c; rules = rules_of s; txns = own })
within_limits s is c i own e =
    let few = few_own _ s.clients is.clients.each i own e in
    let script : IsScript (scripted s) = setups_are_scripts s is in
    record {
      few = few.few;
      starts = few.starts;
      replicas = five s.replicas script.replicas;
      tries = script.few_tries;
      execs = script.few_execs;
      gap = script.small_gap;
    }

-- a node is there
pub some_node : (s : Setup) → IsSetup s → 1 ≤ length s.clients + (s.replicas + s.wardens)
some_node s is = let some : 0 < length s.clients = is.clients.some in omega (arith, some)
