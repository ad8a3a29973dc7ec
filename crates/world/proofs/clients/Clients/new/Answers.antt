-- One more client has begun nothing.
use Rattle.std.proofs.Common.{◌≡◌, ℕ, suc, ◌+◌, ◌-◌, ◌<◌, ◌∷◌, [], ◌++◌, List, Some, get_or, map, length, refl, sym, subst, ap, ◌∙◌, arith, length-append}
use Rattle.std.proofs.lemmas.List.{length-map}
use Rattle.std.proofs.lemmas.Option.{slice_get_read, slice_get-map}
use Rattle.std.specs.List.{slice_get}
use Rattle.std.specs.Prelude.{option_map}
use Rattle.protocol.specs.Client.State.{fresh_client}
use Rattle.protocol.specs.World.State.{rules}
use Rattle.coordinator.specs.Memory.{txn_in, rules_of}
use Rattle.coordinator.specs.declared.coordinator.Coordinator.{Coordinator}
use Rattle.coordinator.specs.declared.memory.Rules.{Rules as ScriptRules}
use Rattle.coordinator.specs.declared.memory.Txn2.{Txn2}
use Rattle.world.specs.Clients.{Loads, IsClient, IsPlanOf, given}
use Rattle.world.proofs.Placed.{Stand, pushed}
use Rattle.world.proofs.clients.Clients.new.Goals as goal

-- a client is given what the plan says to it
given_rules : (o : Loads) (r : ScriptRules) (txns : List (List Txn2)) (i : ℕ) (own : List Txn2) → IsPlanOf o r txns → slice_get txns i ≡ Some own →
    rules o.plan (i + 1) ≡ rules_of o.programs (record { client = i + 1; rules = r; txns = own })
given_rules o r txns i own h e =
    let at : i + 1 - 1 ≡ i = omega arith in
    let there : slice_get o.plan.clients i ≡ Some (map (txn_in o.programs) own) =
    ap (λ l. slice_get l i) h.clients ∙ (slice_get-map (map (txn_in o.programs)) txns i ∙ ap (option_map (map (txn_in o.programs))) e) in
    rw (at, there, h.replicas, h.tries, h.execs, h.gap) refl

more : (o : Loads) (xs : List Coordinator) (i : ℕ) (s : Coordinator) → length xs ≡ i → Stand (IsClient o) (λ c. fresh_client) xs →
    IsClient o (i + 1) fresh_client s → Stand (IsClient o) (λ c. fresh_client) (xs ++ s ∷ [])
more o xs i s n h k =
    let e : i + 1 ≡ suc (length xs) = omega (arith, n) in
    pushed (IsClient o) (λ c. fresh_client) xs s h (subst (λ j. IsClient o j fresh_client s) e k)

own_at : (xs : List (List Txn2)) (i : ℕ) (own r : List Txn2) → own ≡ r → i < length xs → r ≡ get_or xs i r → slice_get xs i ≡ Some own
own_at xs i own r e h v = slice_get_read xs (length xs) i r refl h v ∙ ap Some (sym e)

pub new-requires : goal.new-requires
new-requires c = c.requires.within (c.loop-i.i + 1) c.loop-i.i c.in_ok-own.own
    (own_at c.args.txns.now c.loop-i.i c.in_ok-own.own c.index-txns-i.result c.in_ok-own.ensures (omega (arith, c.loop-i-test.true)) c.index-txns-i.is)

pub loop-i-preserved : goal.loop-i-preserved
loop-i-preserved c =
    let items = c.loop-i.clients.items in
    let i = c.loop-i.i in
    let txns = c.args.txns.now in
    let own = c.in_ok-own.own in
    let there = own_at txns i own c.index-txns-i.result c.in_ok-own.ensures (omega (arith, c.loop-i-test.true)) c.index-txns-i.is in
    record {
      count = ap length c.in_ok-push.ensures.items ∙ (length-append items (c.in_ok-client.client ∷ []) ∙ ap (λ n. n + 1) c.loop-i.invariant.count);
      each = λ o h. subst (Stand (IsClient o) (λ c. fresh_client)) (sym c.in_ok-push.ensures.items)
          (more o items i c.in_ok-client.client c.loop-i.invariant.count (c.loop-i.invariant.each o h)
          (c.in_ok-client.ensures (given o (i + 1)) (given_rules o c.args.rules txns i own h there) (h.programs i own there)));
    }

pub returns : goal.returns
returns c = λ o h. record {
  count =
      c.loop-i.invariant.count ∙ omega (arith, c.loop-i-test.false, c.loop-i.auto.i-end)
      ∙ sym (ap length h.clients ∙ length-map c.args.txns.now (map (txn_in o.programs)));
  each = c.loop-i.invariant.each o h;
}
