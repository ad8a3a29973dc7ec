use Rattle.std.proofs.Common.{◌≡◌, ◌+◌, ◌≤◌, List}
use Rattle.txn_lang.specs.Keys.{Entry}
use Rattle.txn_lang.specs.Actions.{Actions}
use Rattle.flat_code.specs.Does.{Does}
use Rattle.continuation.specs.Place.{KnowsAs}
use Rattle.continuation.specs.Underway.{IsUnderway}
use Rattle.continuation.proofs.running.run_on.Given as goal

abbrev pub invariant-loop : goal.invariant-loop
invariant-loop g l = record {
  under : (a : Actions) (known : List Entry) → Does l.code l.fn.at a → KnowsAs l.seen known → IsUnderway l.code l.fn.at l.counter l.running a known;
  few : l.running.ran ≤ l.counter;
  counted : l.steps ≡ l.fn.steps + l.running.ran;
}
