-- A Decide brings its cell the decision, unless one stands.
use Rattle.std.proofs.Common.{arith, refl}
use Rattle.protocol.proofs.NamesLemmas.{same_exec_refl}
use Rattle.view_cell.specs.Laws.{DecisionsStand}

pub decisions_stand : DecisionsStand
decisions_stand h x c choice content from to cell = record {
  promise = let p = cell.promise in omega arith;
  vote = cell.vote;
  accept = cell.accept;
  decision = rw (same_exec_refl, ← cell.decision) refl;
}
