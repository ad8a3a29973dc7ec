use Rattle.std.proofs.Common.{◌≡◌, take}
use Rattle.protocol.specs.Words.{Key}
use Rattle.mv_index.specs.FirstValues.{value_at}
use Rattle.mv_index.proofs.FirstValuesLemmas.{listed_first}
use Rattle.mv_index.proofs.first_values.FirstValues.new.Given as goal

abbrev pub invariant-loop-first : goal.invariant-loop-first
invariant-loop-first l = (k : Key) → value_at l.values k ≡ listed_first k (take l.first-index l.firsts)
