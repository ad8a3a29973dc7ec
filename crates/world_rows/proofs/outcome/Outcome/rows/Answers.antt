-- The rows by what was gathered.
use Rattle.protocol_plans.specs.SerialOutcome.{first_map, map_of}
use Rattle.world_rows.specs.Rows.{keys_of}
use Rattle.world_rows.proofs.ValuesLemmas.{is_valued}
use Rattle.world_rows.proofs.outcome.Outcome.rows.Goals as goal

pub returns : goal.returns
returns c = λ s w cs h p.
    let left = c.in_ok-left.ensures s w cs h.done p in
    let values = c.in_ok-values.ensures (map_of (first_map s.firsts) cs) (keys_of s cs) h.values (is_valued s cs) in
    λ i. record { commits = h.commits i; left = left i; values = values i; events = c.args.events }
