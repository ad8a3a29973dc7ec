use Rattle.std.proofs.Common.{w64}
use Rattle.std.proofs.lemmas.Int.{to_z-of_z}
use Rattle.serial_runs.proofs.MapLemmas.{inserted}
use Rattle.serial_runs.proofs.map.Map.insert.Goals as goal

pub returns-clause-ok : goal.returns-clause-ok
returns-clause-ok c =
    inserted c.self.inside.values.entries c.insert.new.self.entries c.args.self.now c.args.key _ c.args.value c.self.view_is
    (to_z-of_z w64 c.args.value c.ranges.value) c.in_ok-insert.ensures.updates.0
