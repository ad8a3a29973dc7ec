-- What a setup says, as clients take it.
use Rattle.std.specs.Prelude.{length}
use Rattle.menus.specs.Slots.{Counts}
use Rattle.script.specs.declared.setup.Txn.{Txn}
use Rattle.script.specs.declared.setup.Setup.{Setup}
use Rattle.script_plans.specs.Plans.{execs_by}
use Rattle.coordinator.specs.declared.memory.Rules.{Rules}
use Rattle.coordinator.specs.declared.memory.Txn2.{Txn2}

abbrev pub txn_of : Txn → Txn2
txn_of t = record { prog = t.prog; at = t.at }

abbrev pub rules_of : Setup → Rules
rules_of s = record { replicas = s.replicas; tries = s.tries; execs = execs_by s.policy s.execs; gap = s.gap }

abbrev pub slots_in : Setup → Counts
slots_in s = record { clients = length s.clients; replicas = s.replicas; wardens = s.wardens }
