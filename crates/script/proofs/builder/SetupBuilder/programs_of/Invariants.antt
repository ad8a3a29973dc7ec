use Rattle.std.proofs.Common.{◌≡◌, ◌++◌, drop, map}
use Rattle.txn_parse.specs.Binding.{first_failing}
use Rattle.script.specs.Meaning.{prog_names, said_by}
use Rattle.script.specs.Building.{place_by}
use Rattle.script.specs.Checks.{program_checks}
use Rattle.script.proofs.builder.SetupBuilder.programs_of.Given as goal

abbrev pub invariant-loop-txn : goal.invariant-loop-txn
invariant-loop-txn l = record {
  checks : first_failing (program_checks l.text (prog_names (said_by l.self.setup)) (drop l.txn-index l.txns)) ≡ first_failing (program_checks l.text (prog_names (said_by l.self.setup)) l.txns);
  placed : l.places ++ map (place_by l.text (prog_names (said_by l.self.setup))) (drop l.txn-index l.txns) ≡ map (place_by l.text (prog_names (said_by l.self.setup))) l.txns;
}
