use Rattle.std.proofs.Common.{◌≡◌, ◌++◌, drop, map}
use Rattle.txn_parse.specs.Binding.{first_failing}
use Rattle.script.specs.Meaning.{prog_names, said_by, txn_of}
use Rattle.script.specs.Checks.{start_checks}
use Rattle.script.proofs.builder.SetupBuilder.starts.Given as goal

abbrev pub invariant-loop-i : goal.invariant-loop-i
invariant-loop-i l = record {
  checks : first_failing (start_checks l.text (drop l.i l.txns)) ≡ first_failing (start_checks l.text l.txns);
  started : l.starts ++ map (txn_of l.text (prog_names (said_by l.self.setup))) (drop l.i l.txns) ≡ map (txn_of l.text (prog_names (said_by l.self.setup))) l.txns;
}
