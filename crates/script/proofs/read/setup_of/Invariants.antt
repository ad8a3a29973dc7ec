use Rattle.std.proofs.Common.{◌≡◌, drop}
use Rattle.txn_parse.specs.Binding.{first_failing}
use Rattle.script.specs.Items.{items}
use Rattle.script.specs.Meaning.{nothing_said, after_all}
use Rattle.script.specs.Checks.{all_checks}
use Rattle.script.specs.Building.{said_so_far, IsIndexed}
use Rattle.script.proofs.read.setup_of.Given as goal

abbrev pub invariant-loop-raw : goal.invariant-loop-raw
invariant-loop-raw l = record {
  indexed : IsIndexed l.builder;
  checks : first_failing (all_checks l.text (said_so_far l.builder) (items (drop l.raw-index l.list))) ≡ first_failing (all_checks l.text nothing_said (items l.list));
  said : after_all l.text (said_so_far l.builder) (items (drop l.raw-index l.list)) ≡ after_all l.text nothing_said (items l.list);
}
