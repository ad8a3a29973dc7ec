-- The program has its form.
use Rattle.std.proofs.Common.{[]}
use Rattle.txn_lang.specs.Tree.{commands}
use Rattle.client_tests.specs.Programs.{puts}
use Rattle.client_tests.proofs.ProgramLemmas.{puts_formed, formed_as}
use Rattle.client_tests.proofs.programs.puts_4.Goals as goal

pub make_prog-requires : goal.make_prog-requires
make_prog-requires c = formed_as c.new.result [] (commands c.in_ok-body.body) (puts 4) c.new.ensures c.in_ok-body.ensures (puts_formed 4)
