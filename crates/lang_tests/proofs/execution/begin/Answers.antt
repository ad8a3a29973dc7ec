use Rattle.lang_tests.proofs.ExecutionLemmas.{pending_first}
use Rattle.lang_tests.proofs.execution.begin.Goals as goal

pub run_last-requires : goal.run_last-requires
run_last-requires c =
    let code = c.in_ok-code.code in
    pending_first code c.args.prog.now c.new.result c.in_ok-code.ensures c.new.ensures.value (c.new.ensures.stands code c.args.prog.now)
