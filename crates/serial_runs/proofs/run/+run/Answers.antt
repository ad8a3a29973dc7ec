use Rattle.std.proofs.Common.{true, false, Ok, ap, subst, ◌∙◌, arith}
use Rattle.txn_lang.specs.Tree.{commands}
use Rattle.txn_lang.specs.Actions.{all_actions}
use Rattle.serial_runs.specs.Execution.{IsStep}
use Rattle.serial_runs.proofs.ExecutionLemmas.{goes_on_picked}
use Rattle.serial_runs.proofs.RepeatLemmas.{one_more, stops_within}
use Rattle.serial_runs.proofs.run.+run.Goals as goal

pub statement-returns-in-Ok-true-clause-step : goal.statement-returns-in-Ok-true-clause-step
statement-returns-in-Ok-true-clause-step g t c =
    goes_on_picked g.S.Source.answer c.args.at.now c.test.new.self c.block.new.at c.args.stmt.now c.in-If.e c.in-If.yes c.in-If.no true
    c.test.result c.block.result c.in-If.is c.test.ensures.value (c.in-Ok-true.is ∙ ap Ok c.in-Ok-true.field-0-test)
    c.test.ensures.begun c.block.ensures.step

pub statement-returns-in-Ok-false-clause-step : goal.statement-returns-in-Ok-false-clause-step
statement-returns-in-Ok-false-clause-step g t c =
    goes_on_picked g.S.Source.answer c.args.at.now c.test.new.self c.block-in-Ok-false.new.at c.args.stmt.now c.in-If.e c.in-If.yes c.in-If.no false
    c.test.result c.block-in-Ok-false.result c.in-If.is c.test.ensures.value (c.in-Ok-false.is ∙ ap Ok c.in-Ok-false.field-0-test)
    c.test.ensures.begun c.block-in-Ok-false.ensures.step

pub repeat-returns-in-Some-clause-step : goal.repeat-returns-in-Some-clause-step
repeat-returns-in-Some-clause-step g t c =
    let step = subst (IsStep g.S.Source.answer c.loop.at c.block.new.at (all_actions (commands c.args.body.now))) c.in-Some.is c.in_ok-stop.ensures.step in
    stops_within g.S.Source.answer c.args.at.now c.loop.at c.block.new.at c.args.times c.loop.counter (commands c.args.body.now) c.in-Some.stop (omega arith) c.loop.invariant step

pub repeat-loop-preserved : goal.repeat-loop-preserved
repeat-loop-preserved g t c =
    let step = subst (IsStep g.S.Source.answer c.loop.at c.block.new.at (all_actions (commands c.args.body.now))) c.in_default.is c.in_ok-stop.ensures.step in
    one_more g.S.Source.answer c.args.at.now c.loop.at c.block.new.at c.args.times c.loop.counter (commands c.args.body.now) (omega arith) c.loop.invariant step
    c.in_ok-stop.ensures.locals c.in_ok-stop.ensures.begun
