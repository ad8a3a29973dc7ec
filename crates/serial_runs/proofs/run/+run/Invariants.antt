use Rattle.std.proofs.Common.{◌≡◌, ◌+◌, ◌≤◌, length, drop}
use Rattle.txn_lang.specs.Tree.{commands, commands_of}
use Rattle.txn_lang.specs.Actions.{all_actions}
use Rattle.txn_lang.specs.Limits.{steps, Fits}
use Rattle.serial_runs.proofs.ExecutionLemmas.{IsLeft}
use Rattle.serial_runs.proofs.RepeatLemmas.{IsRepeating}
use Rattle.serial_runs.proofs.run.+run.Given as goal

abbrev pub invariant-block-loop-stmt : goal.invariant-block-loop-stmt
invariant-block-loop-stmt g l =
    let rest = commands_of (drop l.stmt-index l.stmt-items) in
    record {
      locals : length l.at.locals ≡ length l.fn.at.locals;
      fits : Fits (length l.fn.at.locals) rest;
      begun : l.at.did.begun + steps rest ≤ l.fn.at.did.begun + steps (commands l.fn.block);
      left : IsLeft g.S.Source.answer l.fn.at l.at (all_actions (commands l.fn.block)) (all_actions rest);
    }

abbrev pub invariant-repeat-loop : goal.invariant-repeat-loop
invariant-repeat-loop g l = IsRepeating g.S.Source.answer l.fn.at l.at l.fn.times l.counter (commands l.fn.body)
