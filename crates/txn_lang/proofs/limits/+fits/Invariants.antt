use Rattle.std.proofs.Common.{◌↔◌, drop}
use Rattle.txn_lang.specs.Tree.{commands, commands_of}
use Rattle.txn_lang.specs.Limits.{Fits}
use Rattle.txn_lang.proofs.limits.+fits.Given as goal

abbrev pub invariant-fits-loop-stmt : goal.invariant-fits-loop-stmt
invariant-fits-loop-stmt l =
    Fits l.locals (commands_of (drop l.stmt-index l.stmt-items)) ↔ Fits l.locals (commands l.block)
